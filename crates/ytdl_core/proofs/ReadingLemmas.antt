-- What was read piece by piece, up to the limit.
use Rattle.std.proofs.Common.{◌≡◌, ℕ, ◌<◌, ◌≤◌, List, [], ◌++◌, length, take, drop, refl, sym, ◌∙◌, ap, arith}
use Rattle.std.specs.Prelude.{Option, Some, None, IfSome, Result, Ok, Err, IfOk, Vec}
use Rattle.std.specs.declared.alloc.Global.{Global}
use Rattle.ytdl_core.specs.declared.run_fault.RunFault.{RunFault}
use Rattle.ytdl_core.specs.Outside.{File, whole_file}
use Rattle.ytdl_core.specs.Reading.{limit}
use Rattle.std.specs.Io.KnownBytes.{Consumes, IsAtEnd}
use Rattle.std.proofs.Math.ListN.{drop_of_length-le}
use Rattle.std.proofs.Math.Seq.{take-append_seam, drop-append_seam}
use Rattle.std.proofs.lemmas.List.{append-nil, take_all}

-- all that was left, where a read took nothing before the limit
pub read_to_end : (most : ℕ) (a b c : Option (List ℕ)) (bytes buf : List ℕ) (count : ℕ) → length bytes ≤ most →
    Consumes a b bytes → Consumes b c (take count buf) → (count ≡ 0 → 0 < length buf → IsAtEnd c) → count ≡ 0 → 0 < length buf →
    IfSome a (λ left. (bytes ≡ take most left) × (c ≡ Some (drop most left)))
read_to_end most None b c bytes buf count short took more end none room = tt
read_to_end most (Some left) None c bytes buf count short took more end none room = absurd took
read_to_end most (Some left) (Some rest) None bytes buf count short took more end none room = absurd more
read_to_end most (Some left) (Some rest) (Some last) bytes buf count short took more end none room =
    let nothing : take count buf ≡ [] = rw none refl in
    let at_end : last ≡ [] = end none room in
    let same : rest ≡ [] = rw (nothing, at_end) at more in
    let whole : left ≡ bytes = took ∙ ap (λ l. bytes ++ l) same ∙ append-nil bytes in (
      sym whole ∙ sym (take_all most left (omega (arith, short, ap length whole))),
      rw at_end (ap (λ (l : List ℕ). Some l) (sym (drop_of_length-le left (omega (arith, short, ap length whole))))),
    )

-- as much as the limit allows
pub read_to_limit : (most : ℕ) (a b : Option (List ℕ)) (bytes : List ℕ) → length bytes ≡ most → Consumes a b bytes →
    IfSome a (λ left. (bytes ≡ take most left) × (b ≡ Some (drop most left)))
read_to_limit most None b bytes full took = tt
read_to_limit most (Some left) None bytes full took = absurd took
read_to_limit most (Some left) (Some rest) bytes full took =
    let front : take (length bytes) left ≡ bytes = rw took (take-append_seam bytes rest) in
    let behind : drop (length bytes) left ≡ rest = rw took (drop-append_seam bytes rest) in
    (rw (← full) (sym front), rw (← full) (ap (λ (l : List ℕ). Some l) (sym behind)))

-- what was read of a file that was opened
pub opened_file : (r : Result (Vec ℕ Global) RunFault) (told : Option File) (opened left : Option (List ℕ)) → opened ≡ whole_file told →
    IfOk r (λ bytes. IfSome opened (λ all. (bytes.items ≡ take limit all) × (left ≡ Some (drop limit all)))) →
    IfOk r (λ bytes. IfSome told (λ file. (bytes.items ≡ take limit file.bytes) × (left ≡ Some (drop limit file.bytes))))
opened_file (Err fault) told opened left is read = tt
opened_file (Ok bytes) None opened left is read = tt
opened_file (Ok bytes) (Some file) opened left is read = rw is at read
