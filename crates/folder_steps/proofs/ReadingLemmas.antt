-- What is read of a file, a piece at a time.
use Rattle.std.proofs.Common.{subst, ◌≡◌, ⊎_elim, ℕ, ◌+◌, ◌-◌, ◌<◌, ◌≤◌, ◌++◌, length, take, drop, Bool, true, false, refl, sym, ◌∙◌, ap, arith, append_assoc, take-append-drop}
use Rattle.std.specs.Prelude.{Option, Some, None, option_map, unwrap_or, bytes_eq, nat_eq}
use Rattle.std.specs.List.{starts_with}
use Rattle.std.proofs.lemmas.Bool.Decides.{nat_tests}
use Rattle.std.proofs.lemmas.List.{take_at, drop_at, take_all, take-take, take_rest, drop-take, length-take-le, length-drop}
use Rattle.std.proofs.lemmas.Option.{same_Some}
use Rattle.std.proofs.lemmas.Slice.Eq.{bytes_eq-Decides}
use Rattle.folder_base.specs.Disk.{Bytes, File, content, begins}
use Rattle.std.proofs.lemmas.Slice.{take-put_mid}
use borrow.Rule.Slice.PartMut.{put_mid, same_len_mid}
use Rattle.folder_base.specs.Names.{ReadsAt, ReadsFile}
use Rattle.folder_base.proofs.Listed.{begins_is}
use Rattle.keep_store.proofs.Naming.{begins_split, begins_all}
use Rattle.folder_steps.specs.Reading.{StandsAt, StandsIn, has_bytes}

never : true ≡ false → ⊥
never e = cc

-- What was read into a buffer stands in the file.
pub stands_in : (o : Option File) (at : ℕ) (buffer piece : Bytes) (count : ℕ) → 0 < length buffer → piece ≡ take count buffer → ReadsFile o at buffer count → StandsIn o at piece
stands_in None at buffer piece count some is none = none
stands_in (Some file) at buffer piece count some is reads = record {
  is = is ∙ reads.bytes ∙ ap (λ (n : ℕ). take n (drop at (content file))) (sym long);
  within = omega (arith, long, reads.stand);
  end = λ none. ⊎_elim (λ e. absurd (omega (arith, some, e))) (λ past. past) (reads.end (omega (arith, long, none)));
}
  where
    long : length piece ≡ count
    long = ap length is ∙ length-take-le count buffer reads.fits

pub take_plus : (n m : ℕ) (xs : Bytes) → take (n + m) xs ≡ take n xs ++ take m (drop n xs)
take_plus n m xs = sym (take-append-drop n (take (n + m) xs)) ∙ ap (λ (front : Bytes). front ++ drop n (take (n + m) xs)) (take-take n (n + m) xs (omega arith)) ∙ ap (λ (back : Bytes). take n xs ++ back) (drop-take n m xs)

-- The file and the bytes are the same as far as they were read,
pub read_on : (o : Option File) (bytes piece : Bytes) (at : ℕ) → StandsIn o at piece → begins piece (drop at bytes) ≡ true → ((file : File) → o ≡ Some file → take at (content file) ≡ take at bytes)
    → (file : File) → o ≡ Some file → take (at + length piece) (content file) ≡ take (at + length piece) bytes
read_on None bytes piece at none same so_far file is = absurd none
read_on (Some other) bytes piece at stands same so_far file is =
    take_plus at (length piece) (content file) ∙ ap (λ (b : Bytes). b ++ take (length piece) (drop at (content file))) (so_far file is)
    ∙ ap (λ (b : Bytes). take at bytes ++ b) (ap (λ (f : File). take (length piece) (drop at (content f))) (sym (same_Some other file is)) ∙ sym stands.is ∙ front)
    ∙ sym (take_plus at (length piece) bytes)
  where
    front : piece ≡ take (length piece) (drop at bytes)
    front = sym (ap (λ (b : Bytes). take (length piece) b) (begins_split piece (drop at bytes) same) ∙ take_at piece (drop (length piece) (drop at bytes)) (length piece) refl)

false_by : (b : Bool) → (b ≡ true → ⊥) → false ≡ b
false_by true none = absurd (none refl)
false_by false none = refl

-- they differ,
pub differs_there : (o : Option File) (bytes piece : Bytes) (at : ℕ) → StandsIn o at piece → begins piece (drop at bytes) ≡ false → false ≡ has_bytes (option_map content o) bytes
differs_there None bytes piece at none not = refl
differs_there (Some file) bytes piece at stands not = false_by (bytes_eq (content file) bytes) (λ e. never (sym (begun ((bytes_eq-Decides (content file) bytes).0 e)) ∙ not))
  where
    begun : content file ≡ bytes → begins piece (drop at bytes) ≡ true
    begun same = ap (λ (b : Bytes). begins piece (drop at b)) (sym same)
        ∙ ap (λ (b : Bytes). begins piece b) (sym (take-append-drop (length piece) (drop at (content file))) ∙ ap (λ (b : Bytes). b ++ drop (length piece) (drop at (content file))) (sym stands.is))
        ∙ begins_all piece (drop (length piece) (drop at (content file)))

-- or are the same to the end.
pub same_to_end : (o : Option File) (bytes : Bytes) (at : ℕ) → option_map (λ (file : File). length (content file)) o ≡ Some (length bytes) → length bytes ≤ at → ((file : File) → o ≡ Some file → take at (content file) ≡ take at bytes) → true ≡ has_bytes (option_map content o) bytes
same_to_end None bytes at long past same = absurd (let x : None ≡ Some (length bytes) = long in cc)
same_to_end (Some file) bytes at long past same =
    let as_long : length (content file) ≡ length bytes = same_Some (length (content file)) (length bytes) long in
    sym ((bytes_eq-Decides (content file) bytes).1 (sym (take_all at (content file) (omega (arith, as_long, past))) ∙ same file refl ∙ take_all at bytes past))

-- Nothing more is read only at the end.
pub more_there : (o : Option File) (piece : Bytes) (at size : ℕ) → option_map (λ (file : File). length (content file)) o ≡ Some size → at < size → length piece ≡ 0 → StandsIn o at piece → ⊥
more_there None piece at size long below none stands = stands
more_there (Some file) piece at size long below none stands =
    let as_long : length (content file) ≡ size = same_Some (length (content file)) size long in
    omega (arith, as_long, below, stands.end none)

-- a file of another length is none of these bytes
pub other_length : (o : Option File) (size : Option ℕ) (bytes : Bytes) → size ≡ option_map (λ (file : File). length (content file)) o → (size ≡ Some (length bytes) → ⊥) → false ≡ has_bytes (option_map content o) bytes
other_length None size bytes is not = refl
other_length (Some file) size bytes is not = false_by (bytes_eq (content file) bytes) (λ e. not (is ∙ ap (λ (b : Bytes). Some (length b)) ((bytes_eq-Decides (content file) bytes).0 e)))

-- As far as it was poured, a file is behind the bytes that were there; so with one piece more of it,
pub piece_more : (before piece : Bytes) (file : File) (at : ℕ) → StandsAt (content file) at piece → (before ++ take at (content file)) ++ piece ≡ before ++ take (at + length piece) (content file)
piece_more before piece file at stands = append_assoc before (take at (content file)) piece
    ∙ ap (λ (b : Bytes). before ++ b) (ap (λ (b : Bytes). take at (content file) ++ b) stands.is ∙ sym (take_plus at (length piece) (content file)))

-- and at its end all of it.
pub poured_all : (before : Bytes) (file : File) (at : ℕ) → length (content file) ≤ at → before ++ take at (content file) ≡ before ++ content file
poured_all before file at past = ap (λ (b : Bytes). before ++ b) (take_all at (content file) past)

-- the size that a standing file is asked for
pub asked_size : (o : Option File) (size : Option ℕ) (none : ℕ) → size ≡ option_map (λ (file : File). length (content file)) o → (file : File) → o ≡ Some file → length (content file) ≡ unwrap_or size none
asked_size o size none told file is = sym (ap (λ (s : Option ℕ). unwrap_or s none) (told ∙ ap (λ (p : Option File). option_map (λ (f : File). length (content f)) p) is))

-- The test of a piece against the bytes that are left.
pub tested : (bytes piece : Bytes) (at : ℕ) (result : Bool) → result ≡ starts_with nat_eq (take (length bytes - at) (drop at bytes)) piece → begins piece (drop at bytes) ≡ result
tested bytes piece at result is = sym (begins_is piece (drop at bytes)) ∙ ap (λ (b : Bytes). starts_with nat_eq b piece) (sym (take_rest bytes at)) ∙ sym is

pub none_there : (n : ℕ) → true ≡ nat_eq n 0 → n ≡ 0
none_there n is = let e : nat_eq n 0 ≡ true = sym is in grind (arith, nat_tests, e)

-- Room keeps its length while a part of it is read into,
pub room_same : (room part : Bytes) (at : ℕ) → at ≤ length room → length part ≡ length room - at → length (put_mid at (length room - at) room part) ≡ length room
room_same room part at within long = same_len_mid at (length room - at) room part (omega (arith, long, length-take-le (length room - at) (drop at room) (omega (arith, length-drop at room))))

-- and has more of the file then.
pub front_more : (o : Option File) (file : File) (room part : Bytes) (at count : ℕ) → o ≡ Some file → at ≤ length room → take at room ≡ take at (content file) → ReadsFile o at part count
    → take (at + count) (put_mid at (length room - at) room part) ≡ take (at + count) (content file)
front_more o file room part at count is within same read =
    sym (take-take (at + count) (at + length part) (put_mid at (length room - at) room part) (omega (arith, reads.fits)))
    ∙ ap (λ (b : Bytes). take (at + count) b) (take-put_mid at (length room - at) room part (at + length part) refl within)
    ∙ take_plus at count (take at room ++ part)
    ∙ (λ i. take_at (take at room) part at front i ++ take count (drop_at (take at room) part at front i))
    ∙ ap (λ (b : Bytes). take at room ++ b) reads.bytes
    ∙ ap (λ (b : Bytes). b ++ take count (drop at (content file))) same
    ∙ sym (take_plus at count (content file))
  where
    reads : ReadsAt (content file) at part count
    reads = subst (λ (p : Option File). ReadsFile p at part count) is read

    front : length (take at room) ≡ at
    front = length-take-le at room within
