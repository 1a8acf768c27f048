-- A file in memory, made longer and cut.
use Rattle.std.proofs.Common.{◌≡◌, ℕ, ◌+◌, ◌-◌, ◌<◌, ◌≤◌, Bool, true, false, [], length, take, drop, refl, sym, ◌∙◌, ap, subst, arith, take-append-drop, length-take, drop_of_length-le}
use Rattle.std.specs.Prelude.{Option, Some, None, unwrap_or, nat_lt, if◌then◌else◌}
use Rattle.std.proofs.lemmas.List.{append-nil, take-take, drop-take, take_all}
use Rattle.std.proofs.lemmas.Bool.{lt-ltb, ltb-true, ltb-false}
use Rattle.folder_base.specs.Disk.{Bytes, File, content, shorter}
use Rattle.folder_base.specs.Stored.{split_file}
use Rattle.folder_base.specs.Least.{least}

pub content_is : (bytes : Bytes) (sure : Option ℕ) → content (split_file bytes sure) ≡ bytes
content_is bytes None = append-nil bytes
content_is bytes (Some n) = take-append-drop n bytes

abbrev halves : Bytes → Bytes → File
halves a b = record { sure = a; more = Some b }

-- where the cut goes below the length
shorter_below : (file : File) (len : ℕ) → len < length (content file) → shorter len file ≡ halves (take len file.sure) (take (len - length file.sure) (unwrap_or file.more []))
shorter_below file len below = ap (λ (b : Bool). if b then halves (take len file.sure) (take (len - length file.sure) (unwrap_or file.more [])) else file) (lt-ltb len (length (content file)) below)

pub shorten_is : (bytes : Bytes) (sure : Option ℕ) (len : ℕ) → unwrap_or sure 0 ≤ length bytes → len < length bytes
    → split_file (take len bytes) (Some (least sure len)) ≡ shorter len (split_file bytes sure)
shorten_is bytes None len within below =
    (λ i. halves (take-take len len bytes (omega arith) i) ((drop_of_length-le (take len bytes) {i = len} (omega (arith, length-take len bytes)) ∙ sym (take_all (len - length bytes) [] (omega arith))) i))
    ∙ sym (shorter_below (split_file bytes None) len (subst (λ (b : Bytes). len < length b) (sym (content_is bytes None)) below))
shorten_is bytes (Some n) len within below =
    by (nat_lt n len) refl
    ∙ sym (shorter_below (split_file bytes (Some n)) len (subst (λ (b : Bytes). len < length b) (sym (content_is bytes (Some n))) below))
  where
    had : length (take n bytes) ≡ n
    had = omega (arith, length-take n bytes)

    by : (b : Bool) → nat_lt n len ≡ b
        → halves (take (if b then n else len) (take len bytes)) (drop (if b then n else len) (take len bytes)) ≡ halves (take len (take n bytes)) (take (len - length (take n bytes)) (drop n bytes))
    by true e =
        let less : n < len = ltb-true n len e in
        let sum : n + (len - n) ≡ len = omega arith in
        λ i. halves
        ((take-take n len bytes (omega arith) ∙ sym (take_all len (take n bytes) (omega (arith, had)))) i)
        ((ap (λ (k : ℕ). drop n (take k bytes)) (sym sum) ∙ drop-take n (len - n) bytes ∙ ap (λ (k : ℕ). take (len - k) (drop n bytes)) (sym had)) i)
    by false e =
        let more : len ≤ n = ltb-false n len e in
        let none : 0 ≡ len - length (take n bytes) = omega (arith, had) in
        λ i. halves
        ((take-take len len bytes (omega arith) ∙ sym (take-take len n bytes more)) i)
        ((drop_of_length-le (take len bytes) {i = len} (omega (arith, length-take len bytes)) ∙ ap (λ (k : ℕ). take k (drop n bytes)) none) i)
