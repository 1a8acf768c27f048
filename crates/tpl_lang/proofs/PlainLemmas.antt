-- The next percent sign, as the scan for special bytes finds it.
use Rattle.std.proofs.Common.{◌≡◌, ℕ, ◌+◌, ◌<◌, ◌≤◌, Bool, true, false, not, List, length, get_or, refl, sym, ap, ◌∙◌, arith, inl, inr}
use Rattle.std.specs.Prelude.{◌==◌}
use Rattle.std.specs.List.{prefix_len}
use Rattle.std.proofs.lemmas.List.Sums.{prefix_len_is}
use Rattle.std.proofs.lemmas.Bool.{cases_lt, ne_eqb, eqb-true, eq-eqb, both_ways}
use Rattle.text_base.specs.Scan.{is_name_special, IsFirst}
use Rattle.tpl_lang.specs.Reading.{is_plain}

-- the bytes before a place are plain
abbrev pub PlainBefore : List ℕ → ℕ → Type 0
PlainBefore bytes at = (k : ℕ) → k < at → is_plain (get_or bytes k 0) ≡ true

plain_by : (b : ℕ) (c : Bool) → (b == 37) ≡ c → is_name_special b ≡ false → not c ≡ true
plain_by b true e h = absurd (both_ways (is_name_special 37) (ap is_name_special (sym (eqb-true b 37 e)) ∙ h) refl)
plain_by b false e h = refl

-- what is not special is plain
pub plain_from_special : (b : ℕ) → is_name_special b ≡ false → is_plain b ≡ true
plain_from_special b h = plain_by b (b == 37) refl h

-- up to the first special byte behind plain ones all are plain
pub plain_on : (bytes : List ℕ) (from place : ℕ) → PlainBefore bytes from → IsFirst is_name_special bytes from place → PlainBefore bytes place
plain_on bytes from place before first k less = elim (cases_lt k from) [
  | inl lt ↦ before k lt
  | inr le ↦ plain_from_special (get_or bytes k 0) (first.before k le less)
]

-- a special byte that is no percent sign is plain too
pub plain_past : (bytes : List ℕ) (at : ℕ) → PlainBefore bytes at → (get_or bytes at 0 ≡ 37 → ⊥) → PlainBefore bytes (at + 1)
plain_past bytes at before other k less = elim (cases_lt k at) [
  | inl lt ↦ before k lt
  | inr le ↦ let same : k ≡ at = omega (arith, le, less) in
      let here : (get_or bytes k 0 == 37) ≡ false = ne_eqb (get_or bytes k 0) 37 (λ e. other (ap (λ (i : ℕ). get_or bytes i 0) (sym same) ∙ e)) in
      ap not here
]

-- the scan ends at the next percent sign, or at the end
pub plain_len_is : (bytes : List ℕ) (at : ℕ) → at ≤ length bytes → PlainBefore bytes at → (at < length bytes → get_or bytes at 0 ≡ 37) → at ≡ prefix_len is_plain bytes
plain_len_is bytes at within before stop = sym (prefix_len_is is_plain bytes at 0 within before (λ lt. ap not (eq-eqb (get_or bytes at 0) 37 (stop lt))))
