-- The first characters of a text, one after another.
use Rattle.std.proofs.Common.{◌≡◌, ℕ, zero, suc, ◌-◌, ◌<◌, ◌≤◌, ◌+◌, List, [], ◌∷◌, ◌++◌, length, take, refl, sym, ap, ◌∙◌, arith, append_assoc, append-nil}
use Rattle.std.specs.Prelude.{encode_utf8}
use Rattle.std.specs.List.{flat_map}
use Rattle.std.specs.Str.{chars}
use Rattle.std.proofs.lemmas.Str.{chars-nil}
use Rattle.std.proofs.lemmas.List.{nil_from_length}

-- one more is out
pub char_taken : (out new bs rest whole : List ℕ) (c count i : ℕ) → i < count → chars bs ≡ c ∷ chars rest → new ≡ out ++ encode_utf8 c →
    out ++ flat_map encode_utf8 (take (count - i) (chars bs)) ≡ whole → new ++ flat_map encode_utf8 (take (count - (i + 1)) (chars rest)) ≡ whole
char_taken out new bs rest whole c count i few e n h =
    let left : count - i ≡ suc (count - (i + 1)) = omega arith in
    ap (λ l. l ++ flat_map encode_utf8 (take (count - (i + 1)) (chars rest))) n ∙ append_assoc out (encode_utf8 c) (flat_map encode_utf8 (take (count - (i + 1)) (chars rest)))
    ∙ ap (λ l. out ++ flat_map encode_utf8 l) (sym (ap (λ l. take (count - i) l) e ∙ ap (λ k. take k (c ∷ chars rest)) left)) ∙ h

-- none is left
pub none_left : (out bs whole : List ℕ) (k : ℕ) → length bs ≡ 0 → out ++ flat_map encode_utf8 (take k (chars bs)) ≡ whole → out ≡ whole
none_left out bs whole k e h =
    let none : chars bs ≡ [] = ap chars (nil_from_length bs e) ∙ chars-nil in
    sym (append-nil out) ∙ ap (λ l. out ++ flat_map encode_utf8 l) (sym (ap (take k) none ∙ nothing k)) ∙ h
  where
    nothing : (k : ℕ) → take {A = ℕ} k [] ≡ []
    nothing zero = refl
    nothing (suc k) = refl

-- as many as were asked for are out
pub all_taken : (out bs whole : List ℕ) (count i : ℕ) → count ≤ i → out ++ flat_map encode_utf8 (take (count - i) (chars bs)) ≡ whole → out ≡ whole
all_taken out bs whole count i many h =
    let left : count - i ≡ 0 = omega arith in
    sym (append-nil out) ∙ ap (λ k. out ++ flat_map encode_utf8 (take k (chars bs))) (sym left) ∙ h
