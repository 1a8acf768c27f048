-- A text that is written character by character, or run by run.
use Rattle.std.proofs.Common.{◌≡◌, ℕ, ◌+◌, ◌<◌, ◌≤◌, List, [], ◌∷◌, ◌++◌, length, get_or, Bool, false, refl, sym, ap, ◌∙◌, append_assoc, arith, inl, inr}
use Rattle.std.specs.Prelude.{encode_utf8, encode_utf8_all}
use Rattle.std.specs.List.{flat_map}
use Rattle.std.specs.Str.{IsUtf8, chars}
use Rattle.std.proofs.lemmas.Bool.{cases_lt}
use Rattle.std.proofs.lemmas.List.{get_or-append-add, length-append}
use Rattle.std.proofs.lemmas.List.Concat.{flat_map-append}
use Rattle.std.proofs.lemmas.Str.{chars-nil, chars-append, encodes-chars, byte_from_char, length-encode, len_utf8_bounds}

append-nil : {A : Type 0} (l : List A) → l ++ [] ≡ l
append-nil [] = refl
append-nil (x ∷ xs) = ap (λ k. x ∷ k) (append-nil xs)

no_bytes : (bs : List ℕ) → length bs ≡ 0 → bs ≡ []
no_bytes [] e = refl
no_bytes (b ∷ bs) e = absurd (omega (arith, e))

-- one character more is out
pub char_written : (f : ℕ → List ℕ) (out new bs rest whole : List ℕ) (c : ℕ) → chars bs ≡ c ∷ chars rest → new ≡ out ++ f c →
    out ++ flat_map f (chars bs) ≡ whole → new ++ flat_map f (chars rest) ≡ whole
char_written f out new bs rest whole c e n h =
    ap (λ l. l ++ flat_map f (chars rest)) n ∙ append_assoc out (f c) (flat_map f (chars rest)) ∙ ap (λ l. out ++ flat_map f l) (sym e) ∙ h

-- all characters are out
pub all_written : (f : ℕ → List ℕ) (out bs whole : List ℕ) → length bs ≡ 0 → out ++ flat_map f (chars bs) ≡ whole → out ≡ whole
all_written f out bs whole e h =
    let none : flat_map f (chars bs) ≡ [] = ap (λ l. flat_map f (chars l)) (no_bytes bs e) ∙ ap (flat_map f) chars-nil in
    sym (append-nil out) ∙ ap (λ l. out ++ l) (sym none) ∙ h

-- a run more is out, as it stands
pub run_written : (f : ℕ → List ℕ) (out new bs run more whole : List ℕ) → IsUtf8 run → bs ≡ run ++ more → flat_map f (chars run) ≡ run → new ≡ out ++ run →
    out ++ flat_map f (chars bs) ≡ whole → new ++ flat_map f (chars more) ≡ whole
run_written f out new bs run more whole u e p n h =
    let tail = flat_map f (chars more) in
    let parts : flat_map f (chars bs) ≡ run ++ tail =
    ap (λ l. flat_map f (chars l)) e ∙ ap (flat_map f) (chars-append run more u) ∙ flat_map-append f (chars run) (chars more) ∙ ap (λ l. l ++ tail) p in
    ap (λ l. l ++ tail) n ∙ append_assoc out run tail ∙ ap (λ l. out ++ l) (sym parts) ∙ h

-- characters that are written as themselves, where no byte of theirs is a mark, and a mark is a byte of ASCII
pub written_as_they_stand : (f : ℕ → List ℕ) (mark : ℕ → Bool) → ((c : ℕ) → mark c ≡ false → f c ≡ encode_utf8 c) → ((c : ℕ) → 128 ≤ c → mark c ≡ false) →
    (cs : List ℕ) → ((k : ℕ) → k < length (encode_utf8_all cs) → mark (get_or (encode_utf8_all cs) k 0) ≡ false) → flat_map f cs ≡ encode_utf8_all cs
written_as_they_stand f mark same past [] none = refl
written_as_they_stand f mark same past (c ∷ cs) none =
    let front = encode_utf8 c in
    let tail = encode_utf8_all cs in
    let long : length (front ++ tail) ≡ length front + length tail = length-append front tail in
    let some : length front ≡ _ = length-encode c in
    let no_mark : mark c ≡ false = elim (cases_lt c 128) [
      | inl small ↦ rw (byte_from_char (front ++ tail) tail c refl small) at (none 0 (omega (arith, some, len_utf8_bounds c, long)))
      | inr large ↦ past c large
    ] in
    let behind : (k : ℕ) → k < length tail → mark (get_or tail k 0) ≡ false =
    λ k l. rw (get_or-append-add front tail k 0) at (none (length front + k) (omega arith)) in
    ap (λ l. l ++ flat_map f cs) (same c no_mark) ∙ ap (λ l. front ++ l) (written_as_they_stand f mark same past cs behind)

-- the same of a text
pub text_as_it_stands : (f : ℕ → List ℕ) (mark : ℕ → Bool) → ((c : ℕ) → mark c ≡ false → f c ≡ encode_utf8 c) → ((c : ℕ) → 128 ≤ c → mark c ≡ false) →
    (bs : List ℕ) → IsUtf8 bs → ((k : ℕ) → k < length bs → mark (get_or bs k 0) ≡ false) → flat_map f (chars bs) ≡ bs
text_as_it_stands f mark same past bs u none =
    let e = encodes-chars bs u in
    written_as_they_stand f mark same past (chars bs) (λ k l. rw e (none k (rw e at l))) ∙ e
