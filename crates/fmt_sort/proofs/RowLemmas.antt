-- Names of rows are compared letter by letter, and the first that fits decides.
use Rattle.std.proofs.Common.{◌≡◌, ◌<◌, ◌≤◌, ◌+◌, ◌-◌, ℕ, zero, suc, List, [], ◌∷◌, Bool, true, false, ◌&&◌, cond, take, drop, length, get_or, refl, sym, ◌∙◌, arith, add-one, drop-cons}
use Rattle.std.specs.Prelude.{nat_eq, map}
use Rattle.std.specs.Char.{to_ascii_lowercase}
use Rattle.std.specs.Str.{str_to_ascii_lowercase}
use Rattle.std.specs.Cmp.Lexicographic.{nat_list_eq_equiv}
use Rattle.std.proofs.lemmas.Bool.Decides.{nat_tests}
use Rattle.std.proofs.lemmas.List.{length-map, take_all as take_whole}
use Rattle.fmt_sort.specs.Rows.{begins, is_named, first_points}

same_letter : (n m : ℕ) (b : Bool) → m ≡ n → (nat_eq n m && b) ≡ b
same_letter n m b e = grind (arith, nat_tests)

take_all : (xs : List ℕ) (n : ℕ) → n ≡ length xs → take n xs ≡ xs
take_all xs n e = take_whole n xs (omega arith)

-- a letter that is the name's next one
pub begins_on : (rest name : List ℕ) (i : ℕ) → i < length name → 1 ≤ length rest → to_ascii_lowercase (get_or rest 0 0) ≡ get_or name i 0 →
    begins rest (drop i name) ≡ begins (take (length rest - 1) (drop 1 rest)) (drop (i + 1) name)
begins_on [] name i l some e = absurd (omega arith)
begins_on (t ∷ ts) name i l some e =
    let n = length (t ∷ ts) - 1 in
    let a : take n ts ≡ ts = take_all ts n (omega arith) in
    rw a (rw (add-one, drop-cons name i 0 l) (same_letter (get_or name i 0) (to_ascii_lowercase t) _ e))

-- no letter is left, but the name has one
pub begins_ended : (rest name : List ℕ) (i : ℕ) → i < length name → length rest < 1 → begins rest (drop i name) ≡ false
begins_ended [] name i l none = rw (drop-cons name i 0 l) refl
begins_ended (t ∷ ts) name i l none = absurd (omega arith)

-- a name of the same length is the whole
pub begins_whole : (text name : List ℕ) → length text ≡ length name → begins text name ≡ is_named text name
begins_whole text name e =
    let low = str_to_ascii_lowercase text in
    let l : length name ≡ length low = sym e ∙ sym (length-map text to_ascii_lowercase) in
    rw (take_all low (length name) l) (nat_list_eq_equiv.symm name low)

-- the name at a place decides, or those behind it do
pub first_points_at : {E : Type 0} (view : E → List ℕ × ℕ) (f : List ℕ → Bool) (xs : List E) (i : ℕ) (d : E) → i < length xs →
    first_points f (drop i (map view xs)) ≡ cond (f (view (get_or xs i d)).0) (view (get_or xs i d)).1 (first_points f (drop (suc i) (map view xs)))
first_points_at view f [] i d l = absurd (omega arith)
first_points_at view f (x ∷ xs) zero d l = refl
first_points_at view f (x ∷ xs) (suc i) d l = first_points_at view f xs i d (omega arith)

module _ {E : Type 0} (view : E → List ℕ × ℕ) (f : List ℕ → Bool) (xs : List E) (i : ℕ) (d : E) (points : ℕ) (l : i < length xs) (so_far : points ≡ first_points f (drop i (map view xs))) where
  pub first_points_here : f (view (get_or xs i d)).0 ≡ true → (view (get_or xs i d)).1 ≡ points
  first_points_here e = sym (so_far ∙ (first_points_at view f xs i d l ∙ rw e refl))

  pub first_points_next : f (view (get_or xs i d)).0 ≡ false → points ≡ first_points f (drop (i + 1) (map view xs))
  first_points_next e = so_far ∙ (first_points_at view f xs i d l ∙ rw e (rw add-one refl))
