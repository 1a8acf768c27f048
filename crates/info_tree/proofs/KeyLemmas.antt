-- What tells the places of keys, as keys come.
use Rattle.std.proofs.Common.{◌≡◌, ℕ, zero, suc, ◌+◌, ◌<◌, List, [], ◌∷◌, ◌++◌, length, take, get_or, refl, sym, ap, subst, ◌∙◌, arith, Bool, true, false, cond}
use Rattle.std.specs.Prelude.{Option, Some, None, String, is_some, slice_get}
use Rattle.std.specs.List.{position, IsDistinct}
use Rattle.std.specs.Str.{bytes_eq}
use Rattle.std.specs.String.{string_bytes, string_cmp}
use Rattle.std.specs.Ordering.{nat_cmp}
use Rattle.std.specs.Cmp.Lexicographic.{slice_cmp}
use Rattle.std.specs.BTreeMap.{BTreeMap, UpdatesBy, IsEmpty}
use Rattle.std.specs.declared.alloc.Global.{Global}
use Rattle.std.proofs.lemmas.Cmp.{nat_list_eq_equiv}
use Rattle.std.proofs.lemmas.List.{take_more}
use Rattle.std.proofs.lemmas.Map.Keys.{IsDistinct-push}
use Rattle.std.proofs.lemmas.Map.Text.{btree_map_updates_text}
use Rattle.std.proofs.lemmas.Slice.Eq.{bytes_eq-Decides}
use Rattle.info_tree.specs.Keys.{TellsPlaces}
use Rattle.info_tree.proofs.Places.{first_of_two, position-push, position-before, list_any-position}

abbrev Places : Type 0
Places = BTreeMap (String Global) ℕ

-- an empty map tells the places of no keys
pub tells_none : (m : Places) → IsEmpty m → TellsPlaces m []
tells_none m e text = rw e refl

-- a text at the last place, or where it stood
after : (ks : List (List ℕ)) (k q : List ℕ) (n : ℕ) → position (bytes_eq k) ks ≡ None → (b : Bool) → bytes_eq k q ≡ b →
    cond b (Some n) (position (bytes_eq q) ks) ≡ first_of_two (position (bytes_eq q) ks) (cond (bytes_eq q k) (Some n) None)
after ks k q n fresh true e =
    let turned : bytes_eq q k ≡ true = nat_list_eq_equiv.symm q k ∙ e in
    let same : k ≡ q = (bytes_eq-Decides k q).0 e in
    let none : position (bytes_eq q) ks ≡ None = subst (λ (t : List ℕ). position (bytes_eq t) ks ≡ None) same fresh in
    rw (none, turned) refl
after ks k q n fresh false e =
    let turned : bytes_eq q k ≡ false = nat_list_eq_equiv.symm q k ∙ e in
    rw turned (kept (position (bytes_eq q) ks))
  where
    kept : (o : Option ℕ) → o ≡ first_of_two o None
    kept None = refl
    kept (Some i) = refl

-- a new key is told at the last place
pub tells_more : (m n : Places) (ks : List (List ℕ)) (k : List ℕ) (i : ℕ) → TellsPlaces m ks → position (bytes_eq k) ks ≡ None → i ≡ length ks →
    UpdatesBy string_cmp (λ t. slice_cmp nat_cmp k (string_bytes t)) m n (Some i) → TellsPlaces n (ks ++ k ∷ [])
tells_more m n ks k i tells fresh last updates text =
    btree_map_updates_text k m n (Some i) updates text
    ∙ ap (λ o. cond (bytes_eq k text) (Some i) o) (tells text)
    ∙ after ks k text i fresh (bytes_eq k text) refl
    ∙ ap (λ j. first_of_two (position (bytes_eq text) ks) (cond (bytes_eq text k) (Some j) None)) last
    ∙ sym (position-push (bytes_eq text) ks k)

key_at : (texts : List (List ℕ)) (i : ℕ) (t : List ℕ) → i < length texts → t ≡ get_or texts i t → slice_get texts i ≡ Some t
key_at [] i t low e = absurd (omega (arith, low))
key_at (x ∷ texts) zero t low e = ap (λ (s : List ℕ). Some s) (sym e)
key_at (x ∷ texts) (suc i) t low e = let less : i < length texts = omega (arith, low) in key_at texts i t less e

length-front : (texts : List (List ℕ)) (i : ℕ) → i < length texts → i ≡ length (take i texts)
length-front [] i low = absurd (omega (arith, low))
length-front (x ∷ texts) zero low = refl
length-front (x ∷ texts) (suc i) low = let less : i < length texts = omega (arith, low) in ap suc (length-front texts i less)

-- the next of texts that differ is told at its place
pub tells_next : (m n : Places) (texts : List (List ℕ)) (i : ℕ) (t : List ℕ) (key : String Global) → i < length texts → t ≡ get_or texts i t → string_bytes key ≡ t →
    IsDistinct bytes_eq texts → TellsPlaces m (take i texts) → UpdatesBy string_cmp (string_cmp key) m n (Some i) → TellsPlaces n (take (i + 1) texts)
tells_next m n texts i t key low here same distinct tells updates =
    let k : List ℕ = string_bytes key in
    let at_key : slice_get texts i ≡ Some k = key_at texts i t low here ∙ ap (λ (l : List ℕ). Some l) (sym same) in
    let fresh : position (bytes_eq k) (take i texts) ≡ None = position-before texts i k distinct at_key in
    let one : get_or texts i t ≡ k = sym here ∙ sym same in
    let all : take (i + 1) texts ≡ take i texts ++ k ∷ [] = take_more texts i t low ∙ ap (λ (l : List ℕ). take i texts ++ l ∷ []) one in
    subst (λ (l : List (List ℕ)). TellsPlaces n l) (sym all) (tells_more m n (take i texts) k i tells fresh (length-front texts i low) updates)

-- keys stay apart when a new one comes
pub distinct_more : (ks : List (List ℕ)) (k : List ℕ) → IsDistinct bytes_eq ks → position (bytes_eq k) ks ≡ None → IsDistinct bytes_eq (ks ++ k ∷ [])
distinct_more ks k distinct fresh = IsDistinct-push nat_list_eq_equiv ks k distinct (list_any-position (bytes_eq k) ks ∙ ap is_some fresh)
