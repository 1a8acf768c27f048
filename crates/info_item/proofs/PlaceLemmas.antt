-- The list of the parts' maps, which is made when it is asked for, has its place among the own pairs of a view.
use Rattle.std.proofs.Common.{◌≡◌, ℕ, List, [], ◌∷◌, refl, sym, ap, subst, ◌∙◌, Bool, true, false, cond}
use Rattle.std.specs.Prelude.{Option, Some, None, is_some, codes, pos}
use Rattle.std.specs.Str.{bytes_eq}
use Rattle.std.proofs.lemmas.Cmp.{nat_list_eq_equiv}
use Rattle.std.proofs.lemmas.Slice.Eq.{bytes_eq-Decides}
use Rattle.text_base.specs.Number.{whole}
use Rattle.info_tree.specs.Tree.{Tree, null, text, number, list, trees_of}
use Rattle.info_tree.specs.Pairs.{value_at, put, HaveDistinctKeys}
use Rattle.info_item.specs.Item.{Format}
use Rattle.info_item.specs.View.{over, own_with, HasPlace, own_value, kept_maps, parts_key, are_several, summed, begun_of, maps_of, own_of}
use Rattle.info_item.proofs.LookupLemmas.{value_at-put, over-first, over-rest}
use Rattle.info_item.proofs.PutLemmas.{put-again, put-has, put-keeps, put-turn, over-put}

-- keys stay distinct
pub distinct-put : (ps : List (List ℕ × Tree)) (k : List ℕ) (t : Tree) → HaveDistinctKeys ps → HaveDistinctKeys (put ps k t)
distinct-put [] k t d = (refl, tt)
distinct-put (p ∷ ps) k t d = step (distinct-put ps k t d.1) (bytes_eq k p.0) refl
  where
    step : HaveDistinctKeys (put ps k t) → (b : Bool) → bytes_eq k p.0 ≡ b → HaveDistinctKeys (cond b ((p.0, t) ∷ ps) (p ∷ put ps k t))
    step less true e = (d.0, d.1)
    step less false e =
        let other : bytes_eq p.0 k ≡ false = nat_list_eq_equiv.symm p.0 k ∙ e in
        (value_at-put p.0 ps k t ∙ rw other d.0, less)

pub distinct-own : (maps : Option (List Tree)) (own : List (List ℕ × Tree)) → HaveDistinctKeys own → HaveDistinctKeys (own_with maps own)
distinct-own None own d = d
distinct-own (Some ms) own d = distinct-put own parts_key (list (trees_of ms)) d

module _ (own : List (List ℕ × Tree)) (key : List ℕ) where
  standing : (maps : Option (List Tree)) (t : Tree) → Some t ≡ value_at own key → Some (own_value maps key t) ≡ value_at (own_with maps own) key
  standing None t e = e
  standing (Some ms) t e = step (bytes_eq key parts_key) ∙ sym (value_at-put key own parts_key (list (trees_of ms)))
    where
      step : (b : Bool) → Some (cond b (list (trees_of ms)) t) ≡ cond b (Some (list (trees_of ms))) (value_at own key)
      step true = refl
      step false = e

  missing : (maps : Option (List Tree)) → HasPlace maps own → None ≡ value_at own key → None ≡ value_at (own_with maps own) key
  missing None place e = e
  missing (Some ms) place e = step (bytes_eq key parts_key) refl ∙ sym (value_at-put key own parts_key (list (trees_of ms)))
    where
      step : (b : Bool) → bytes_eq key parts_key ≡ b → None ≡ cond b (Some (list (trees_of ms))) (value_at own key)
      step true same =
          let is : parts_key ≡ key = sym ((bytes_eq-Decides key parts_key).0 same) in
          let some : is_some (value_at own key) ≡ true = subst (λ (w : List ℕ). is_some (value_at own w) ≡ true) is place in
          absurd (cc (some, e))
      step false other = e

  -- an own pair is found first, and the others behind it
  module _ (ps : List (List ℕ × Tree)) (maps : Option (List Tree)) (distinct : HaveDistinctKeys own) where
    pub own-first : (t : Tree) → Some t ≡ value_at own key → Some (own_value maps key t) ≡ value_at (over ps (own_with maps own)) key
    own-first t e = over-first key ps (own_with maps own) (distinct-own maps own distinct) (own_value maps key t) (standing maps t e)

    pub own-rest : HasPlace maps own → None ≡ value_at own key → value_at ps key ≡ value_at (over ps (own_with maps own)) key
    own-rest place e = over-rest key ps (own_with maps own) (distinct-own maps own distinct) (missing maps place e)

  -- a pair put among the own ones
  own-put : (maps : Option (List Tree)) (t : Tree) → HasPlace maps own → own_with (kept_maps maps key) (put own key t) ≡ put (own_with maps own) key t
  own-put None t place = step (bytes_eq key parts_key)
    where
      step : (b : Bool) → own_with (cond b None None) (put own key t) ≡ put own key t
      step true = refl
      step false = refl
  own-put (Some ms) t place = step (bytes_eq key parts_key) refl
    where
      step : (b : Bool) → bytes_eq key parts_key ≡ b → own_with (cond b None (Some ms)) (put own key t) ≡ put (put own parts_key (list (trees_of ms))) key t
      step true same =
          let is : parts_key ≡ key = sym ((bytes_eq-Decides key parts_key).0 same) in
          sym (subst (λ (w : List ℕ). put (put own w (list (trees_of ms))) key t ≡ put own key t) (sym is) (put-again own key t (list (trees_of ms))))
      step false other = put-turn own parts_key key (list (trees_of ms)) t (nat_list_eq_equiv.symm parts_key key ∙ other) place

  pub place-kept : (maps : Option (List Tree)) (t : Tree) → HasPlace maps own → HasPlace (kept_maps maps key) (put own key t)
  place-kept None t place = step (bytes_eq key parts_key)
    where
      step : (b : Bool) → HasPlace (cond b None None) (put own key t)
      step true = tt
      step false = tt
  place-kept (Some ms) t place = step (bytes_eq key parts_key)
    where
      step : (b : Bool) → HasPlace (cond b None (Some ms)) (put own key t)
      step true = tt
      step false = put-keeps own parts_key key t place

  pub over-own : (ps : List (List ℕ × Tree)) (maps : Option (List Tree)) (t : Tree) → HaveDistinctKeys own → HasPlace maps own →
      over ps (own_with (kept_maps maps key) (put own key t)) ≡ put (over ps (own_with maps own)) key t
  over-own ps maps t distinct place = ap (over ps) (own-put maps t place) ∙ over-put ps (own_with maps own) key t (distinct-own maps own distinct)

-- the list goes over the others as it goes over the own pairs
pub over-list : (ps own : List (List ℕ × Tree)) (maps : Option (List Tree)) → HaveDistinctKeys own → own_with maps (over ps own) ≡ over ps (own_with maps own)
over-list ps own None d = refl
over-list ps own (Some ms) d = sym (over-put ps own parts_key (list (trees_of ms)) d)

-- the own pairs of a new view
module _ (parts : List Format) (ext : List ℕ) (count : ℕ) where
  abbrev begun : List (List ℕ × Tree) → List (List ℕ × Tree)
  begun ps = put (put ps (codes "ext") (text ext)) (codes "autonumber") (number (whole (pos count)))

  listed : (s : List (List ℕ × Tree)) (l : Tree) → put (begun (put s parts_key null)) parts_key l ≡ begun (put s parts_key l)
  listed s l =
      put-turn (put (put s parts_key null) (codes "ext") (text ext)) parts_key (codes "autonumber") l (number (whole (pos count))) refl
      (put-keeps (put s parts_key null) parts_key (codes "ext") (text ext) (put-has s parts_key null))
      ∙ ap (λ ps. put ps (codes "autonumber") (number (whole (pos count))))
      (put-turn (put s parts_key null) parts_key (codes "ext") l (text ext) refl (put-has s parts_key null) ∙ ap (λ ps. put ps (codes "ext") (text ext)) (put-again s parts_key l null))

  pub own-begun : own_with (maps_of parts) (begun_of parts ext count) ≡ own_of parts ext count
  own-begun = step (are_several parts) refl
    where
      step : (b : Bool) → are_several parts ≡ b → own_with (maps_of parts) (begun_of parts ext count) ≡ own_of parts ext count
      step true e = rw e (listed (summed parts) _)
      step false e = rw e refl

  pub place-begun : HasPlace (maps_of parts) (begun_of parts ext count)
  place-begun = step (are_several parts) refl
    where
      step : (b : Bool) → are_several parts ≡ b → HasPlace (maps_of parts) (begun_of parts ext count)
      step true e =
          rw e (put-keeps (put (put (summed parts) parts_key null) (codes "ext") (text ext)) parts_key (codes "autonumber") (number (whole (pos count)))
          (put-keeps (put (summed parts) parts_key null) parts_key (codes "ext") (text ext) (put-has (summed parts) parts_key null)))
      step false e = rw e tt
