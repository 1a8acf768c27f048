-- The ids of the entries of a list.
use Rattle.std.proofs.Common.{◌≡◌, ℕ, zero, suc, ◌+◌, ◌<◌, length, List, [], ◌∷◌, ◌++◌, refl, sym, ap, subst, ◌∙◌, arith, Bool, true, false}
use Rattle.std.specs.Prelude.{Option, Some, None, Ok, Err, take, slice_get, not, ◌||◌}
use Rattle.std.specs.List.{list_any}
use Rattle.std.specs.Str.{bytes_eq}
use Rattle.std.proofs.lemmas.Bool.{not-true, not-false}
use Rattle.info_tree.specs.Tree.{Tree, list, trees_of}
use Rattle.info_tree.proofs.PairLemmas.{tree_list-trees_of}
use Rattle.info_item.specs.Formats.{format_id_of, has_id, format_by, format_of, PutsId, Place, place_by, formats_at, list_of}
use Rattle.info_item.specs.declared.item_fault.ItemFault.TheVariants.{FormatId}

abbrev pub before_ids : Option (List ℕ) → List (List ℕ) → List (List ℕ)
before_ids None ids = ids
before_ids (Some id) ids = id ∷ ids

-- the ids that these trees have
abbrev pub ids_of : List Tree → List (List ℕ)
ids_of [] = []
ids_of (t ∷ ts) = before_ids (format_id_of t) (ids_of ts)

pub any-ids_of : (id : List ℕ) (ts : List Tree) → list_any (bytes_eq id) (ids_of ts) ≡ list_any (λ t. has_id id (format_id_of t)) ts
any-ids_of id [] = refl
any-ids_of id (t ∷ ts) = step (format_id_of t) (any-ids_of id ts)
  where
    step : (o : Option (List ℕ)) → list_any (bytes_eq id) (ids_of ts) ≡ list_any (λ t. has_id id (format_id_of t)) ts →
        list_any (bytes_eq id) (before_ids o (ids_of ts)) ≡ (has_id id o || list_any (λ t. has_id id (format_id_of t)) ts)
    step None h = h
    step (Some other) h = rw h refl

ids-at : (j : ℕ) (ts : List Tree) (t : Tree) (id : List ℕ) → slice_get ts j ≡ Some t → format_id_of t ≡ Some id →
    ids_of (take (suc j) ts) ≡ ids_of (take j ts) ++ id ∷ []
ids-at j [] t id g e = absurd (cc)
ids-at zero (u ∷ ts) t id g e =
    let same : u ≡ t = cc in
    let e' : format_id_of u ≡ Some id = rw same e in
    rw e' refl
ids-at (suc j) (u ∷ ts) t id g e = rw (ids-at j ts t id g e) (step (format_id_of u))
  where
    step : (o : Option (List ℕ)) → before_ids o (ids_of (take j ts) ++ id ∷ []) ≡ before_ids o (ids_of (take j ts)) ++ id ∷ []
    step None = refl
    step (Some other) = refl

-- one more tree with an id
pub ids_of-next : (j : ℕ) (ts : List Tree) (t : Tree) (id : List ℕ) → slice_get ts j ≡ Some t → format_id_of t ≡ Some id →
    ids_of (take (j + 1) ts) ≡ ids_of (take j ts) ++ id ∷ []
ids_of-next j ts t id g e =
    let one : suc j ≡ j + 1 = omega arith in
    subst (λ (n : ℕ). ids_of (take n ts) ≡ ids_of (take j ts) ++ id ∷ []) one (ids-at j ts t id g e)

-- an entry without an id
pub format_of-none : (k j : ℕ) (ts : List Tree) (t : Tree) → format_id_of t ≡ None → format_of k ts j t ≡ Err (FormatId k j)
format_of-none k j ts t e = subst (λ (o : Option (List ℕ)). format_by k ts j t o ≡ Err (FormatId k j)) (sym e) refl

format_by-old : (k j : ℕ) (ts : List Tree) (t : Tree) (id : List ℕ) → list_any (λ t. has_id id (format_id_of t)) (take j ts) ≡ true →
    format_by k ts j t (Some id) ≡ Err (FormatId k j)
format_by-old k j ts t id h = rw h refl

format_by-new : (k j : ℕ) (ts : List Tree) (t : Tree) (id : List ℕ) → list_any (λ t. has_id id (format_id_of t)) (take j ts) ≡ false →
    format_by k ts j t (Some id) ≡ Ok (record { tree = t; id = id })
format_by-new k j ts t id h = rw h refl

-- an entry with the id of an earlier one
pub format_of-old : (k j : ℕ) (ts : List Tree) (t : Tree) (id : List ℕ) → format_id_of t ≡ Some id →
    list_any (bytes_eq id) (ids_of (take j ts)) ≡ true → format_of k ts j t ≡ Err (FormatId k j)
format_of-old k j ts t id e h =
    subst (λ (o : Option (List ℕ)). format_by k ts j t o ≡ Err (FormatId k j)) (sym e)
    (format_by-old k j ts t id (sym (any-ids_of id (take j ts)) ∙ h))

-- an entry with an id of its own
pub format_of-new : (k j : ℕ) (ts : List Tree) (t : Tree) (id : List ℕ) → format_id_of t ≡ Some id →
    list_any (bytes_eq id) (ids_of (take j ts)) ≡ false → format_of k ts j t ≡ Ok (record { tree = t; id = id })
format_of-new k j ts t id e h =
    subst (λ (o : Option (List ℕ)). format_by k ts j t o ≡ Ok (record { tree = t; id = id })) (sym e)
    (format_by-new k j ts t id (sym (any-ids_of id (take j ts)) ∙ h))

-- what a list of entries that is not empty is read as
pub formats-listed : (k : ℕ) (tree : Tree) (o : Option Tree) (ts : List Tree) → o ≡ Some (list (trees_of ts)) → 0 < length ts → (own : Place) →
    formats_at k tree (place_by o own) ≡ list_of k ts
formats-listed k tree o [] e more own = absurd (omega (arith, more))
formats-listed k tree o (t ∷ ts) e more own = rw e (ap (λ l. list_of k (t ∷ l)) (tree_list-trees_of ts))

-- an id that was there
pub seen : (old new ids : List (List ℕ)) (text id : List ℕ) (b : Bool) → text ≡ id → old ≡ ids → PutsId old new text b → b ≡ false →
    list_any (bytes_eq id) ids ≡ true
seen old new ids text id b same are puts n =
    not-false (list_any (bytes_eq id) ids) (sym (subst (λ (t : List ℕ). b ≡ not (list_any (bytes_eq t) ids)) same (subst (λ (l : List (List ℕ)). b ≡ not (list_any (bytes_eq text) l)) are puts.0)) ∙ n)

-- an id that was not there
pub unseen : (old new ids : List (List ℕ)) (text id : List ℕ) (b : Bool) → text ≡ id → old ≡ ids → PutsId old new text b → b ≡ true →
    list_any (bytes_eq id) ids ≡ false
unseen old new ids text id b same are puts n =
    not-true (list_any (bytes_eq id) ids) (sym (subst (λ (t : List ℕ). b ≡ not (list_any (bytes_eq t) ids)) same (subst (λ (l : List (List ℕ)). b ≡ not (list_any (bytes_eq text) l)) are puts.0)) ∙ n)

-- the ids after one that was not there
pub put-last : (old new ids : List (List ℕ)) (text id : List ℕ) (b : Bool) → text ≡ id → old ≡ ids → PutsId old new text b → b ≡ true →
    new ≡ ids ++ id ∷ []
put-last old new ids text id b same are puts n = let e : new ≡ old ++ text ∷ [] = puts.1 n in cc
