-- The names of a component's family: which differ, and which begin which.
use Rattle.std.proofs.Common.{◌≡◌, ◌⊎◌, inl, inr, ℕ, Bool, true, false, IsTrue, List, [], ◌∷◌, ◌++◌, refl, sym, ◌∙◌, ap, eq-eqb, append_assoc}
use Rattle.std.specs.Prelude.{◌&&◌, codes, decimal, bytes_eq, nat_eq}
use Rattle.folder_base.specs.Disk.{Name, begins}
use Rattle.folder_base.proofs.Images.{same_or_not}
use Rattle.keep_store.specs.Promise.{promising}
use Rattle.plan_record.specs.Names.{record_of, spare_of, joined_of, pieces_of, stem_of, begins as begins_with}
use Rattle.plan_record.proofs.NameLemmas.{tail_eq, eq_self, tail_begins, begins_self}

pub never : true ≡ false → ⊥
never e = cc

pub true_or_not : (b : Bool) → (b ≡ true) ⊎ (b ≡ false)
true_or_not true = inl refl
true_or_not false = inr refl

-- A folder's test of a prefix is that of the names beside a component.
pub begins_one : (prefix name : Name) → begins prefix name ≡ begins_with prefix name
begins_one [] name = refl
begins_one (c ∷ cs) [] = refl
begins_one (c ∷ cs) (d ∷ ds) = ap (λ (b : Bool). nat_eq c d && b) (begins_one cs ds)

pub self_eq : (component a : Name) → bytes_eq component (component ++ a) ≡ bytes_eq [] a
self_eq [] a = refl
self_eq (c ∷ component) a = ap (λ (v : Bool). v && bytes_eq component (component ++ a)) (eq-eqb c c refl) ∙ self_eq component a

module _ (component : Name) where
  pub spare_record : bytes_eq (spare_of component) (record_of component) ≡ false
  spare_record = tail_eq component (codes ".ytdl.new") (codes ".ytdl")

  pub spare_self : bytes_eq (spare_of component) component ≡ false
  spare_self = eq_self component (codes ".ytdl.new")

  pub spare_stem : (k : ℕ) → bytes_eq (spare_of component) (stem_of component k) ≡ false
  spare_stem k = tail_eq component (codes ".ytdl.new") (codes ".part-Frag" ++ decimal k)

  pub record_self : bytes_eq (record_of component) component ≡ false
  record_self = eq_self component (codes ".ytdl")

  pub record_stem : (k : ℕ) → bytes_eq (record_of component) (stem_of component k) ≡ false
  record_stem k = tail_eq component (codes ".ytdl") (codes ".part-Frag" ++ decimal k)

  pub joined_self : bytes_eq (joined_of component) component ≡ false
  joined_self = eq_self component (codes ".part")

  pub joined_record : bytes_eq (joined_of component) (record_of component) ≡ false
  joined_record = tail_eq component (codes ".part") (codes ".ytdl")

  pub joined_stem : (k : ℕ) → bytes_eq (joined_of component) (stem_of component k) ≡ false
  joined_stem k = tail_eq component (codes ".part") (codes ".part-Frag" ++ decimal k)

  pub self_record : bytes_eq component (record_of component) ≡ false
  self_record = self_eq component (codes ".ytdl")

  pub self_joined : bytes_eq component (joined_of component) ≡ false
  self_joined = self_eq component (codes ".part")

  pub self_stem : (k : ℕ) → bytes_eq component (stem_of component k) ≡ false
  self_stem k = self_eq component (codes ".part-Frag" ++ decimal k)

  pub pieces_stem : (k : ℕ) → begins_with (pieces_of component) (stem_of component k) ≡ true
  pieces_stem k = tail_begins component (codes ".part-Frag") (codes ".part-Frag" ++ decimal k)

  pub pieces_record : begins_with (pieces_of component) (record_of component) ≡ false
  pieces_record = tail_begins component (codes ".part-Frag") (codes ".ytdl")

  pub pieces_spare : begins_with (pieces_of component) (spare_of component) ≡ false
  pieces_spare = tail_begins component (codes ".part-Frag") (codes ".ytdl.new")

  pub pieces_joined : begins_with (pieces_of component) (joined_of component) ≡ false
  pieces_joined = tail_begins component (codes ".part-Frag") (codes ".part")

  pub pieces_self : begins_with (pieces_of component) component ≡ false
  pieces_self = begins_self component (codes ".part-Frag")

module _ (component : Name) (k : ℕ) (digits : List ℕ) where
  -- what stands behind the component's name in a promise's
  abbrev tail : Name
  tail = ((codes ".part-Frag" ++ decimal k) ++ 46 ∷ 64 ∷ []) ++ digits

  promise_is : promising (stem_of component k) digits ≡ component ++ tail
  promise_is = ap (λ (n : Name). n ++ digits) (append_assoc component (codes ".part-Frag" ++ decimal k) (46 ∷ 64 ∷ [])) ∙ append_assoc component ((codes ".part-Frag" ++ decimal k) ++ 46 ∷ 64 ∷ []) digits

  pub spare_promise : bytes_eq (spare_of component) (promising (stem_of component k) digits) ≡ false
  spare_promise = ap (bytes_eq (spare_of component)) promise_is ∙ tail_eq component (codes ".ytdl.new") tail

  pub record_promise : bytes_eq (record_of component) (promising (stem_of component k) digits) ≡ false
  record_promise = ap (bytes_eq (record_of component)) promise_is ∙ tail_eq component (codes ".ytdl") tail

  pub joined_promise : bytes_eq (joined_of component) (promising (stem_of component k) digits) ≡ false
  joined_promise = ap (bytes_eq (joined_of component)) promise_is ∙ tail_eq component (codes ".part") tail

  pub self_promise : bytes_eq component (promising (stem_of component k) digits) ≡ false
  self_promise = ap (bytes_eq component) promise_is ∙ self_eq component tail

  pub pieces_promise : begins_with (pieces_of component) (promising (stem_of component k) digits) ≡ true
  pieces_promise = ap (begins_with (pieces_of component)) promise_is ∙ tail_begins component (codes ".part-Frag") tail

-- A name of the pieces is none of the other names.
module _ (component n : Name) (mine : IsTrue (begins_with (pieces_of component) n)) where
  other_name : (other : Name) → begins_with (pieces_of component) other ≡ false → bytes_eq other n ≡ false
  other_name other none = elim (same_or_not other n) [
    | inl same ↦ absurd (never (sym mine ∙ ap (begins_with (pieces_of component)) (sym same.1) ∙ none))
    | inr differs ↦ differs
  ]

  pub spare_not : bytes_eq (spare_of component) n ≡ false
  spare_not = other_name (spare_of component) (pieces_spare component)

  pub record_not : bytes_eq (record_of component) n ≡ false
  record_not = other_name (record_of component) (pieces_record component)
