-- The first site name of two.
use Rattle.std.proofs.Common.{◌≡◌, ℕ, List, refl, subst}
use Rattle.std.specs.Prelude.{Option, Some, None, codes}
use Rattle.info_item.specs.Fields.{site_by}

pub site_first : (key other : Option (List ℕ)) (name : List ℕ) → Some name ≡ key → name ≡ site_by key other
site_first key other name e = subst (λ (o : Option (List ℕ)). name ≡ site_by o other) e refl

pub site_second : (key other : Option (List ℕ)) (name : List ℕ) → None ≡ key → Some name ≡ other → name ≡ site_by key other
site_second key other name n e = subst (λ (o : Option (List ℕ)). name ≡ site_by o other) n (subst (λ (o : Option (List ℕ)). name ≡ site_by None o) e refl)

pub site_last : (key other : Option (List ℕ)) → None ≡ key → None ≡ other → codes "generic" ≡ site_by key other
site_last key other n e = subst (λ (o : Option (List ℕ)). codes "generic" ≡ site_by o other) n (subst (λ (o : Option (List ℕ)). codes "generic" ≡ site_by None o) e refl)
