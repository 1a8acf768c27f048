-- The first fault of a path's components.
use Rattle.std.proofs.Common.{◌≡◌, ℕ, ◌+◌, List, [], ◌∷◌, cond, refl, sym}
use Rattle.std.specs.Prelude.{Option, Some, None}
use Rattle.std.specs.Option.{is_some, option_and_then}
use Rattle.std.specs.List.{find, enumerate_from}
use Rattle.name_text.specs.declared.path.PathFault.{PathFault}
use Rattle.name_text.specs.Path.{component_fault, or_else, first_fault}

step : (p : ℕ × List ℕ) (fault behind : Option PathFault) (found : Option (ℕ × List ℕ)) → component_fault p.0 p.1 ≡ fault →
    behind ≡ option_and_then (λ q. component_fault q.0 q.1) found → or_else fault behind ≡ option_and_then (λ q. component_fault q.0 q.1) (cond (is_some fault) (Some p) found)
step p (Some fault) behind found e h = sym e
step p None behind found e h = h

-- the first fault is that of the first component that has one
pub first_bad : (n : ℕ) (names : List (List ℕ)) →
    first_fault n names ≡ option_and_then (λ p. component_fault p.0 p.1) (find (λ p. is_some (component_fault p.0 p.1)) (enumerate_from n names))
first_bad n [] = refl
first_bad n (name ∷ names) =
    step (n, name) (component_fault n name) (first_fault (n + 1) names) (find (λ p. is_some (component_fault p.0 p.1)) (enumerate_from (n + 1) names)) refl (first_bad (n + 1) names)
