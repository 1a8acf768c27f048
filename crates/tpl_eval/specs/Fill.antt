-- The text that a template is filled to.
use Rattle.std.specs.Prelude.{ℕ, List, [], ◌∷◌, ◌++◌, Option, Some}
use Rattle.std.specs.Option.{option_map, option_and_then}
use Rattle.info_tree.specs.Tree.{Tree}
use Rattle.tpl_lang.specs.declared.template.Part.{Part}
use Rattle.tpl_eval.specs.declared.marks.Clean.{Clean}
use Rattle.tpl_eval.specs.Field.{part_text, within}

-- the texts of parts, one behind another; none where that of a field is too long
abbrev pub parts_text : Tree → List ℕ → Clean → List Part → Option (List ℕ)
parts_text t na clean [] = Some []
parts_text t na clean (p ∷ ps) = option_and_then (λ s. option_map (λ rest. s ++ rest) (parts_text t na clean ps)) (part_text t na clean p)

-- the text that a template is filled to; none where that, or the text of a field, is too long
unfoldable pub fill_of : Tree → List ℕ → Clean → List Part → Option (List ℕ)
fill_of t na clean parts = option_and_then within (parts_text t na clean parts)

-- a text with another behind it, where there is one and the whole is not too long
abbrev pub extended : List ℕ → Option (List ℕ) → Option (List ℕ)
extended out told = option_and_then (λ s. within (out ++ s)) told
