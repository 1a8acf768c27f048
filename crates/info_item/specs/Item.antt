-- Items and formats as contracts see them.
use Rattle.std.specs.Prelude.{ℕ, List, refl}
use Rattle.std.specs.Coded.{Coded, code_by, coded_list, coded×, coded_ℕ}
use Rattle.info_tree.specs.Tree.{Tree}
use Rattle.info_tree.specs.TreeCode.{coded_tree}

-- a format: its tree and its id
pub record Format : Type 0 where
  pub tree : Tree
  pub id : List ℕ

-- an item: its tree, its id, its line in an archive, and its formats in order
pub record Item : Type 0 where
  pub tree : Tree
  pub id : List ℕ
  pub line : List ℕ
  pub formats : List Format

-- how the logic stores a format: as the pair of its parts
abbrev pub coded_format : Coded Format
coded_format =
    code_by (Tree × List ℕ) (coded× coded_tree (coded_list coded_ℕ)) (λ f. (f.tree, f.id)) (λ p. record { tree = p.0; id = p.1 }) (λ _. refl)

-- and an item: as the pairs of its parts
abbrev pub coded_item : Coded Item
coded_item =
    code_by ((Tree × List ℕ) × (List ℕ × List Format)) (coded× (coded× coded_tree (coded_list coded_ℕ)) (coded× (coded_list coded_ℕ) (coded_list coded_format)))
    (λ a. ((a.tree, a.id), (a.line, a.formats))) (λ p. record { tree = p.0.0; id = p.0.1; line = p.1.0; formats = p.1.1 }) (λ _. refl)
