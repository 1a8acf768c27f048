-- What is printed reads again: the text that is printed for a tree is, by the rules by which texts are read, that tree's.
use Rattle.std.specs.Prelude.{◌≡◌, ℕ, ◌+◌, ◌≤◌, ◌↔◌, List, length, max, Some}
use Rattle.std.specs.Str.{IsUtf8}
use Rattle.text_base.specs.Number.{Number}
use Rattle.text_base.specs.NumberText.{text_of}
use Rattle.text_base.specs.Spelling.{number_length}
use Rattle.text_base.specs.Value.{number_value}
use Rattle.info_tree.specs.Tree.{Tree, null, truth, number, text, list, mapping, Trees, no_trees, a_tree, Pairs, no_pairs, a_pair}
use Rattle.info_tree.specs.Pairs.{pair_list, HaveDistinctKeys}
use Rattle.info_tree.specs.Reading.{most_bytes, most_levels, IsTextOf}

-- how many lists and maps stand one within another, at most
abbrev mutual
  pub tree_levels : Tree → ℕ
  tree_levels null = 0
  tree_levels (truth b) = 0
  tree_levels (number n) = 0
  tree_levels (text s) = 0
  tree_levels (list ts) = trees_levels ts + 1
  tree_levels (mapping ps) = pairs_levels ps + 1

  pub trees_levels : Trees → ℕ
  trees_levels no_trees = 0
  trees_levels (a_tree t ts) = max (tree_levels t) (trees_levels ts)

  pub pairs_levels : Pairs → ℕ
  pairs_levels no_pairs = 0
  pairs_levels (a_pair k t ps) = max (tree_levels t) (pairs_levels ps)

-- a tree of no more levels, in no more bytes, than a text may have
abbrev pub IsWithinLimits : Tree → List ℕ → Type 0
IsWithinLimits tree bytes = (tree_levels tree ≤ most_levels) × (length bytes ≤ most_bytes)

-- The bytes are read as this very tree, exactly where they are within the limits.
abbrev pub ReadsAgain : Tree → List ℕ → Type 0
ReadsAgain tree bytes = (IsTextOf bytes tree) ↔ (IsWithinLimits tree bytes)

-- a number whose text is one number and has it as its value
abbrev pub IsSpelled : Number → Type 0
IsSpelled n = (number_length (text_of n) ≡ length (text_of n)) × (number_value (text_of n) ≡ Some n)

-- What each tree of the program has: numbers that their texts spell, texts of UTF-8, and in each map keys that differ.
abbrev mutual
  pub IsSound : Tree → Type 0
  IsSound null = Unit {0}
  IsSound (truth b) = Unit {0}
  IsSound (number n) = IsSpelled n
  IsSound (text s) = IsUtf8 s
  IsSound (list ts) = AreSound ts
  IsSound (mapping ps) = HaveDistinctKeys (pair_list ps) × HaveSound ps

  -- all trees of a list have it
  pub AreSound : Trees → Type 0
  AreSound no_trees = Unit {0}
  AreSound (a_tree t ts) = IsSound t × AreSound ts

  -- all pairs have it, and their keys are UTF-8
  pub HaveSound : Pairs → Type 0
  HaveSound no_pairs = Unit {0}
  HaveSound (a_pair k t ps) = IsUtf8 k × IsSound t × HaveSound ps
