-- The tree that a value of the program stands for.
use Rattle.info_tree.specs.Tree.{Tree as Plain, null, truth, number, text, list, mapping, trees_of, pairs_of}
use Rattle.text_base.specs.Number.{number_of}
use Rattle.info_tree.specs.declared.tree.Tree.{Tree}
use Rattle.info_tree.specs.declared.tree.Tree.TheVariants.{Null, Bool, Num, Text, List as Items, Map}

-- the tree that a value stands for, variant by variant
abbrev pub plain : Tree → Plain
plain Null = null
plain (Bool b) = truth b
plain (Num n) = number (number_of n)
plain (Text s) = text s
plain (Items ts) = list (trees_of ts)
plain (Map ps) = mapping (pairs_of ps)
