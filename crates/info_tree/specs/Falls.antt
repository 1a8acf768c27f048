-- A list or a map is larger than each of its members.
use Rattle.std.specs.Prelude.{◌≡◌, ◌≤◌, ◌*◌, ◌+◌, ℕ, Option, Some, None, Box, List, [], ◌∷◌, map, max, length}
use Rattle.std.specs.List.{zip}
use Rattle.std.proofs.Common.{arith}
use denote.Param.Weighed.{most}
use Rattle.info_tree.specs.Tree.{trees_of, pairs_of, trees_size, pairs_size, tree_size}
use Rattle.info_tree.specs.declared.tree.Tree.{Tree}
use Rattle.info_tree.specs.declared.tree.Tree.TheVariants.{Null, Bool, Num, Text, List as Items, Map}
use Rattle.info_tree.specs.declared.members.Members.TheDeep.{deep-Tree, deep-TreeMap}
use Rattle.info_tree.specs.declared.tree.TreeMap.TheInside.{Inside}
use Rattle.info_tree.specs.Plain.{plain}
use Rattle.info_tree.specs.Members.{members_of}
use Rattle.std.specs.declared.alloc.Global.{Global}
use Rattle.info_tree.specs.Tree.{Tree as Plain}

-- a tree is as deep as twice its size at most
deep_le-size : (t : Tree) → deep-Tree t ≤ 2 * tree_size (plain t)
deep_le-size Null = omega arith
deep_le-size (Bool b) = omega arith
deep_le-size (Num n) = omega arith
deep_le-size (Text s) = omega arith
deep_le-size (Items ts) = omega arith
deep_le-size (Map ps) = omega arith

-- so is each of a list of trees
most_le-size : (ts : List Tree) → most deep-Tree ts ≤ 2 * trees_size (trees_of (map plain ts))
most_le-size [] = omega arith
most_le-size (t ∷ ts) = omega (arith, deep_le-size t, most_le-size ts)

-- and each of the values of a map
most_le-pairs : (ks : List (List ℕ)) (ts : List Tree) → length ks ≡ length ts →
    most deep-Tree ts ≤ 2 * pairs_size (pairs_of (zip ks (map plain ts)))
most_le-pairs [] [] h = omega arith
most_le-pairs [] (t ∷ ts) h = absurd (omega (arith, h))
most_le-pairs (k ∷ ks) [] h = omega arith
most_le-pairs (k ∷ ks) (t ∷ ts) h =
    let same : length ks ≡ length ts = omega (arith, h) in
    omega (arith, deep_le-size t, most_le-pairs ks ts same)

-- a list is larger than each of its trees
pub depth_le-trees_size : (ts : List Tree) → max (most deep-Tree ts) 0 ≤ 2 * trees_size (trees_of (map plain ts))
depth_le-trees_size ts = omega (arith, most_le-size ts)

-- pairs are larger than each of their values
pub depth_le-pairs_size : (ks : List (List ℕ)) (ts : List Tree) → length ks ≡ length ts →
    max (most deep-Tree ts) 0 ≤ 2 * pairs_size (pairs_of (zip ks (map plain ts)))
depth_le-pairs_size ks ts h = omega (arith, most_le-pairs ks ts h)

-- a map is as deep as its pairs
depth_at : (g : Global) (o : Option (Box (List (List ℕ × Plain)) Global)) → deep-TreeMap (record { alloc = g; members = o }) ≤ 2 * pairs_size (pairs_of (members_of o)) + 1
depth_at g None = omega arith
depth_at g (Some b) = omega arith

-- a map is larger than each of its values
pub depth_le-members : (a : Inside) → deep-TreeMap a ≤ 2 * pairs_size (pairs_of (members_of a.members)) + 1
depth_le-members a = depth_at a.alloc a.members
