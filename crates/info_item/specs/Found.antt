-- The tree that was found.
use Rattle.info_tree.specs.Tree.{Tree as Plain}
use Rattle.info_tree.specs.Plain.{plain}
use Rattle.info_item.specs.declared.found.Found.{Found}
use Rattle.info_item.specs.declared.found.Found.TheVariants.{Lent, Made}

-- the tree that was found
abbrev pub tree_of : Found → Plain
tree_of (Lent t) = plain t.now
tree_of (Made t) = plain t
