-- A fault of the tree or of the items as a fault of the call: want of memory stands by itself.
use Rattle.info_tree.specs.declared.tree_fault.TreeFault.{TreeFault}
use Rattle.info_tree.specs.declared.tree_fault.TreeFault.TheVariants as tree
use Rattle.info_item.specs.declared.item_fault.ItemFault.{ItemFault}
use Rattle.info_item.specs.declared.item_fault.ItemFault.TheVariants as item
use Rattle.ytdl_core.specs.declared.run_fault.InfoFault.TheVariants.{Tree, Item}
use Rattle.ytdl_core.specs.declared.run_fault.RunFault.{RunFault}
use Rattle.ytdl_core.specs.declared.run_fault.RunFault.TheVariants.{Info, OutOfMemory}

-- a fault of reading the tree
abbrev pub of_tree : TreeFault → RunFault
of_tree (tree.Syntax at) = Info (Tree (tree.Syntax at))
of_tree (tree.Depth at) = Info (Tree (tree.Depth at))
of_tree (tree.Number at fault) = Info (Tree (tree.Number at fault))
of_tree (tree.NotUtf8 at) = Info (Tree (tree.NotUtf8 at))
of_tree tree.TooLong = Info (Tree tree.TooLong)
of_tree tree.OutOfMemory = OutOfMemory

-- a fault of reading the items
abbrev pub of_items : ItemFault → RunFault
of_items (item.NotItem k) = Info (Item (item.NotItem k))
of_items (item.NoId k) = Info (Item (item.NoId k))
of_items (item.NoFormats k) = Info (Item (item.NoFormats k))
of_items (item.FormatId k j) = Info (Item (item.FormatId k j))
of_items item.OutOfMemory = OutOfMemory
