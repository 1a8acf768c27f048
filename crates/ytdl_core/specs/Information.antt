-- What the bytes of an information file have: items, or a fault.
use Rattle.std.specs.Prelude.{◌≡◌, ◌≢◌, ℕ, List, Ok, Err}
use Rattle.info_tree.specs.Tree.{Tree as Plain}
use Rattle.info_tree.specs.Reading.{IsTextOf, Has}
use Rattle.info_tree.specs.declared.tree_fault.TreeFault.TheVariants as tree
use Rattle.info_item.specs.Item.{Item as PlainItem}
use Rattle.info_item.specs.Items.{items_of}
use Rattle.info_item.specs.declared.item_fault.ItemFault.{ItemFault}
use Rattle.job_plan.specs.Plan.{Job, Entry}
use Rattle.word_list.specs.Options.{PlanOptions}
use Rattle.ytdl_core.specs.declared.run_fault.InfoFault.{InfoFault}
use Rattle.ytdl_core.specs.declared.run_fault.InfoFault.TheVariants.{Tree, Item}
use Rattle.ytdl_core.specs.Entries.{AreEntriesOf}

-- The bytes have these items.
pub record HaveItems (bytes : List ℕ) (items : List PlainItem) : Type 0 where
  pub tree : Plain
  pub is_text : IsTextOf bytes tree
  pub are_items : items_of tree ≡ Ok items

-- The tree that the bytes are the text of has this fault.
pub record HaveItemFault (bytes : List ℕ) (fault : ItemFault) : Type 0 where
  pub tree : Plain
  pub is_text : IsTextOf bytes tree
  pub has_fault : items_of tree ≡ Err fault

-- The bytes have this fault. Want of memory is none.
abbrev pub HaveFault : List ℕ → InfoFault → Type 0
HaveFault bytes (Tree fault) = Has bytes fault × (fault ≢ tree.OutOfMemory)
HaveFault bytes (Item fault) = HaveItemFault bytes fault

-- The entries are those of the items that the bytes have, as words ask for them.
pub record HaveEntries (entries : List (Entry Job)) (plan : PlanOptions) (bytes : List ℕ) : Type 0 where
  pub items : List PlainItem
  pub have : HaveItems bytes items
  pub are : AreEntriesOf plan items entries
