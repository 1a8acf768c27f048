-- An information file has one reading: its items, or its fault.
use Rattle.std.proofs.Common.{◌≡◌, ◌≢◌, ◌⊎◌, ℕ, List, ap, inl, inr}
use Rattle.std.specs.Prelude.{Result, Ok, Err, IfOk, IfErr}
use Rattle.info_tree.specs.Tree.{Tree as Plain}
use Rattle.info_tree.specs.Reading.{IsTextOf, Has}
use Rattle.info_tree.specs.declared.tree_fault.TreeFault.{TreeFault}
use Rattle.info_tree.specs.declared.tree_fault.TreeFault.TheVariants as tree
use Rattle.info_item.specs.Item.{Item as PlainItem}
use Rattle.info_item.specs.Items.{items_of}
use Rattle.info_item.specs.Formats.{IsFaultOf}
use Rattle.info_item.specs.declared.item_fault.ItemFault.{ItemFault}
use Rattle.info_item.specs.declared.item_fault.ItemFault.TheVariants as item
use Rattle.ytdl_core.specs.declared.run_fault.InfoFault.{InfoFault}
use Rattle.ytdl_core.specs.declared.run_fault.InfoFault.TheVariants.{Tree, Item}
use Rattle.ytdl_core.specs.declared.run_fault.RunFault.{RunFault}
use Rattle.ytdl_core.specs.declared.run_fault.RunFault.TheVariants.{Options, Info, InfoRead, Write, OutOfMemory}
use Rattle.ytdl_core.specs.Faults.{of_tree, of_items}
use Rattle.job_plan.specs.Plan.{Job, Entry}
use Rattle.word_list.specs.Options.{PlanOptions}
use Rattle.ytdl_core.specs.Information.{HaveEntries, HaveItems, HaveFault}
use Rattle.ytdl_core.specs.Run.{IsOfFault, IsOfItems}
use Rattle.ytdl_core.specs.Steps.{HasEntries, IsFaultOfTree, IsExactOf, IsFaultOfBytes}

tree_told : (bytes : List ℕ) (e : TreeFault) → Has bytes e → IsFaultOfBytes bytes (of_tree e)
tree_told bytes (tree.Syntax at) has = (has, λ e. cc e)
tree_told bytes (tree.Depth at) has = (has, λ e. cc e)
tree_told bytes (tree.Number at fault) has = (has, λ e. cc e)
tree_told bytes (tree.NotUtf8 at) has = (has, λ e. cc e)
tree_told bytes tree.TooLong has = (has, λ e. cc e)
tree_told bytes tree.OutOfMemory has = tt

same_tree : (T : Type 0) (e f : TreeFault) → (e ≡ f) ⊎ (e ≡ tree.OutOfMemory) ⊎ (f ≡ tree.OutOfMemory) → f ≢ tree.OutOfMemory →
    IsOfFault {T = T} (Tree f) (Err (of_tree e))
same_tree T (tree.Syntax at) f (inl is) not_memory = inl (ap (λ t. Info (Tree t)) is)
same_tree T (tree.Syntax at) f (inr (inl is)) not_memory = cc is
same_tree T (tree.Syntax at) f (inr (inr is)) not_memory = absurd (not_memory is)
same_tree T (tree.Depth at) f (inl is) not_memory = inl (ap (λ t. Info (Tree t)) is)
same_tree T (tree.Depth at) f (inr (inl is)) not_memory = cc is
same_tree T (tree.Depth at) f (inr (inr is)) not_memory = absurd (not_memory is)
same_tree T (tree.Number at fault) f (inl is) not_memory = inl (ap (λ t. Info (Tree t)) is)
same_tree T (tree.Number at fault) f (inr (inl is)) not_memory = cc is
same_tree T (tree.Number at fault) f (inr (inr is)) not_memory = absurd (not_memory is)
same_tree T (tree.NotUtf8 at) f (inl is) not_memory = inl (ap (λ t. Info (Tree t)) is)
same_tree T (tree.NotUtf8 at) f (inr (inl is)) not_memory = cc is
same_tree T (tree.NotUtf8 at) f (inr (inr is)) not_memory = absurd (not_memory is)
same_tree T tree.TooLong f (inl is) not_memory = inl (ap (λ t. Info (Tree t)) is)
same_tree T tree.TooLong f (inr (inl is)) not_memory = cc is
same_tree T tree.TooLong f (inr (inr is)) not_memory = absurd (not_memory is)
same_tree T tree.OutOfMemory f same not_memory = inr tt

-- the bytes have no tree but by their fault
pub exact_tree : {T : Type 0} (bytes : List ℕ) (e : TreeFault) → Has bytes e →
    ((t : Plain) → IsTextOf bytes t → e ≡ tree.OutOfMemory) → ((f : TreeFault) → Has bytes f → (e ≡ f) ⊎ (e ≡ tree.OutOfMemory) ⊎ (f ≡ tree.OutOfMemory)) →
    IsExactOf {T = T} bytes (Err (of_tree e))
exact_tree {T} bytes e has only exact = record {
  info = tree_told bytes e has;
  faults = faults;
  items = λ items have. rw (only have.tree have.is_text) tt;
} where
  faults : (fault : InfoFault) → HaveFault bytes fault → IsOfFault {T = T} fault (Err (of_tree e))
  faults (Tree f) have = same_tree T e f (exact f have.0) have.1
  faults (Item f) have = rw (only have.tree have.is_text) (inr tt)

items_told : (t : Plain) (e : ItemFault) → IsFaultOf (items_of t) e → IsFaultOfTree t (of_items e)
items_told t (item.NotItem k) has = has
items_told t (item.NoId k) has = has
items_told t (item.NoFormats k) has = has
items_told t (item.FormatId k j) has = has
items_told t item.OutOfMemory has = tt

-- a fault of the items as the tree has it
pub told_by_items : (t : Plain) (e : ItemFault) (told : RunFault) → told ≡ of_items e → IsFaultOf (items_of t) e → IsFaultOfTree t told
told_by_items t e told is has = rw is (items_told t e has)

-- What an answer for a tree is for the bytes that it is the tree of.
module _ (T : Type 0) (bytes : List ℕ) (t : Plain) (text : IsTextOf bytes t) (only : (other : Plain) → IsTextOf bytes other → t ≡ other)
    (exact : (f : TreeFault) → Has bytes f → f ≡ tree.OutOfMemory) where
  told : (e : RunFault) → IsFaultOfTree t e → IsFaultOfBytes bytes e
  told (Options word option) has = has
  told (Info (Tree f)) has = absurd has
  told (Info (Item f)) has = record { tree = t; is_text = text; has_fault = has }
  told InfoRead has = has
  told (Write which) has = has
  told OutOfMemory has = tt

  its_fault : (e : RunFault) → IsFaultOfTree t e → (fault : InfoFault) → HaveFault bytes fault → IsOfFault {T = T} fault (Err e)
  its_fault (Options word option) has fault have = absurd has
  its_fault (Info (Tree f)) has fault have = absurd has
  its_fault (Info (Item f)) has (Tree g) have = absurd (have.1 (exact g have.0))
  its_fault (Info (Item f)) has (Item g) have =
      let other : items_of t ≡ Err g = rw (← only have.tree have.is_text) at have.has_fault in
      inl (ap (λ i. Info (Item i)) (cc (has, other)))
  its_fault InfoRead has fault have = absurd has
  its_fault (Write which) has fault have = absurd has
  its_fault OutOfMemory has fault have = inr tt

  its_items : (e : RunFault) → IsFaultOfTree t e → (items : List PlainItem) → HaveItems bytes items → IsOfItems {T = T} (Err e)
  its_items (Options word option) has items have = has
  its_items (Info (Tree f)) has items have = has
  its_items (Info (Item f)) has items have =
      let other : items_of t ≡ Ok items = rw (← only have.tree have.is_text) at have.are_items in
      cc (has, other)
  its_items InfoRead has items have = tt
  its_items (Write which) has items have = tt
  its_items OutOfMemory has items have = tt

  no_fault : (items : List PlainItem) → items_of t ≡ Ok items → (fault : InfoFault) → HaveFault bytes fault → ⊥
  no_fault items is (Tree f) have = have.1 (exact f have.0)
  no_fault items is (Item f) have =
      let other : items_of t ≡ Err f = rw (← only have.tree have.is_text) at have.has_fault in
      cc (is, other)

  pub exact_by_tree : (r : Result T RunFault) → IfOk r (λ _. (items : List PlainItem) × (items_of t ≡ Ok items)) →
      IfErr r (IsFaultOfTree t) → IsExactOf bytes r
  exact_by_tree (Ok value) ok err = record { info = tt; faults = no_fault ok.0 ok.1; items = λ items have. tt }
  exact_by_tree (Err e) ok err = record { info = told e err; faults = its_fault e err; items = its_items e err }

-- the entries of the tree are those of the bytes
pub entries_by_tree : {T : Type 0} (view : T → List (Entry Job)) (plan : PlanOptions) (bytes : List ℕ) (t : Plain) (r : Result T RunFault) →
    IsTextOf bytes t → IfOk r (λ v. HasEntries (view v) plan t) → IfOk r (λ v. HaveEntries (view v) plan bytes)
entries_by_tree view plan bytes t (Ok v) text has = record {
  items = has.items;
  have = record { tree = t; is_text = text; are_items = has.has };
  are = has.are;
}
entries_by_tree view plan bytes t (Err e) text has = tt

pub items_by_tree : {T : Type 0} (view : T → List (Entry Job)) (plan : PlanOptions) (t : Plain) (r : Result T RunFault) →
    IfOk r (λ v. HasEntries (view v) plan t) → IfOk r (λ _. (items : List PlainItem) × (items_of t ≡ Ok items))
items_by_tree view plan t (Ok v) has = (has.items, has.has)
items_by_tree view plan t (Err e) has = tt
