-- Information has the same items, or the same fault, by its first 67,108,865 bytes as by all of them.
use Rattle.std.proofs.Common.{◌≡◌, ◌⊎◌, ℕ, ◌+◌, ◌<◌, ◌≤◌, List, [], length, take, drop, sym, arith, inl, inr, subst, length-take}
use Rattle.std.specs.Prelude.{Option, Some, None, IfSome}
use Rattle.std.proofs.lemmas.Bool.{cases_order}
use Rattle.std.proofs.lemmas.List.{take_all}
use Rattle.std.proofs.Math.ListN.{drop_of_length-le}
use Rattle.info_tree.specs.Reading.{Has}
use Rattle.info_tree.specs.declared.tree_fault.TreeFault.{TreeFault}
use Rattle.info_tree.specs.declared.tree_fault.TreeFault.TheVariants as tree
use Rattle.info_item.specs.Item.{Item as PlainItem}
use Rattle.job_plan.specs.Plan.{Job, Entry}
use Rattle.word_list.specs.Options.{PlanOptions}
use Rattle.ytdl_core.specs.declared.run_fault.InfoFault.{InfoFault}
use Rattle.ytdl_core.specs.declared.run_fault.InfoFault.TheVariants.{Tree, Item}
use Rattle.ytdl_core.specs.Outside.{File}
use Rattle.ytdl_core.specs.Information.{HaveItems, HaveFault, HaveEntries}

-- information that is too long has no other fault
long_has : (a b : List ℕ) (f : TreeFault) → 67108864 < length a → 67108864 < length b → Has a f → Has b f
long_has a b (tree.Syntax at) long_a long_b has = absurd (omega (arith, long_a, has.0.short))
long_has a b (tree.Depth at) long_a long_b has = absurd (omega (arith, long_a, has.0.short))
long_has a b (tree.Number at fault) long_a long_b has = absurd (omega (arith, long_a, has.0.short))
long_has a b (tree.NotUtf8 at) long_a long_b has = absurd (omega (arith, long_a, has.0))
long_has a b tree.TooLong long_a long_b has = long_b
long_has a b tree.OutOfMemory long_a long_b has = tt

long_fault : (a b : List ℕ) (fault : InfoFault) → 67108864 < length a → 67108864 < length b → HaveFault a fault → HaveFault b fault
long_fault a b (Tree f) long_a long_b have = (long_has a b f long_a long_b have.0, have.1)
long_fault a b (Item f) long_a long_b have = absurd (omega (arith, long_a, have.is_text.short))

-- information is whole in what is read, or too long there too
whole_or_long : (most : ℕ) (bytes : List ℕ) →
    (take (most + 1) bytes ≡ bytes) ⊎ ((most < length bytes) × (most < length (take (most + 1) bytes)))
whole_or_long most bytes =
    elim (cases_order (length bytes) most) [
      | inl same ↦ inl (take_all (most + 1) bytes (omega arith))
      | inr other ↦ elim other [
        | inl less ↦ inl (take_all (most + 1) bytes (omega arith))
        | inr more ↦ inr (more, omega (arith, length-take (most + 1) bytes))
      ]
    ]

pub fault_of_whole : (bytes : List ℕ) (fault : InfoFault) → HaveFault (take 67108865 bytes) fault → HaveFault bytes fault
fault_of_whole bytes fault have =
    elim (whole_or_long 67108864 bytes) [
      | inl same ↦ subst (λ b. HaveFault b fault) same have
      | inr long ↦ long_fault (take 67108865 bytes) bytes fault long.1 long.0 have
    ]

pub fault_of_read : (bytes : List ℕ) (fault : InfoFault) → HaveFault bytes fault → HaveFault (take 67108865 bytes) fault
fault_of_read bytes fault have =
    elim (whole_or_long 67108864 bytes) [
      | inl same ↦ subst (λ b. HaveFault b fault) (sym same) have
      | inr long ↦ long_fault bytes (take 67108865 bytes) fault long.0 long.1 have
    ]

-- what was read is all, where it has items
pub all_read : (bytes : List ℕ) (items : List PlainItem) → HaveItems (take 67108865 bytes) items → take 67108865 bytes ≡ bytes
all_read bytes items have =
    elim (whole_or_long 67108864 bytes) [
      | inl same ↦ same
      | inr long ↦ absurd (omega (arith, long.1, have.is_text.short))
    ]

pub items_of_read : (bytes : List ℕ) (items : List PlainItem) → HaveItems bytes items → HaveItems (take 67108865 bytes) items
items_of_read bytes items have =
    subst (λ b. HaveItems b items) (sym (take_all 67108865 bytes (omega (arith, have.is_text.short)))) have

pub entries_of_whole : (entries : List (Entry Job)) (plan : PlanOptions) (bytes : List ℕ) →
    HaveEntries entries plan (take 67108865 bytes) → HaveEntries entries plan bytes
entries_of_whole entries plan bytes have = subst (λ b. HaveEntries entries plan b) (all_read bytes have.items have.have) have

-- nothing is left of information that has entries
pub nothing_left : (told : Option File) (left : Option (List ℕ)) (entries : List (Entry Job)) (plan : PlanOptions) (bytes : List ℕ) →
    IfSome told (λ file. (bytes ≡ take 67108865 file.bytes) × (left ≡ Some (drop 67108865 file.bytes))) →
    HaveEntries entries plan bytes → IfSome told (λ file. left ≡ Some [])
nothing_left None left entries plan bytes read have = tt
nothing_left (Some file) left entries plan bytes read have =
    let items : HaveItems (take 67108865 file.bytes) have.items = subst (λ b. HaveItems b have.items) read.0 have.have in
    let short : length (take 67108865 file.bytes) ≤ 67108864 = items.is_text.short in
    let none : drop 67108865 file.bytes ≡ [] =
    drop_of_length-le file.bytes {i = 67108865} (omega (arith, short, length-take 67108865 file.bytes)) in
    rw none at read.1
