-- What the calls below the top call answer.
use Rattle.std.specs.Prelude.{◌≡◌, ℕ, List, [], Option, Result, Ok, Err, IfErr}
use Rattle.info_tree.specs.Tree.{Tree as Plain}
use Rattle.info_item.specs.Item.{Item as PlainItem}
use Rattle.info_item.specs.Items.{items_of}
use Rattle.job_plan.specs.Plan.{Job, Entry}
use Rattle.word_list.specs.Options.{PlanOptions}
use Rattle.ytdl_core.specs.declared.run_fault.InfoFault.{InfoFault}
use Rattle.ytdl_core.specs.declared.run_fault.InfoFault.TheVariants.{Tree, Item}
use Rattle.ytdl_core.specs.declared.run_fault.RunFault.{RunFault}
use Rattle.ytdl_core.specs.declared.run_fault.RunFault.TheVariants.{Options as Words, Info, InfoRead, Write, OutOfMemory}
use Rattle.ytdl_core.specs.Entries.{AreEntriesOf}
use Rattle.ytdl_core.specs.Information.{HaveItems, HaveFault}
use Rattle.ytdl_core.specs.Lines.{Sends}
use Rattle.ytdl_core.specs.Origin.{Origin, of_words, of_source, of_information, of_sink, of_memory, origin_of}
use Rattle.ytdl_core.specs.Outside.{File}
use Rattle.ytdl_core.specs.Run.{IsOfFault, IsOfItems, Leaves, SendsFront}

-- the highest number that words give the first entry
abbrev pub highest_number : ℕ
highest_number = 1000000000000000

-- a sink failed, or memory ran out
abbrev pub ComesOfSinks : Origin → Type 0
ComesOfSinks of_words = ⊥
ComesOfSinks of_source = ⊥
ComesOfSinks of_information = ⊥
ComesOfSinks (of_sink which) = Unit {0}
ComesOfSinks of_memory = Unit {0}

-- the fault is that of a sink, or want of memory
abbrev pub IsSinkFault : RunFault → Type 0
IsSinkFault fault = ComesOfSinks (origin_of fault)

-- the fault is one of information of which this holds, or want of memory
abbrev pub IsInfoFault : (InfoFault → Type 0) → RunFault → Type 0
IsInfoFault Holds (Words word option) = ⊥
IsInfoFault Holds (Info fault) = Holds fault
IsInfoFault Holds InfoRead = ⊥
IsInfoFault Holds (Write which) = ⊥
IsInfoFault Holds OutOfMemory = Unit {0}

-- the bytes have this fault, or memory ran out
abbrev pub IsFaultOfBytes : List ℕ → RunFault → Type 0
IsFaultOfBytes bytes fault = IsInfoFault (HaveFault bytes) fault

-- The tree has this fault of its items.
abbrev pub HasFault : Plain → InfoFault → Type 0
HasFault tree (Tree fault) = ⊥
HasFault tree (Item fault) = items_of tree ≡ Err fault

-- the tree has this fault, or memory ran out
abbrev pub IsFaultOfTree : Plain → RunFault → Type 0
IsFaultOfTree tree fault = IsInfoFault (HasFault tree) fault

-- The entries are those of the items that the tree has, as words ask for them.
pub record HasEntries (entries : List (Entry Job)) (plan : PlanOptions) (tree : Plain) : Type 0 where
  pub items : List PlainItem
  pub has : items_of tree ≡ Ok items
  pub are : AreEntriesOf plan items entries

-- A fault that is answered is that of the bytes, and one that they have is answered, unless memory ran out.
pub record IsExactOf {T : Type 0} (bytes : List ℕ) (result : Result T RunFault) : Type 0 where
  pub info : IfErr result (IsFaultOfBytes bytes)
  pub faults : (fault : InfoFault) → HaveFault bytes fault → IsOfFault fault result
  pub items : (items : List PlainItem) → HaveItems bytes items → IsOfItems result

-- What an answer leaves in the sinks before a fault's own line: nothing, or a front of what is said of entries.
abbrev pub IsUntold : (words : List (List ℕ)) (told : Option File) (out out_now err err_now : Option (List ℕ)) → RunFault → Type 0
IsUntold words told out out_now err err_now fault =
    Leaves (Sends [] out out_now err err_now) (SendsFront words told out out_now err err_now) (Sends [] out out_now err err_now) (origin_of fault)
