-- What the top call answers, and what it leaves in the sinks.
use Rattle.std.specs.Prelude.{◌≡◌, ◌≢◌, ◌⊎◌, ℕ, ◌+◌, ◌≤◌, List, [], drop, Bool, true, Option, Some, IfSome, Result, Ok, Err, IsErrOf, IsOk}
use Rattle.std.specs.Io.KnownBytes.{Appends}
use Rattle.text_base.specs.Causes.{Rose}
use Rattle.info_tree.specs.Reading.{most_bytes}
use Rattle.info_item.specs.Item.{Item}
use Rattle.job_plan.specs.Plan.{Job, Entry}
use Rattle.word_list.specs.declared.fault.OptionFault.{OptionFault}
use Rattle.word_list.specs.declared.fault.WordsFault.TheVariants.{Bad}
use Rattle.ytdl_core.specs.declared.report.JobEnd.{JobEnd}
use Rattle.ytdl_core.specs.declared.report.Report.{Report}
use Rattle.ytdl_core.specs.declared.run_fault.InfoFault.{InfoFault}
use Rattle.ytdl_core.specs.declared.run_fault.RunFault.{RunFault}
use Rattle.ytdl_core.specs.declared.run_fault.RunFault.TheVariants.{Options as Words, Info, InfoRead, Write, OutOfMemory}
use Rattle.ytdl_core.specs.declared.run_fault.Which.{Which}
use Rattle.ytdl_core.specs.Built.{Command}
use Rattle.ytdl_core.specs.Information.{HaveItems, HaveFault, HaveEntries}
use Rattle.ytdl_core.specs.Lines.{Sends, SendsSome, said}
use Rattle.ytdl_core.specs.Origin.{Origin, of_words, of_source, of_information, of_sink, of_memory, origin_of}
use Rattle.ytdl_core.specs.Outside.{File, AppendsFront}
use Rattle.ytdl_core.specs.Report.{Fits}
use Rattle.ytdl_core.specs.Texts.{fault_line}
use Rattle.ytdl_core.specs.Words.{Asks, words_of}

-- where the source tells its file, that is the file that the command names, and its bytes are so
abbrev pub OfFile : Command → Option File → (List ℕ → Type 0) → Type 0
OfFile command told AreSo = IfSome told (λ file. (file.name ≡ command.info) × AreSo file.bytes)

-- The file that the words name has this fault, where the source tells it.
pub record OfFaultyFile (words : List (List ℕ)) (told : Option File) (fault : InfoFault) : Type 0 where
  pub command : Command
  pub asks : Asks words command
  pub file : OfFile command told (λ bytes. HaveFault bytes fault)

-- The word that is blamed is the first at fault, and words with a fault are blamed, unless memory ran out.
-- Where a word is blamed, the source and standard output are as they were.
pub record IsOfWords {T I O : Type 0} (words : List (List ℕ)) (info info_now : I) (out out_now : O) (result : Result T RunFault) : Type 0 where
  pub blamed : (word : ℕ) (fault : OptionFault) → result ≡ Err (Words word fault) → words_of words ≡ Err (Bad word fault)
  pub answered : (word : ℕ) (fault : OptionFault) → words_of words ≡ Err (Bad word fault) →
      (result ≡ Err (Words word fault)) ⊎ (result ≡ Err OutOfMemory)
  pub untouched : (word : ℕ) (fault : OptionFault) → result ≡ Err (Words word fault) → (info_now ≡ info) × (out_now ≡ out)

-- The entries that words ask for of the file that the source tells, with ends that fit them.
pub record AreEnded (words : List (List ℕ)) (told : Option File) (command : Command) (entries : List (Entry Job)) (ends : List JobEnd) : Type 0 where
  pub asks : Asks words command
  pub are : OfFile command told (HaveEntries entries command.plan)
  pub fit : Fits entries ends

-- A report has the ends of the entries, and all was written that is said of them.
pub record IsReported (words : List (List ℕ)) (told : Option File) (out out_now err err_now : Option (List ℕ)) (report : Report) : Type 0 where
  pub command : Command
  pub entries : List (Entry Job)
  pub ended : AreEnded words told command entries report.ends.items
  pub lines : Sends (said command.quiet entries report.ends.items) out out_now err err_now

-- the information was not judged yet: the source failed, or memory ran out
abbrev pub ComesBefore : Origin → Type 0
ComesBefore of_words = ⊥
ComesBefore of_source = Unit {0}
ComesBefore of_information = ⊥
ComesBefore (of_sink which) = ⊥
ComesBefore of_memory = Unit {0}

-- words and information are without a fault
abbrev pub ComesBeside : Origin → Type 0
ComesBeside of_words = ⊥
ComesBeside of_source = Unit {0}
ComesBeside of_information = ⊥
ComesBeside (of_sink which) = Unit {0}
ComesBeside of_memory = Unit {0}

-- an answer where the bytes have this fault
abbrev pub IsOfFault : {T : Type 0} → InfoFault → Result T RunFault → Type 0
IsOfFault fault (Ok value) = ⊥
IsOfFault fault (Err answer) = (answer ≡ Info fault) ⊎ ComesBefore (origin_of answer)

-- an answer where the bytes have items
abbrev pub IsOfItems : {T : Type 0} → Result T RunFault → Type 0
IsOfItems (Ok value) = Unit {0}
IsOfItems (Err answer) = ComesBeside (origin_of answer)

-- A fault that is answered is that of the file, and one that the file has is answered, unless the read failed or memory ran out.
pub record IsExact (words : List (List ℕ)) (told : Option File) (result : Result Report RunFault) : Type 0 where
  pub info : (fault : InfoFault) → result ≡ Err (Info fault) → OfFaultyFile words told fault
  pub faults : (command : Command) → Asks words command →
      IfSome told (λ file. (fault : InfoFault) → HaveFault file.bytes fault → IsOfFault fault result)
  pub items : (command : Command) → Asks words command →
      IfSome told (λ file. (items : List Item) → HaveItems file.bytes items → IsOfItems result)

-- What was written is a front of what is said of the entries, in their order.
pub record SendsFront (words : List (List ℕ)) (told : Option File) (out out_now err err_now : Option (List ℕ)) : Type 0 where
  pub command : Command
  pub entries : List (Entry Job)
  pub ends : List JobEnd
  pub ended : AreEnded words told command entries ends
  pub front : SendsSome (said command.quiet entries ends) out out_now err err_now

-- Nothing was written but the line of a fault to standard error, whole unless that sink failed or was out of memory.
pub record SendsLine (line : List ℕ) (out out_now err err_now : Option (List ℕ)) (faults faults_now refusals refusals_now : ℕ) : Type 0 where
  pub nothing : Appends out out_now []
  pub front : AppendsFront err err_now line
  pub whole : Appends err err_now line ⊎ (Rose faults faults_now ⊎ Rose refusals refusals_now)

-- what is left in the sinks by a fault of this origin, by what its line and what a front of the lines would leave, and by what nothing would
abbrev pub Leaves : (line front nothing : Type 0) → Origin → Type 0
Leaves line front nothing of_words = line
Leaves line front nothing of_source = line
Leaves line front nothing of_information = line
Leaves line front nothing (of_sink which) = front
Leaves line front nothing of_memory = nothing ⊎ front

-- What a fault leaves in the sinks: its own line; or, of a sink that failed and of want of memory, nothing but a front of what is said of entries.
abbrev pub IsTold : (words : List (List ℕ)) (told : Option File) (out out_now err err_now : Option (List ℕ)) (faults faults_now refusals refusals_now : ℕ) → RunFault → Type 0
IsTold words told out out_now err err_now faults faults_now refusals refusals_now fault =
    Leaves (SendsLine (fault_line fault) out out_now err err_now faults faults_now refusals refusals_now)
    (SendsFront words told out out_now err err_now) (Sends [] out out_now err err_now) (origin_of fault)

-- how far the source was read: to its end before a sink is used, and to one byte more than may be read before information is refused
abbrev pub IsReadBy : Option File → Option (List ℕ) → Origin → Type 0
IsReadBy told left of_words = Unit {0}
IsReadBy told left of_source = Unit {0}
IsReadBy told left of_information = IfSome told (λ file. left ≡ Some (drop (most_bytes + 1) file.bytes))
IsReadBy told left (of_sink which) = IfSome told (λ file. left ≡ Some [])
IsReadBy told left of_memory = Unit {0}

-- how far the source was read: to its end, where there is a report
abbrev pub IsRead : Option File → Option (List ℕ) → Result Report RunFault → Type 0
IsRead told left (Ok report) = IfSome told (λ file. left ≡ Some [])
IsRead told left (Err fault) = IsReadBy told left (origin_of fault)

-- The source is said to have failed exactly where it has, and a steady one only where it does not hold the file that the words name.
pub record SourceFails (words : List (List ℕ)) (told : Option File) (is_steady : Bool) (faults faults_now : ℕ) (result : Result Report RunFault) : Type 0 where
  pub later : faults ≤ faults_now
  pub rose : IsErrOf result InfoRead → Rose faults faults_now
  pub kept : result ≢ Err InfoRead → faults_now ≡ faults
  pub steady : IsErrOf result InfoRead → is_steady ≡ true →
      (command : Command) → Asks words command → IfSome told (λ file. file.name ≢ command.info)

-- A sink is said to have failed only where it has, and a steady one never. A report, and want of memory, come only where it has not.
pub record SinkFails {T : Type 0} (which : Which) (is_steady : Bool) (faults faults_now : ℕ) (result : Result T RunFault) : Type 0 where
  pub later : faults ≤ faults_now
  pub rose : IsErrOf result (Write which) → Rose faults faults_now
  pub kept : IsOk result → faults_now ≡ faults
  pub kept_memory : result ≡ Err OutOfMemory → faults_now ≡ faults
  pub steady : IsErrOf result (Write which) → is_steady ≡ true → ⊥
