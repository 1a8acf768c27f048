-- What each fault is told as: one text for each. Items, words and formats are counted from 1 there, bytes from 0.
use Rattle.std.specs.Prelude.{ℕ, ◌+◌, List, [], ◌++◌, codes, decimal}
use Rattle.info_tree.specs.declared.tree_fault.TreeFault.{TreeFault}
use Rattle.info_tree.specs.declared.tree_fault.TreeFault.TheVariants as tree
use Rattle.info_item.specs.declared.item_fault.ItemFault.{ItemFault}
use Rattle.info_item.specs.declared.item_fault.ItemFault.TheVariants as item
use Rattle.job_plan.specs.declared.fault.JobFault.{JobFault}
use Rattle.job_plan.specs.declared.fault.JobFault.TheVariants as job
use Rattle.word_list.specs.declared.fault.OptionFault.{OptionFault}
use Rattle.word_list.specs.declared.fault.OptionFault.TheVariants as option
use Rattle.ytdl_core.specs.declared.run_fault.InfoFault.{InfoFault}
use Rattle.ytdl_core.specs.declared.run_fault.InfoFault.TheVariants.{Tree, Item}
use Rattle.ytdl_core.specs.declared.run_fault.RunFault.{RunFault}
use Rattle.ytdl_core.specs.declared.run_fault.RunFault.TheVariants.{Options as Words, Info, InfoRead, Write, OutOfMemory}

-- why the bytes are no tree
abbrev pub tree_text : TreeFault → List ℕ
tree_text (tree.Syntax at) = codes "bad JSON at byte " ++ decimal at
tree_text (tree.Depth at) = codes "too deep at byte " ++ decimal at
tree_text (tree.Number at fault) = codes "bad number at byte " ++ decimal at
tree_text (tree.NotUtf8 at) = codes "not UTF-8 at byte " ++ decimal at
tree_text tree.TooLong = codes "too long"
tree_text tree.OutOfMemory = []

-- why the tree has no items
abbrev pub item_text : ItemFault → List ℕ
item_text (item.NotItem k) = codes "item " ++ decimal (k + 1) ++ codes " is no map"
item_text (item.NoId k) = codes "item " ++ decimal (k + 1) ++ codes " has no id"
item_text (item.NoFormats k) = codes "item " ++ decimal (k + 1) ++ codes " has no formats"
item_text (item.FormatId k j) = codes "item " ++ decimal (k + 1) ++ codes " has a bad format"
item_text item.OutOfMemory = []

-- why the information file is refused
abbrev pub info_text : InfoFault → List ℕ
info_text (Tree fault) = tree_text fault
info_text (Item fault) = item_text fault

-- why a word is refused
abbrev pub option_text : OptionFault → List ℕ
option_text option.Unknown = codes "unknown option"
option_text option.NeedsValue = codes "value missing"
option_text option.BadValue = codes "bad value"
option_text (option.Selector fault) = codes "bad selector"
option_text (option.Sort fault) = codes "bad sort field"
option_text (option.Template fault) = codes "bad template"
option_text option.NoInfo = codes "no --load-info-json"
option_text option.Extra = codes "unexpected word"
option_text option.TakesNone = codes "takes no value"
option_text option.NotBuilt = codes "not built"

-- why there is no job
abbrev pub job_text : JobFault → List ℕ
job_text job.NoFormat = codes "requested format is not available"
job_text job.Fill = codes "filled text is too long"
job_text (job.Path fault) = codes "bad file name"
job_text job.NameLong = codes "file name is too long"
job_text (job.Clash other) = codes "file name is taken"
job_text (job.Pieces part) = codes "nothing to fetch"
job_text job.TooMany = codes "more than 10000 choices"

-- the line of a fault in the place of a job, by the place of its item
abbrev pub job_line : ℕ → JobFault → List ℕ
job_line place fault = codes "ERROR: item " ++ decimal (place + 1) ++ codes ": " ++ job_text fault ++ codes "\n"

-- the line of a fault of the run; a sink that failed and want of memory have none
abbrev pub fault_line : RunFault → List ℕ
fault_line (Words word fault) = codes "ERROR: word " ++ decimal (word + 1) ++ codes ": " ++ option_text fault ++ codes "\n"
fault_line (Info fault) = codes "ERROR: info: " ++ info_text fault ++ codes "\n"
fault_line InfoRead = codes "ERROR: info: reading failed\n"
fault_line (Write which) = []
fault_line OutOfMemory = []
