-- Where a fault of a run comes from: the one table over all faults. The clauses ask for the origin alone.
use Rattle.ytdl_core.specs.declared.run_fault.Which.{Which}
use Rattle.ytdl_core.specs.declared.run_fault.RunFault.{RunFault}
use Rattle.ytdl_core.specs.declared.run_fault.RunFault.TheVariants.{Options, Info, InfoRead, Write, OutOfMemory}

-- what failed, in the order of a run: a word, the source, what it holds, a sink; or memory, which may run out at any time
pub data Origin : Type 0 where
  of_words : Origin
  of_source : Origin
  of_information : Origin
  of_sink : Which → Origin
  of_memory : Origin

-- the origin of each fault
abbrev pub origin_of : RunFault → Origin
origin_of (Options word fault) = of_words
origin_of (Info fault) = of_information
origin_of InfoRead = of_source
origin_of (Write which) = of_sink which
origin_of OutOfMemory = of_memory
