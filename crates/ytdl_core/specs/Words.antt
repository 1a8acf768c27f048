-- What words ask of the program: the fault of the first word that has one, or a command that is built.
use Rattle.std.specs.Prelude.{◌≡◌, ℕ, List, length, Result, Ok}
use Rattle.std.specs.Option.{ok_or}
use Rattle.word_list.specs.declared.fault.OptionFault.TheVariants.{NotBuilt}
use Rattle.word_list.specs.declared.fault.WordsFault.{WordsFault}
use Rattle.word_list.specs.declared.fault.WordsFault.TheVariants.{Bad}
use Rattle.word_list.specs.Faults.{result_and_then}
use Rattle.word_list.specs.Options.{Options}
use Rattle.word_list.specs.Words as all
use Rattle.ytdl_core.specs.Built.{Command, command_of}

-- the command that options ask for, where it is built; what is not built is told at the number of words
abbrev pub built : ℕ → Options → Result Command WordsFault
built total options = ok_or (command_of options) (Bad total NotBuilt)

-- what all the words ask for
unfoldable pub words_of : List (List ℕ) → Result Command WordsFault
words_of words = result_and_then (all.words_of words) (built (length words))

-- the words ask for this command
abbrev pub Asks : List (List ℕ) → Command → Type 0
Asks words command = words_of words ≡ Ok command
