-- What of the options that words ask for is built: runs over a file that download nothing.
use Rattle.std.specs.Prelude.{ℕ, List, Bool, ◌&&◌, Option, None, is_none, if◌then◌else◌}
use Rattle.std.specs.Option.{option_map}
use Rattle.word_list.specs.Options.{Options, PlanOptions}

-- a command that is built: the file of information, what is said of jobs, and whether nothing is said but what is printed
pub record Command : Type 0 where
  pub info : List ℕ
  pub plan : PlanOptions
  pub quiet : Bool

-- nothing is downloaded, and it is no self-test
abbrev pub is_built : Options → Bool
is_built options = options.simulate && is_none options.selftest

-- the command for a file of information
abbrev pub command_for : Options → List ℕ → Command
command_for options info = record { info = info; plan = options.plan; quiet = options.quiet }

-- the command that options ask for, where it is built
abbrev pub command_of : Options → Option Command
command_of options = if is_built options then option_map (command_for options) options.info else None
