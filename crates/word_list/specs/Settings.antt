-- What words have set, and what uses of options set on top of it, one after the other, up to the first that is at fault.
use Rattle.std.specs.Prelude.{ℕ, List, [], ◌∷◌, Result, Ok}
use Rattle.word_list.specs.declared.fault.OptionFault.{OptionFault}
use Rattle.word_list.specs.declared.fault.WordsFault.{WordsFault}
use Rattle.word_list.specs.declared.fault.WordsFault.TheVariants.{Bad}
use Rattle.word_list.specs.declared.fetching.Fetching.{Fetching}
use Rattle.word_list.specs.declared.meaning.Flag.{Flag}
use Rattle.word_list.specs.declared.meaning.Flag.TheVariants as flags
use Rattle.word_list.specs.declared.meaning.Valued.{Valued}
use Rattle.word_list.specs.declared.meaning.Valued.TheVariants as values
use Rattle.word_list.specs.declared.naming.Naming.{Naming}
use Rattle.word_list.specs.declared.source.Source.{Source}
use Rattle.word_list.specs.Faults.{result_map, result_map_err, result_and_then}
use Rattle.word_list.specs.Groups as groups
use Rattle.word_list.specs.Uses.{Use, turned, given}

-- what words have set, in groups
pub record Settings : Type 0 where
  pub source : Source
  pub choosing : groups.Choosing
  pub naming : Naming
  pub showing : groups.Showing
  pub fetching : Fetching
  pub tools : groups.Tools

-- what stands before any word
abbrev pub no_settings : Settings
no_settings = record {
  source = groups.no_source;
  choosing = groups.no_choosing;
  naming = groups.no_naming;
  showing = groups.no_showing;
  fetching = groups.no_fetching;
  tools = groups.no_tools;
}

-- what a flag sets
abbrev pub turned_on : Flag → Settings → Settings
turned_on (flags.Choosing flag) s = record s { choosing = groups.choosing_turned flag s.choosing }
turned_on (flags.Naming flag) s = record s { naming = groups.naming_turned flag s.naming }
turned_on (flags.Showing flag) s = record s { showing = groups.showing_turned flag s.showing }
turned_on (flags.Fetching flag) s = record s { fetching = groups.fetching_turned flag s.fetching }
turned_on (flags.Tools flag) s = record s { tools = groups.tools_turned flag s.tools }

-- what a value sets, or its fault
abbrev pub value_given : Valued → List ℕ → Settings → Result Settings OptionFault
value_given (values.Source option) value s = result_map (λ g. record s { source = g }) (groups.source_given option value s.source)
value_given (values.Choosing option) value s = result_map (λ g. record s { choosing = g }) (groups.choosing_given option value s.choosing)
value_given (values.Naming option) value s = result_map (λ g. record s { naming = g }) (groups.naming_given option value s.naming)
value_given (values.Showing option) value s = result_map (λ g. record s { showing = g }) (groups.showing_given option value s.showing)
value_given (values.Fetching option) value s = result_map (λ g. record s { fetching = g }) (groups.fetching_given option value s.fetching)
value_given (values.Tools option) value s = result_map (λ g. record s { tools = g }) (groups.tools_given option value s.tools)

-- what one use sets; the fault of a value stands at the option's own word
abbrev pub used : Use → Settings → Result Settings WordsFault
used (turned flag) s = Ok (turned_on flag s)
used (given place option value) s = result_map_err (λ fault. Bad place fault) (value_given option value s)

-- what uses set, one after the other, or the fault of the first that has one
abbrev pub after : Settings → List Use → Result Settings WordsFault
after s [] = Ok s
after s (first ∷ rest) = result_and_then (used first s) (λ t. after t rest)
