-- What words have set, in groups; and what each flag and each value sets on top of that. Of repeats the last stands, but sort words, prints
-- and commands are gathered.
use Rattle.std.specs.Prelude.{ℕ, ◌+◌, List, [], ◌∷◌, ◌++◌, length, Bool, true, false, not, ◌==◌, if◌then◌else◌, Option, Some, None, unwrap_or, Result, Ok, Err, codes}
use Rattle.fmt_sort.specs.Reading.{pieces_of, pieces_given, word_given}
use Rattle.fmt_sort.specs.Spec.{Given}
use Rattle.sel_lang.specs.Plain.{Plain}
use Rattle.tpl_lang.specs.declared.template.Part.{Part}
use Rattle.word_list.specs.declared.choosing.ChoosingFlag.{ChoosingFlag}
use Rattle.word_list.specs.declared.choosing.ChoosingFlag.TheVariants.{Force, Free, VideoStreams, AudioStreams}
use Rattle.word_list.specs.declared.choosing.ChoosingValue.{ChoosingValue}
use Rattle.word_list.specs.declared.choosing.ChoosingValue.TheVariants.{Format, Sort, Containers}
use Rattle.word_list.specs.declared.fault.OptionFault.{OptionFault}
use Rattle.word_list.specs.declared.fault.OptionFault.TheVariants.{BadValue, Sort as BadSort}
use Rattle.word_list.specs.declared.fetching.Fetching.{Fetching}
use Rattle.word_list.specs.declared.fetching.FetchingFlag.{FetchingFlag}
use Rattle.word_list.specs.declared.fetching.FetchingFlag.TheVariants.{Resume, NoArchive, BreakOnExisting, AbortOnError, AllFragments}
use Rattle.word_list.specs.declared.fetching.FetchingValue.{FetchingValue}
use Rattle.word_list.specs.declared.fetching.FetchingValue.TheVariants.{Workers, Retries, FragmentRetries, Archive}
use Rattle.word_list.specs.declared.naming.Naming.{Naming}
use Rattle.word_list.specs.declared.naming.NamingFlag.{NamingFlag}
use Rattle.word_list.specs.declared.naming.NamingFlag.TheVariants.{Restricted}
use Rattle.word_list.specs.declared.naming.NamingValue.{NamingValue}
use Rattle.word_list.specs.declared.naming.NamingValue.TheVariants.{Output, Placeholder, FirstNumber, Trim}
use Rattle.job_steps.specs.declared.rule.ExtRule.{ExtRule}
use Rattle.word_list.specs.declared.showing.ShowingFlag.{ShowingFlag}
use Rattle.word_list.specs.declared.showing.ShowingFlag.TheVariants.{Simulate, Quiet}
use Rattle.word_list.specs.declared.showing.ShowingValue.{ShowingValue}
use Rattle.word_list.specs.declared.showing.ShowingValue.TheVariants.{Print}
use Rattle.word_list.specs.declared.source.Source.{Source}
use Rattle.word_list.specs.declared.source.SourceValue.{SourceValue}
use Rattle.word_list.specs.declared.source.SourceValue.TheVariants.{Info, Selftest}
use Rattle.word_list.specs.declared.tools.ToolsFlag.{ToolsFlag}
use Rattle.word_list.specs.declared.tools.ToolsFlag.TheVariants.{Keep, ExtractAudio, NoExec}
use Rattle.word_list.specs.declared.tools.ToolsValue.{ToolsValue}
use Rattle.word_list.specs.declared.tools.ToolsValue.TheVariants.{Remux, AudioFormat, Exec, Program}
use Rattle.word_list.specs.Entries.{containers_of, audio_rules_of, remux_rules_of}
use Rattle.word_list.specs.Faults.{result_map, result_map_err}
use Rattle.word_list.specs.Values.{some_text, number_of, selector_of, template_by, print_of, command_of, archive_of}

-- which formats are chosen: the selector, the fields of the sort words, a later word's first, how many pieces these words have, whether they
-- come before all others, whether free formats are preferred, whether a merge may have several parts with video, or with audio, and its containers
pub record Choosing : Type 0 where
  pub sel : Option Plain
  pub given : List Given
  pub pieces : ℕ
  pub force : Bool
  pub free : Bool
  pub video : Bool
  pub audio : Bool
  pub containers : List (List ℕ)

-- what is printed for each entry, and whether words say that nothing is downloaded, and that nothing is said
pub record Showing : Type 0 where
  pub prints : List (List Part)
  pub simulate : Option Bool
  pub quiet : Option Bool

-- what is done with files: whether the files that others are made of are kept, what videos become, whether audio is extracted and what it
-- becomes, the commands for finished files, and the program
pub record Tools : Type 0 where
  pub keep : Bool
  pub remux : List ExtRule
  pub extracts : Bool
  pub audio : List ExtRule
  pub exec : List (List Part)
  pub program : List ℕ

-- no source is named
abbrev pub no_source : Source
no_source = record { info = None; selftest = None }

-- formats are chosen as they are without words
abbrev pub no_choosing : Choosing
no_choosing = record { sel = None; given = []; pieces = 0; force = false; free = false; video = false; audio = false; containers = [] }

-- names are made as they are without words
abbrev pub no_naming : Naming
no_naming = record { template = None; na = codes "NA"; first_number = 1; restricted = false; trim = 0 }

-- nothing is printed
abbrev pub no_showing : Showing
no_showing = record { prints = []; simulate = None; quiet = None }

-- one worker, ten more tries, no archive
abbrev pub no_fetching : Fetching
no_fetching = record {
  workers = 1;
  retries = 10;
  fragment_retries = 10;
  resume = true;
  archive = None;
  break_on_existing = false;
  abort_on_error = false;
}

-- nothing is done with files
abbrev pub no_tools : Tools
no_tools = record { keep = false; remux = []; extracts = false; audio = []; exec = []; program = codes "ffmpeg" }

-- what a flag of choosing sets
abbrev pub choosing_turned : ChoosingFlag → Choosing → Choosing
choosing_turned (Force on) c = record c { force = on }
choosing_turned (Free on) c = record c { free = on }
choosing_turned (VideoStreams on) c = record c { video = on }
choosing_turned (AudioStreams on) c = record c { audio = on }

-- what a flag of naming sets
abbrev pub naming_turned : NamingFlag → Naming → Naming
naming_turned (Restricted on) n = record n { restricted = on }

-- what a flag of showing sets
abbrev pub showing_turned : ShowingFlag → Showing → Showing
showing_turned (Simulate on) s = record s { simulate = Some on }
showing_turned (Quiet on) s = record s { quiet = Some on }

-- what a flag of fetching sets
abbrev pub fetching_turned : FetchingFlag → Fetching → Fetching
fetching_turned (Resume on) f = record f { resume = on }
fetching_turned NoArchive f = record f { archive = None }
fetching_turned (BreakOnExisting on) f = record f { break_on_existing = on }
fetching_turned (AbortOnError on) f = record f { abort_on_error = on }
fetching_turned AllFragments f = f

-- what a flag of tools sets
abbrev pub tools_turned : ToolsFlag → Tools → Tools
tools_turned (Keep on) t = record t { keep = on }
tools_turned ExtractAudio t = record t { extracts = true }
tools_turned NoExec t = record t { exec = [] }

-- what a value of the source sets, or its fault
abbrev pub source_given : SourceValue → List ℕ → Source → Result Source OptionFault
source_given Info value s = result_map (λ name. record s { info = Some name }) (some_text value)
source_given Selftest value s = result_map (λ n. record s { selftest = Some n }) (number_of 1 10000 value)

-- A sort word puts its fields before those of earlier ones, or has its first faulty piece; pieces are counted on from those of earlier words.
unfoldable pub sort_given : List ℕ → Choosing → Result Choosing OptionFault
sort_given word c =
    if length word == 0 then Err BadValue
    else result_map (λ _. record c { given = word_given word ++ c.given; pieces = c.pieces + length (pieces_of word) })
    (result_map_err BadSort (pieces_given c.pieces (pieces_of word)))

-- what a value of choosing sets, or its fault
abbrev pub choosing_given : ChoosingValue → List ℕ → Choosing → Result Choosing OptionFault
choosing_given Format value c = result_map (λ s. record c { sel = Some s }) (selector_of value)
choosing_given Sort value c = sort_given value c
choosing_given Containers value c = result_map (λ names. record c { containers = names }) (containers_of value)

-- what a value of naming sets, or its fault
abbrev pub naming_given : NamingValue → List ℕ → Naming → Result Naming OptionFault
naming_given Output value n = result_map (λ t. record n { template = Some t }) (template_by value)
naming_given Placeholder value n = Ok (record n { na = value })
naming_given FirstNumber value n = result_map (λ k. record n { first_number = k }) (number_of 0 1000000000000000 value)
naming_given Trim value n = result_map (λ k. record n { trim = k }) (number_of 0 4096 value)

-- what a value of showing sets, or its fault
abbrev pub showing_given : ShowingValue → List ℕ → Showing → Result Showing OptionFault
showing_given Print value s = result_map (λ t. record s { prints = s.prints ++ t ∷ [] }) (print_of value)

-- what a value of fetching sets, or its fault
abbrev pub fetching_given : FetchingValue → List ℕ → Fetching → Result Fetching OptionFault
fetching_given Workers value f = result_map (λ n. record f { workers = n }) (number_of 1 32 value)
fetching_given Retries value f = result_map (λ n. record f { retries = n }) (number_of 0 1000 value)
fetching_given FragmentRetries value f = result_map (λ n. record f { fragment_retries = n }) (number_of 0 1000 value)
fetching_given Archive value f = result_map (λ name. record f { archive = Some name }) (archive_of value)

-- what a value of tools sets, or its fault
abbrev pub tools_given : ToolsValue → List ℕ → Tools → Result Tools OptionFault
tools_given Remux value t = result_map (λ rules. record t { remux = rules }) (remux_rules_of value)
tools_given AudioFormat value t = result_map (λ rules. record t { audio = rules }) (audio_rules_of value)
tools_given Exec value t = result_map (λ c. record t { exec = t.exec ++ c ∷ [] }) (command_of value)
tools_given Program value t = result_map (λ name. record t { program = name }) (some_text value)

-- whether something is printed
abbrev pub prints_some : Showing → Bool
prints_some s = not (length s.prints == 0)

-- nothing is downloaded where something is printed, unless words say otherwise
abbrev pub simulates : Showing → Bool
simulates s = unwrap_or s.simulate (prints_some s)

-- nothing is said where something is printed, unless words say otherwise
abbrev pub is_quiet : Showing → Bool
is_quiet s = unwrap_or s.quiet (prints_some s)
