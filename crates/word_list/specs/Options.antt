-- What words ask for, once all are read.
use Rattle.std.specs.Prelude.{ℕ, List, Bool, true, ◌&&◌, not, if◌then◌else◌, Option, Some, None, Result, Ok, Err}
use Rattle.fmt_sort.specs.Reading.{wish_when}
use Rattle.fmt_sort.specs.Spec.{Wish}
use Rattle.sel_lang.specs.Plain.{Plain}
use Rattle.tpl_lang.specs.declared.template.Part.{Part}
use Rattle.word_list.specs.declared.fault.OptionFault.TheVariants.{NoInfo}
use Rattle.word_list.specs.declared.fault.WordsFault.{WordsFault}
use Rattle.word_list.specs.declared.fault.WordsFault.TheVariants.{Bad}
use Rattle.word_list.specs.declared.naming.Naming.{Naming}
use Rattle.job_steps.specs.declared.rule.ExtRule.{ExtRule}
use Rattle.word_list.specs.Defaults.{default_sel, default_template}
use Rattle.word_list.specs.Groups.{Choosing, Tools, simulates, is_quiet}
use Rattle.word_list.specs.Settings.{Settings, no_settings}

-- how choices are merged: whether several parts may have video, or audio, and into which containers
pub record Streams : Type 0 where
  pub video : Bool
  pub audio : Bool
  pub merge_ext : List (List ℕ)

-- what words say of the jobs that are made of items
pub record PlanOptions : Type 0 where
  pub sel : Plain
  pub wish : Wish
  pub streams : Streams
  pub template : List Part
  pub na : List ℕ
  pub first_number : ℕ
  pub restricted : Bool
  pub trim : ℕ
  pub remux : List ExtRule
  pub audio : Option (List ExtRule)
  pub exec : List (List Part)
  pub prints : List (List Part)
  pub tool : List ℕ
  pub archive : Option (List ℕ)

-- what words ask for
pub record Options : Type 0 where
  pub plan : PlanOptions
  pub info : Option (List ℕ)
  pub simulate : Bool
  pub quiet : Bool
  pub workers : ℕ
  pub retries : ℕ
  pub fragment_retries : ℕ
  pub resume : Bool
  pub keep : Bool
  pub break_on_existing : Bool
  pub abort_on_error : Bool
  pub selftest : Option ℕ

-- the selector that words give, or the one without words
abbrev pub sel_or_default : Option Plain → Bool → Bool → Plain
sel_or_default (Some sel) audio_alone audio_streams = sel
sel_or_default None audio_alone audio_streams = default_sel audio_alone audio_streams

-- the template that words give, or the one without words
abbrev pub template_or_default : Option (List Part) → Bool → List Part
template_or_default (Some template) restricted = template
template_or_default None restricted = default_template restricted

-- whether nothing of a file is kept but its audio
abbrev pub keeps_audio_alone : Tools → Bool
keeps_audio_alone tools = tools.extracts && not tools.keep

-- what settings say of jobs; audio is extracted by its rules, where it is
abbrev pub plan_of : Choosing → Naming → List (List Part) → Tools → Option (List ℕ) → PlanOptions
plan_of choosing naming prints tools archive = record {
  sel = sel_or_default choosing.sel (keeps_audio_alone tools) choosing.audio;
  wish = wish_when choosing.force choosing.free choosing.given;
  streams = record { video = choosing.video; audio = choosing.audio; merge_ext = choosing.containers };
  template = template_or_default naming.template naming.restricted;
  na = naming.na;
  first_number = naming.first_number;
  restricted = naming.restricted;
  trim = naming.trim;
  remux = tools.remux;
  audio = if tools.extracts then Some tools.audio else None;
  exec = tools.exec;
  prints = prints;
  tool = tools.program;
  archive = archive;
}

-- the options that settings are
abbrev pub options_of : Settings → Options
options_of s = record {
  plan = plan_of s.choosing s.naming s.showing.prints s.tools s.fetching.archive;
  info = s.source.info;
  simulate = simulates s.showing;
  quiet = is_quiet s.showing;
  workers = s.fetching.workers;
  retries = s.fetching.retries;
  fragment_retries = s.fetching.fragment_retries;
  resume = s.fetching.resume;
  keep = s.tools.keep;
  break_on_existing = s.fetching.break_on_existing;
  abort_on_error = s.fetching.abort_on_error;
  selftest = None;
}

-- the options of the self-test over so many items: those without words, but quiet and with four workers
abbrev pub selftest_options : ℕ → Options
selftest_options count = record (options_of no_settings) { quiet = true; workers = 4; selftest = Some count }

-- what is asked for at the end of so many words, by the self-test and by the file that are named
abbrev pub ended_with : ℕ → Settings → Option ℕ → Option (List ℕ) → Result Options WordsFault
ended_with total settings (Some count) info = Ok (selftest_options count)
ended_with total settings None None = Err (Bad total NoInfo)
ended_with total settings None (Some info) = Ok (options_of settings)

-- the options that are set at the end of so many words, where nothing is missing
abbrev pub ended : ℕ → Settings → Result Options WordsFault
ended total settings = ended_with total settings settings.source.selftest settings.source.info
