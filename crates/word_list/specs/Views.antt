-- What words have set, and what they ask for, as the program holds it.
use Rattle.std.specs.Option.{option_map}
use Rattle.fmt_sort.specs.Read.{given_in, pieces_in}
use Rattle.fmt_sort.specs.Spec.{wish_of}
use Rattle.sel_lang.specs.View.{plain}
use Rattle.word_list.specs.declared.choosing.Choosing.{Choosing as HeldChoosing}
use Rattle.word_list.specs.declared.options.Options.{Options as HeldOptions}
use Rattle.job_plan.specs.declared.options.PlanOptions.{PlanOptions as HeldPlan}
use Rattle.sel_eval.specs.declared.streams.Streams.{Streams as HeldStreams}
use Rattle.word_list.specs.declared.settings.Settings.{Settings as HeldSettings}
use Rattle.word_list.specs.declared.showing.Showing.{Showing as HeldShowing}
use Rattle.word_list.specs.declared.tools.Tools.{Tools as HeldTools}
use Rattle.word_list.specs.Groups.{Choosing, Showing, Tools}
use Rattle.word_list.specs.Options.{Options, PlanOptions, Streams}
use Rattle.word_list.specs.Settings.{Settings}

-- which formats are chosen, as the definitions see it
abbrev pub plain_choosing : HeldChoosing → Choosing
plain_choosing c = record {
  sel = option_map plain c.sel;
  given = given_in c.sort;
  pieces = pieces_in c.sort;
  force = c.force;
  free = c.free;
  video = c.streams.video;
  audio = c.streams.audio;
  containers = c.streams.merge_ext.items;
}

-- what is printed, as the definitions see it
abbrev pub plain_showing : HeldShowing → Showing
plain_showing s = record { prints = s.prints.items; simulate = s.simulate; quiet = s.quiet }

-- what is done with files, as the definitions see it
abbrev pub plain_tools : HeldTools → Tools
plain_tools t = record {
  keep = t.keep;
  remux = t.remux.items;
  extracts = t.extracts;
  audio = t.audio.items;
  exec = t.exec.items;
  program = t.program;
}

-- settings as the definitions see them
abbrev pub plain_settings : HeldSettings → Settings
plain_settings s = record {
  source = s.source;
  choosing = plain_choosing s.choosing;
  naming = s.naming;
  showing = plain_showing s.showing;
  fetching = s.fetching;
  tools = plain_tools s.tools;
}

-- how choices are merged, as the definitions see it
abbrev pub plain_streams : HeldStreams → Streams
plain_streams s = record { video = s.video; audio = s.audio; merge_ext = s.merge_ext.items }

-- what words say of jobs, as the definitions see it
abbrev pub plain_plan : HeldPlan → PlanOptions
plain_plan p = record {
  sel = plain p.sel;
  wish = wish_of p.sort;
  streams = plain_streams p.streams;
  template = p.template;
  na = p.na;
  first_number = p.first_number;
  restricted = p.restricted;
  trim = p.trim;
  remux = p.remux.items;
  audio = option_map (λ rules. rules.items) p.audio;
  exec = p.exec.items;
  prints = p.prints.items;
  tool = p.tool;
  archive = p.archive;
}

-- options as the definitions see them
abbrev pub plain_options : HeldOptions → Options
plain_options o = record {
  plan = plain_plan o.plan;
  info = o.info;
  simulate = o.simulate;
  quiet = o.quiet;
  workers = o.workers;
  retries = o.retries;
  fragment_retries = o.fragment_retries;
  resume = o.resume;
  keep = o.keep;
  break_on_existing = o.break_on_existing;
  abort_on_error = o.abort_on_error;
  selftest = o.selftest;
}
