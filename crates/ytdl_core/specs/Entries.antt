-- The entries of items, by what words say of jobs.
use Rattle.std.specs.Prelude.{◌≡◌, List}
use Rattle.info_item.specs.Item.{Item}
use Rattle.sel_eval.specs.declared.streams.Streams.{Streams}
use Rattle.job_plan.specs.Plan.{Plan, Job, Entry}
use Rattle.job_plan.specs.Jobs.{AreJobs}
use Rattle.word_list.specs.Options.{PlanOptions}
use Rattle.word_list.specs.Views.{plain_streams}

-- what words say of jobs, with their streams as the program holds them
abbrev pub plan_with : Streams → PlanOptions → Plan
plan_with streams plan = record {
  sel = plan.sel;
  wish = plan.wish;
  streams = streams;
  template = plan.template;
  na = plan.na;
  first_number = plan.first_number;
  restricted = plan.restricted;
  trim = plan.trim;
  remux = plan.remux;
  audio = plan.audio;
  exec = plan.exec;
  prints = plan.prints;
  tool = plan.tool;
  archive = plan.archive;
}

-- These are the entries of items, each a job or its fault, as words ask for them.
pub record AreEntriesOf (plan : PlanOptions) (items : List Item) (entries : List (Entry Job)) : Type 0 where
  pub streams : Streams
  pub same : plain_streams streams ≡ plan.streams
  pub jobs : AreJobs (plan_with streams plan) items entries
