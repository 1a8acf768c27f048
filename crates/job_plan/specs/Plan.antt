-- What jobs are made by, and what a job is.
use Rattle.std.specs.Prelude.{ℕ, List, Bool, Option, Result}
use Rattle.fmt_sort.specs.Spec.{Wish}
use Rattle.sel_lang.specs.Plain.{Plain}
use Rattle.sel_eval.specs.declared.streams.Streams.{Streams}
use Rattle.tpl_lang.specs.declared.template.Part.{Part}
use Rattle.tool_chain.specs.Jobs.{Job as Command}
use Rattle.job_names.specs.Text.{Text}
use Rattle.job_pieces.specs.Component.{Component}
use Rattle.job_plan.specs.declared.fault.JobFault.{JobFault}
use Rattle.job_steps.specs.declared.rule.ExtRule.{ExtRule}

-- What words say of choosing, naming and making the files of items. Without `audio` no audio is extracted; with no rule in it, it is kept as
-- well as it can be.
pub record Plan : Type 0 where
  pub sel : Plain
  pub wish : Wish
  pub streams : Streams
  pub template : List Part
  pub na : Text
  pub first_number : ℕ
  pub restricted : Bool
  pub trim : ℕ
  pub remux : List ExtRule
  pub audio : Option (List ExtRule)
  pub exec : List (List Part)
  pub prints : List (List Part)
  pub tool : Text
  pub archive : Option Text

-- one file that is made of an item: of which formats, under which names, by which children, and what is printed of it
pub record Job : Type 0 where
  pub item : ℕ
  pub parts : List ℕ
  pub ext : Text
  pub final_name : Text
  pub components : List Component
  pub steps : List Command
  pub execs : List Command
  pub printed : List Text

-- what becomes of one choice of an item, which is counted from 0: something, or a fault
pub record Entry (A : Type 0) : Type 0 where
  pub item : ℕ
  pub outcome : Result A JobFault
