-- What the program holds, as the definitions see it.
use Rattle.std.specs.Prelude.{◌≡◌, map, option_map, Result, Ok, Err, IfOk}
use Rattle.fmt_sort.specs.Spec.{wish_of}
use Rattle.sel_lang.specs.View.{plain}
use Rattle.tool_chain.specs.Jobs.{job_of as command_of}
use Rattle.job_plan.specs.declared.options.PlanOptions.{PlanOptions}
use Rattle.job_plan.specs.declared.job.Job.{Job as HeldJob}
use Rattle.job_plan.specs.declared.job.JobOr.{JobOr}
use Rattle.job_plan.specs.declared.job.JobOr.TheVariants as held
use Rattle.job_plan.specs.declared.draft.Draft.{Draft as HeldDraft}
use Rattle.job_plan.specs.declared.draft.Drafted.{Drafted}
use Rattle.job_plan.specs.declared.fault.JobFault.{JobFault}
use Rattle.job_pieces.specs.Views.{plain_component}
use Rattle.job_steps.specs.Views.{plain_step}
use Rattle.job_plan.specs.Plan.{Plan, Job, Entry}
use Rattle.job_plan.specs.declared.drafting.Drafting.{Drafting}
use Rattle.job_plan.specs.declared.drafting.Named.{Named as HeldNamed}
use Rattle.job_plan.specs.Draft.{Draft, Named, draft_names}
use Rattle.job_names.specs.Family.{exact_names}

-- what words say of jobs, as the definitions see it
abbrev pub plain_plan : PlanOptions → Plan
plain_plan p = record {
  sel = plain p.sel;
  wish = wish_of p.sort;
  streams = p.streams;
  template = p.template;
  na = p.na;
  first_number = p.first_number;
  restricted = p.restricted;
  trim = p.trim;
  remux = p.remux.items;
  audio = option_map (λ rules. rules.items) p.audio;
  exec = p.exec.items;
  prints = p.prints.items;
  tool = p.tool;
  archive = p.archive;
}

-- a job, as the definitions see it
abbrev pub plain_job : HeldJob → Job
plain_job j = record {
  item = j.item;
  parts = j.combo.parts.items;
  ext = j.combo.ext;
  final_name = j.final_name;
  components = map plain_component j.components.items;
  steps = map command_of j.steps.items;
  execs = map command_of j.execs.items;
  printed = j.printed.items;
}

-- an entry, as the definitions see it
abbrev pub plain_entry : JobOr → Entry Job
plain_entry (held.Job job) = record { item = job.item; outcome = Ok (plain_job job) }
plain_entry (held.Fault item fault) = record { item = item; outcome = Err fault }

-- a draft, as the definitions see it
abbrev pub plain_draft : HeldDraft → Draft
plain_draft d = record {
  name = d.name;
  parts = d.combo.parts.items;
  ext = d.combo.ext;
  final_name = d.final_name;
  components = d.components.items;
  steps = map command_of d.steps.items;
  execs = map command_of d.execs.items;
  printed = d.printed.items;
}

-- what became of a choice, as the definitions see it
abbrev pub plain_outcome : Result HeldDraft JobFault → Result Draft JobFault
plain_outcome (Ok d) = Ok (plain_draft d)
plain_outcome (Err fault) = Err fault

-- an entry that is drafted, as the definitions see it
abbrev pub plain_drafted : Drafted → Entry Draft
plain_drafted d = record { item = d.item; outcome = plain_outcome d.outcome }

-- The exact names of a draft are those of its family.
abbrev pub IsNamed : HeldDraft → Type 0
IsNamed d = d.exact.items ≡ exact_names (draft_names (plain_draft d))

-- The same of what became of a choice, where it is a draft.
abbrev pub HasNames : Drafted → Type 0
HasNames d = IfOk d.outcome IsNamed

-- a name with its steps, as the definitions see it
abbrev pub plain_named : HeldNamed → Named
plain_named n = record { name = n.name; steps = map plain_step n.steps.items; final_name = n.final_name }

-- how jobs are drafted, as the definitions see it
abbrev pub plain_drafting : Drafting → Plan
plain_drafting d = record (plain_plan d.options.now) { na = d.marks.na }
