use Rattle.std.proofs.Common.{◌∙◌, List, map, refl, ap, sym, subst}
use Rattle.std.specs.Prelude.{Option, Ok}
use Rattle.folder_base.specs.Disk.{Name}
use Rattle.tool_chain.specs.Jobs.{job_of}
use Rattle.tool_chain.specs.declared.job.ToolJob.{ToolJob}
use Rattle.job_plan.specs.Laws.{last_output}
use Rattle.job_turn.specs.Steps.{IsNamed, Publishes}
use Rattle.job_turn.proofs.StepLemmas.{last_at, output_in}
use Rattle.job_turn.proofs.steps.name_output.Goals as goal

pub returns-in_default : goal.returns-in_default
returns-in_default g c =
    let is = ap (λ (l : List ToolJob). last_output (map job_of l)) (sym c.deref.ensures.value) ∙ last_at c.deref.result.now ∙ ap output_in (sym c.in_default.ensures.value) in
    subst (λ (o : Option Name). IsNamed o c.args.final_name.now (g.F.Folder.world c.args.folder.now) (g.F.Folder.world c.args.folder.now) (Ok tt)) (sym is) (refl, refl)

pub returns-in_default-output : goal.returns-in_default-output
returns-in_default-output g c =
    let is = ap (λ (l : List ToolJob). last_output (map job_of l)) (sym c.deref.ensures.value) ∙ last_at c.deref.result.now ∙ ap output_in (sym c.in-Some.ensures.value) ∙ c.in_default-output.is in
    subst (λ (o : Option Name). IsNamed o c.args.final_name.now (g.F.Folder.world c.args.folder.now) (g.F.Folder.world c.args.folder.now) (Ok tt)) (sym is) (refl, refl)

pub returns : goal.returns
returns g c =
    let old = g.F.Folder.world c.args.folder.now in
    let new = g.F.Folder.world c.publish.new.folder in
    let published =
    subst (λ (from : Name). Publishes from c.args.final_name.now old new c.publish.result) c.as_str.ensures
    (subst (λ (to : Name). Publishes c.as_str.result.now to old new c.publish.result) c.as_str-2.ensures c.publish.ensures) in
    let is = ap (λ (l : List ToolJob). last_output (map job_of l)) (sym c.deref.ensures.value) ∙ last_at c.deref.result.now ∙ ap output_in (sym c.in-Some.ensures.value) ∙ c.in-Some-output.is in
    subst (λ (o : Option Name). IsNamed o c.args.final_name.now (g.F.Folder.world c.args.folder.now) (g.F.Folder.world c.publish.new.folder) c.final_answer.result) (sym is)
    (c.publish.result, (published, c.final_answer.ensures))
