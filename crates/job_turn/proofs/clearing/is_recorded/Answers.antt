use Rattle.std.proofs.Common.{◌≡◌, ◌∙◌, ap}
use Rattle.std.specs.Prelude.{is_some}
use Rattle.std.proofs.lemmas.Result.{IfOk-weaker}
use Rattle.folder_base.specs.Disk.{Name}
use Rattle.folder_steps.proofs.RefusalLemmas.{own}
use Rattle.plan_record.specs.Names.{record_of}
use Rattle.job_turn.proofs.clearing.is_recorded.Goals as goal

pub returns-clause-blames : goal.returns-clause-blames
returns-clause-blames g c = own c.is_there.result c.is_there.ensures.blames

pub returns-clause-told : goal.returns-clause-told
returns-clause-told g c t =
    let live = (g.F.Folder.world c.args.folder.now).story.now.live in
    IfOk-weaker c.is_there.result (λ is. is ≡ is_some (live c.as_str.result.now)) (λ is. is ≡ is_some (live (record_of c.args.component.now)))
    (λ is same. same ∙ ap (λ (n : Name). is_some (live n)) (c.as_str.ensures.value ∙ c.write_record.ensures.bytes)) (c.is_there.ensures.told t)
