use Rattle.std.proofs.Common.{◌∙◌, ap, sym, arith}
use Rattle.std.proofs.lemmas.List.{drop_all}
use Rattle.std.proofs.lemmas.Result.{err_from_is_err_and}
use Rattle.folder_base.specs.Story.{Story}
use Rattle.folder_steps.proofs.RefusalLemmas.{own_err_later}
use Rattle.job_turn.specs.Clearing.{is_recorded, some_recorded}
use Rattle.job_turn.proofs.ClearLemmas.{recorded_not, recorded_here, looks_next}
use Rattle.job_turn.proofs.clearing.some_recorded.Goals as goal

pub returns-in_err-is_recorded-clause-looked : goal.returns-in_err-is_recorded-clause-looked
returns-in_err-is_recorded-clause-looked g c = looks_next c.loop-component.invariant.looked c.is_recorded.ensures.looked

pub returns-in_err-is_recorded-clause-blames : goal.returns-in_err-is_recorded-clause-blames
returns-in_err-is_recorded-clause-blames g c =
    let p = err_from_is_err_and c.from_residual.result c.from_residual.ensures.1 in
    rw (p.1, p.2) (own_err_later c.loop-component.invariant.looked.stays c.loop-component.invariant.calm c.in_err-is_recorded.ensures.blames)

pub returns-then-branch-clause-looked : goal.returns-then-branch-clause-looked
returns-then-branch-clause-looked g c = looks_next c.loop-component.invariant.looked c.is_recorded.ensures.looked

pub returns-then-branch-clause-blames : goal.returns-then-branch-clause-blames
returns-then-branch-clause-blames g c = record { cause = tt; calm = c.in_ok-is_recorded.ensures.blames.calm ∙ c.loop-component.invariant.calm }

pub returns-then-branch-clause-told : goal.returns-then-branch-clause-told
returns-then-branch-clause-told g c t =
    let all = c.args.components.now in
    let before = g.F.Folder.world c.loop-component.folder in
    let u = c.is_recorded.ensures.looked.stays.tells t in
    let live = (g.F.Folder.world c.args.folder.now).story.now.live in
    let same = ap (λ (s : Story). is_recorded s.now.live c.as_str.result.now) (c.loop-component.invariant.looked.same u) in
    sym (c.loop-component.invariant.none u
    ∙ recorded_here live all c.loop-component.component-index c.component-item.result c.as_str.result.now c.in_ok-is_recorded.field-0 (omega arith) c.component-item.is c.as_str.ensures (c.in_ok-is_recorded.ensures.told t ∙ same) c.if-branch.true)

pub loop-component-preserved : goal.loop-component-preserved
loop-component-preserved g c = record {
  looked = looks_next c.loop-component.invariant.looked c.is_recorded.ensures.looked;
  calm = c.in_ok-is_recorded.ensures.blames.calm ∙ c.loop-component.invariant.calm;
  none = λ t.
      let all = c.args.components.now in
      let u = c.is_recorded.ensures.looked.stays.tells t in
      let live = (g.F.Folder.world c.args.folder.now).story.now.live in
      let same = ap (λ (s : Story). is_recorded s.now.live c.as_str.result.now) (c.loop-component.invariant.looked.same u) in
      c.loop-component.invariant.none u
      ∙ recorded_not live all c.loop-component.component-index c.component-item.result c.as_str.result.now c.in_ok-is_recorded.field-0 (omega arith) c.component-item.is c.as_str.ensures (c.in_ok-is_recorded.ensures.told t ∙ same) c.if-branch.false;
}

pub returns-clause-blames : goal.returns-clause-blames
returns-clause-blames g c = record { cause = tt; calm = c.loop-component.invariant.calm }

pub returns-clause-told : goal.returns-clause-told
returns-clause-told g c t =
    let live = (g.F.Folder.world c.args.folder.now).story.now.live in
    sym (c.loop-component.invariant.none t ∙ ap (some_recorded live) (drop_all c.loop-component.component-index c.args.components.now (omega arith)))
