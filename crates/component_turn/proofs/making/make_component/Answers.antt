use Rattle.std.proofs.Common.{take, sym, ◌∙◌, ap, arith}
use Rattle.std.proofs.lemmas.Result.{err_from_is_err_and}
use Rattle.component_turn.specs.Component.{workers_for}
use Rattle.component_turn.specs.Judge.{judged}
use Rattle.component_turn.proofs.EndLemmas.{complete_turned}
use Rattle.component_turn.proofs.EnterLemmas.{began_as}
use Rattle.component_turn.proofs.JudgeLemmas.{ended}
use Rattle.component_turn.proofs.StepLemmas.{began_is, crews_by, puts_as, has_put_as, begin_failed, settle_failed, fetch_failed, judge_failed, settle_after_failed, end_told, put_failed, whole_told}
use Rattle.component_turn.proofs.making.make_component.Goals as goal

pub returns-in_err-begun-clause-turned : goal.returns-in_err-begun-clause-turned
returns-in_err-begun-clause-turned g c =
    let p = err_from_is_err_and c.from_residual.result c.from_residual.ensures.1 in
    rw (p.1, p.2) (begin_failed g.D.Dialer.wire c.args.component.now c.args.settings (g.F.Folder.world c.args.folder.now) (g.F.Folder.world c.begin.new.folder) c.begin.ensures.kept _ (take (workers_for c.args.component.now c.args.settings) c.args.dialers.now.items) c.in_err-begun.ensures.blames.cause
    (began_as c.args.component.now.target_is (c.as_str.ensures.value ∙ c.args.component.now.plan_is) (record { moments = c.begin.ensures.moments; sound = c.begin.ensures.sound; answer = c.in_err-begun.ensures.answer; live = c.in_err-begun.ensures.live; in_all = c.in_err-begun.ensures.in_all })))

pub returns-in-Complete-clause-turned : goal.returns-in-Complete-clause-turned
returns-in-Complete-clause-turned g c =
    complete_turned g.D.Dialer.wire c.args.component.now c.args.settings (g.F.Folder.world c.args.folder.now) (g.F.Folder.world c.begin.new.folder) (take (workers_for c.args.component.now c.args.settings) c.args.dialers.now.items) c.begin.ensures.kept
    (began_is c.in-Complete.is (began_as c.args.component.now.target_is (c.as_str.ensures.value ∙ c.args.component.now.plan_is) (record { moments = c.begin.ensures.moments; sound = c.begin.ensures.sound; answer = c.in_ok-begun.ensures.answer; live = c.in_ok-begun.ensures.live; in_all = c.in_ok-begun.ensures.in_all })))

pub returns-in_err-settle-clause-turned : goal.returns-in_err-settle-clause-turned
returns-in_err-settle-clause-turned g c =
    let p = err_from_is_err_and c.from_residual-in_err-settle.result c.from_residual-in_err-settle.ensures.1 in
    rw (p.1, p.2) (settle_failed g.D.Dialer.wire c.args.component.now c.args.settings (g.F.Folder.world c.args.folder.now) (g.F.Folder.world c.begin.new.folder) c.begin.ensures.kept (g.F.Folder.world c.settle.new.folder)
    (began_is c.in_default.is (began_as c.args.component.now.target_is (c.as_str.ensures.value ∙ c.args.component.now.plan_is) (record { moments = c.begin.ensures.moments; sound = c.begin.ensures.sound; answer = c.in_ok-begun.ensures.answer; live = c.in_ok-begun.ensures.live; in_all = c.in_ok-begun.ensures.in_all })))
    c.settle.ensures.kept c.settle.ensures.moments _ (take (workers_for c.args.component.now c.args.settings) c.args.dialers.now.items) c.in_err-settle.ensures.blames.cause)

pub returns-in_err-ends-clause-turned : goal.returns-in_err-ends-clause-turned
returns-in_err-ends-clause-turned g c =
    let p = err_from_is_err_and c.from_residual-in_err-ends.result c.from_residual-in_err-ends.ensures.1 in
    rw (p.1, p.2) (fetch_failed g.D.Dialer.wire c.args.component.now c.args.settings (g.F.Folder.world c.args.folder.now) (g.F.Folder.world c.begin.new.folder) c.begin.ensures.kept (g.F.Folder.world c.settle.new.folder)
    (began_is c.in_default.is (began_as c.args.component.now.target_is (c.as_str.ensures.value ∙ c.args.component.now.plan_is) (record { moments = c.begin.ensures.moments; sound = c.begin.ensures.sound; answer = c.in_ok-begun.ensures.answer; live = c.in_ok-begun.ensures.live; in_all = c.in_ok-begun.ensures.in_all })))
    c.settle.ensures.kept c.settle.ensures.moments
    c.in_ok-settle.ensures.done (g.F.Folder.world c.fetch_pieces.new.folder) c.fetch_pieces.ensures.endures c.fetch_pieces.ensures.keeps _
    (take (workers_for c.args.component.now c.args.settings) c.args.dialers.now.items)
    (take (workers_for c.args.component.now c.args.settings) c.fetch_pieces.new.dialers.items)
    (ap (take (workers_for c.args.component.now c.args.settings)) c.in_err-ends.ensures.none_dialed) c.in_err-ends.ensures.refused)

pub returns-in_err-end-clause-turned : goal.returns-in_err-end-clause-turned
returns-in_err-end-clause-turned g c =
    let p = err_from_is_err_and c.from_residual-in_err-end.result c.from_residual-in_err-end.ensures.1 in
    rw (p.1, p.2) (judge_failed g.D.Dialer.wire c.args.component.now c.args.settings (g.F.Folder.world c.args.folder.now) (g.F.Folder.world c.begin.new.folder) c.begin.ensures.kept (g.F.Folder.world c.settle.new.folder)
    (began_is c.in_default.is (began_as c.args.component.now.target_is (c.as_str.ensures.value ∙ c.args.component.now.plan_is) (record { moments = c.begin.ensures.moments; sound = c.begin.ensures.sound; answer = c.in_ok-begun.ensures.answer; live = c.in_ok-begun.ensures.live; in_all = c.in_ok-begun.ensures.in_all })))
    c.settle.ensures.kept c.settle.ensures.moments
    c.in_ok-settle.ensures.done (g.F.Folder.world c.fetch_pieces.new.folder) c.fetch_pieces.ensures.endures c.fetch_pieces.ensures.keeps c.in_ok-ends.ends.items
    (take (workers_for c.args.component.now c.args.settings) c.args.dialers.now.items)
    (take (workers_for c.args.component.now c.args.settings) c.fetch_pieces.new.dialers.items)
    (crews_by c.args.dialers.now.items c.fetch_pieces.new.dialers.items (omega (arith, c.min-workers.ensures, c.len.ensures, c.args.component.now.pieces.ok.0)) c.in_ok-ends.ensures.fetched)
    (g.F.Folder.world c.settle-settled.new.folder) c.settle-settled.ensures.kept c.settle-settled.ensures.moments _
    (ap judged (sym c.as_slice.ensures.value) ∙ sym c.in_err-end.ensures))

pub returns-in_err-settled-clause-turned : goal.returns-in_err-settled-clause-turned
returns-in_err-settled-clause-turned g c =
    let p = err_from_is_err_and c.from_residual-in_err-settled.result c.from_residual-in_err-settled.ensures.1 in
    rw (p.1, p.2) (settle_after_failed g.D.Dialer.wire c.args.component.now c.args.settings (g.F.Folder.world c.args.folder.now) (g.F.Folder.world c.begin.new.folder) c.begin.ensures.kept (g.F.Folder.world c.settle.new.folder)
    (began_is c.in_default.is (began_as c.args.component.now.target_is (c.as_str.ensures.value ∙ c.args.component.now.plan_is) (record { moments = c.begin.ensures.moments; sound = c.begin.ensures.sound; answer = c.in_ok-begun.ensures.answer; live = c.in_ok-begun.ensures.live; in_all = c.in_ok-begun.ensures.in_all })))
    c.settle.ensures.kept c.settle.ensures.moments
    c.in_ok-settle.ensures.done (g.F.Folder.world c.fetch_pieces.new.folder) c.fetch_pieces.ensures.endures c.fetch_pieces.ensures.keeps c.in_ok-ends.ends.items
    (take (workers_for c.args.component.now c.args.settings) c.args.dialers.now.items)
    (take (workers_for c.args.component.now c.args.settings) c.fetch_pieces.new.dialers.items)
    (crews_by c.args.dialers.now.items c.fetch_pieces.new.dialers.items (omega (arith, c.min-workers.ensures, c.len.ensures, c.args.component.now.pieces.ok.0)) c.in_ok-ends.ensures.fetched)
    (g.F.Folder.world c.settle-settled.new.folder) c.settle-settled.ensures.kept c.settle-settled.ensures.moments _ _
    (ap judged (sym c.as_slice.ensures.value) ∙ sym c.in_ok-end.ensures) c.in_err-settled.ensures.blames.cause)

pub returns-in-Failed-clause-turned : goal.returns-in-Failed-clause-turned
returns-in-Failed-clause-turned g c =
    end_told g.D.Dialer.wire c.args.component.now c.args.settings (g.F.Folder.world c.args.folder.now) (g.F.Folder.world c.begin.new.folder) c.begin.ensures.kept (g.F.Folder.world c.settle.new.folder)
    (began_is c.in_default.is (began_as c.args.component.now.target_is (c.as_str.ensures.value ∙ c.args.component.now.plan_is) (record { moments = c.begin.ensures.moments; sound = c.begin.ensures.sound; answer = c.in_ok-begun.ensures.answer; live = c.in_ok-begun.ensures.live; in_all = c.in_ok-begun.ensures.in_all })))
    c.settle.ensures.kept c.settle.ensures.moments
    c.in_ok-settle.ensures.done (g.F.Folder.world c.fetch_pieces.new.folder) c.fetch_pieces.ensures.endures c.fetch_pieces.ensures.keeps c.in_ok-ends.ends.items
    (take (workers_for c.args.component.now c.args.settings) c.args.dialers.now.items)
    (take (workers_for c.args.component.now c.args.settings) c.fetch_pieces.new.dialers.items)
    (crews_by c.args.dialers.now.items c.fetch_pieces.new.dialers.items (omega (arith, c.min-workers.ensures, c.len.ensures, c.args.component.now.pieces.ok.0)) c.in_ok-ends.ensures.fetched)
    (g.F.Folder.world c.settle-settled.new.folder) c.settle-settled.ensures.kept c.settle-settled.ensures.moments _
    (ap judged (sym c.as_slice.ensures.value) ∙ sym c.in_ok-end.ensures) (λ whole. let e = sym c.in-Failed.is ∙ whole in cc) c.in_ok-settled.ensures.done

pub returns-in_err-assemble-clause-turned : goal.returns-in_err-assemble-clause-turned
returns-in_err-assemble-clause-turned g c =
    let p = err_from_is_err_and c.from_residual-in_err-assemble.result c.from_residual-in_err-assemble.ensures.1 in
    rw (p.1, p.2) (put_failed g.D.Dialer.wire c.args.component.now c.args.settings (g.F.Folder.world c.args.folder.now) (g.F.Folder.world c.begin.new.folder) c.begin.ensures.kept (g.F.Folder.world c.settle.new.folder)
    (began_is c.in_default.is (began_as c.args.component.now.target_is (c.as_str.ensures.value ∙ c.args.component.now.plan_is) (record { moments = c.begin.ensures.moments; sound = c.begin.ensures.sound; answer = c.in_ok-begun.ensures.answer; live = c.in_ok-begun.ensures.live; in_all = c.in_ok-begun.ensures.in_all })))
    c.settle.ensures.kept c.settle.ensures.moments
    c.in_ok-settle.ensures.done (g.F.Folder.world c.fetch_pieces.new.folder) c.fetch_pieces.ensures.endures c.fetch_pieces.ensures.keeps c.in_ok-ends.ends.items
    (take (workers_for c.args.component.now c.args.settings) c.args.dialers.now.items)
    (take (workers_for c.args.component.now c.args.settings) c.fetch_pieces.new.dialers.items)
    (crews_by c.args.dialers.now.items c.fetch_pieces.new.dialers.items (omega (arith, c.min-workers.ensures, c.len.ensures, c.args.component.now.pieces.ok.0)) c.in_ok-ends.ensures.fetched)
    (g.F.Folder.world c.settle-settled.new.folder) c.settle-settled.ensures.kept c.settle-settled.ensures.moments
    (ap judged (sym c.as_slice.ensures.value) ∙ sym c.in_ok-end.ensures ∙ ap ended c.in_default-end.is) (g.F.Folder.world c.assemble.new.folder) c.assemble.ensures.kept
    (puts_as c.args.component.now.target_is c.args.component.now.count_is (record { moments = c.assemble.ensures.moments; sound = c.assemble.ensures.sound }))
    _ c.in_err-assemble.ensures.blames.cause)

pub returns-clause-turned : goal.returns-clause-turned
returns-clause-turned g c =
    whole_told g.D.Dialer.wire c.args.component.now c.args.settings (g.F.Folder.world c.args.folder.now) (g.F.Folder.world c.begin.new.folder) c.begin.ensures.kept (g.F.Folder.world c.settle.new.folder)
    (began_is c.in_default.is (began_as c.args.component.now.target_is (c.as_str.ensures.value ∙ c.args.component.now.plan_is) (record { moments = c.begin.ensures.moments; sound = c.begin.ensures.sound; answer = c.in_ok-begun.ensures.answer; live = c.in_ok-begun.ensures.live; in_all = c.in_ok-begun.ensures.in_all })))
    c.settle.ensures.kept c.settle.ensures.moments
    c.in_ok-settle.ensures.done (g.F.Folder.world c.fetch_pieces.new.folder) c.fetch_pieces.ensures.endures c.fetch_pieces.ensures.keeps c.in_ok-ends.ends.items
    (take (workers_for c.args.component.now c.args.settings) c.args.dialers.now.items)
    (take (workers_for c.args.component.now c.args.settings) c.fetch_pieces.new.dialers.items)
    (crews_by c.args.dialers.now.items c.fetch_pieces.new.dialers.items (omega (arith, c.min-workers.ensures, c.len.ensures, c.args.component.now.pieces.ok.0)) c.in_ok-ends.ensures.fetched)
    (g.F.Folder.world c.settle-settled.new.folder) c.settle-settled.ensures.kept c.settle-settled.ensures.moments
    (ap judged (sym c.as_slice.ensures.value) ∙ sym c.in_ok-end.ensures ∙ ap ended c.in_default-end.is) (g.F.Folder.world c.assemble.new.folder) c.assemble.ensures.kept
    (puts_as c.args.component.now.target_is c.args.component.now.count_is (record { moments = c.assemble.ensures.moments; sound = c.assemble.ensures.sound }))
    (has_put_as c.args.component.now.target_is c.args.component.now.count_is (record { done = c.in_ok-assemble.ensures.done; in_all = c.in_ok-assemble.ensures.in_all }))
