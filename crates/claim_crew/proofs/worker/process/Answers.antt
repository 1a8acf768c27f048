use Rattle.std.proofs.Common.{true, true≢false, refl, sym, ◌∙◌}
use Rattle.claim_crew.specs.Rule.{is_positive}
use Rattle.claim_crew.proofs.StepLemmas.{settles}
use Rattle.claim_crew.proofs.worker.process.Goals as goal

pub put_back_failed-requires-clause-held : goal.put_back_failed-requires-clause-held
put_back_failed-requires-clause-held g c = let w = c.work_at.ensures.worked in (w.1, w.2, w.3, sym w.5 ∙ c.if-work_at.true)

pub returns-then-work_at-clause-processed : goal.returns-then-work_at-clause-processed
returns-then-work_at-clause-processed g c = let w = c.work_at.ensures.worked in (w.1, w.2, w.4, c.put_back_failed.ensures.stopped ∙ settles c.args.seat.now.me c.work_at.new.seat.me c.args.at w.1 w.2 true w.0 w.3, λ _. refl)

pub returns-clause-processed : goal.returns-clause-processed
returns-clause-processed g c = let w = c.work_at.ensures.worked in
    (w.1, w.2, w.4, c.put_back.ensures.looked ∙ settles c.args.seat.now.me c.work_at.new.seat.me c.args.at w.1 w.2 (is_positive c.put_back.result) w.0 w.3, λ bad. absurd (true≢false (sym bad ∙ (sym w.5 ∙ c.if-work_at.false))))
