use Rattle.std.proofs.Common.{◌≡◌, ◌++◌, ◌∙◌, refl}
use Rattle.std.specs.Prelude.{if◌then◌else◌}
use Rattle.http_reply.specs.declared.plan.Plan.TheVariants.{Ranged}
use Rattle.http_reply.specs.declared.part.Part.TheVariants as part
use Rattle.http_reply.specs.Verdict.{plan_verdict}
use Rattle.link_http.specs.Wire.{left}
use Rattle.link_http.proofs.TakingLemmas.{fails_takes, same_ranged}
use Rattle.link_http.proofs.take_body.take_range.Goals as goal
use Rattle.link_http.proofs.take_body.take_range.Goals.{then-chunked, else-chunked}

pub returns-in-Err-clause-takes : goal.returns-in-Err-clause-takes
returns-in-Err-clause-takes g c =
    let wire = g.D.Dialer.wire in
    let rest = c.args.window.now.bytes ++ left (wire c.args.dialer.now) in
    let plan = Ranged c.args.count c.args.total c.args.chunked in
    let body_is : c.if-chunked.body ≡ (if c.args.chunked then record { at = c.args.at; sum = 0; part = part.Line } else record { at = c.args.at; sum = c.args.count; part = part.Whole c.args.count }) =
    elim c.if-chunked.branch [
      | then-chunked w ↦ w.body-is ∙ w.new-body.ensures.begins ∙ (rw w.if-chunked.true refl)
      | else-chunked w ↦ w.body-is ∙ w.sized-body.ensures.begins ∙ (rw w.if-chunked.false refl)
    ] in
    rw c.broken.ensures.value
    (fails_takes g.B.Taker.took g.B.Taker.may_refuse c.in-Err.fault _ c.args.taker.now c.pour.new.taker (wire c.pour.new.dialer)
    (plan_verdict c.args.from c.args.known.now c.args.at rest plan)
    (same_ranged c.args.from c.args.known.now c.args.at rest c.args.count c.args.total c.args.chunked plan c.if-chunked.body refl body_is)
    c.in-Err.ensures.pours)
