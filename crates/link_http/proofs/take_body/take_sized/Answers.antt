use Rattle.std.proofs.Common.{◌++◌, refl, Some}
use Rattle.http_reply.specs.declared.plan.Plan.TheVariants.{Whole}
use Rattle.http_reply.specs.Verdict.{plan_verdict}
use Rattle.link_http.specs.Wire.{left}
use Rattle.link_http.proofs.TakingLemmas.{fails_takes, same_sized}
use Rattle.link_http.proofs.take_body.take_sized.Goals as goal

pub returns-in-Err-clause-takes : goal.returns-in-Err-clause-takes
returns-in-Err-clause-takes g c =
    let wire = g.D.Dialer.wire in
    let rest = c.args.window.now.bytes ++ left (wire c.args.dialer.now) in
    let plan = Whole (Some c.args.total) in
    rw c.broken.ensures.value
    (fails_takes g.B.Taker.took g.B.Taker.may_refuse c.in-Err.fault _ c.args.taker.now c.pour.new.taker (wire c.pour.new.dialer)
    (plan_verdict c.args.from c.args.known.now c.args.at rest plan)
    (same_sized c.args.from c.args.known.now c.args.at rest c.args.total plan c.sized.result refl c.sized.ensures.begins)
    c.in-Err.ensures.pours)
