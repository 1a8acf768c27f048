use Rattle.std.proofs.Common.{[], ◌∷◌, ◌∙◌, refl, inr}
use Rattle.std.specs.Prelude.{IsTrue}
use Rattle.link_http.specs.Wire.{left}
use Rattle.link_http.proofs.TryLemmas.{keeps_after, keeps_asking, asks_one, asks_none, tries_after}
use Rattle.link_http.proofs.fetch.talk.Goals as goal

pub returns-in-Ok-clause-kept : goal.returns-in-Ok-clause-kept
returns-in-Ok-clause-kept g c =
    keeps_after g.B.Taker.took g.B.Taker.may_refuse g.met.B.Taker.took_none _ c.args.from c.args.known.now c.take_reply.new.known _
    c.take_reply.result c.args.taker.now c.take_reply.new.taker c.take_reply.ensures.follows

pub returns-in-Ok-clause-talks : goal.returns-in-Ok-clause-talks
returns-in-Ok-clause-talks g c = λ tells place dial line.
    let wire = g.D.Dialer.wire in
    let now = wire c.send_all.new.dialer in
    let nothing = c.take_reply.ensures.asks tells in
    let asked = c.in-Ok.ensures.asked (c.take_reply.ensures.counts.tells tells) place dial line in (
      nothing.dials ∙ asked.dials,
      (
        left now ∷ [],
        asks_one place dial c.args.text.now (wire c.args.dialer.now) now (wire c.take_reply.new.dialer) asked nothing,
        tries_after g.B.Taker.took g.B.Taker.may_refuse c.args.from c.args.known.now c.take_reply.new.known (left now) c.take_reply.result
            c.args.taker.now c.take_reply.new.taker (IsTrue (wire c.take_reply.new.dialer).tells) tells c.take_reply.ensures.fault c.take_reply.ensures.follows,
      ),
    )

pub returns-in-Err-clause-kept : goal.returns-in-Err-clause-kept
returns-in-Err-clause-kept g c =
    keeps_asking g.B.Taker.took g.B.Taker.may_refuse g.met.B.Taker.took_none c.in-Err.fault c.args.taker.now c.in-Err.ensures.fault

pub returns-in-Err-clause-talks : goal.returns-in-Err-clause-talks
returns-in-Err-clause-talks g c = λ tells place dial line.
    let wire = g.D.Dialer.wire in
    let nothing = c.in-Err.ensures.kept tells place dial line in (
      nothing.dials,
      ([], asks_none place dial c.args.text.now (wire c.args.dialer.now) (wire c.send_all.new.dialer) nothing.world nothing.talks, (inr c.in-Err.ensures.fault, g.met.B.Taker.took_none c.args.taker.now, refl)),
    )
