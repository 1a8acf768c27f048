use Rattle.std.proofs.Common.{[], length, refl, inl, inr, Ok}
use Rattle.http_reply.specs.declared.piece_fault.PieceFault.TheVariants.{OutOfMemory}
use Rattle.link_http.specs.Request.{Place}
use Rattle.link_http.proofs.WireLemmas.{counts_both}
use Rattle.link_http.proofs.TryLemmas.{dials_talked, dials_ended, asks_none, asks_first, keeps_dial, keeps_asking}
use Rattle.link_http.proofs.fetch.ask.Goals as goal

pub returns-in-Ok-clause-counts : goal.returns-in-Ok-clause-counts
returns-in-Ok-clause-counts g c =
    let wire = g.D.Dialer.wire in
    counts_both (wire c.args.dialer.now) (wire c.dial.new.self) (wire c.talk.new.dialer) _ c.in-Ok.ensures.counts c.talk.ensures.counts

pub returns-in-Ok-clause-talks : goal.returns-in-Ok-clause-talks
returns-in-Ok-clause-talks g c = λ tells.
    let wire = g.D.Dialer.wire in
    let old = wire c.args.dialer.now in
    let now = wire c.dial.new.self in
    let new = wire c.talk.new.dialer in
    let place : Place = record { host = c.args.host.now; port = c.args.port } in
    let told = c.in-Ok.ensures.told (c.talk.ensures.counts.tells tells) in
    let dial = length old.dials in
    let talked = c.talk.ensures.talks tells place dial told.opened in (
      (talked.1.0, asks_first place dial c.args.text.now old now new talked.1.0 told.world told.talks c.in-Ok.ensures.counts.serves talked.1.1, talked.1.2),
      dials_talked (Ok tt) c.args.host.now c.args.port old now new talked.1.0 refl told talked.0,
    )

pub returns-in-Err-Failed-clause-counts : goal.returns-in-Err-Failed-clause-counts
returns-in-Err-Failed-clause-counts g c =
    let said = rw c.in-Err-Failed.field-0-is at c.in-Err-Failed.ensures in
    said.counts

pub returns-in-Err-Failed-clause-kept : goal.returns-in-Err-Failed-clause-kept
returns-in-Err-Failed-clause-kept g c = keeps_dial g.B.Taker.took g.B.Taker.may_refuse g.met.B.Taker.took_none c.args.taker.now

pub returns-in-Err-Failed-clause-talks : goal.returns-in-Err-Failed-clause-talks
returns-in-Err-Failed-clause-talks g c = λ tells.
    let said = rw c.in-Err-Failed.field-0-is at c.in-Err-Failed.ensures in
    let wire = g.D.Dialer.wire in
    let old = wire c.args.dialer.now in
    let new = wire c.dial.new.self in
    let place : Place = record { host = c.args.host.now; port = c.args.port } in
    let told = said.told tells in (
      ([], asks_none place (length old.dials) c.args.text.now old new told.world told.talks, (inl refl, g.met.B.Taker.took_none c.args.taker.now, refl)),
      dials_ended _ c.args.host.now c.args.port old new told,
    )

pub returns-in-Err-OutOfMemory-clause-kept : goal.returns-in-Err-OutOfMemory-clause-kept
returns-in-Err-OutOfMemory-clause-kept g c =
    keeps_asking g.B.Taker.took g.B.Taker.may_refuse g.met.B.Taker.took_none OutOfMemory c.args.taker.now (inr refl)

pub returns-in-Err-OutOfMemory-clause-talks : goal.returns-in-Err-OutOfMemory-clause-talks
returns-in-Err-OutOfMemory-clause-talks g c = λ tells.
    let said = rw c.in-Err-OutOfMemory.field-0-is at c.in-Err-OutOfMemory.ensures in
    let wire = g.D.Dialer.wire in
    let old = wire c.args.dialer.now in
    let new = wire c.dial.new.self in
    let place : Place = record { host = c.args.host.now; port = c.args.port } in
    let told = said.told tells in (
      ([], asks_none place (length old.dials) c.args.text.now old new told.world told.talks, (inr (inr refl), g.met.B.Taker.took_none c.args.taker.now, refl)),
      dials_ended _ c.args.host.now c.args.port old new told,
    )
