use Rattle.std.proofs.Common.{[], refl, rules, false}
use Rattle.link_http.proofs.WireLemmas.{counts_none, counts_both}
use Rattle.link_http.proofs.BodyLemmas.{goes_on, goes_end, goes_fail, asks-nothing}
use Rattle.link_http.proofs.body.pour.Goals as goal

pub returns-in-Ok-Some-clause-pours : goal.returns-in-Ok-Some-clause-pours
returns-in-Ok-Some-clause-pours g c =
    let said = rw c.in-Ok-Some.field-0-is at c.in-Ok-Some.ensures in
    goes_end g.B.Taker.took g.B.Taker.may_refuse g.met.B.Taker.took_both _ _ _ _ _ _ _ said.counts.tells c.turns.invariant.goes said.turns

pub returns-in-Err-clause-pours : goal.returns-in-Err-clause-pours
returns-in-Err-clause-pours g c =
    goes_fail g.B.Taker.took g.B.Taker.may_refuse g.met.B.Taker.took_both _ _ _ _ _ _ _ c.in-Err.ensures.counts.tells c.turns.invariant.goes c.in-Err.ensures.turns

pub turns-preserved : goal.turns-preserved
turns-preserved g c =
    let said = rw c.in-Ok-None.field-0-is at c.in-Ok-None.ensures in
    record {
      connected = said.connected;
      sound = said.sound;
      room = search rules;
      spare = said.spare refl;
      wanting = said.wanting;
      counts = counts_both _ _ _ false c.turns.invariant.counts said.counts;
      goes = goes_on g.B.Taker.took g.B.Taker.may_refuse g.met.B.Taker.took_both _ _ _ _ _ _ said.counts.tells c.turns.invariant.goes said.turns;
    }

pub turns-init : goal.turns-init
turns-init g c = record {
  connected = c.requires.connected;
  sound = c.requires.sound;
  room = c.requires.room;
  spare = c.requires.spare;
  wanting = c.requires.wanting;
  counts = counts_none _;
  goes = record { bytes = []; taken = g.met.B.Taker.took_none c.args.taker.now; rest = λ tells. refl; asks = λ tells. asks-nothing (g.D.Dialer.wire c.args.dialer.now) };
}
