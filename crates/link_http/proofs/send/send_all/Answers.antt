use Rattle.std.proofs.Common.{◌≤◌, false, ◌+◌, ℕ, arith, length, drop, take, ap, subst, refl, List, length-drop}
use Rattle.std.specs.Prelude.{IsTrue}
use Rattle.link_http.specs.Wire.{Sends}
use Rattle.link_http.proofs.WireLemmas.{counts_both}
use Rattle.link_http.proofs.SendLemmas.{partly_more, asked_whole}
use Rattle.link_http.proofs.send.send_all.Goals as goal

pub loop-at-preserved : goal.loop-at-preserved
loop-at-preserved g c =
    let wire = g.D.Dialer.wire in
    let old = wire c.args.dialer.now in
    let now = wire c.loop-at.dialer in
    let new = wire c.send.new.self in
    let text = c.args.text.now in
    let said = c.in-Ok.ensures in
    let before = c.loop-at.invariant in
    let len = ap (λ (r : List ℕ). length r) c.split_at.ensures.back in
    let within : c.loop-at.at + c.in-Ok.n ≤ length text = omega (arith, said.sent.1, len, length-drop c.loop-at.at text, before.within) in
    let told : IsTrue new.tells → Sends (take c.in-Ok.n (drop c.loop-at.at text)) now new = λ tells.
    let t : Sends (take c.in-Ok.n c.split_at.result.1.now) now new = said.told tells in
    subst (λ (r : List ℕ). Sends (take c.in-Ok.n r) now new) c.split_at.ensures.back t in
    record {
      connected = said.connected;
      within = within;
      counts = counts_both old now new false before.counts said.counts;
      partly = λ tells place dial is less.
          partly_more place dial text c.loop-at.at c.in-Ok.n old now new c.requires.whole less
          (before.partly (said.counts.tells tells) place dial is c.loop-at-test.true) (told tells);
      asked = λ tells place dial is all.
          asked_whole place dial text c.loop-at.at c.in-Ok.n old now new c.requires.whole (omega (arith, within, all))
          (before.partly (said.counts.tells tells) place dial is c.loop-at-test.true) before.counts.serves (told tells);
    }

pub returns-clause-asked : goal.returns-clause-asked
returns-clause-asked g c = λ tells place dial is. c.loop-at.invariant.asked tells place dial is c.loop-at-test.false
