use Rattle.std.proofs.lemmas.Grind.{common_steps}
use Rattle.httparse.specs.Spans.{IsResponseAt}
use Rattle.httparse.specs.declared.spans.HeaderSpan.{HeaderSpan}
use Rattle.std.proofs.Common.{◌≡◌, List, length, drop, rules, ◌+◌, false, ℕ, arith, refl, sym, ◌∙◌, subst}
use Rattle.link_http.proofs.HeadLineLemmas.{looked_later}
use Rattle.http_reply.specs.Heads.{Steps, again, ends, final, bad, long, short}
use Rattle.link_http.specs.Wire.{left}
use Rattle.link_http.proofs.WireLemmas.{counts_both}
use Rattle.link_http.proofs.BodyLemmas.{asks-both}
use Rattle.link_http.proofs.HeadsLemmas.{step_of, heads_again, heads_stop, at_end, grows_by, put_back}
use Rattle.link_http.proofs.reply_heads.read_heads.Goals as goal

pub heads-preserved-in-Ok : goal.heads-preserved-in-Ok
heads-preserved-in-Ok g c =
    let wire = g.D.Dialer.wire in
    let said = c.in-Ok.ensures in
    let before = c.heads.invariant in
    record {
      connected = said.connected;
      within = omega (arith, before.within, grows_by c.in-Ok.more c.heads.window.bytes c.fill.new.self.bytes said.more said.none);
      fits = omega (arith, said.fits, said.room, before.room, c.requires.room);
      room = said.room ∙ before.room;
      looked = looked_later c.next_head.new.self c.heads.window.bytes c.fill.new.self.bytes (rw c.bytes.ensures.value at c.next_head.ensures.looked) said.front
          (grows_by c.in-Ok.more c.heads.window.bytes c.fill.new.self.bytes said.more said.none);
      counts = counts_both (wire c.args.dialer.now) (wire c.heads.dialer) (wire c.fill.new.dialer) false before.counts said.counts;
      asks = λ tells. asks-both (before.asks (said.counts.tells tells)) (said.asks tells);
      came = λ tells. (said.told tells).same ∙ before.came (said.counts.tells tells);
      over = λ tells ended.
          at_end c.in-Ok.more c.heads.window.bytes c.fill.new.self.bytes (wire c.heads.dialer) (wire c.fill.new.dialer) (left (wire c.args.dialer.now))
          ended (said.told tells) said.none (before.came (said.counts.tells tells));
      heads = λ tells. before.heads (said.counts.tells tells);
    }

pub heads-preserved : goal.heads-preserved
heads-preserved g c =
    let wire = g.D.Dialer.wire in
    let reply = left (wire c.args.dialer.now) in
    let shows = rw c.bytes.ensures.value at c.in-Again.ensures.shows in
    let before = c.heads.invariant in
    record {
      connected = before.connected;
      within = shows.1;
      fits = before.fits;
      room = before.room;
      looked = rw c.bytes.ensures.value at c.next_head.ensures.looked;
      counts = before.counts;
      asks = before.asks;
      came = before.came;
      over = before.over;
      heads = λ tells ending rest.
          before.heads tells ending (heads_again reply c.heads.at c.in-Again.next ending
          (step_of c.heads.window.bytes (left (wire c.heads.dialer)) reply c.heads.at c.heads.ended (again c.in-Again.next) (before.came tells) (before.over tells) shows.2) rest);
    }

pub returns-in-Final-clause-gives : goal.returns-in-Final-clause-gives
returns-in-Final-clause-gives g c = λ tells.
    let wire = g.D.Dialer.wire in
    let reply = left (wire c.args.dialer.now) in
    let shows = rw c.bytes.ensures.value at c.in-Final.ensures.shows in
    let before = c.heads.invariant in
    let there = subst (λ (n : ℕ). Steps c.heads.window.bytes c.heads.at c.heads.ended (ends (final shows.0 n))) shows.4 shows.1 in
    let len : length c.next_head.new.headers ≡ length c.heads.headers.items = first_of (omega arith, search rules, grind (arith, common_steps)) in
    let same = put_back c.heads.headers.len c.next_head.new.headers c.heads.headers.items c.heads.headers.ok.0 len in (
      shows.0,
      before.heads tells _ (heads_stop reply c.heads.at (final shows.0 (c.heads.at + c.in-Final.spans.len))
          (step_of c.heads.window.bytes (left (wire c.heads.dialer)) reply c.heads.at c.heads.ended _ (before.came tells) (before.over tells) there)),
      subst (λ (l : List HeaderSpan). IsResponseAt (drop c.heads.at c.heads.window.bytes) l c.in-Final.spans shows.0) (sym same) shows.2,
      before.came tells,
    )

pub returns-in-Bad-clause-gives : goal.returns-in-Bad-clause-gives
returns-in-Bad-clause-gives g c = λ tells whole.
    let wire = g.D.Dialer.wire in
    let reply = left (wire c.args.dialer.now) in
    let shows = rw c.bytes.ensures.value at c.in-Bad.ensures.shows in
    let before = c.heads.invariant in
    let there = subst (λ (n : ℕ). Steps c.heads.window.bytes c.heads.at c.heads.ended (ends (bad n))) (sym shows.0) shows.1 in (
      bad c.in-Bad.place,
      before.heads tells _ (heads_stop reply c.heads.at (bad c.in-Bad.place)
          (step_of c.heads.window.bytes (left (wire c.heads.dialer)) reply c.heads.at c.heads.ended _ (before.came tells) (before.over tells) there)),
      λ known. refl,
    )

pub returns-in-Long-clause-gives : goal.returns-in-Long-clause-gives
returns-in-Long-clause-gives g c = λ tells whole.
    let wire = g.D.Dialer.wire in
    let reply = left (wire c.args.dialer.now) in
    let shows = rw c.bytes.ensures.value at c.in-Long.ensures.shows in
    let before = c.heads.invariant in (
      long,
      before.heads tells _ (heads_stop reply c.heads.at long
          (step_of c.heads.window.bytes (left (wire c.heads.dialer)) reply c.heads.at c.heads.ended _ (before.came tells) (before.over tells) shows)),
      λ known. refl,
    )

pub returns-in-Short-clause-gives : goal.returns-in-Short-clause-gives
returns-in-Short-clause-gives g c = λ tells whole.
    let wire = g.D.Dialer.wire in
    let reply = left (wire c.args.dialer.now) in
    let shows = rw c.bytes.ensures.value at c.in-Short.ensures.shows in
    let before = c.heads.invariant in (
      short,
      before.heads tells _ (heads_stop reply c.heads.at short
          (step_of c.heads.window.bytes (left (wire c.heads.dialer)) reply c.heads.at c.heads.ended _ (before.came tells) (before.over tells) shows)),
      λ known. refl,
    )
