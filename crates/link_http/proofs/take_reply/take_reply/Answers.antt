use Rattle.std.proofs.Common.{rules, ◌≡◌, ◌++◌, ◌+◌, ◌∙◌, ap, drop, List, ℕ, sym}
use Rattle.std.specs.Prelude.{IsTrue}
use Rattle.std.specs.Option.{option_or}
use Rattle.link_http.specs.Wire.{left}
use Rattle.link_http.proofs.FollowLemmas.{HeadOf, head_of, cause_whole, follows_heads, follows_refused, follows_taken, none_told}
use Rattle.link_http.proofs.take_reply.take_reply.Goals as goal

pub returns-in-Err-clause-follows : goal.returns-in-Err-clause-follows
returns-in-Err-clause-follows g c =
    let wire = g.D.Dialer.wire in
    follows_heads g.B.Taker.took g.B.Taker.may_refuse g.met.B.Taker.took_none (IsTrue (wire c.read_heads.new.dialer).tells) c.args.from c.args.known.now
    (left (wire c.args.dialer.now)) c.in-Err.fault c.args.taker.now c.in-Err.ensures.fault c.in-Err.ensures.gives

pub returns-in-Ok-plan-clause-follows : goal.returns-in-Ok-plan-clause-follows
returns-in-Ok-plan-clause-follows g c =
    let wire = g.D.Dialer.wire in
    let reply = left (wire c.args.dialer.now) in
    let found = c.in-Ok.head in
    let at = found.start + found.spans.len in
    let came = c.read_heads.new.window.bytes in
    let rest = c.pass.new.self.bytes ++ left (wire c.read_heads.new.dialer) in
    let passed : c.pass.new.self.bytes ≡ drop at came = search rules in
    let value = rw (c.bytes.ensures.value, c.deref.ensures.value) at c.judge_head-judged.ensures.value in
    let j = c.judge_head-judged.result in
    let there = λ (now : IsTrue (wire c.take_body.new.dialer).tells).
    let gives = c.in-Ok.ensures.gives (c.take_body.ensures.counts.tells now) in
    let h = head_of c.args.from c.args.known.now reply came (left (wire c.read_heads.new.dialer)) c.read_heads.new.headers.items found j gives
    c.in-Ok.ensures.within.0 c.in-Ok.ensures.within.1 value in
    let out : HeadOf c.args.from c.args.known.now reply at j × (rest ≡ drop at reply) =
    (h.0, ap (λ (b : List ℕ). b ++ left (wire c.read_heads.new.dialer)) passed ∙ h.1) in out in
    follows_taken g.B.Taker.took g.B.Taker.may_refuse (IsTrue (wire c.take_body.new.dialer).tells) c.args.from c.args.known.now c.take_body.new.known reply rest at j
    c.in-Ok-plan.plan c.take_body.result c.args.taker.now c.take_body.new.taker c.in-Ok-plan.is c.take_body.ensures.takes c.take_body.ensures.told there

pub returns-in-Some-clause-follows : goal.returns-in-Some-clause-follows
returns-in-Some-clause-follows g c =
    let wire = g.D.Dialer.wire in
    let reply = left (wire c.args.dialer.now) in
    let found = c.in-Ok.head in
    let value = rw (c.bytes.ensures.value, c.deref.ensures.value) at c.judge_head-judged.ensures.value in
    let j = c.judge_head-judged.result in
    let known_is : c.note_total.new.known ≡ option_or c.args.known.now j.told =
    c.note_total.ensures ∙ ap (λ o. option_or c.args.known.now o) (sym c.in-Some.is) in
    follows_refused g.B.Taker.took g.B.Taker.may_refuse g.met.B.Taker.took_none (IsTrue (wire c.read_heads.new.dialer).tells) c.args.from c.args.known.now c.note_total.new.known
    reply c.in-Err-plan.fault (found.start + found.spans.len) j c.args.taker.now
    (cause_whole c.in-Err-plan.fault (rw c.in-Err-plan.is at c.judge_head-judged.ensures.cause)) c.in-Err-plan.is known_is
    (λ now. (head_of c.args.from c.args.known.now reply c.read_heads.new.window.bytes (left (wire c.read_heads.new.dialer)) c.read_heads.new.headers.items found j (c.in-Ok.ensures.gives now)
    c.in-Ok.ensures.within.0 c.in-Ok.ensures.within.1 value).0)

pub returns-in_default-clause-follows : goal.returns-in_default-clause-follows
returns-in_default-clause-follows g c =
    let wire = g.D.Dialer.wire in
    let reply = left (wire c.args.dialer.now) in
    let found = c.in-Ok.head in
    let value = rw (c.bytes.ensures.value, c.deref.ensures.value) at c.judge_head-judged.ensures.value in
    let j = c.judge_head-judged.result in
    follows_refused g.B.Taker.took g.B.Taker.may_refuse g.met.B.Taker.took_none (IsTrue (wire c.read_heads.new.dialer).tells) c.args.from c.args.known.now c.args.known.now
    reply c.in-Err-plan.fault (found.start + found.spans.len) j c.args.taker.now
    (cause_whole c.in-Err-plan.fault (rw c.in-Err-plan.is at c.judge_head-judged.ensures.cause)) c.in-Err-plan.is (none_told c.args.known.now j.told c.in_default.not-Some)
    (λ now. (head_of c.args.from c.args.known.now reply c.read_heads.new.window.bytes (left (wire c.read_heads.new.dialer)) c.read_heads.new.headers.items found j (c.in-Ok.ensures.gives now)
    c.in-Ok.ensures.within.0 c.in-Ok.ensures.within.1 value).0)
