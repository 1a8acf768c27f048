use Rattle.std.proofs.Common.{◌<◌, [], ap, ◌∙◌, arith}
use Rattle.http_reply.specs.Machine.{room}
use Rattle.link_http.specs.Wire.{left, Held}
use Rattle.link_http.specs.Body.{poured}
use Rattle.link_http.proofs.BodyLemmas.{take_turns, pass_turns, need_turns, poured-stopped, work-falls, asks-nothing}
use Rattle.link_http.proofs.body.turn.Goals as goal

pub returns-in-Take-clause-turns : goal.returns-in-Take-clause-turns
returns-in-Take-clause-turns g c =
    let does = rw c.bytes.ensures.value at c.in-Take.ensures.does in
    take_turns g.B.Taker.took g.B.Taker.may_refuse c.hand_over.result c.args.share.now c.args.chunks.now c.args.window.now (g.D.Dialer.wire c.args.dialer.now) c.args.taker.now
    c.hand_over.new.share c.step.new.self c.hand_over.new.window c.hand_over.new.taker c.in-Take.n
    c.hand_over.ensures.hands does.2 c.hand_over.ensures.passed g.met.B.Taker.took_none

pub returns-in-End-clause-turns : goal.returns-in-End-clause-turns
returns-in-End-clause-turns g c =
    let does = rw c.bytes.ensures.value at c.in-End.ensures.does in
    record {
      bytes = [];
      taken = g.met.B.Taker.took_none c.args.taker.now;
      whole = λ tells. rw c.passed_of-passed.ensures (ap (poured c.args.share.now) (does.1 (left (g.D.Dialer.wire c.args.dialer.now))) ∙ poured-stopped c.args.share.now c.in-End.stop c.requires.wanting);
      asks = λ tells. asks-nothing (g.D.Dialer.wire c.args.dialer.now);
    }

pub returns-in-Pass-clause-work : goal.returns-in-Pass-clause-work
returns-in-Pass-clause-work g c = λ none.
    let moves = c.in-Pass.ensures.does.0 in
    let less : room c.step.new.self < room c.args.chunks.now = omega (arith, moves.at, moves.room, moves.some) in
    rw (c.pass.ensures) (work-falls _ _ c.args.window.now.room _ _ less c.bytes.ensures.within)

pub returns-in-Take-clause-work : goal.returns-in-Take-clause-work
returns-in-Take-clause-work g c = λ none.
    let moves = c.in-Take.ensures.does.0 in
    let less : room c.step.new.self < room c.args.chunks.now = omega (arith, moves.at, moves.room, moves.some) in
    rw (c.hand_over.ensures.room) (work-falls _ _ c.args.window.now.room _ _ less c.bytes.ensures.within)

pub returns-in-Pass-clause-turns : goal.returns-in-Pass-clause-turns
returns-in-Pass-clause-turns g c =
    let does = rw c.bytes.ensures.value at c.in-Pass.ensures.does in
    pass_turns g.B.Taker.took g.B.Taker.may_refuse g.met.B.Taker.took_none c.args.share.now c.args.chunks.now c.step.new.self c.args.window.now c.pass.new.self
    (g.D.Dialer.wire c.args.dialer.now) c.args.taker.now c.in-Pass.n does.2 (ap (λ (h : Held). h.bytes) c.pass.ensures)

pub returns-in-Need-clause-turns : goal.returns-in-Need-clause-turns
returns-in-Need-clause-turns g c =
    let does = rw c.bytes.ensures.value at c.in-Need.ensures.does in
    need_turns g.B.Taker.took g.B.Taker.may_refuse g.met.B.Taker.took_none c.read_more.result c.args.share.now c.args.chunks.now c.step.new.self c.args.window.now c.read_more.new.window
    (g.D.Dialer.wire c.args.dialer.now) (g.D.Dialer.wire c.read_more.new.dialer) c.args.taker.now (rw c.passed_of.ensures at c.read_more.ensures.reads) does.2 does.0 c.requires.wanting c.read_more.ensures.asks
