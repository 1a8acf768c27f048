use Rattle.std.proofs.Common.{◌≡◌, ◌<◌, ◌≤◌, length, arith, rules}
use Rattle.info_tree.specs.Plain.{plain}
use Rattle.info_tree.specs.Reading.{most_levels}
use Rattle.info_tree.specs.Lexed.{plain_mark, state_levels}
use Rattle.info_tree.proofs.ReadingLemmas.{state_of, lexed_shorter, no_token, mark_refused, mark_too_deep, token_read, unfinished, whole_text}
use Rattle.info_tree.proofs.reader.read_text.Goals as goal

pub returns-in-Err-clause-fault : goal.returns-in-Err-clause-fault
returns-in-Err-clause-fault c =
    let s = c.loop-rest.invariant.read in
    let some : 0 < length c.loop-rest.rest.now = search rules in
    let state = state_of c.loop-rest.frames.items c.loop-rest.next in
    no_token c.args.text.now state c.loop-rest.rest.now _ c.in-Err.fault c.requires c.utf8.text s some (omega (arith, s.within)) c.in-Err.ensures.fault

pub returns-in-None-clause-fault : goal.returns-in-None-clause-fault
returns-in-None-clause-fault c =
    let s = c.loop-rest.invariant.read in
    let some : 0 < length c.loop-rest.rest.now = search rules in
    let state = state_of c.loop-rest.frames.items c.loop-rest.next in
    mark_refused c.args.text.now state c.loop-rest.rest.now c.in-Ok.found.1.now _ (plain_mark c.in-Ok.found.0) c.in-Ok.ensures.token c.requires c.utf8.text s some
    (omega (arith, s.within)) (rw c.in-None.is at c.in_ok-taken.ensures)

pub returns-then-levels-gt-MOST_LEVELS-clause-fault : goal.returns-then-levels-gt-MOST_LEVELS-clause-fault
returns-then-levels-gt-MOST_LEVELS-clause-fault c =
    let s = c.loop-rest.invariant.read in
    let state = state_of c.loop-rest.frames.items c.loop-rest.next in
    let now = state_of c.step.new.frames.items c.in-Some.next in
    let deep : most_levels < state_levels now = rw c.levels.ensures at c.if-levels-gt-MOST_LEVELS.true in
    mark_too_deep c.args.text.now state now c.loop-rest.rest.now c.in-Ok.found.1.now _ (plain_mark c.in-Ok.found.0) c.in-Ok.ensures.token c.requires c.utf8.text s
    (omega (arith, s.within)) (rw c.in-Some.is at c.in_ok-taken.ensures) deep

pub loop-rest-preserved : goal.loop-rest-preserved
loop-rest-preserved c =
    let s = c.loop-rest.invariant.read in
    let state = state_of c.loop-rest.frames.items c.loop-rest.next in
    let now = state_of c.step.new.frames.items c.in-Some.next in
    let shallow : state_levels now ≤ most_levels = rw c.levels.ensures at c.if-levels-gt-MOST_LEVELS.false in
    let rest = c.skip_space-rest-in-loop-rest in
    record {
      read = token_read c.args.text.now state now c.loop-rest.rest.now c.in-Ok.found.1.now rest.result.now (plain_mark c.in-Ok.found.0) c.in-Ok.ensures.token s
          (rw c.in-Some.is at c.in_ok-taken.ensures) shallow rest.ensures.rest
          (omega (arith, s.within, lexed_shorter c.loop-rest.rest.now c.in-Ok.found.1.now (plain_mark c.in-Ok.found.0) c.in-Ok.ensures.token, rest.ensures.len));
      text = rest.utf8;
    }

pub returns-in-Some-finished-clause-tree : goal.returns-in-Some-finished-clause-tree
returns-in-Some-finished-clause-tree c =
    let none : length c.loop-rest.rest.now ≡ 0 = search rules in
    let state = state_of c.loop-rest.frames.items c.loop-rest.next in
    whole_text c.args.text.now state c.loop-rest.rest.now (plain c.in-Some-finished.tree) c.requires c.utf8.text c.loop-rest.invariant.read none c.in-Some-finished.ensures

pub returns-in-None-finished-clause-fault : goal.returns-in-None-finished-clause-fault
returns-in-None-finished-clause-fault c =
    let none : length c.loop-rest.rest.now ≡ 0 = search rules in
    let state = state_of c.loop-rest.frames.items c.loop-rest.next in
    unfinished c.args.text.now state c.loop-rest.rest.now c.requires c.utf8.text c.loop-rest.invariant.read none c.in-None-finished.ensures
