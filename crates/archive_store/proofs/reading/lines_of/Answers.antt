use Rattle.std.proofs.Common.{◌≡◌, ℕ, ◌∙◌, ap, sym, rules, arith, length, take, List}
use Rattle.std.proofs.lemmas.Iterator.Consumers.{YieldsList-from_enumerate, YieldsList-turn, YieldsList-end}
use Rattle.std.proofs.lemmas.Iterator.Splits.{YieldsList-from_slice_split}
use Rattle.std.proofs.lemmas.List.{length_push, take_all}
use Rattle.std.proofs.lemmas.List.FromFn.{length-enumerate_from}
use Rattle.std.proofs.lemmas.Str.{is_utf8-from_IsUtf8}
use Rattle.archive_store.specs.Lines.{is_feed, pieces_of, lines_in, is_among}
use Rattle.archive_store.proofs.LineLemmas.{its_turn, read_more, bad_here, all_good, good_more}
use Rattle.archive_store.proofs.reading.lines_of.Goals as goal

pub returns-in_default-clause-refused : goal.returns-in_default-clause-refused
returns-in_default-clause-refused c =
    let t = YieldsList-turn (YieldsList-from_enumerate (YieldsList-from_slice_split _ is_feed c.args.bytes.now (cc) (cc) (cc) (λ x b q k. search (rules, k))) (cc)) c.loop-place.yielded _ c.loop-place.yielded_by _ _ _ c.in-Some.is c.next.ensures.steps in
    bad_here c.args.bytes.now (length c.loop-place.yielded) c.in-Some.place c.in-Some.piece.now (its_turn (pieces_of c.args.bytes.now) _ _ _ t.0 t.1) c.loop-place.invariant.good c.in_default.ensures.cases.0

pub loop-place-preserved : goal.loop-place-preserved
loop-place-preserved c =
    let t = YieldsList-turn (YieldsList-from_enumerate (YieldsList-from_slice_split _ is_feed c.args.bytes.now (cc) (cc) (cc) (λ x b q k. search (rules, k))) (cc)) c.loop-place.yielded _ c.loop-place.yielded_by _ _ _ c.in-Some.is c.next.ensures.steps in
    let turn = its_turn (pieces_of c.args.bytes.now) (length c.loop-place.yielded) c.in-Some.place c.in-Some.piece.now t.0 t.1 in
    let more = length_push c.loop-place.yielded (c.in-Some.place, c.in-Some.piece) in
    record {
      can = search rules;
      finite = search rules;
      read = λ other.
          read_more (pieces_of c.args.bytes.now) (length c.loop-place.yielded) c.in-Some.place c.in-Some.piece.now other _ _ turn (c.loop-place.invariant.read other)
          (rw c.in-Ok.ensures.cases.0 at (c.in_ok-put_piece.ensures other))
          ∙ ap (λ (n : ℕ). is_among (lines_in (take n (pieces_of c.args.bytes.now))) other) (sym more);
      good = λ k below.
          good_more (pieces_of c.args.bytes.now) (length c.loop-place.yielded) c.in-Some.place c.in-Some.piece.now turn c.loop-place.invariant.good (is_utf8-from_IsUtf8 c.in-Some.piece.now c.in-Ok.ensures.cases.1) k (omega (arith, below, more));
    }

pub returns-clause-good : goal.returns-clause-good
returns-clause-good c =
    let t = YieldsList-end (YieldsList-from_enumerate (YieldsList-from_slice_split _ is_feed c.args.bytes.now (cc) (cc) (cc) (λ x b q k. search (rules, k))) (cc)) c.loop-place.yielded _ c.loop-place.yielded_by _ _ c.in-None.is c.next.ensures.steps in
    all_good c.args.bytes.now (length c.loop-place.yielded) (t.1 ∙ length-enumerate_from 0 (pieces_of c.args.bytes.now)) c.loop-place.invariant.good

pub returns-clause-lines : goal.returns-clause-lines
returns-clause-lines c line =
    let t = YieldsList-end (YieldsList-from_enumerate (YieldsList-from_slice_split _ is_feed c.args.bytes.now (cc) (cc) (cc) (λ x b q k. search (rules, k))) (cc)) c.loop-place.yielded _ c.loop-place.yielded_by _ _ c.in-None.is c.next.ensures.steps in
    let n : length c.loop-place.yielded ≡ length (pieces_of c.args.bytes.now) = t.1 ∙ length-enumerate_from 0 (pieces_of c.args.bytes.now) in
    c.loop-place.invariant.read line ∙ ap (λ (p : List (List ℕ)). is_among (lines_in p) line) (take_all (length c.loop-place.yielded) (pieces_of c.args.bytes.now) (omega arith))
