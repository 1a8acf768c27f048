use Rattle.std.proofs.Common.{◌<◌, ◌+◌, ◌-◌, ◌∙◌, ap, map, sym, refl, Ok, take, drop, length, arith}
use Rattle.std.proofs.lemmas.List.{take_rest}
use Rattle.std.proofs.lemmas.Result.{err_from_is_err_and}
use Rattle.fmt_sort.specs.Reading.{pieces_of, pieces_given, piece_given, before_others}
use Rattle.fmt_sort.specs.Spec.{given_of}
use Rattle.fmt_sort.proofs.ReadingLemmas.{fault_too, piece_faulty, piece_read, pieces_read, piece_counted, pieces_counted, start_within}
use Rattle.fmt_sort.proofs.reading.read_pieces.Goals as goal

pub returns-in_err-pair-clause-fault : goal.returns-in_err-pair-clause-fault
returns-in_err-pair-clause-fault c =
    let w = c.args.word.now in
    let s = c.pieces.start in
    let rest = take (length w - s) (drop s w) in
    let q = err_from_is_err_and c.from_residual.result c.from_residual.ensures.1 in
    rw (q.1, q.2) (
    fault_too (piece_given c.pieces.next (take c.place-end.result rest)) (pieces_given c.args.number (pieces_of w)) _ c.in_err-pair.ensures.fault
    (piece_faulty c.args.number c.pieces.next s c.place-end.result w rest _ _ (take_rest w s) refl c.place-end.ensures.place c.pieces.invariant.1 c.place-end.ensures.within)
    )

pub returns-then-end-rest-clause-fields : goal.returns-then-end-rest-clause-fields
returns-then-end-rest-clause-fields c =
    let w = c.args.word.now in
    let s = c.pieces.start in
    pieces_read c.args.number c.pieces.next s c.place-end.result w (take (length w - s) (drop s w)) _ _ (take_rest w s) refl c.place-end.ensures.place c.pieces.invariant.1
    c.if-end-rest.true _ c.in_ok-pair.ensures.fields ∙ ap (λ z. Ok z) (sym c.in_ok-push_pair.ensures.fields)

pub returns-then-end-rest-clause-next : goal.returns-then-end-rest-clause-next
returns-then-end-rest-clause-next c =
    let w = c.args.word.now in
    let s = c.pieces.start in
    pieces_counted c.args.number c.pieces.next s c.place-end.result w (take (length w - s) (drop s w)) _ (map given_of c.pieces.fields.items) (take_rest w s) refl
    c.place-end.ensures.place c.pieces.invariant.2 c.if-end-rest.true

pub pieces-preserved : goal.pieces-preserved
pieces-preserved c =
    let w = c.args.word.now in
    let s = c.pieces.start in
    let end = c.place-end.result in
    let rest = take (length w - s) (drop s w) in
    let behind = pieces_of (drop (s + (end + 1)) w) in
    let other = c.if-end-rest.false in
    let within = c.place-end.ensures.within in
    let l : end < length rest = omega arith in
    let r = piece_read c.args.number c.pieces.next s end w rest _ _ (take_rest w s) refl c.place-end.ensures.place c.pieces.invariant.1 l _ c.in_ok-pair.ensures.fields in (
      start_within w rest s end (take_rest w s) c.pieces.invariant.0 l,
      r ∙ ap (λ z. before_others (Ok z) (pieces_given (c.pieces.next + 1) behind)) (sym c.in_ok-push_pair.ensures.fields),
      piece_counted c.args.number c.pieces.next s end w rest _ (map given_of c.pieces.fields.items) (take_rest w s) refl c.place-end.ensures.place c.pieces.invariant.2 l,
      omega (arith, c.pieces.invariant.3, c.in_ok-push_pair.ensures.longer),
      omega (arith, c.pieces.invariant.4),
    )
