use Rattle.std.proofs.Common.{◌∙◌, refl, ap, sym, inl, inr, Err}
use Rattle.http_reply.specs.declared.piece_fault.PieceFault.TheVariants.{OutOfMemory}
use Rattle.link_http.specs.Request.{address}
use Rattle.link_http.proofs.TryLemmas.{keeps_refused, keeps_url, keeps_asking, early_fetches, fetches_by}
use Rattle.link_http.proofs.fetch.try_piece.Goals as goal

pub returns-in-Err-clause-kept : goal.returns-in-Err-clause-kept
returns-in-Err-clause-kept g c = keeps_refused g.B.Taker.took g.B.Taker.may_refuse g.met.B.Taker.took_none c.in-Err.fault c.args.taker.now c.in-Err.ensures.fault

pub returns-in-Err-clause-fetches : goal.returns-in-Err-clause-fetches
returns-in-Err-clause-fetches g c = λ tells.
    early_fetches g.B.Taker.took g.B.Taker.may_refuse g.met.B.Taker.took_none (address c.args.piece.now.url) c.in-Err.fault c.args.piece.now.headers.items c.args.from
    (g.D.Dialer.wire c.args.dialer.now) c.args.known.now c.args.taker.now
    (elim (rw c.as_str.ensures at c.in-Err.ensures.fault) [ inl out ↦ inl out | inr is ↦ inr (is.1 ∙ ap Err (sym is.0)) ])

pub returns-in-Err-place_of-clause-kept : goal.returns-in-Err-place_of-clause-kept
returns-in-Err-place_of-clause-kept g c =
    keeps_url g.B.Taker.took g.B.Taker.may_refuse g.met.B.Taker.took_none c.in-Err-place_of.fault c.args.taker.now c.in-Err-place_of.ensures.origin

pub returns-in_default-clause-kept : goal.returns-in_default-clause-kept
returns-in_default-clause-kept g c =
    keeps_asking g.B.Taker.took g.B.Taker.may_refuse g.met.B.Taker.took_none OutOfMemory c.args.taker.now (inr refl)

pub returns-in_default-clause-fetches : goal.returns-in_default-clause-fetches
returns-in_default-clause-fetches g c = λ tells.
    early_fetches g.B.Taker.took g.B.Taker.may_refuse g.met.B.Taker.took_none (address c.args.piece.now.url) OutOfMemory c.args.piece.now.headers.items c.args.from
    (g.D.Dialer.wire c.args.dialer.now) c.args.known.now c.args.taker.now (inl refl)

pub returns-in_default-new-clause-kept : goal.returns-in_default-new-clause-kept
returns-in_default-new-clause-kept g c =
    keeps_asking g.B.Taker.took g.B.Taker.may_refuse g.met.B.Taker.took_none OutOfMemory c.args.taker.now (inr refl)

pub returns-in_default-new-clause-fetches : goal.returns-in_default-new-clause-fetches
returns-in_default-new-clause-fetches g c = λ tells.
    early_fetches g.B.Taker.took g.B.Taker.may_refuse g.met.B.Taker.took_none (address c.args.piece.now.url) OutOfMemory c.args.piece.now.headers.items c.args.from
    (g.D.Dialer.wire c.args.dialer.now) c.args.known.now c.args.taker.now (inl refl)

pub returns-clause-kept : goal.returns-clause-kept
returns-clause-kept g c = c.ask.ensures.kept

pub returns-clause-fetches : goal.returns-clause-fetches
returns-clause-fetches g c = λ tells.
    let wire = g.D.Dialer.wire in
    let leads = ap address (sym c.as_str.ensures) ∙ c.in-Ok.ensures.read ∙ c.in-Ok-place_of.ensures.place in
    fetches_by g.B.Taker.took g.B.Taker.may_refuse (address c.args.piece.now.url) _ c.in-Ok-request_text.text.items c.args.piece.now.headers.items c.args.from
    (wire c.args.dialer.now) (wire c.ask.new.dialer) c.args.known.now c.ask.new.known c.ask.result c.args.taker.now c.ask.new.taker leads
    (rw c.deref.ensures.value at c.in-Ok-request_text.ensures.text) (rw c.deref-2.ensures.value at (c.ask.ensures.talks tells))
