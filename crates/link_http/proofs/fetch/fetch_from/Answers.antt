use Rattle.link_http.specs.Request.{address}
use Rattle.link_http.proofs.WireLemmas.{counts_then}
use Rattle.link_http.proofs.PairedLemmas.{paired}
use Rattle.link_http.proofs.TryLemmas.{fetches_then, complete}
use Rattle.link_http.proofs.fetch.fetch_from.Goals as goal

pub returns-clause-counts : goal.returns-clause-counts
returns-clause-counts g c =
    let wire = g.D.Dialer.wire in
    counts_then (wire c.args.dialer.now) (wire c.try_piece-result.new.dialer) (wire c.hang_up.new.self) _ c.try_piece-result.ensures.counts c.hang_up.ensures.counts

pub returns-clause-fetches : goal.returns-clause-fetches
returns-clause-fetches g c = λ tells.
    let wire = g.D.Dialer.wire in
    fetches_then g.B.Taker.took g.B.Taker.may_refuse (address c.args.piece.now.url) c.try_piece-result.result c.args.piece.now.headers.items c.args.from
    (wire c.args.dialer.now) (wire c.try_piece-result.new.dialer) (wire c.hang_up.new.self) c.args.known.now c.try_piece-result.new.known
    c.args.taker.now c.try_piece-result.new.taker (c.hang_up.ensures.told tells) (c.try_piece-result.ensures.fetches (c.hang_up.ensures.counts.tells tells))

pub returns-clause-complete : goal.returns-clause-complete
returns-clause-complete g c = λ tells to bytes there never memory.
    let wire = g.D.Dialer.wire in
    complete g.B.Taker.took g.B.Taker.may_refuse (address c.args.piece.now.url) c.args.piece.now.url to c.args.piece.now.headers.items c.args.from
    (wire c.args.dialer.now) (wire c.hang_up.new.self) c.args.known.now c.try_piece-result.new.known c.try_piece-result.result c.args.taker.now c.try_piece-result.new.taker
    bytes there.leads (returns-clause-counts g c) c.try_piece-result.ensures.kept (returns-clause-fetches g c tells) there never memory

pub returns-clause-paired : goal.returns-clause-paired
returns-clause-paired g c = λ tells before.
    let wire = g.D.Dialer.wire in
    paired g.B.Taker.took g.B.Taker.may_refuse (address c.args.piece.now.url) c.args.piece.now.headers.items c.args.from
    (wire c.args.dialer.now) (wire c.hang_up.new.self) c.args.known.now c.try_piece-result.new.known c.try_piece-result.result c.args.taker.now c.try_piece-result.new.taker
    (returns-clause-fetches g c tells) before
