use Rattle.std.proofs.Common.{sym, ◌∙◌, ap}
use Rattle.keep_store.specs.Seen.{lane_seen}
use Rattle.piece_turn.specs.Try.{answer_of}
use Rattle.piece_turn.proofs.TriedLemmas.{tried}
use Rattle.piece_turn.proofs.attempt.try_once.Goals as goal

pub returns : goal.returns
returns g c =
    let seen = lane_seen {folder = g.F.Folder} in
    let wire = g.D.Dialer.wire in
    let fetched = c.fetch_from-gave in
    let ended = c.end_try.ensures in
    let one = tried seen c.args.piece.now (wire c.args.dialer.now) (wire fetched.new.dialer) c.promised-from.result c.args.known.now fetched.new.known
    fetched.result ended.0 c.args.lane.now fetched.new.taker (seen c.end_try.new.lane) (sym c.promised-from.ensures.value)
    fetched.ensures.address fetched.ensures.counts fetched.ensures.kept fetched.ensures.fetches fetched.ensures.paired fetched.ensures.complete ended.2 in
    (one.0, ended.1 ∙ sym (ap (λ gave. answer_of gave one.0.kept) one.1 ∙ ap (λ kept. answer_of fetched.result kept) one.2), one.3)
