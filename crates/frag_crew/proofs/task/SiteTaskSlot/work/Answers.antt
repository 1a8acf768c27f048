use Rattle.std.proofs.Common.{get_or}
use Rattle.std.proofs.lemmas.Option.{slice_get-get_or}
use Rattle.frag_crew.proofs.task.SiteTaskSlot.work.Goals as goal

pub returns-clause-does : goal.returns-clause-does
returns-clause-does g c =
    let pieces = c.args.self.now.pieces.now in
    (get_or pieces c.args.at c.index-self-at.result, slice_get-get_or pieces c.args.at c.index-self-at.result c.requires.0, c.fetch_piece-item.ensures)
