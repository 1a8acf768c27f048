use Rattle.info_tree.specs.Plain.{plain}
use Rattle.job_pieces.proofs.PieceLemmas.{mapped}
use Rattle.job_pieces.proofs.pieces.header_pairs.Goals as goal

pub returns-in-Some-Map : goal.returns-in-Some-Map
returns-in-Some-Map c = mapped (plain c.args.format.now) c.in-Some-Map.field-0.now c.in-Some-Map.pairs c.in-Some-Map.field-0-is c.in-Some-Map.ensures
