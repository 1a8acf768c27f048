use Rattle.info_tree.specs.Plain.{plain}
use Rattle.job_pieces.proofs.PieceLemmas.{listed}
use Rattle.job_pieces.proofs.parts.fragments_of.Goals as goal

pub returns-in-Some-List : goal.returns-in-Some-List
returns-in-Some-List c = listed (plain c.args.format.now) c.in-Some-List.field-0.now c.in-Some-List.list c.in-Some-List.field-0-is c.in-Some-List.ensures
