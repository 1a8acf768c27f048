use Rattle.info_tree.proofs.Faults.{only_tree, only_fault}
use Rattle.info_tree.proofs.reader.read_tree.Goals as goal

pub returns-clause-only : goal.returns-clause-only
returns-clause-only c = only_tree c.args.bytes.now c.read_bytes.result c.read_bytes.ensures.tree c.read_bytes.ensures.fault

pub returns-clause-exact : goal.returns-clause-exact
returns-clause-exact c = only_fault c.args.bytes.now c.read_bytes.result c.read_bytes.ensures.tree c.read_bytes.ensures.fault
