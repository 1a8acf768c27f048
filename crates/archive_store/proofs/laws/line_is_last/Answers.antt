use Rattle.archive_store.proofs.GrownLemmas.{line_behind}
use Rattle.archive_store.proofs.laws.line_is_last.Goals as goal

pub returns : goal.returns
returns c = line_behind c.args._bytes.now c.args._line.now
