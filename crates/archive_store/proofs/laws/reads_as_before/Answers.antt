use Rattle.std.proofs.lemmas.Str.{is_utf8-from_IsUtf8}
use Rattle.archive_store.proofs.GrownLemmas.{same_fault}
use Rattle.archive_store.proofs.laws.reads_as_before.Goals as goal

pub returns : goal.returns
returns c = same_fault c.args._bytes.now c.args._line.now (is_utf8-from_IsUtf8 c.args._line.now c.utf8._line)
