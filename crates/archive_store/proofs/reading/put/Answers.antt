use Rattle.std.proofs.Common.{◌∙◌}
use Rattle.std.proofs.lemmas.Map.Text.{btree_set_updates_text}
use Rattle.std.specs.Prelude.{bytes_eq}
use Rattle.std.specs.BTreeSet.{contains_text}
use Rattle.archive_store.proofs.LineLemmas.{yes_or}
use Rattle.archive_store.proofs.reading.put.Goals as goal

pub returns-clause-put : goal.returns-clause-put
returns-clause-put c other =
    rw c.in_ok-line.ensures.ok at (btree_set_updates_text _ c.args.lines.now c.insert.new.self _ c.in_ok-insert.ensures.updates other)
    ∙ yes_or (bytes_eq c.args.line.now other) (contains_text c.args.lines.now other)
