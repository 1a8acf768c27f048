use Rattle.std.proofs.Common.{◌∙◌}
use Rattle.fmt_sort.proofs.RowLemmas.{begins_whole}
use Rattle.fmt_sort.proofs.row.is_named.Goals as goal

pub returns-then-text-name : goal.returns-then-text-name
returns-then-text-name c = c.begins.ensures ∙ begins_whole c.args.text.now c.args.name.now c.if-text-name.true
