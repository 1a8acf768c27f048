use Rattle.std.proofs.Common.{sym, ◌∙◌}
use Rattle.tpl_lang.proofs.CutLemmas.{operator_boundary}
use Rattle.tpl_lang.proofs.expr_reading.operation.Goals as goal

pub split_at-requires : goal.split_at-requires
split_at-requires c = operator_boundary c.args.text.now c.in-Some.op c.utf8.text (sym c.op.ensures ∙ c.in-Some.is)
