use Rattle.std.proofs.Common.{sym, ◌∙◌}
use Rattle.tpl_lang.proofs.CutLemmas.{directive_boundary}
use Rattle.tpl_lang.proofs.expr_reading.directive.Goals as goal

pub split_at-requires : goal.split_at-requires
split_at-requires c = directive_boundary c.args.text.now c.in-Some.directive c.utf8.text (sym c.first_directive.ensures ∙ c.in-Some.is)
