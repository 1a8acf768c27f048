use Rattle.std.proofs.Common.{sym, ◌∙◌}
use Rattle.tpl_lang.proofs.CutLemmas.{mark_boundary}
use Rattle.tpl_lang.proofs.scan.behind.Goals as goal

pub split_at-requires : goal.split_at-requires
split_at-requires c = mark_boundary c.args.mark c.args.text.now c.utf8.text c.requires (sym c.begins.ensures ∙ c.if-begins.true)
