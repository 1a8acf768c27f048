use Rattle.std.proofs.Common.{sym, ◌∙◌}
use Rattle.tpl_lang.proofs.CutLemmas.{length_boundary}
use Rattle.tpl_lang.proofs.field_reading.behind_length.Goals as goal

pub split_at-requires : goal.split_at-requires
split_at-requires c = length_boundary c.args.text.now c.utf8.text (sym c.begins_length.ensures ∙ c.if-begins_length.true)
