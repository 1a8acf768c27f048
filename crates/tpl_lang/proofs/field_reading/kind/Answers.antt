use Rattle.std.proofs.Common.{sym, ◌∙◌}
use Rattle.tpl_lang.proofs.CutLemmas.{kind_boundary}
use Rattle.tpl_lang.proofs.field_reading.kind.Goals as goal

pub split_at-requires : goal.split_at-requires
split_at-requires c = kind_boundary c.behind_length-text.result.now c.in-Some.kind c.behind_length-text.utf8 (sym c.first_kind.ensures ∙ c.in-Some.is)
