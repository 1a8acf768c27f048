use Rattle.std.proofs.Common.{sym, ◌∙◌}
use Rattle.text_base.proofs.Logic.{same_Ok}
use Rattle.tpl_lang.proofs.IntLemmas.{count_parses, no_error}
use Rattle.tpl_lang.proofs.ints.count_of.Goals as goal

pub unreachable-requires : goal.unreachable-requires
unreachable-requires c =
    no_error c.parse.result _ c.in-Err.field-0 (count_parses c.args.digits.now c.parse.result c.parse.ensures.value.0 c.requires.digits c.requires.some c.requires.few) c.in-Err.is

pub returns : goal.returns
returns c = same_Ok _ _ (sym c.in-Ok.is ∙ count_parses c.args.digits.now c.parse.result c.parse.ensures.value.0 c.requires.digits c.requires.some c.requires.few)
