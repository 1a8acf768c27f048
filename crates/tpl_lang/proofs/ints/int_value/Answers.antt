use Rattle.std.proofs.Common.{rules, sym, ◌∙◌, FitsSigned}
use Rattle.std.specs.Int.{w64}
use Rattle.std.proofs.lemmas.Int.{to_z-of_z}
use Rattle.text_base.proofs.Logic.{same_Ok}
use Rattle.tpl_lang.proofs.IntLemmas.{int_parses, no_error}
use Rattle.tpl_lang.proofs.ints.int_value.Goals as goal

pub unreachable-requires : goal.unreachable-requires
unreachable-requires c =
    no_error c.parse.result _ c.in-Err.field-0 (int_parses c.args.spelling.now c.parse.result c.parse.ensures.value.0 c.requires.digits c.requires.some c.requires.few) c.in-Err.is

pub returns : goal.returns
returns c =
    let f : FitsSigned w64 c.in-Ok.value = search rules in
    to_z-of_z w64 c.in-Ok.value f
    ∙ same_Ok _ _ (sym c.in-Ok.is ∙ int_parses c.args.spelling.now c.parse.result c.parse.ensures.value.0 c.requires.digits c.requires.some c.requires.few)
