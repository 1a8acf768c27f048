use Rattle.std.proofs.Common.{ap, ◌∙◌}
use Rattle.std.proofs.lemmas.Result.{IfOk-weaker}
use Rattle.info_tree.specs.Plain.{plain}
use Rattle.info_tree.specs.Tree.{text as a_text}
use Rattle.field_text.specs.Plain.{plain_text}
use Rattle.tpl_eval.specs.Convert.{converted}
use Rattle.tpl_eval.specs.Field.{replacement_text}
use Rattle.tpl_eval.specs.Limit.{limited}
use Rattle.tpl_eval.proofs.LimitLemmas.{converted-limited}
use Rattle.tpl_eval.proofs.field.replacement_by.Goals as goal

pub returns : goal.returns
returns c =
    let whole = replacement_text (plain_text (plain c.args.value.now)) c.args.replacement.now in
    IfOk-weaker c.converted.result _ _
    (λ t e. e ∙ ap (converted c.args.conv) (c.in_ok-text.ensures.text ∙ ap (λ l. a_text (limited l whole)) c.limit_of.ensures) ∙ converted-limited c.args.conv whole c.in_ok-text.ensures.utf8)
    c.converted.ensures
