use Rattle.std.proofs.Common.{◌∙◌, sym, subst}
use Rattle.word_list.specs.Faults.{Gives}
use Rattle.word_list.proofs.ValueLemmas.{command_by}
use Rattle.word_list.proofs.values.command.Goals as goal

pub returns : goal.returns
returns c =
    subst (λ r. Gives (λ t. t) c.template-2.result r)
    (command_by c.args.value.now c.as_str.result.now c.in_ok-command.command (sym c.is_empty.ensures ∙ c.if-is_empty.false) c.in_ok-command.ensures
    (sym (rw c.parts.ensures at c.has_field.ensures) ∙ c.if-has_field.false) (c.as_str.ensures.value ∙ c.in_ok-with_path.ensures.ok))
    c.template-2.ensures
