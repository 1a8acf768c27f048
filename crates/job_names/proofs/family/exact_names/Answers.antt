use Rattle.std.proofs.Common.{◌≡◌, ◌∷◌, ◌++◌, length, [], true, false, sym, ap, ◌∙◌, arith}
use Rattle.job_names.proofs.OutputLemmas.{exact_made, outputs}
use Rattle.job_names.proofs.family.exact_names.Goals as goal
use Rattle.job_names.proofs.family.exact_names.Goals.{then-has_output+in_ok-push_copy, else-has_output}

pub returns : goal.returns
returns c =
    let end : c.loop-component.component-index ≡ length c.args.components.now = omega (arith, c.loop-component-test.false, c.loop-component.auto.component-index-end) in
    elim c.if-has_output.branch [
      | then-has_output+in_ok-push_copy w ↦
          exact_made (record { final_name = c.args.final_name.now; components = c.args.components.now; outputs = outputs c.args.steps.now }) true c.if-has_output.names.items
          c.loop-component.names.items c.push_outputs.new.names.items c.loop-component.component-index (sym w.if-has_output.true ∙ c.has_output.ensures)
          (ap (λ v. v.items) w.names-is ∙ w.in_ok-push_copy.ensures ∙ ap (λ l. l ++ c.args.final_name.now ∷ []) c.new-names.ensures.items) end c.loop-component.invariant c.in_ok-push_outputs.ensures
      | else-has_output w ↦
          exact_made (record { final_name = c.args.final_name.now; components = c.args.components.now; outputs = outputs c.args.steps.now }) false c.if-has_output.names.items
          c.loop-component.names.items c.push_outputs.new.names.items c.loop-component.component-index (sym w.if-has_output.false ∙ c.has_output.ensures)
          (ap (λ v. v.items) w.names-is ∙ c.new-names.ensures.items) end c.loop-component.invariant c.in_ok-push_outputs.ensures
    ]
