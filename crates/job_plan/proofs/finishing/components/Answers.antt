use Rattle.std.proofs.Common.{◌≡◌, ◌⊎◌, inl, inr, ◌∙◌, List, length, map, ap, rules, arith, Bor}
use Rattle.std.specs.Iterator.Adapters.{zip_first, zip_second}
use Rattle.std.specs.Slice.Iter.{iter_rest}
use Rattle.std.specs.Vec.Iter.{into_iter_items}
use Rattle.std.proofs.lemmas.Grind.{common_steps}
use Rattle.info_item.specs.declared.format.Format.{Format as HeldFormat}
use Rattle.job_names.specs.Text.{Text}
use Rattle.job_pieces.specs.Kept.{AreKept}
use Rattle.job_pieces.specs.Views.{plain_component}
use Rattle.job_plan.specs.Jobs.{component_of, components_of}
use Rattle.job_plan.proofs.FinishLemmas.{next_made, all_made, next_kept, next_component, no_components}
use Rattle.job_plan.proofs.finishing.components.Goals as goal

pub loop-name-preserved : goal.loop-name-preserved
loop-name-preserved c =
    let later : List Text = into_iter_items (zip_first c.next.new.self) in
    let rest : List (Bor HeldFormat) = iter_rest (zip_second c.next.new.self) in
    let old = c.loop-name.components.items in
    record {
      made = next_made plain_component (component_of c.in-Some.name c.in-Some.part.now.now) old c.push.new.self.items c.in_ok-component.field-0
          (components_of later (map (λ f. f.now) rest)) _ _ c.in_ok-push.ensures.items c.in_ok-component.ensures.component
          (next_component _ later _ rest c.in-Some.name c.in-Some.part.now c.in-Some.ensures.steps.0.0 c.in-Some.ensures.steps.1) c.loop-name.invariant.made;
      kept = next_kept plain_component AreKept old c.push.new.self.items c.in_ok-component.field-0 c.in_ok-push.ensures.items c.in_ok-component.ensures.kept c.loop-name.invariant.kept;
    }

pub returns-clause-components : goal.returns-clause-components
returns-clause-components c =
    let later : List Text = into_iter_items (zip_first c.loop-name.name-iterator) in
    let rest : List (Bor HeldFormat) = iter_rest (zip_second c.loop-name.name-iterator) in
    let begun : into_iter_items (zip_first c.into_iter-name-iterator.result) ≡ c.args.names.items = first_of (search rules, grind (arith, common_steps)) in
    let given : iter_rest (zip_second c.into_iter-name-iterator.result) ≡ c.args.parts.now = first_of (search rules, grind (arith, common_steps)) in
    let ended : (length later ≡ 0) ⊎ (length rest ≡ 0) = elim c.in-None.ensures.steps [ inl first ↦ inl (omega (arith, first.1.0)) | inr second ↦ inr (omega (arith, second.1.0)) ] in
    all_made plain_component c.loop-name.components.items (components_of later (map (λ f. f.now) rest)) _ (no_components later rest ended) c.loop-name.invariant.made
    ∙ ap (λ (l : List Text). components_of l (map (λ f. f.now) (iter_rest (zip_second c.into_iter-name-iterator.result)))) begun
    ∙ ap (λ (l : List (Bor HeldFormat)). components_of c.args.names.items (map (λ f. f.now) l)) given
