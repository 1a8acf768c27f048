use Rattle.std.proofs.Common.{◌≡◌, ◌+◌, ◌++◌, ◌∷◌, ◌∙◌, ◌<◌, [], List, sym, ap, map, length, arith, rules, append_assoc, vec_len, vec_capacity, Bool, true, is_ok}
use Rattle.std.specs.Prelude.{if◌then◌else◌}
use Rattle.std.proofs.lemmas.Grind.{common_steps}
use Rattle.std.proofs.lemmas.List.{map-append}
use Rattle.std.specs.Vec.Iter.{into_iter_items}
use Rattle.folder_base.specs.Places.{steps_in}
use Rattle.folder_base.specs.declared.place.Place.{Place}
use Rattle.folder_base.specs.declared.step.Step.{Step}
use Rattle.folder_base.proofs.places.take_steps.Goals as goal

pub loop-place-preserved : goal.loop-place-preserved
loop-place-preserved c =
    let place : Place = c.in-Some.place in
    let later : List Place = into_iter_items c.next.new.self in
    let next_is : into_iter_items c.loop-place.place-iterator ≡ place ∷ later = first_of (search rules, grind (arith, common_steps)) in
    let fits : vec_len c.loop-place.lists < vec_capacity c.loop-place.lists = omega (arith, ap length next_is, c.loop-place.invariant.room) in
    let pushes : is_ok c.push.result ≡ true = c.push.ensures.succeeds fits in
    let pushed : c.push.new.self.items ≡ c.loop-place.lists.items ++ place.steps ∷ [] = c.push.ensures.items ∙ ap (λ (b : Bool). if b then c.loop-place.lists.items ++ place.steps ∷ [] else c.loop-place.lists.items) pushes in
    let counted : vec_len c.push.new.self ≡ vec_len c.loop-place.lists + 1 = c.push.ensures.len ∙ ap (λ (b : Bool). if b then vec_len c.loop-place.lists + 1 else vec_len c.loop-place.lists) pushes in
    record {
      taken = ap (map (λ steps. steps.items)) pushed ∙ map-append (λ steps. steps.items) c.loop-place.lists.items (place.steps ∷ [])
          ∙ ap (λ (l : List (List Step)). l ++ place.steps.items ∷ []) c.loop-place.invariant.taken
          ∙ append_assoc (map (λ steps. steps.items) c.args.lists.now.items) (steps_in c.loop-place.yielded) (place.steps.items ∷ [])
          ∙ ap (λ (l : List (List Step)). map (λ steps. steps.items) c.args.lists.now.items ++ l) (sym (map-append (λ (p : Place). p.steps.items) c.loop-place.yielded (place ∷ [])));
      rest = append_assoc c.loop-place.yielded (place ∷ []) later ∙ ap (λ (l : List Place). c.loop-place.yielded ++ l) (sym next_is) ∙ c.loop-place.invariant.rest;
      room = omega (arith, counted, ap length next_is, c.loop-place.invariant.room, c.push.ensures.capacity);
    }
