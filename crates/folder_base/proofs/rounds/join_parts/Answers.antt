use Rattle.std.proofs.Common.{◌≡◌, ◌∙◌, ◌≤◌, ◌⊎◌, ◌∷◌, inl, inr, [], List, map, length, sym, ap, get_or, arith, rules, Bor}
use Rattle.std.specs.Prelude.{Some, option_map, slice_get, Vec}
use Rattle.std.specs.Vec.Iter.{into_iter_items}
use Rattle.std.specs.declared.alloc.Global.{Global}
use Rattle.std.proofs.lemmas.Grind.{common_steps}
use Rattle.std.proofs.lemmas.List.{length-map}
use Rattle.std.proofs.lemmas.Option.{slice_get-get_or, slice_get_within, slice_get-map}
use Rattle.folder_base.specs.Parts.{inside}
use Rattle.folder_base.specs.declared.replay.Replay.{Replay}
use Rattle.folder_base.specs.declared.step.Step.{Step}
use Rattle.folder_base.proofs.Rejoined.{joined_more, joined_all, first_left, none_left}
use Rattle.folder_base.proofs.rounds.join_parts.Goals as goal
use Rattle.folder_base.proofs.rounds.join_parts.Goals.{else-loop-at-test, then-loop-at-test+in_default}

pub loop-at-preserved : goal.loop-at-preserved
loop-at-preserved c =
    let at = c.loop-at.at in
    let parts = c.args.parts.now.items in
    let all = c.args.starts.items in
    let start : Replay = c.in-Some.start in
    let later : List Replay = into_iter_items c.next.new.self in
    let steps_of : Bor (Vec Step Global) → List Step = λ steps. steps.now.items in
    let steps = c.steps-item.result in
    let next_is : into_iter_items c.loop-at.starts ≡ start ∷ later = first_of (search rules, grind (arith, common_steps)) in
    let first = first_left all at start later (sym c.loop-at.invariant.left ∙ next_is) in
    let items = c.deref-steps-items.result.now in
    let read : slice_get items at ≡ Some steps = slice_get-get_or items at steps (omega (arith, c.loop-at-test.true)) ∙ ap (λ (s : Bor (Vec Step Global)). Some s) (sym c.steps-item.is) in
    let steps_at : slice_get (map steps_of parts) at ≡ Some (steps_of steps) =
    slice_get-map steps_of parts at ∙ ap (option_map steps_of) (ap (λ (l : List (Bor (Vec Step Global))). slice_get l at) (sym c.deref-steps-items.ensures.value) ∙ read) in
    record {
      joined = λ stems birth rest is apart starts replayed others.
          let stem = get_or stems at [] in
          let stem_at : slice_get stems at ≡ Some stem = slice_get-get_or stems at [] (omega (arith, slice_get_within all at start first.0, starts.many)) in
          joined_more birth rest stems (map steps_of parts) at stem (steps_of steps) c.loop-at.replay c.join_part.new.replay apart stem_at steps_at
          (c.loop-at.invariant.joined stems birth rest is apart starts replayed others)
          (λ now on own. c.in_ok-join_part.ensures stems stem (inside stem birth) now is stem_at (starts.each at stem start stem_at first.0) on own);
      left = first.1;
    }

pub returns : goal.returns
returns c = λ stems birth rest is apart starts replayed others.
    let at = c.loop-at.at in
    let parts = c.args.parts.now.items in
    let steps_of : Bor (Vec Step Global) → List Step = λ steps. steps.now.items in
    let many : length (map steps_of parts) ≡ length parts = length-map parts steps_of in
    let end : (length stems ≤ at) ⊎ (length (map steps_of parts) ≤ at) = elim c.loop-at-test.branch [
      | else-loop-at-test w ↦ inr (omega (arith, many, w.loop-at-test.false, c.deref-steps-items.ensures.len, ap length c.deref-steps-items.ensures.value))
      | then-loop-at-test+in_default w ↦ inl (
          let ended : into_iter_items c.loop-at.starts ≡ [] = first_of (search rules, grind (arith, common_steps)) in
          omega (arith, none_left c.args.starts.items at (sym c.loop-at.invariant.left ∙ ended), starts.many))
    ] in
    joined_all birth rest stems (map steps_of parts) at c.loop-at.replay end (c.loop-at.invariant.joined stems birth rest is apart starts replayed others)
