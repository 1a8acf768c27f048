use Rattle.std.proofs.Common.{◌≡◌, ◌∙◌, ◌++◌, [], ◌∷◌, List, refl, ap, subst, length, length-append, arith, rules}
use Rattle.std.specs.Prelude.{slice_get}
use Rattle.std.proofs.lemmas.Grind.{common_steps}
use Rattle.std.proofs.lemmas.List.{nil_from_length}
use Rattle.folder_base.specs.Disk.{Name}
use Rattle.folder_base.specs.Handing.{AreStarts}
use Rattle.folder_base.specs.declared.replay.Replay.{Replay}
use Rattle.folder_base.proofs.rounds.part_of.Goals as goal

pub returns-in-Some : goal.returns-in-Some
returns-in-Some c = λ disk h.
    let stem = c.args.stem.now in
    let start : Replay = c.in-Some.start in
    let all = c.in_ok-starts.starts.items in
    let others = c.pop.new.self.items in
    let are : AreStarts (stem ∷ []) disk all = subst (λ (l : List Name). AreStarts l disk all) c.in_ok-stems.ensures (c.in_ok-starts.ensures.starts disk h) in
    let popped : all ≡ others ++ start ∷ [] = first_of (search rules, grind (arith, common_steps)) in
    let none : others ≡ [] = nil_from_length others (omega (arith, are.many, ap length popped, length-append others (start ∷ []))) in
    are.each 0 stem start refl (ap (λ (l : List Replay). slice_get l 0) (popped ∙ ap (λ (l : List Replay). l ++ start ∷ []) none))
