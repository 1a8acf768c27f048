-- Parts as they are handed out.
use Rattle.std.proofs.Common.{◌≡◌, ◌∙◌, ℕ, Bool, List, [], ◌∷◌, map, refl, ap}
use Rattle.std.specs.Prelude.{All}
use Rattle.std.proofs.lemmas.List.Elements.{All-nil, All-cons, All-head, All-tail}
use Rattle.folder_base.specs.Disk.{Name}
use Rattle.folder_base.specs.Line.{line_tale}
use Rattle.folder_base.specs.Memory.{world_with, line_world, plans, numbers_of, line_numbers, Numbers, GoesOn}
use Rattle.folder_base.specs.Plan.{plans_nothing, plans_call}
use Rattle.folder_base.specs.Story.{World, part_of, Begins}
use Rattle.folder_base.specs.Tale.{Tale, part_tale}
use Rattle.folder_base.specs.declared.line.Line.{Line}
use Rattle.folder_base.specs.declared.memory.FolderMem.{FolderMem}
use Rattle.folder_base.specs.declared.plan.Plan.{Plan}

worlds_are : (plan : Plan) (lines : List Line) → All (λ line. line.log.value.plan ≡ plan) lines → map line_world lines ≡ map (world_with (plans_nothing plan) 0 0) (map line_tale lines)
worlds_are plan [] all = refl
worlds_are plan (line ∷ lines) all =
    λ i. world_with (plans_nothing (All-head (λ (l : Line). l.log.value.plan ≡ plan) line lines all i)) 0 0 (line_tale line)
    ∷ worlds_are plan lines (All-tail (λ (l : Line). l.log.value.plan ≡ plan) line lines all) i

parts_are : (steady : Bool) (faults refusals : ℕ) (tale : Tale) (stems : List Name) → map (world_with steady 0 0) (map (part_tale tale.story.now) stems) ≡ map (part_of (world_with steady faults refusals tale)) stems
parts_are steady faults refusals tale [] = refl
parts_are steady faults refusals tale (stem ∷ stems) = ap (λ l. part_of (world_with steady faults refusals tale) stem ∷ l) (parts_are steady faults refusals tale stems)

-- One part is handed out for each stem.
pub handed_worlds : (plan : Plan) (steady : Bool) (faults refusals : ℕ) (tale : Tale) (stems : List Name) (lines : List Line) → plans_nothing plan ≡ steady → All (λ line. line.log.value.plan ≡ plan) lines
    → map line_tale lines ≡ map (part_tale tale.story.now) stems → map line_world lines ≡ map (part_of (world_with steady faults refusals tale)) stems
handed_worlds plan steady faults refusals tale stems lines steady_is plans tales =
    worlds_are plan lines plans ∙ (λ i. map (world_with (steady_is i) 0 0) (tales i)) ∙ parts_are steady faults refusals tale stems

pub begin_so : (old : World) (stems : List Name) → All (Begins old) (map (part_of old) stems)
begin_so old [] = All-nil (Begins old)
begin_so old (stem ∷ stems) = All-cons (Begins old) (part_of old stem) (map (part_of old) stems) (record { tells = refl; steady = refl; faults = refl; refusals = refl }) (begin_so old stems)

one_goes_on : (folder part : FolderMem) (line : Line) → line.log.value.plan ≡ folder.content.line.log.value.plan → numbers_of part ≡ line_numbers folder.calls line → GoesOn folder part
one_goes_on folder part line plan_is is = record {
  number = ap (λ (n : Numbers). n.number) is;
  first = ap (λ (n : Numbers). n.first) is;
  plan = ap (λ (n : Numbers). plans_call n.plan.fails.items n.plan.stop) is ∙ ap (λ (p : Plan). plans_call p.fails.items p.stop) plan_is;
}

-- Each part goes on from the folder that handed it out.
pub go_on : (folder : FolderMem) (parts : List FolderMem) (lines : List Line) → All (λ line. line.log.value.plan ≡ folder.content.line.log.value.plan) lines
    → map numbers_of parts ≡ map (line_numbers folder.calls) lines → All (GoesOn folder) parts
go_on folder [] lines plans_are are = All-nil (GoesOn folder)
go_on folder (part ∷ parts) [] plans_are are = absurd (cc)
go_on folder (part ∷ parts) (line ∷ lines) plans_are are =
    let SamePlan : Line → Type 0 = λ l. l.log.value.plan ≡ folder.content.line.log.value.plan in
    let one : numbers_of part ≡ line_numbers folder.calls line = cc in
    let others : map numbers_of parts ≡ map (line_numbers folder.calls) lines = cc in
    All-cons (GoesOn folder) part parts (one_goes_on folder part line (All-head SamePlan line lines plans_are) one)
    (go_on folder parts lines (All-tail SamePlan line lines plans_are) others)
