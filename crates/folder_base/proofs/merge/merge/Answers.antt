use Rattle.std.proofs.Common.{◌≡◌, ◌++◌, ◌∙◌, [], List, refl, sym, ap, subst, map, not, None}
use Rattle.folder_base.specs.Disk.{Name, Names}
use Rattle.folder_base.specs.Files.{names_of}
use Rattle.folder_base.specs.Lines.{start}
use Rattle.folder_base.specs.Log.{Chapter, begun, told, chapter_of, chapter_after, log_story, rejoined}
use Rattle.folder_base.specs.Parts.{is_in_some}
use Rattle.folder_base.specs.Places.{steps_in, all_over}
use Rattle.folder_base.specs.Story.{Story, stems}
use Rattle.folder_base.specs.Tale.{all_handed, clock_out}
use Rattle.folder_base.specs.declared.round.Round.{Round}
use Rattle.folder_base.specs.declared.side.Side.TheVariants.{Rest}
use Rattle.folder_base.proofs.Disjoint.{disjoint}
use Rattle.folder_base.proofs.Parted.{AreDisjoint}
use Rattle.folder_base.proofs.Merging.{LacksAll, handed_stems, gathered_live, restored, placed_part}
use Rattle.folder_base.proofs.merge.merge.Goals as goal

pub returns-in-Err : goal.returns-in-Err
returns-in-Err c =
    let log = c.args.log.now in
    let places = c.args.places.now.items in
    let stems_are = handed_stems (log_story log).now log.stems.items in
    record {
      plan = refl;
      chapter = ap (chapter_after (record { story = begun log.birth.items; since = 0 })) c.in_ok-reserve.ensures.items;
      log_steps = refl;
      stems = refl;
      steps_are = refl;
      places_are = refl;
      files_are = c.remove_places.ensures ∙ restored places (names_of c.args.files.now) (names_of c.copy_places.new.files)
          (λ name e. c.requires.own name (ap (λ (l : List Name). not (is_in_some l name)) (sym stems_are) ∙ ap not (placed_part (all_handed log) places c.requires.placed name e)))
          c.in-Err.ensures.others;
    }

pub returns-in-Ok : goal.returns-in-Ok
returns-in-Ok c =
    let log = c.args.log.now in
    let steps = c.args.steps.now.items in
    let places = c.args.places.now.items in
    let first : Chapter = record { story = begun log.birth.items; since = 0 } in
    let stems_are = handed_stems (log_story log).now log.stems.items in
    let rest : Story = told (start log Rest) steps in
    let before : told (chapter_after first c.reserve.new.self.items).story log.steps.items ≡ log_story log = ap (λ (l : List Round). told (chapter_after first l).story log.steps.items) c.in_ok-reserve.ensures.items in
    let parts_are : map (λ l. l.items) c.take_steps.new.lists.items ≡ steps_in places = c.take_steps.ensures.taken ∙ ap (λ (l : List _). map (λ v. v.items) l ++ steps_in places) c.in_ok-parts.ensures.items in
    let chapter_is : chapter_of c.close.new.self ≡ rejoined (log_story log) log.stems.items steps (steps_in places) =
    c.close.ensures.chapter ∙ (λ i. rejoined (before i) log.stems.items (c.replace-rest.ensures.value i).items (parts_are i)) in
    let none_left : c.replace-rest.new.dest.items ≡ [] = ap (λ v. v.items) c.replace-rest.ensures.after ∙ c.new.ensures.items in
    let story_is : told (log_story c.close.new.self) c.replace-rest.new.dest.items ≡ (rejoined (log_story log) log.stems.items steps (steps_in places)).story =
    (λ i. told (told (chapter_is i).story (c.close.ensures.steps i)) (none_left i)) in
    let lacks : LacksAll (stems (all_handed log)) rest.now.live =
    (λ name e. sym (ap (λ (m : Names). m name) c.requires.agrees) ∙ c.requires.own name (ap (λ (l : List Name). not (is_in_some l name)) (sym stems_are) ∙ ap not e)) in
    record {
      plan = c.close.ensures.plan;
      empty = c.take_steps.ensures.emptied;
      same = λ i. record { part = None; out = sym c.requires.back i; since = (chapter_is i).since; story = story_is i };
      agrees = c.in-Ok.ensures.ok ∙ ap (all_over places) c.requires.agrees
          ∙ gathered_live (clock_out log) (all_handed log) places c.requires.placed (subst (λ (l : List Name). AreDisjoint l) (sym stems_are) (disjoint log.stems.items log.apart)) rest lacks
          ∙ sym (ap (λ (s : Story). s.now.live) story_is);
    }
