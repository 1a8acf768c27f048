-- What a folder tells once nothing stands in its places.
use Rattle.std.proofs.Common.{◌≡◌, ◌∙◌, ℕ, Bool, true, false, not, List, [], ◌∷◌, map, length, refl, sym, ap, subst, String, Ok, Err}
use Rattle.std.specs.Prelude.{Result, Option, Some, None, Vec, ◌≢◌, option_and_then, slice_get}
use Rattle.std.specs.BTreeMap.{BTreeMap}
use Rattle.std.specs.declared.alloc.Global.{Global}
use Rattle.text_base.specs.declared.faults.OutOfMemory.{OutOfMemory}
use Rattle.folder_base.specs.Content.{content_tale, content_owns, ContentSteps, FansOut}
use Rattle.folder_base.specs.Disk.{Name, Names, Disk}
use Rattle.folder_base.specs.Line.{LineSteps, line_story, line_part, HandsOut}
use Rattle.folder_base.specs.Files.{names_of}
use Rattle.folder_base.specs.Index.{FindsPart}
use Rattle.folder_base.specs.Lines.{start, owns, HasOwn, part_at}
use Rattle.folder_base.specs.Log.{told, handed, left, parts_told, chapter_of, log_story}
use Rattle.folder_base.specs.Merge.{IsMerged}
use Rattle.folder_base.specs.Parts.{is_in_some}
use Rattle.folder_base.specs.Places.{IsPlaced, ArePlaced, all_over}
use Rattle.folder_base.specs.Steps.{Agrees, DoneBy}
use Rattle.folder_base.specs.Story.{Part, Story, gathered, stems}
use Rattle.folder_base.specs.Tale.{Tale, tale, tale_owns, TaleSteps, all_handed, clock_out, part_tale}
use Rattle.folder_base.specs.declared.content.Content.{Content}
use Rattle.folder_base.specs.declared.line.Line.{Line}
use Rattle.folder_base.specs.declared.log.Log.{Log}
use Rattle.folder_base.specs.declared.place.Place.{Place}
use Rattle.folder_base.specs.declared.side.Side.{Side}
use Rattle.folder_base.specs.declared.side.Side.TheVariants.{All, Part as PartSide, Rest}
use Rattle.folder_base.specs.declared.step.Step.{Step}
use Rattle.folder_base.specs.declared.stored.Stored.{Stored}
use Rattle.folder_base.proofs.Disjoint.{both_so, disjoint}
use Rattle.folder_base.proofs.Merging.{handed_stems, gathered_live, LacksAll, over_none, out_of_places, over_at, in_some}
use Rattle.folder_base.proofs.Parted.{AreDisjoint}

none_gathered : (since : ℕ) (parts : List Part) (story : Story) → gathered since (parts_told parts []) story ≡ story
none_gathered since [] story = refl
none_gathered since (part ∷ parts) story = refl

pub story_alone : (log : Log) (side : Side) (steps : List Step) → (tale log side steps []).story ≡ told (start log side) steps
story_alone log All steps = refl
story_alone log (PartSide stem) steps = refl
story_alone log Rest steps = none_gathered (clock_out log) (all_handed log) (told (start log Rest) steps)

owns_alone : (log : Log) (side : Side) (steps : List Step) (name : Name) → tale_owns (tale log side steps []) name ≡ true → owns log side name ≡ true
owns_alone log All steps name e = refl
owns_alone log (PartSide stem) steps name e = (both_so _ _ e).0
owns_alone log Rest steps name e = ap (λ (l : List Name). not (is_in_some l name)) (sym (handed_stems (log_story log).now log.stems.items)) ∙ e

-- The folder's names are those of its line.
pub line_owns_it : (old mid : Content) (name : Name) → content_tale mid ≡ content_tale old → mid.places.items ≡ [] → content_owns old name ≡ true
    → owns mid.line.log.value mid.line.side name ≡ true
line_owns_it old mid name same empty own =
    owns_alone mid.line.log.value mid.line.side mid.line.steps.items name
    (ap (λ (l : List Place). tale_owns (tale mid.line.log.value mid.line.side mid.line.steps.items l) name) (sym empty) ∙ ap (λ (t : Tale). tale_owns t name) same ∙ own)

module _ (is_proper : Names → Bool) (step : Disk → Disk) (result : Result Bool OutOfMemory) where
  steps_alone : (log : Log) (side : Side) (steps steps' : List Step) → DoneBy (is_proper (told (start log side) steps).now.live) step (told (start log side) steps) (told (start log side) steps') result
      → TaleSteps is_proper step (tale log side steps []) (tale log side steps' []) result
  steps_alone log All steps steps' done = record { part = refl; out = refl; since = refl; done = done }
  steps_alone log (PartSide stem) steps steps' done = record { part = refl; out = refl; since = refl; done = done }
  steps_alone log Rest steps steps' done = record {
    part = refl;
    out = refl;
    since = refl;
    done = subst (λ (s : Story). DoneBy (is_proper s.now.live) step s (tale log Rest steps' []).story result) (sym (story_alone log Rest steps))
        (subst (λ (s : Story). DoneBy (is_proper (told (start log Rest) steps).now.live) step (told (start log Rest) steps) s result) (sym (story_alone log Rest steps')) done);
  }

  -- A line's step is the folder's, where nothing stands in its places.
  pub content_done : (old mid new : Content) → content_tale mid ≡ content_tale old → mid.line.log.value.plan ≡ old.line.log.value.plan → mid.places.items ≡ [] → new.places ≡ mid.places
      → LineSteps is_proper step mid.line new.line result → ContentSteps is_proper step old new result
  content_done old mid new same plan empty places_are steps = record {
    plan = ap (λ log. log.value.plan) steps.log ∙ plan;
    steps = subst (λ (t : Tale). TaleSteps is_proper step t (content_tale new) result) (tale_is ∙ same)
        (subst (λ (t : Tale). TaleSteps is_proper step (tale mid.line.log.value mid.line.side mid.line.steps.items []) t result) new_is
        (steps_alone mid.line.log.value mid.line.side mid.line.steps.items new.line.steps.items
        (subst (λ (s : Story). DoneBy (is_proper (line_story mid.line).now.live) step (line_story mid.line) s result)
        (λ i. told (start (steps.log i).value (steps.side i)) new.line.steps.items) steps.done)));
  }
    where
      tale_is : tale mid.line.log.value mid.line.side mid.line.steps.items [] ≡ content_tale mid
      tale_is = ap (tale mid.line.log.value mid.line.side mid.line.steps.items) (sym empty)

      new_is : tale mid.line.log.value mid.line.side new.line.steps.items [] ≡ content_tale new
      new_is = λ i. tale (sym steps.log i).value (sym steps.side i) new.line.steps.items (sym (ap (λ v. v.items) places_are ∙ empty) i)

-- what stands, where parts were handed out
pub all_live : (log : Log) (steps : List Step) (files : BTreeMap (String Global) Stored) (places : List Place) → Agrees (start log Rest) steps files → HasOwn log Rest files → ArePlaced (all_handed log) places
    → (tale log Rest steps places).story.now.live ≡ all_over places (names_of files)
all_live log steps files places agrees own placed =
    sym (gathered_live (clock_out log) (all_handed log) places placed (subst (λ (l : List Name). AreDisjoint l) (sym stems_are) (disjoint log.stems.items log.apart)) (told (start log Rest) steps) lacks)
    ∙ ap (all_over places) (sym agrees)
  where
    stems_are : stems (all_handed log) ≡ log.stems.items
    stems_are = handed_stems (log_story log).now log.stems.items

    lacks : LacksAll (stems (all_handed log)) (told (start log Rest) steps).now.live
    lacks name e = sym (ap (λ (m : Names). m name) agrees) ∙ own name (ap (λ (l : List Name). not (is_in_some l name)) (sym stems_are) ∙ ap not e)

module _ (content : Content) (is_rest : content.line.side ≡ Rest) (name : Name) where
  abbrev log : Log
  log = content.line.log.value

  abbrev files : BTreeMap (String Global) Stored
  files = content.line.files

  abbrev places : List Place
  places = content.places.items

  handed_are : stems (all_handed log) ≡ log.stems.items
  handed_are = handed_stems (log_story log).now log.stems.items

  own_here : HasOwn log Rest files
  own_here = subst (λ (s : Side). HasOwn log s files) is_rest content.line.own

  live_is : (content_tale content).story.now.live name ≡ all_over places (names_of files) name
  live_is = ap (λ (s : Side). (tale log s content.line.steps.items places).story.now.live name) is_rest
      ∙ ap (λ (m : Names). m name) (all_live log content.line.steps.items files places (subst (λ (s : Side). Agrees (start log s) content.line.steps.items files) is_rest content.line.agrees) own_here content.placed)

  pub live_elsewhere : is_in_some log.stems.items name ≡ false → names_of files name ≡ (content_tale content).story.now.live name
  live_elsewhere e = sym (live_is ∙ over_none places (names_of files) name (out_of_places (all_handed log) places content.placed name (ap (λ (l : List Name). is_in_some l name) handed_are ∙ e)))

  pub live_there : (at : ℕ) → FindsPart log.stems.items name (Some at) → (place : Option Place) → slice_get places at ≡ place
      → (content_tale content).story.now.live name ≡ option_and_then (λ (p : Place). names_of p.files name) place
  live_there at (stem, stands, part) place is =
      live_is ∙ over_at (all_handed log) places content.placed (subst (λ (l : List Name). AreDisjoint l) (sym handed_are) (disjoint log.stems.items log.apart)) at stem name (ap (λ (l : List Name). slice_get l at) handed_are ∙ stands) part
      (names_of files) (own_here name (ap not (in_some log.stems.items at stem name stands part))) place is

  pub none_there : (at : ℕ) → FindsPart log.stems.items name (Some at) → slice_get places at ≡ None → names_of files name ≡ (content_tale content).story.now.live name
  none_there at found is = own_here name (ap not (in_some log.stems.items at found.0 name found.1 found.2)) ∙ sym (live_there at found None is)

placed_at : (log : Log) (side : Side) (place : Place) → Agrees (start log side) place.steps.items place.files → HasOwn log side place.files → (part : Part) → part_at log side ≡ Some part → IsPlaced part place
placed_at log All place agrees own part is = absurd (cc)
placed_at log (PartSide stem) place agrees own part is =
    let same : handed (log_story log).now stem ≡ part = cc in
    subst (λ (p : Part). IsPlaced p place) same (λ name. ap (λ (m : Names). m name) agrees, own)
placed_at log Rest place agrees own part is = absurd (cc)

-- A part's line leaves what belongs in its place.
pub line_placed : (line : Line) (part : Part) → line_part line ≡ Some part → IsPlaced part (record { steps = line.steps; files = line.files })
line_placed line part is = placed_at line.log.value line.side (record { steps = line.steps; files = line.files }) line.agrees line.own part is

-- Where nothing stands in the places, what stands in the line is what is told.
pub line_live : (content : Content) → content.places.items ≡ [] → names_of content.line.files ≡ (content_tale content).story.now.live
line_live content empty =
    content.line.agrees
    ∙ sym (ap (λ (s : Story). s.now.live) (story_alone content.line.log.value content.line.side content.line.steps.items))
    ∙ ap (λ (l : List Place). (tale content.line.log.value content.line.side content.line.steps.items l).story.now.live) (sym empty)

no_stems : (disk : Disk) (names : List Name) → map (handed disk) names ≡ [] → names ≡ []
no_stems disk [] e = refl
no_stems disk (name ∷ names) e = absurd (cc)

whole_side : (log : Log) (side : Side) (steps : List Step) → (tale log side steps []).part ≡ None → (tale log side steps []).out ≡ [] → (side ≡ Rest → log.stems.items ≢ []) → side ≡ All
whole_side log All steps part out stems_out = refl
whole_side log (PartSide stem) steps part out stems_out = absurd (cc)
whole_side log Rest steps part out stems_out = absurd (stems_out refl (no_stems (log_story log).now log.stems.items out))

-- A whole folder that is merged tells of all names.
pub is_all : (old mid : Content) → content_tale mid ≡ content_tale old → IsMerged mid.line.log.value mid.line.side mid.places → (content_tale old).part ≡ None → (content_tale old).out ≡ [] → mid.line.side ≡ All
is_all old mid same merged no_part none_out =
    whole_side mid.line.log.value mid.line.side mid.line.steps.items (ap (λ (t : Tale). t.part) (mid_is ∙ same) ∙ no_part) (ap (λ (t : Tale). t.out) (mid_is ∙ same) ∙ none_out) merged.out
  where
    mid_is : tale mid.line.log.value mid.line.side mid.line.steps.items [] ≡ content_tale mid
    mid_is = ap (tale mid.line.log.value mid.line.side mid.line.steps.items) (sym merged.empty)

chapter_all : (log : Log) (side : Side) (steps : List Step) (places : List Place) → side ≡ All → (tale log side steps places).since ≡ (chapter_of log).since
chapter_all log side steps places e = ap (λ (s : Side). (tale log s steps places).since) e

pub fanned : (stems : List Name) (old mid new : Content) (result : Result (Vec Line Global) OutOfMemory) → content_tale mid ≡ content_tale old → mid.line.log.value.plan ≡ old.line.log.value.plan → (content_tale old).part ≡ None
    → mid.line.side ≡ All → mid.places.items ≡ [] → new.places.items ≡ [] → HandsOut stems mid.line new.line result → FansOut stems old new result
fanned stems old mid new (Ok lines) same plan no_part all empty none out = record {
  plan = out.plan ∙ plan;
  tale_is = (λ i. tale new.line.log.value (out.side i) (out.steps i) (none i))
      ∙ (λ i. record {
        part = sym no_part i;
        out = map (handed (story_is i).now) (out.stems_are i);
        since = length (left (out.stems_are i) (story_is i)).past;
        story = (none_gathered (clock_out new.line.log.value) (all_handed new.line.log.value) (left new.line.log.value.stems.items (log_story new.line.log.value)) ∙ (λ j. left (out.stems_are j) (story_is j))) i;
      });
  tales = out.lines_are.tales ∙ ap (λ (s : Story). map (part_tale s.now) stems) story_is;
  plans = λ k d lt. out.lines_are.plans k d lt ∙ out.plan ∙ plan;
  parts = out.lines_are.parts;
}
  where
    story_is : log_story new.line.log.value ≡ (content_tale old).story
    story_is = out.story ∙ sym (story_alone mid.line.log.value mid.line.side mid.line.steps.items)
        ∙ ap (λ (l : List Place). (tale mid.line.log.value mid.line.side mid.line.steps.items l).story) (sym empty) ∙ ap (λ (t : Tale). t.story) same
fanned stems old mid new (Err x) same plan no_part all empty none stays = record {
  plan = stays.plan ∙ plan;
  tale_is = new_is ∙ same;
}
  where
    new_is : content_tale new ≡ content_tale mid
    new_is = (λ i. tale new.line.log.value ((stays.side ∙ all) i) new.line.steps.items (none i))
        ∙ (λ i. record { part = None; out = []; since = (stays.chapter i).since; story = story_both i })
        ∙ (λ i. tale mid.line.log.value (sym all i) mid.line.steps.items (sym empty i))
      where
        story_both : told (start new.line.log.value All) new.line.steps.items ≡ told (start mid.line.log.value All) mid.line.steps.items
        story_both = (λ i. told (start new.line.log.value (sym (stays.side ∙ all) i)) new.line.steps.items) ∙ stays.story ∙ (λ i. told (start mid.line.log.value (all i)) mid.line.steps.items)
