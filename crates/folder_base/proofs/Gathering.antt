-- Parts that come back are those that were handed out.
use Rattle.std.proofs.Common.{◌≡◌, ◌∙◌, ◌≤◌, inl, inr, ℕ, Bool, true, false, ◌||◌, List, [], ◌∷◌, ◌++◌, map, length, refl, sym, ap, arith}
use Rattle.std.specs.Prelude.{Option, Some, None, slice_get, All as EachOne, MatchBool, nat_lt}
use Rattle.std.specs.List.{list_any}
use Rattle.std.proofs.lemmas.Bool.Decides.{nat_tests}
use Rattle.std.proofs.lemmas.List.Elements.{All-head, All-tail}
use Rattle.text_base.specs.Causes.{Rose}
use Rattle.folder_base.proofs.Disjoint.{so_left, so_right}
use Rattle.std.proofs.lemmas.List.{map-append, length-map}
use Rattle.folder_base.specs.Content.{content_tale, IsNext}
use Rattle.folder_base.specs.Lines.{part_at, start}
use Rattle.folder_base.specs.Log.{told, newborn, handed, parts_told, log_story}
use Rattle.folder_base.specs.Memory.{world_of}
use Rattle.folder_base.specs.Places.{steps_in}
use Rattle.folder_base.specs.Story.{Part, Story, World, gathered, stories, stem_of, SomeRose, RosesWith}
use Rattle.folder_base.specs.Tale.{tale, gathered_tale, all_handed, clock_out, still_out}
use Rattle.folder_base.specs.declared.content.Content.{Content}
use Rattle.folder_base.specs.declared.line.Line.{Line}
use Rattle.folder_base.specs.declared.log.Log.{Log}
use Rattle.folder_base.specs.declared.memory.FolderMem.{FolderMem}
use Rattle.folder_base.specs.declared.place.Place.{Place}
use Rattle.folder_base.specs.declared.side.Side.{Side}
use Rattle.folder_base.specs.declared.side.Side.TheVariants.{All, Part as PartSide, Rest}
use Rattle.folder_base.specs.declared.step.Step.{Step}

abbrev pub told_part : FolderMem → Option Part
told_part part = (content_tale part.content).part

abbrev pub steps_of : FolderMem → List Step
steps_of part = part.content.line.steps.items

tale_part : (log : Log) (side : Side) (steps : List Step) (places : List Place) → part_at log side ≡ (tale log side steps places).part
tale_part log All steps places = refl
tale_part log (PartSide stem) steps places = refl
tale_part log Rest steps places = refl

never_none : (front later : List (Option Part)) (part : Option Part) → front ++ part ∷ later ≡ [] → ⊥
never_none [] later part e = absurd (cc)
never_none (first ∷ front) later part e = absurd (cc)

-- Where a part comes back, parts were out.
were_out : (log : Log) (side : Side) (steps : List Step) (places : List Place) (front later : List (Option Part)) (part : Option Part)
    → front ++ part ∷ later ≡ map (λ p. Some p) (tale log side steps places).out → (side ≡ Rest) × (places ≡ [])
were_out log All steps places front later part e = absurd (never_none front later part e)
were_out log (PartSide stem) steps places front later part e = absurd (never_none front later part e)
were_out log Rest steps [] front later part e = (refl, refl)
were_out log Rest steps (place ∷ places) front later part e = absurd (never_none front later part e)

-- the part in this place
pub record AtPlace (parts : List Part) (at : ℕ) (part : Option Part) : Type 0 where
  pub which : Part
  pub stands : slice_get parts at ≡ Some which
  pub is_it : part ≡ Some which

at_front : (parts : List Part) (front later : List (Option Part)) (part : Option Part) → front ++ part ∷ later ≡ map (λ p. Some p) parts → AtPlace parts (length front) part
at_front [] front later part e = absurd (never_none front later part e)
at_front (p ∷ parts) [] later part e = record { which = p; stands = refl; is_it = cc }
at_front (p ∷ parts) (first ∷ front) later part e =
    let rest : front ++ part ∷ later ≡ map (λ q. Some q) parts = cc in
    let found = at_front parts front later part rest in
    record { which = found.which; stands = found.stands; is_it = found.is_it }

module _ (old : Content) (all : List FolderMem) (are : map told_part all ≡ map (λ p. Some p) (content_tale old).out) where
  pub next_is : (line : Line) (places : List Place) (front later : List FolderMem) (part : FolderMem) → front ++ part ∷ later ≡ all → line ≡ old.line
      → steps_in places ≡ steps_in old.places.items ++ map steps_of front → IsNext line.log.value line.side places part.content.line
  next_is line places front later part all_is line_is taken =
      let split : map told_part front ++ told_part part ∷ map told_part later ≡ map (λ p. Some p) (content_tale old).out = sym (map-append told_part front (part ∷ later)) ∙ ap (map told_part) all_is ∙ are in
      let out = were_out old.line.log.value old.line.side old.line.steps.items old.places.items (map told_part front) (map told_part later) (told_part part) split in
      let parts_are : (content_tale old).out ≡ all_handed old.line.log.value = (λ i. (tale old.line.log.value (out.0 i) old.line.steps.items (out.1 i)).out) in
      let found = at_front (all_handed old.line.log.value) (map told_part front) (map told_part later) (told_part part) (split ∙ ap (map (λ p. Some p)) parts_are) in
      let many : length places ≡ length (map told_part front) =
      sym (length-map places (λ (p : Place). p.steps.items)) ∙ ap length taken ∙ ap (λ (l : List Place). length (steps_in l ++ map steps_of front)) out.1 ∙ length-map front steps_of ∙ sym (length-map front told_part) in
      record {
        is_rest = ap (λ l. l.side) line_is ∙ out.0;
        which = found.which;
        is_it = tale_part part.content.line.log.value part.content.line.side part.content.line.steps.items part.content.places.items ∙ found.is_it;
        next = ap (slice_get (all_handed line.log.value)) many ∙ ap (λ (l : Line). slice_get (all_handed l.log.value) (length (map told_part front))) line_is ∙ found.stands;
      }

story_one : (log : Log) (side : Side) (steps : List Step) (places : List Place) (part : Part) → (tale log side steps places).part ≡ Some part → (tale log side steps places).story ≡ told (newborn part.birth) steps
story_one log All steps places part is = absurd (cc)
story_one log (PartSide stem) steps places part is = let same : handed (log_story log).now stem ≡ part = cc in ap (λ (p : Part). told (newborn p.birth) steps) same
story_one log Rest steps places part is = absurd (cc)

stories_are : (parts : List Part) (back : List FolderMem) → map told_part back ≡ map (λ p. Some p) parts → parts_told parts (map steps_of back) ≡ stories (map world_of back)
stories_are [] [] e = refl
stories_are [] (part ∷ back) e = absurd (cc)
stories_are (p ∷ parts) [] e = absurd (cc)
stories_are (p ∷ parts) (part ∷ back) e =
    let here : told_part part ≡ Some p = cc in
    let rest : map told_part back ≡ map (λ q. Some q) parts = cc in
    λ i. (
      ap (λ (o : Option Part). stem_of (record (world_of part) { part = o })) (sym here) i,
      sym (story_one part.content.line.log.value part.content.line.side part.content.line.steps.items part.content.places.items p here) i,
    ) ∷ stories_are parts back rest i

alone : (since : ℕ) (parts : List Part) (story : Story) → gathered since (parts_told parts []) story ≡ story
alone since [] story = refl
alone since (p ∷ parts) story = refl

no_parts : (all : List FolderMem) → map told_part all ≡ [] → all ≡ []
no_parts [] e = refl
no_parts (part ∷ all) e = absurd (cc)

no_steps : (all : List FolderMem) → map steps_of all ≡ [] → all ≡ []
no_steps [] e = refl
no_steps (part ∷ all) e = absurd (cc)

none_still : (parts : List Part) (places : List Place) (all : List FolderMem) → map told_part all ≡ map (λ p. Some p) parts → steps_in places ≡ map steps_of all → still_out places parts ≡ []
none_still parts (place ∷ places) all are taken = refl
none_still [] [] all are taken = refl
none_still (p ∷ parts) [] all are taken =
    let none : all ≡ [] = no_steps all (sym taken) in
    let bad : [] ≡ Some p ∷ map (λ q. Some q) parts = sym (ap (map told_part) none) ∙ are in
    absurd (cc)

some_still : (place : Place) (before places : List Place) (parts : List Part) → steps_in places ≡ steps_in (place ∷ before) ++ [] → still_out places parts ≡ []
some_still place before [] parts taken = absurd (cc)
some_still place before (q ∷ places) parts taken = refl

append_nothing : (l : List (List Step)) → l ++ [] ≡ l
append_nothing [] = refl
append_nothing (x ∷ l) = ap (λ (m : List (List Step)). x ∷ m) (append_nothing l)

gathered_so : (log : Log) (side : Side) (steps : List Step) (places old : List Place) (all : List FolderMem) → map told_part all ≡ map (λ p. Some p) (tale log side steps old).out
    → steps_in places ≡ steps_in old ++ map steps_of all → tale log side steps places ≡ gathered_tale (stories (map world_of all)) (tale log side steps old)
gathered_so log All steps places old all are taken =
    ap (λ (l : List FolderMem). gathered_tale (stories (map world_of l)) (tale log All steps old)) (sym (no_parts all are))
gathered_so log (PartSide stem) steps places old all are taken =
    ap (λ (l : List FolderMem). gathered_tale (stories (map world_of l)) (tale log (PartSide stem) steps old)) (sym (no_parts all are))
gathered_so log Rest steps places [] all are taken =
    let parts = all_handed log in
    let rest : Story = told (start log Rest) steps in
    let back : parts_told parts (steps_in places) ≡ stories (map world_of all) = ap (parts_told parts) taken ∙ stories_are parts all are in
    λ i. record { part = None; out = none_still parts places all are taken i; since = clock_out log; story = gathered (clock_out log) (back i) (sym (alone (clock_out log) parts rest) i) }
gathered_so log Rest steps places (place ∷ old) all are taken =
    let parts = all_handed log in
    let none : all ≡ [] = no_parts all are in
    let same : steps_in places ≡ steps_in (place ∷ old) ++ [] = taken ∙ ap (λ (l : List FolderMem). steps_in (place ∷ old) ++ map steps_of l) none in
    (λ i. record {
      part = None;
      out = some_still place old places parts same i;
      since = clock_out log;
      story = gathered (clock_out log) (parts_told parts ((same ∙ append_nothing (steps_in (place ∷ old))) i)) (told (start log Rest) steps);
    })
    ∙ ap (λ (l : List FolderMem). gathered_tale (stories (map world_of l)) (tale log Rest steps (place ∷ old))) (sym none)

-- What is told once they are all back.
pub gathered_is : (old : Content) (all : List FolderMem) → map told_part all ≡ map (λ p. Some p) (content_tale old).out → (line : Line) (places : List Place) → line ≡ old.line
    → steps_in places ≡ steps_in old.places.items ++ map steps_of all → tale line.log.value line.side line.steps.items places ≡ gathered_tale (stories (map world_of all)) (content_tale old)
gathered_is old all are line places line_is taken =
    ap (λ (l : Line). tale l.log.value l.side l.steps.items places) line_is ∙ gathered_so old.line.log.value old.line.side old.line.steps.items places old.places.items all are taken

module _ (count : World → ℕ) where
  pub some_counted : (parts : List FolderMem) → SomeRose count (map world_of parts) → list_any (λ part. nat_lt 0 (count (world_of part))) parts ≡ true
  some_counted [] rose = absurd rose
  some_counted (part ∷ parts) (inl here) = so_left (nat_lt 0 (count (world_of part))) (list_any (λ p. nat_lt 0 (count (world_of p))) parts) (grind (arith, nat_tests))
  some_counted (part ∷ parts) (inr there) = so_right (nat_lt 0 (count (world_of part))) (list_any (λ p. nat_lt 0 (count (world_of p))) parts) (some_counted parts there)

  pub none_counted : (parts : List FolderMem) → EachOne (λ part. count part ≡ 0) (map world_of parts) → list_any (λ part. nat_lt 0 (count (world_of part))) parts ≡ false
  none_counted [] none = refl
  none_counted (part ∷ parts) none =
      let here : count (world_of part) ≡ 0 = All-head (λ (w : World). count w ≡ 0) (world_of part) (map world_of parts) none in
      ap (λ (n : ℕ). nat_lt 0 n || list_any (λ p. nat_lt 0 (count (world_of p))) parts) here ∙ none_counted parts (All-tail (λ (w : World). count w ≡ 0) (world_of part) (map world_of parts) none)

  -- A count that rises where that of some part has risen.
  pub roses_with : (parts : List FolderMem) (old new : World) (flag : Bool) → flag ≡ list_any (λ part. nat_lt 0 (count (world_of part))) parts → MatchBool flag (Rose (count old) (count new)) (count new ≡ count old) → count old ≤ count new
      → RosesWith count (map world_of parts) old new
  roses_with parts old new true is rose later = record { later = later; rose = λ some. rose; stood = λ none. let bad : true ≡ false = is ∙ none_counted parts none in absurd (cc) }
  roses_with parts old new false is stood later = record { later = later; rose = λ some. let bad : false ≡ true = is ∙ some_counted parts some in absurd (cc); stood = λ none. stood }
