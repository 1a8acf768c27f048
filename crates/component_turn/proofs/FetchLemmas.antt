-- What the fetching of a component's pieces comes to, from before `fan` to after `gather`.
use Rattle.std.proofs.Common.{◌≡◌, ⊎_elim, ℕ, ◌<◌, ◌≤◌, Bool, false, List, map, refl, sym, ◌∙◌, ap, subst, arith}
use Rattle.std.proofs.lemmas.List.{length-map}
use Rattle.std.proofs.lemmas.Option.{slice_get_within}
use Rattle.std.specs.List.{slice_get}
use Rattle.std.specs.Prelude.{Some, IsTrue, ⊤, Result, Ok, Err, IfOk, IfErr}
use Rattle.text_base.specs.declared.faults.FolderCall.TheVariants.{Fan}
use Rattle.text_base.specs.declared.faults.FolderFault.{FolderFault}
use Rattle.text_base.specs.declared.faults.FolderFault.TheVariants.{Failed as CallFailed, OutOfMemory as NoMemory}
use Rattle.folder_base.specs.Disk.{Name, May, begins}
use Rattle.folder_base.specs.Parts.{is_in_some, AreApart}
use Rattle.folder_base.specs.Story.{World, Asks, Begins, AreBegun, Same, Fans, Gathers, Collects, part_of}
use Rattle.folder_base.specs.declared.store_fault.StoreFault.{StoreFault}
use Rattle.folder_base.specs.declared.store_fault.StoreFault.TheVariants as store
use Rattle.folder_base.proofs.Images.{reads_may}
use Rattle.folder_base.proofs.Moments.{begun, stays}
use Rattle.folder_steps.specs.Follow.{Follows, Beside}
use Rattle.keep_store.specs.Publish.{store_fault}
use Rattle.keep_store.specs.Safe.{reads}
use Rattle.link_http.specs.Wire.{Wire}
use Rattle.link_http.specs.declared.piece.Piece.{Piece}
use Rattle.piece_turn.specs.declared.piece_end.PieceEnd.{PieceEnd}
use Rattle.plan_record.specs.Names.{record_of, pieces_of, stem_of}
use Rattle.plan_record.specs.declared.line.Line.{Line}
use Rattle.component_store.specs.Component.{Web, pieces_from}
use Rattle.component_store.proofs.FamilyLemmas.{begins_one, pieces_record, pieces_self}
use Rattle.component_turn.specs.declared.component.Component.{Component}
use Rattle.component_turn.specs.Component.{name_of, count_of}
use Rattle.component_turn.specs.Plan.{line_of, lines_of, stems_from}
use Rattle.component_turn.specs.Crew.{Endures, MayFail, IsPlanned, CrewKeeps, CrewSound, FoundIn, FoundAt, PromisedIn, PromisedAt, TellsIn, FetchesNone, Fetches, Crews, CrewsNone}
use Rattle.component_turn.specs.Judge.{judged}
use Rattle.component_turn.specs.Lanes.{AllRetained, AllCame, EachSettled, EachNoLess}
use Rattle.component_turn.specs.Pieces.{AskedAll, AreDoneInReach}
use Rattle.component_turn.proofs.BackLemmas.{all_at}
use Rattle.component_turn.proofs.CrewLemmas.{crew_sound, all_kept, crew_kept, crew_apart, some_rose, refused_may_fail}
use Rattle.component_turn.proofs.FoldLemmas.{retained_at, found_at, promised_at, tells_at, stands_at}
use Rattle.component_turn.proofs.JudgeLemmas.{fault_there}
use Rattle.component_turn.proofs.MakeLemmas.{asked_as}
use Rattle.component_turn.proofs.StemLemmas.{stem_first, planned_stems, stems_apart, off_parts}
use Rattle.component_turn.proofs.TriedLemmas.{AllStay, retained_stay}

-- Want of memory names no call of the folder.
pub memory_fails : {old new : World} {fault : StoreFault} → fault ≡ store.OutOfMemory → MayFail old new fault
memory_fails memory = record {
  rose = λ call is. absurd (let e : store.OutOfMemory ≡ store.Folder call = sym memory ∙ is in cc);
  steady = λ steady tells. memory;
}

-- ---- `fan` was refused: nothing but counts has changed
pub fan_refused : {T : Type 0} {old new : World} {result : Result T FolderFault} → Asks ⊤ old new result → Same old new → Endures old new
fan_refused asks same = record {
  tells = asks.tells;
  still_tells = asks.still_tells;
  steady = asks.steady;
  faults = asks.faults;
  refusals = omega (arith, asks.refusals);
  whole = λ t is. record { no_part = same.part ∙ is.no_part; none_out = same.out ∙ is.none_out };
}

pub fan_fails : {T : Type 0} {old new : World} (result : Result T FolderFault) (fault : FolderFault) → result ≡ Err fault → Asks ⊤ old new result → MayFail old new (store_fault Fan fault)
fan_fails result CallFailed is asks = record {
  rose = λ call e. asks.failed is;
  steady = λ steady tells. absurd (asks.never steady tt is);
}
fan_fails result NoMemory is asks = memory_fails refl

pub if_ok : {E T : Type 0} {P Q : T → Type 0} (result : Result T E) → IfOk result P → ((value : T) → P value → Q value) → IfOk result Q
if_ok (Ok value) h weak = weak value h
if_ok (Err e) h weak = tt

pub if_err : {E T : Type 0} {P Q : E → Type 0} (result : Result T E) → IfErr result P → ((fault : E) → P fault → Q fault) → IfErr result Q
if_err (Ok value) h weak = tt
if_err (Err e) h weak = weak e h

-- ---- parts that went out and came back
pub record Lent (stems : List Name) (old fanned new : World) (handed parts : List World) : Type 0 where
  pub tells : IsTrue fanned.tells → IsTrue old.tells
  pub still_tells : IsTrue old.tells → IsTrue fanned.tells
  pub faults : old.faults ≤ fanned.faults
  pub begun_are : AreBegun stems old handed
  pub fans : IsTrue fanned.tells → Fans stems old handed fanned
  pub collects : Collects parts fanned new
  pub gathers : IsTrue new.tells → Gathers parts fanned new
  pub retained : AllRetained stems handed parts

pub lent_as : {names stems : List Name} {old fanned new : World} {handed parts : List World} → names ≡ stems → Lent names old fanned new handed parts → Lent stems old fanned new handed parts
lent_as {names} {stems} {old} {fanned} {new} {handed} {parts} same lent = subst (λ (l : List Name). Lent l old fanned new handed parts) same lent

pub lent_of : {T : Type 0} {result : Result T FolderFault} {names stems : List Name} {old fanned new : World} {handed parts : List World} → names ≡ stems → Asks ⊤ old fanned result → AreBegun names old handed
    → (IsTrue fanned.tells → Fans names old handed fanned) → Collects parts fanned new → (IsTrue new.tells → Gathers parts fanned new) → AllRetained names handed parts → Lent stems old fanned new handed parts
lent_of same asks begun_are fans collects gathers retained = lent_as same (record {
  tells = asks.tells;
  still_tells = asks.still_tells;
  faults = asks.faults;
  begun_are = begun_are;
  fans = fans;
  collects = collects;
  gathers = gathers;
  retained = retained;
})

module _ (component : Component) where
  abbrev C : Name
  C = name_of component

  abbrev stems : List Name
  stems = stems_from C 0 (count_of component)

  abbrev lines : List Line
  lines = lines_of component.pieces.items

  -- The stems are apart, and neither the record's name nor the component's is one of theirs.
  pub are_apart : AreApart stems
  are_apart = stems_apart C 0 (count_of component) (omega (arith, component.few))

  off_record : is_in_some stems (record_of C) ≡ false
  off_record = off_parts C 0 (count_of component) (record_of C) (begins_one (pieces_of C) (record_of C) ∙ pieces_record C)

  off_self : is_in_some stems C ≡ false
  off_self = off_parts C 0 (count_of component) C (begins_one (pieces_of C) C ∙ pieces_self C)

  pub same_stems : (web : Web) → map (λ piece. piece.stem) (pieces_from web C 0 lines) ≡ stems
  same_stems web = planned_stems web C 0 lines ∙ ap (stems_from C 0) (length-map component.pieces.items line_of)

  -- ---- nothing has happened
  pub keeps_same : (old new : World) → new.story ≡ old.story → CrewKeeps component old new
  keeps_same old new same = record {
    apart = stays (begun old.story (Follows (May old.story.now) (Beside (begins (pieces_of C)))) (λ image may. record { before = image; possible = may; each = λ name beside. refl })) same;
    kept = λ settled was. stays (begun old.story (EachNoLess (reads old.story.now) stems) was) same;
  }

  pub sound_same : (web : Web) (old new : World) → new.story ≡ old.story → CrewSound web component old new
  sound_same web old new same settled always = stays (begun old.story (IsPlanned web C lines) always) same

  -- ---- the parts went out and came back
  module _ (old fanned new : World) (handed parts : List World) (lent : Lent stems old fanned new handed parts) where
    pub crew_keeps : IsTrue new.tells → CrewKeeps component old new
    crew_keeps t =
        let u = lent.collects.tells t in
        record {
          apart = crew_apart C (count_of component) old fanned new handed parts are_apart (lent.fans u)
              (subst (λ (l : List World). AllStay l parts) (lent.fans u).handed (retained_stay stems handed parts lent.retained)) (lent.gathers t);
          kept = crew_kept stems old fanned new handed parts (lent.tells u) are_apart (lent.fans u) lent.retained (lent.gathers t);
        }

    came_sound : IsTrue new.tells → (web : Web) → AllCame (pieces_from web C 0 lines) handed parts → CrewSound web component old new
    came_sound t web came settled always =
        let u = lent.collects.tells t in
        let is = same_stems web in
        let here = always (reads old.story.now) (reads_may old.story.now) in
        crew_sound web C lines component.fit old fanned new handed parts
        (subst AreApart (sym is) are_apart) always
        (ap (λ (l : List Name). is_in_some l (record_of C)) is ∙ off_record)
        (ap (λ (l : List Name). is_in_some l C) is ∙ off_self)
        (subst (λ (l : List Name). Fans l old handed fanned) (sym is) (lent.fans u))
        (all_kept old (pieces_from web C 0 lines) parts (lent.tells u) (subst (λ (l : List Name). EachSettled l old.story.now) (sym is) settled) (here.1 lines component.fit here.0).pieces
        (subst (λ (l : List World). AllCame (pieces_from web C 0 lines) l parts) ((lent.fans u).handed ∙ ap (map (part_of old)) (sym is)) came))
        (lent.gathers t)

    -- None was begun.
    pub crews_none : (fault : StoreFault) → FetchesNone stems handed parts fault → CrewsNone component old new fault
    crews_none fault none = record {
      why = ⊎_elim (λ memory. memory_fails memory)
          (λ was. refused_may_fail old fanned new stems handed parts fault lent.faults (λ steady tells. lent.still_tells tells) lent.begun_are lent.collects was) none.why;
      sound = λ t web. came_sound t web (none.came (pieces_from web C 0 lines) (same_stems web));
    }

    -- They were fetched.
    module _ {D : Type 0} (wire : D → Wire) (retries : ℕ) (ends : List PieceEnd) (ds es : List D) (fetches : Fetches wire stems component.pieces.items retries handed parts ends ds es) where
      within : (k : ℕ) (piece : Piece) → slice_get component.pieces.items k ≡ Some piece → k < count_of component
      within k piece at = slice_get_within component.pieces.items k piece at

      found : (k : ℕ) (complete : Bool) (promised : ℕ) → k < count_of component → FoundIn stems handed k complete promised → FoundAt C old k complete promised
      found = found_at C (count_of component) old fanned new handed parts lent.still_tells lent.tells lent.collects.tells are_apart lent.fans lent.gathers lent.retained

      abbrev turns : AskedAll wire (FoundAt C old) (PromisedAt C new) (λ k. IsTrue new.tells) component.pieces.items retries ends ds es
      turns = asked_as wire (FoundIn stems handed) (FoundAt C old) (PromisedIn stems parts) (PromisedAt C new) (TellsIn parts) (λ k. IsTrue new.tells) component.pieces.items retries ends ds es
          (λ k piece complete promised at here. found k complete promised (within k piece at) here)
          (λ k got n told piece at end_at promised. promised_at C (count_of component) old fanned new handed parts lent.still_tells lent.tells lent.collects.tells are_apart lent.fans lent.gathers lent.retained k got (within k piece at) promised)
          (λ k piece at t. tells_at C (count_of component) old fanned new handed parts lent.still_tells lent.tells lent.collects.tells are_apart lent.fans lent.gathers lent.retained k (within k piece at) t)
          fetches.turns

      counted : (fault : StoreFault) → judged ends ≡ Err fault → MayFail old new fault
      counted fault is = ⊎_elim (λ memory. memory_fails memory)
          (λ some.
          let part = retained_at stems handed parts lent.retained some.2 (stem_of C some.2)
          (stem_first C (count_of component) some.2 (omega (arith, slice_get_within ends some.2 _ some.4, fetches.many))) in
          let rose = fetches.counted some.2 some.3 some.0 part.0 part.1 some.4 part.2 part.3 in
          let b = all_at (Begins old) handed some.2 part.0 part.2 lent.begun_are.each in
          record {
            rose = λ call e. omega (arith, lent.faults, lent.collects.faults.rose (some_rose (λ world. world.faults) parts some.2 part.1 part.3 (omega (arith, rose.0))));
            steady = λ steady tells. absurd (rose.1 (b.steady ∙ steady) (b.tells ∙ tells));
          })
          (fault_there ends fault is)

      calm : IsTrue old.steady → IsTrue old.tells → AreDoneInReach wire (FoundAt C old) (PromisedAt C new) (λ k. IsTrue new.tells) component.pieces.items retries ends ds es fetches.turns.count
      calm steady tells k piece end lt piece_at end_at reached =
          fetches.calm (λ j part at. let b = all_at (Begins old) handed j part at lent.begun_are.each in (b.steady ∙ steady, b.tells ∙ tells)) k piece end lt piece_at end_at
          (λ promised here. reached promised (found k false promised (within k piece piece_at) here))

      pub crews : Crews wire component retries old new ends ds es
      crews = record {
        many = fetches.many;
        turns = turns;
        sound = λ t web tell told. came_sound t web (fetches.came web C refl tell told);
        stand = λ t whole k lt.
            stands_at C (count_of component) old fanned new handed parts lent.still_tells lent.tells lent.collects.tells are_apart lent.fans lent.gathers lent.retained k lt t
            (λ stem part stem_at part_at tells. fetches.stand whole k stem part stem_at part_at tells);
        counted = counted;
        calm = calm;
      }
