-- What is so of a component once its crew is back, and how it is put together.
use Rattle.std.proofs.Common.{◌≡◌, inl, ⊎_elim, ℕ, zero, suc, ◌<◌, Bool, true, false, length, refl, sym, ◌∙◌, ap, subst, arith}
use Rattle.std.proofs.lemmas.Bool.{cases_lt}
use Rattle.std.proofs.lemmas.List.{length-map}
use Rattle.std.specs.Prelude.{Some, None, IsTrue, IsSome, ◌&&◌, ◌||◌, not, nat_eq, bytes_eq, option_map, if◌then◌else◌}
use Rattle.folder_base.specs.Disk.{Name, Disk, May, begins, content, lasting_file}
use Rattle.folder_base.specs.Parts.{is_part}
use Rattle.folder_base.specs.Story.{World, Through}
use Rattle.folder_base.proofs.Images.{same_name}
use Rattle.folder_steps.specs.Follow.{Always}
use Rattle.keep_store.specs.Publish.{Stays}
use Rattle.keep_store.specs.Safe.{reads}
use Rattle.piece_turn.specs.Lane.{NoLess}
use Rattle.plan_record.specs.Names.{record_of, joined_of, pieces_of, stem_of}
use Rattle.component_store.specs.Assemble.{is_stem, IsAssembling, IsAssembled, IsPutTogether}
use Rattle.component_store.specs.Component.{Web, HasPieces, HasRecord, ComponentSound}
use Rattle.component_store.proofs.FamilyLemmas.{begins_one, pieces_record, self_record, self_stem, joined_record}
use Rattle.component_turn.specs.declared.component.Component.{Component}
use Rattle.component_turn.specs.declared.settings.Settings.{Settings}
use Rattle.component_turn.specs.Component.{name_of, text_of, count_of}
use Rattle.component_turn.specs.Plan.{line_of, lines_of}
use Rattle.component_turn.specs.Crew.{Endures, CrewKeeps, CrewSound}
use Rattle.component_turn.specs.Turned.{goes, IsAsRead, Underway}
use Rattle.component_turn.proofs.CrewLemmas.{endures_stays, endures_both, has_pieces}
use Rattle.component_turn.proofs.EnterLemmas.{Entered}
use Rattle.component_turn.proofs.TurnLemmas.{at_end, no_less_at, no_less_first, thin_same}
use Rattle.component_turn.proofs.UnderwayLemmas.{underway_of, settle_underway, crew_underway, assemble_underway}

-- A component is held: in each image its record is the plan's, and no less is promised of its pieces.
pub record Held (component : Component) (settings : Settings) (truth : Web → Type 0) (old held : World) : Type 0 where
  pub endures : Endures old held
  pub recorded : IsTrue held.tells → (goes component settings old ≡ true → IsAsRead component old.story.now) → Always (HasRecord (name_of component) (lines_of component.pieces.items)) held.story.now
  pub no_less : IsTrue held.tells → goes component settings old ≡ true → IsAsRead component old.story.now → (k : ℕ) → k < count_of component → Always (NoLess (reads old.story.now) (stem_of (name_of component) k)) held.story.now
  pub underway : IsTrue held.tells → Underway component settings truth old held

module _ (component : Component) (settings : Settings) (truth : Web → Type 0) (old : World) where
  abbrev C : Name
  C = name_of component

  -- The crew is back.
  pub hold : (entered held : World) → Entered component settings old entered → Endures entered held → (IsTrue held.tells → CrewKeeps component entered held)
      → (IsTrue held.tells → (web : Web) → truth web → CrewSound web component entered held) → Held component settings truth old held
  hold entered held was endures keeps sound = record {
    endures = endures_both was.endures endures;
    recorded = λ t read image may.
        let follows = at_end (keeps t).apart image may in
        follows.each (record_of C) (begins_one (pieces_of C) (record_of C) ∙ pieces_record C) ∙ was.recorded (endures.tells t) read follows.before follows.possible;
    no_less = λ t g read k lt image may.
        let u = endures.tells t in
        no_less_at (stem_of C k) (reads old.story.now) (reads entered.story.now) image (same u g k)
        (no_less_first (reads entered.story.now) image C (count_of component) k lt (at_end ((keeps t).kept (was.calm u (λ g. read)) (was.as_much u (λ g. read))) image may));
    underway = λ t.
        let u = endures.tells t in
        crew_underway component settings truth old entered held (keeps t) (sound t) (was.recorded u) (was.calm u) (was.as_much u) (λ g k name mine. same u g k name mine) (underway_of (was.underway u) truth);
  }
    where
      same : IsTrue entered.tells → goes component settings old ≡ true → (k : ℕ) (name : Name) → is_part (stem_of C k) name ≡ true → reads old.story.now name ≡ reads entered.story.now name
      same u g k name mine = ap (option_map content) (sym (was.same u g k name mine))

  -- A settle behind it, whatever it answers.
  pub hold_on : (held after : World) → Held component settings truth old held → Stays held after → (IsTrue after.tells → Through held.story after.story (May held.story.now)) → Held component settings truth old after
  hold_on held after was stays moments = record {
    endures = endures_both was.endures (endures_stays stays);
    recorded = λ t read image may. was.recorded (stays.tells t) read image (at_end (moments t) image may);
    no_less = λ t g read k lt image may. was.no_less (stays.tells t) g read k lt image (at_end (moments t) image may);
    underway = λ t. settle_underway component settings truth old held after (moments t) (was.underway (stays.tells t));
  }

  -- ---- `assemble`
  pub lines_many : length (lines_of component.pieces.items) ≡ count_of component
  lines_many = length-map component.pieces.items line_of

  pub put_underway : (held new : World) → Held component settings truth old held → Stays held new → IsTrue new.tells → Through held.story new.story (IsAssembling C (count_of component) held.story.now)
      → ((web : Web) → Always (HasPieces C (count_of component)) held.story.now → Always (ComponentSound web C) held.story.now → Through held.story new.story (ComponentSound web C))
      → Underway component settings truth old new
  put_underway held new was stays t moments sound =
      let u = stays.tells t in
      assemble_underway component settings truth old held new moments sound (was.recorded u)
      (λ image is. subst (λ (n : ℕ). HasPieces C n image) lines_many (has_pieces (λ url. None) C (lines_of component.pieces.items) component.fit image is))
      (was.no_less u) (was.underway u)

  -- The record stands beside the component in each image.
  pub put_record : (held new : World) → Held component settings truth old held → IsTrue held.tells → Always (IsAssembled C (count_of component) held.story.now) new.story.now
      → (goes component settings old ≡ true → IsAsRead component old.story.now) → Always (λ image. image (record_of C) ≡ Some (text_of component)) new.story.now
  put_record held new was u in_all read image may =
      let done = in_all image may in
      thin_same (begins (pieces_of C) (record_of C)) (done.before (record_of C)) (image (record_of C)) (begins_one (pieces_of C) (record_of C) ∙ pieces_record C)
      (done.others (record_of C) (self_record C) (joined_record C))
      ∙ was.recorded u read done.before (inl (inl done.possible))

  pub put_whole : (held new : World) → Always (IsAssembled C (count_of component) held.story.now) new.story.now → Always (λ image. IsSome (image C)) new.story.now
  put_whole held new in_all image may = subst IsSome (sym (in_all image may).whole) refl

-- A piece's name is one of the first pieces'.
stem_among : (component : Name) (count k : ℕ) → k < count → is_stem component count (stem_of component k) ≡ true
stem_among component zero k lt = absurd (omega (arith, lt))
stem_among component (suc count) k lt = ⊎_elim
    (λ below. ap (λ (b : Bool). bytes_eq (stem_of component count) (stem_of component k) || b) (stem_among component count k below) ∙ or_true (bytes_eq (stem_of component count) (stem_of component k)))
    (λ last. ap (λ (b : Bool). b || is_stem component count (stem_of component k))
    (ap (λ (n : ℕ). bytes_eq (stem_of component count) (stem_of component n)) (omega (arith, lt, last)) ∙ same_name (stem_of component count)))
    (cases_lt k count)
  where
    or_true : (a : Bool) → (a || true) ≡ true
    or_true true = refl
    or_true false = refl

-- No piece stands beside the component.
pub put_gone : (component : Name) (count : ℕ) (old new : Disk) → IsPutTogether component count old new → (k : ℕ) → k < count → new.live (stem_of component k) ≡ None
put_gone component count old new put k lt =
    put.live (stem_of component k)
    ∙ ap (λ (b : Bool). if b then Some (lasting_file put.bytes) else (if is_stem component count (stem_of component k) || (not (nat_eq count 1) && bytes_eq (joined_of component) (stem_of component k)) then None else old.live (stem_of component k))) (self_stem component k)
    ∙ ap (λ (b : Bool). if b || (not (nat_eq count 1) && bytes_eq (joined_of component) (stem_of component k)) then None else old.live (stem_of component k)) (stem_among component count k lt)
