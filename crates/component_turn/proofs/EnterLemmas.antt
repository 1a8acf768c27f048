-- What a component's turn comes to up to the settle behind `begin`.
use Rattle.std.proofs.Common.{◌≡◌, ℕ, Bool, true, false, refl, sym, ◌∙◌, ap, subst}
use Rattle.std.specs.Prelude.{Some, None, IsTrue, IsSome, Result, Ok, IfOk, OnOk, ◌&&◌, ◌||◌, not, is_some, bytes_eq, if◌then◌else◌}
use Rattle.folder_base.specs.Disk.{Name, Bytes, Disk, May, begins, settled, lasting_file}
use Rattle.folder_base.specs.Parts.{is_part}
use Rattle.folder_base.specs.Story.{World, Through}
use Rattle.folder_base.specs.declared.store_fault.StoreFault.{StoreFault}
use Rattle.folder_base.proofs.Disjoint.{so_right}
use Rattle.folder_base.proofs.Images.{same_name, settle_keeps}
use Rattle.folder_steps.specs.Follow.{Always, AsRead, IsLive}
use Rattle.keep_store.specs.Publish.{Stays}
use Rattle.keep_store.specs.Safe.{reads}
use Rattle.plan_record.specs.Names.{record_of, spare_of, joined_of, pieces_of, stem_of, is_beside, is_swept, begins as begins_with}
use Rattle.component_store.specs.Begin.{goes_on, begun_as, begun_names, IsBeginning, InAll}
use Rattle.component_store.specs.Component.{Web, HasRecord, ComponentSound}
use Rattle.component_store.specs.declared.begun.Begun.{Begun}
use Rattle.component_store.specs.declared.begun.Begun.TheVariants.{Complete, Open}
use Rattle.component_store.proofs.FamilyLemmas.{begins_one, spare_not, record_not}
use Rattle.component_turn.specs.declared.component.Component.{Component}
use Rattle.component_turn.specs.declared.settings.Settings.{Settings}
use Rattle.component_turn.specs.Component.{name_of, text_of, count_of}
use Rattle.component_turn.specs.Plan.{lines_of, is_of, stems_from}
use Rattle.component_turn.specs.Crew.{Endures}
use Rattle.component_turn.specs.Lanes.{EachSettled, EachNoLess}
use Rattle.component_turn.specs.Turned.{goes, is_complete, IsAsRead, Underway}
use Rattle.component_turn.proofs.CrewLemmas.{each_settled, endures_stays, endures_both}
use Rattle.component_turn.proofs.StemLemmas.{part_begins}
use Rattle.component_turn.proofs.TurnLemmas.{read_no_less}
use Rattle.component_turn.proofs.UnderwayLemmas.{begin_underway, settle_underway}

-- ---- what is of the family
pub self_of : (component : Name) → is_of component component ≡ true
self_of component = ap (λ (b : Bool). b || is_beside component component) (same_name component)

beside_of : (component name : Name) → is_beside component name ≡ true → is_of component name ≡ true
beside_of component name mine = so_right (bytes_eq component name) (is_beside component name) mine

pub record_is_of : (component : Name) → is_of component (record_of component) ≡ true
record_is_of component = beside_of component (record_of component)
    (ap (λ (b : Bool). b || (bytes_eq (spare_of component) (record_of component) || (bytes_eq (joined_of component) (record_of component) || begins_with (pieces_of component) (record_of component)))) (same_name (record_of component)))

pieces_beside : (component name : Name) → begins_with (pieces_of component) name ≡ true → is_beside component name ≡ true
pieces_beside component name mine =
    so_right (bytes_eq (record_of component) name) _ (so_right (bytes_eq (spare_of component) name) _ (so_right (bytes_eq (joined_of component) name) _ mine))

pub pieces_are_of : (component name : Name) → begins (pieces_of component) name ≡ true → is_of component name ≡ true
pieces_are_of component name mine = beside_of component name (pieces_beside component name (sym (begins_one (pieces_of component) name) ∙ mine))

-- ---- `begin`

-- What `begin` does, by the component's name, its kind and the text of its plan.
pub record Began (component : Name) (final : Bool) (text : Bytes) (fresh : Bool) (old new : World) (result : Result Begun StoreFault) : Type 0 where
  pub moments : IsTrue new.tells → Through old.story new.story (IsBeginning component final text (goes_on component text fresh old.story.now) old.story.now)
  pub sound : IsTrue new.tells → (web : Web) → (final ≡ true → Always (λ image. image component ≡ None) old.story.now) → Always (ComponentSound web component) old.story.now → Through old.story new.story (ComponentSound web component)
  pub answer : IsTrue new.tells → IfOk result (λ begun. begun ≡ begun_as (goes_on component text fresh old.story.now) (is_some (old.story.now.live component)))
  pub live : IsTrue new.tells → OnOk result (IsLive (begun_names component final text (goes_on component text fresh old.story.now) old.story.now.live) new.story.now)
  pub in_all : IsTrue new.tells → IfOk result (InAll component text (goes_on component text fresh old.story.now) old.story.now new.story.now)

-- told by other words for the name and the text
pub began_as : {one name : Name} {text plan : Bytes} {final fresh : Bool} {old new : World} {result : Result Begun StoreFault} → one ≡ name → text ≡ plan → Began one final text fresh old new result → Began name final plan fresh old new result
began_as {one} {name} {text} {plan} {final} {fresh} {old} {new} {result} same_name same_text began =
    subst (λ (n : Name). Began n final plan fresh old new result) same_name (subst (λ (t : Bytes). Began one final t fresh old new result) same_text began)

-- The answer tells whether it is complete.
is_whole : (b : Bool) → (if b then Complete else Open) ≡ Complete → b ≡ true
is_whole true is = refl
is_whole false is = absurd (let e : Open ≡ Complete = is in cc)

is_open : (b : Bool) → (if b then Complete else Open) ≡ Open → b ≡ false
is_open true is = absurd (let e : Complete ≡ Open = is in cc)
is_open false is = refl

module _ (component : Component) (settings : Settings) (old begun_ : World) where
  abbrev C : Name
  C = name_of component

  abbrev text : Bytes
  text = text_of component

  abbrev WasAsRead : Type 0
  WasAsRead = goes component settings old ≡ true → IsAsRead component old.story.now

  module _ (result : Result Begun StoreFault) (began : Began C component.target.is_final text settings.fresh old begun_ result) where
    pub began_underway : (truth : Web → Type 0) → IsTrue begun_.tells → Underway component settings truth old begun_
    began_underway truth t = begin_underway component settings truth old begun_ (began.moments t) (began.sound t)

  module _ (answer : Begun) (began : Began C component.target.is_final text settings.fresh old begun_ (Ok answer)) where
    pub was_complete : IsTrue begun_.tells → answer ≡ Complete → is_complete component settings old ≡ true
    was_complete t is = is_whole (is_complete component settings old) (sym (began.answer t) ∙ is)

    pub was_open : IsTrue begun_.tells → answer ≡ Open → is_complete component settings old ≡ false
    was_open t is = is_open (is_complete component settings old) (sym (began.answer t) ∙ is)

    -- The record stands in each image,
    pub begun_record : IsTrue begun_.tells → WasAsRead → Always (HasRecord C (lines_of component.pieces.items)) begun_.story.now
    begun_record t was = (began.in_all t).record_is (λ g image may. was g image may (record_of C) (record_is_of C))

    -- and the pieces as they read.
    pub begun_pieces : IsTrue begun_.tells → WasAsRead → Always (AsRead (begins (pieces_of C)) begun_.story.now) begun_.story.now
    begun_pieces t was = (began.in_all t).pieces (λ g image may name mine. was g image may name (pieces_are_of C name mine))

    -- A complete component stands in each.
    pub begun_whole : IsTrue begun_.tells → WasAsRead → answer ≡ Complete → Always (λ image. IsSome (image C)) begun_.story.now
    begun_whole t was is = (began.in_all t).whole is (λ image may. was (both_so_left (was_complete t is)) image may C (self_of C))
      where
        both_left : (a b : Bool) → (a && b) ≡ true → a ≡ true
        both_left true b e = refl
        both_left false b e = absurd (let x : false ≡ true = e in cc)

        both_so_left : is_complete component settings old ≡ true → goes component settings old ≡ true
        both_so_left e = both_left (goes component settings old) (is_some (old.story.now.live C)) e

    -- The pieces' names are as before where it goes on, and none stands where it does not.
    pub begun_same : IsTrue begun_.tells → goes component settings old ≡ true → (name : Name) → begins_with (pieces_of C) name ≡ true → begun_.story.now.live name ≡ old.story.now.live name
    begun_same t g name mine = began.live t name ∙ (λ i. begun_names C component.target.is_final text (g i) old.story.now.live name)
        ∙ ap (λ (b : Bool). if b then None else old.story.now.live name) (spare_not C name mine)

    pub begun_none : IsTrue begun_.tells → goes component settings old ≡ false → (name : Name) → begins_with (pieces_of C) name ≡ true → begun_.story.now.live name ≡ None
    begun_none t g name mine = began.live t name ∙ (λ i. begun_names C component.target.is_final text (g i) old.story.now.live name)
        ∙ ap (λ (b : Bool). if b then Some (lasting_file text) else (if is_swept C component.target.is_final name then None else old.story.now.live name)) (record_not C name mine)
        ∙ ap (λ (b : Bool). if b then None else old.story.now.live name) (ap (λ (b : Bool). b || (not component.target.is_final && bytes_eq C name)) (pieces_beside C name mine))

-- ---- the settle behind it
-- A component is entered: it is open, its record is the plan's in each image, and nothing is pending in its pieces.
pub record Entered (component : Component) (settings : Settings) (old entered : World) : Type 0 where
  pub endures : Endures old entered
  pub open_ : IsTrue entered.tells → is_complete component settings old ≡ false
  pub recorded : IsTrue entered.tells → (goes component settings old ≡ true → IsAsRead component old.story.now) → Always (HasRecord (name_of component) (lines_of component.pieces.items)) entered.story.now
  pub calm : IsTrue entered.tells → (goes component settings old ≡ true → IsAsRead component old.story.now) → EachSettled (stems_from (name_of component) 0 (count_of component)) entered.story.now
  pub as_much : IsTrue entered.tells → (goes component settings old ≡ true → IsAsRead component old.story.now) → Always (EachNoLess (reads entered.story.now) (stems_from (name_of component) 0 (count_of component))) entered.story.now
  pub same : IsTrue entered.tells → goes component settings old ≡ true → (k : ℕ) (name : Name) → is_part (stem_of (name_of component) k) name ≡ true → entered.story.now.live name ≡ old.story.now.live name
  pub none : IsTrue entered.tells → goes component settings old ≡ false → (k : ℕ) (name : Name) → is_part (stem_of (name_of component) k) name ≡ true → entered.story.now.live name ≡ None
  pub underway : IsTrue entered.tells → Underway component settings (λ web. Unit {0}) old entered

pub enter : (component : Component) (settings : Settings) (old begun_ entered : World) → Stays old begun_ → Began (name_of component) component.target.is_final (text_of component) settings.fresh old begun_ (Ok Open) → Stays begun_ entered
    → (IsTrue entered.tells → entered.story.now ≡ settled begun_.story.now) → (IsTrue entered.tells → Through begun_.story entered.story (May begun_.story.now)) → Entered component settings old entered
enter component settings old begun_ entered first began second done moments = record {
  endures = endures_both (endures_stays first) (endures_stays second);
  open_ = λ t. was_open component settings old begun_ Open began (second.tells t) refl;
  recorded = λ t was. subst (Always (HasRecord C (lines_of component.pieces.items))) (sym (done t))
      (λ image may. begun_record component settings old begun_ Open began (second.tells t) was image (settle_keeps begun_.story.now image may));
  calm = λ t was. subst (EachSettled (stems_from C 0 (count_of component))) (sym (done t)) (each_settled C 0 (count_of component) begun_.story.now (read t was));
  as_much = λ t was. subst (λ (d : Disk). Always (EachNoLess (reads d) (stems_from C 0 (count_of component))) d) (sym (done t)) (read_no_less C (count_of component) (settled begun_.story.now) (read t was));
  same = λ t g k name mine. ap (λ (d : Disk). d.live name) (done t) ∙ begun_same component settings old begun_ Open began (second.tells t) g name (piece_name k name mine);
  none = λ t g k name mine. ap (λ (d : Disk). d.live name) (done t) ∙ begun_none component settings old begun_ Open began (second.tells t) g name (piece_name k name mine);
  underway = λ t. settle_underway component settings (λ web. Unit {0}) old begun_ entered (moments t) (began_underway component settings old begun_ (Ok Open) began (λ web. Unit {0}) (second.tells t));
}
  where
    C : Name
    C = name_of component

    read : IsTrue entered.tells → (goes component settings old ≡ true → IsAsRead component old.story.now) → Always (AsRead (begins (pieces_of C)) (settled begun_.story.now)) (settled begun_.story.now)
    read t was image may = begun_pieces component settings old begun_ Open began (second.tells t) was image (settle_keeps begun_.story.now image may)

    piece_name : (k : ℕ) (name : Name) → is_part (stem_of C k) name ≡ true → begins_with (pieces_of C) name ≡ true
    piece_name k name mine = sym (begins_one (pieces_of C) name) ∙ part_begins C k name mine
