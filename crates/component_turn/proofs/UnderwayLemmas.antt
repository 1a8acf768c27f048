-- What is so at each moment of a component's turn, one call after the other.
use Rattle.std.proofs.Common.{◌≡◌, inl, ℕ, ◌<◌, Bool, true, subst}
use Rattle.std.specs.Prelude.{None}
use Rattle.folder_base.specs.Disk.{Name, Bytes, Image, May}
use Rattle.folder_base.specs.Parts.{is_part}
use Rattle.folder_base.specs.Story.{World, Through}
use Rattle.folder_base.proofs.Moments.{joined, weaker}
use Rattle.folder_steps.specs.Follow.{Always}
use Rattle.keep_store.specs.Safe.{reads}
use Rattle.piece_turn.specs.Lane.{NoLess}
use Rattle.plan_record.specs.Names.{stem_of}
use Rattle.component_store.specs.Assemble.{IsAssembling}
use Rattle.component_store.specs.Begin.{IsBeginning}
use Rattle.component_store.specs.Component.{Web, HasPieces, HasRecord, ComponentSound}
use Rattle.component_turn.specs.declared.component.Component.{Component}
use Rattle.component_turn.specs.declared.settings.Settings.{Settings}
use Rattle.component_turn.specs.Component.{name_of, text_of, count_of}
use Rattle.component_turn.specs.Plan.{lines_of, stems_from}
use Rattle.component_turn.specs.Crew.{CrewKeeps, CrewSound}
use Rattle.component_turn.specs.Lanes.{EachSettled, EachNoLess}
use Rattle.component_turn.specs.Turned.{goes, IsAsRead, Underway}
use Rattle.component_turn.proofs.OwnLemmas.{own_none, beginning_none, crew_own, assembling_own}
use Rattle.component_turn.proofs.TurnLemmas.{at_end, beginning_beside, assembling_beside, pieces_beside, beside_on, beginning_kept, assembling_kept, no_less_at, no_less_first}

-- What is so whatever was replied is so of truthful replies.
pub underway_of : {component : Component} {settings : Settings} {old new : World} → Underway component settings (λ web. Unit {0}) old new → (truth : Web → Type 0) → Underway component settings truth old new
underway_of was truth = record { apart = was.apart; kept = was.kept; own = was.own; sound = λ web told. was.sound web tt }

module _ (component : Component) (settings : Settings) (truth : Web → Type 0) (old : World) where
  abbrev C : Name
  C = name_of component

  abbrev text : Bytes
  text = text_of component

  -- ---- `begin`
  pub begin_underway : (new : World) → Through old.story new.story (IsBeginning C component.target.is_final text (goes component settings old) old.story.now)
      → ((web : Web) → (component.target.is_final ≡ true → Always (λ image. image C ≡ None) old.story.now) → Always (ComponentSound web C) old.story.now → Through old.story new.story (ComponentSound web C))
      → Underway component settings truth old new
  begin_underway new moments sound = record {
    apart = weaker moments (beginning_beside C component.target.is_final text old.story.now (goes component settings old));
    kept = λ goes_on as_read k lt. weaker moments (λ image is. inl (beginning_kept C text k component.target.is_final old.story.now as_read image
        (subst (λ (b : Bool). IsBeginning C component.target.is_final text b old.story.now image) goes_on is)));
    own = λ as_read none. weaker moments (λ image is. own_none C text image (beginning_none C text old.story.now component.target.is_final (goes component settings old) none image is));
    sound = λ web told as_read final always. sound web final always;
  }

  -- ---- a settle, whatever it answers
  pub settle_underway : (mid new : World) → Through mid.story new.story (May mid.story.now) → Underway component settings truth old mid → Underway component settings truth old new
  settle_underway mid new settling was = record {
    apart = joined was.apart (weaker settling (at_end was.apart));
    kept = λ goes_on as_read k lt. let run = was.kept goes_on as_read k lt in joined run (weaker settling (at_end run));
    own = λ as_read none. let run = was.own as_read none in joined run (weaker settling (at_end run));
    sound = λ web told as_read final always. let run = was.sound web told as_read final always in joined run (weaker settling (at_end run));
  }

  -- ---- the crew, from behind the settle: the record is the plan's in each image, nothing is pending in the parts, and the pieces read as they did at the start
  pub crew_underway : (mid new : World) → CrewKeeps component mid new → ((web : Web) → truth web → CrewSound web component mid new)
      → ((goes component settings old ≡ true → IsAsRead component old.story.now) → Always (HasRecord C (lines_of component.pieces.items)) mid.story.now)
      → ((goes component settings old ≡ true → IsAsRead component old.story.now) → EachSettled (stems_from C 0 (count_of component)) mid.story.now)
      → ((goes component settings old ≡ true → IsAsRead component old.story.now) → Always (EachNoLess (reads mid.story.now) (stems_from C 0 (count_of component))) mid.story.now)
      → (goes component settings old ≡ true → (k : ℕ) (name : Name) → is_part (stem_of C k) name ≡ true → reads old.story.now name ≡ reads mid.story.now name)
      → Underway component settings truth old mid → Underway component settings truth old new
  crew_underway mid new keeps crew_sound recorded calm as_much same was = record {
    apart = beside_on was.apart (weaker keeps.apart (pieces_beside C mid.story.now));
    kept = λ goes_on as_read k lt. joined (was.kept goes_on as_read k lt)
        (weaker (keeps.kept (calm (λ g. as_read)) (as_much (λ g. as_read)))
        (λ image each. inl (no_less_at (stem_of C k) (reads old.story.now) (reads mid.story.now) image (λ name mine. same goes_on k name mine) (no_less_first (reads mid.story.now) image C (count_of component) k lt each))));
    own = λ as_read none. let run = was.own as_read none in joined run (weaker keeps.apart (crew_own C text mid.story.now (at_end run)));
    sound = λ web told as_read final always.
        let run = was.sound web told as_read final always in
        joined run (weaker (crew_sound web told (calm as_read) (λ image may. (recorded as_read image may, at_end run image may))) (λ image planned. planned.1));
  }

  -- ---- `assemble`, from behind the second settle: the record is the plan's in each image
  pub assemble_underway : (mid new : World) → Through mid.story new.story (IsAssembling C (count_of component) mid.story.now)
      → ((web : Web) → Always (HasPieces C (count_of component)) mid.story.now → Always (ComponentSound web C) mid.story.now → Through mid.story new.story (ComponentSound web C))
      → ((goes component settings old ≡ true → IsAsRead component old.story.now) → Always (HasRecord C (lines_of component.pieces.items)) mid.story.now)
      → ((image : Image) → HasRecord C (lines_of component.pieces.items) image → HasPieces C (count_of component) image)
      → (goes component settings old ≡ true → IsAsRead component old.story.now → (k : ℕ) → k < count_of component → Always (NoLess (reads old.story.now) (stem_of C k)) mid.story.now)
      → Underway component settings truth old mid → Underway component settings truth old new
  assemble_underway mid new moments sound recorded pieces no_less was = record {
    apart = beside_on was.apart (weaker moments (assembling_beside C (count_of component) mid.story.now));
    kept = λ goes_on as_read k lt. joined (was.kept goes_on as_read k lt)
        (weaker moments (assembling_kept C text k (count_of component) (reads old.story.now) mid.story.now (no_less goes_on as_read k lt) (recorded (λ g. as_read))));
    own = λ as_read none. let run = was.own as_read none in joined run (weaker moments (assembling_own C text mid.story.now (count_of component) (at_end run) (recorded as_read)));
    sound = λ web told as_read final always.
        let run = was.sound web told as_read final always in
        joined run (sound web (λ image may. pieces image (recorded as_read image may)) (at_end run));
  }
