-- A component's turn, call by call.
use Rattle.std.proofs.Common.{◌≡◌, ◌⊎◌, ⊎_elim, ℕ, Bool, List, take, sym, ◌∙◌, subst}
use Rattle.std.specs.Prelude.{IsTrue, Ok, Err}
use Rattle.folder_base.specs.Disk.{Name, Bytes, May, settled}
use Rattle.folder_base.specs.Story.{World, Through}
use Rattle.folder_base.specs.declared.store_fault.StoreFault.{StoreFault}
use Rattle.folder_base.specs.declared.store_fault.StoreFault.TheVariants as store
use Rattle.folder_steps.specs.Follow.{Always}
use Rattle.keep_store.specs.Lane.{IsRefusal}
use Rattle.keep_store.specs.Publish.{Stays}
use Rattle.keep_store.specs.TookLaws.{stays_both}
use Rattle.link_http.specs.Wire.{Wire}
use Rattle.claim_crew.specs.Claimed.{joined_all}
use Rattle.piece_turn.specs.declared.piece_end.PieceEnd.{PieceEnd}
use Rattle.component_store.specs.Assemble.{IsAssembling, IsAssembled, IsPutTogether}
use Rattle.component_store.specs.Component.{Web, HasPieces, ComponentSound}
use Rattle.component_store.specs.declared.begun.Begun.{Begun}
use Rattle.component_store.specs.declared.begun.Begun.TheVariants.{Open}
use Rattle.component_turn.specs.declared.component.Component.{Component}
use Rattle.component_turn.specs.declared.component_end.ComponentEnd.{ComponentEnd}
use Rattle.component_turn.specs.declared.component_end.ComponentEnd.TheVariants.{Whole}
use Rattle.component_turn.specs.declared.settings.Settings.{Settings}
use Rattle.component_turn.specs.Component.{name_of, text_of, count_of}
use Rattle.component_turn.specs.Crew.{Endures, MayFail, CrewKeeps, Crews, CrewsNone}
use Rattle.component_turn.specs.Judge.{judged}
use Rattle.component_turn.specs.Pieces.{AllTell, AreTold}
use Rattle.component_turn.specs.Plan.{lines_of}
use Rattle.component_turn.specs.Turned.{Turned}
use Rattle.component_turn.proofs.CrewLemmas.{endures_stays, endures_both, fails_endures, refusal_fails}
use Rattle.component_turn.proofs.EndLemmas.{none_turned, crew_failed, judge_fails, end_turned, whole_turned}
use Rattle.component_turn.proofs.EnterLemmas.{Began, Entered, began_underway, enter}
use Rattle.component_turn.proofs.FetchLemmas.{memory_fails}
use Rattle.component_turn.proofs.HeldLemmas.{Held, hold, hold_on, put_underway}
use Rattle.component_turn.proofs.JudgeLemmas.{ended, faulted}
use Rattle.component_turn.proofs.UnderwayLemmas.{settle_underway}

-- Want of memory, or a call that was refused.
pub fails_of : {old new : World} {fault : StoreFault} → (fault ≡ store.OutOfMemory) ⊎ IsRefusal old new fault → MayFail old new fault
fails_of refused = ⊎_elim (λ memory. memory_fails memory) (λ refusal. refusal_fails refusal) refused

-- the answer by another word
pub began_is : {component : Name} {final fresh : Bool} {text : Bytes} {old new : World} {one other : Begun} → one ≡ other → Began component final text fresh old new (Ok one) → Began component final text fresh old new (Ok other)
began_is {component} {final} {fresh} {text} {old} {new} same began = subst (λ (b : Begun). Began component final text fresh old new (Ok b)) same began

-- the workers by another word
pub crews_by : {D : Type 0} {wire : D → Wire} {component : Component} {retries : ℕ} {old new : World} {ends : List PieceEnd} {workers many : ℕ} (ds es : List D) → workers ≡ many
    → Crews wire component retries old new ends (take workers ds) (take workers es) → Crews wire component retries old new ends (take many ds) (take many es)
crews_by {D} {wire} {component} {retries} {old} {new} {ends} ds es same crews = subst (λ (n : ℕ). Crews wire component retries old new ends (take n ds) (take n es)) same crews

-- What `assemble` does, by the component's name and the number of its pieces,
pub record Puts (component : Name) (count : ℕ) (old new : World) : Type 0 where
  pub moments : IsTrue new.tells → Through old.story new.story (IsAssembling component count old.story.now)
  pub sound : IsTrue new.tells → (web : Web) → Always (HasPieces component count) old.story.now → Always (ComponentSound web component) old.story.now → Through old.story new.story (ComponentSound web component)

-- and once it is done.
pub record HasPut (component : Name) (count : ℕ) (old new : World) : Type 0 where
  pub done : IsTrue new.tells → IsPutTogether component count old.story.now new.story.now
  pub in_all : IsTrue new.tells → Always (IsAssembled component count old.story.now) new.story.now

-- told by other words for the name and the number
pub puts_as : {one name : Name} {count many : ℕ} {old new : World} → one ≡ name → count ≡ many → Puts one count old new → Puts name many old new
puts_as {one} {name} {count} {many} {old} {new} same equal puts = subst (λ (n : Name). Puts n many old new) same (subst (λ (n : ℕ). Puts one n old new) equal puts)

pub has_put_as : {one name : Name} {count many : ℕ} {old new : World} → one ≡ name → count ≡ many → HasPut one count old new → HasPut name many old new
has_put_as {one} {name} {count} {many} {old} {new} same equal put = subst (λ (n : Name). HasPut n many old new) same (subst (λ (n : ℕ). HasPut one n old new) equal put)

module _ {D : Type 0} (wire : D → Wire) (component : Component) (settings : Settings) (old begun_ : World) (first : Stays old begun_) where
  abbrev C : Name
  C = name_of component

  pub begin_failed : (fault : StoreFault) (ds : List D) → (fault ≡ store.OutOfMemory) ⊎ IsRefusal old begun_ fault → Began C component.target.is_final (text_of component) settings.fresh old begun_ (Err fault)
      → Turned wire component settings old begun_ (Err fault) ds ds
  begin_failed fault ds refused began = none_turned wire component settings old begun_ fault ds (endures_stays first) (fails_of refused)
      (λ t. began_underway component settings old begun_ (Err fault) began (λ web. Unit {0}) t)

  module _ (entered : World) (began : Began C component.target.is_final (text_of component) settings.fresh old begun_ (Ok Open)) (second : Stays begun_ entered)
      (moments : IsTrue entered.tells → Through begun_.story entered.story (May begun_.story.now)) where
    pub settle_failed : (fault : StoreFault) (ds : List D) → IsRefusal begun_ entered fault → Turned wire component settings old entered (Err fault) ds ds
    settle_failed fault ds refused = none_turned wire component settings old entered fault ds (endures_both (endures_stays first) (endures_stays second))
        (fails_endures (endures_stays first) (refusal_fails refused))
        (λ t. settle_underway component settings (λ web. Unit {0}) old begun_ entered (moments t) (began_underway component settings old begun_ (Ok Open) began (λ web. Unit {0}) (second.tells t)))

    module _ (done : IsTrue entered.tells → entered.story.now ≡ settled begun_.story.now) (held : World) (fetched : Endures entered held) (keeps : IsTrue held.tells → CrewKeeps component entered held) where
      enters : Entered component settings old entered
      enters = enter component settings old begun_ entered first began second done moments

      pub fetch_failed : (fault : StoreFault) (ds es : List D) → es ≡ ds → CrewsNone component entered held fault → Turned wire component settings old held (Err fault) ds es
      fetch_failed fault ds es same none = subst (λ (l : List D). Turned wire component settings old held (Err fault) ds l) (sym same)
          (none_turned wire component settings old held fault ds (endures_both enters.endures fetched) (fails_endures enters.endures none.why)
          (λ t. (hold component settings (λ web. Unit {0}) old entered held enters fetched keeps (λ u web truth. none.sound u web)).underway t))

      module _ (ends : List PieceEnd) (ds es : List D) (crews : Crews wire component settings.retries entered held ends ds es) (after : World) (third : Stays held after)
          (moments_after : IsTrue after.tells → Through held.story after.story (May held.story.now)) where
        abbrev Truth : Web → Type 0
        Truth web = AllTell wire es × AreTold web (lines_of component.pieces.items) (joined_all crews.turns.asked)

        holds : Held component settings Truth old after
        holds = hold_on component settings Truth old held after (hold component settings Truth old entered held enters fetched keeps (λ t web told. crews.sound t web told.0 told.1)) third moments_after

        pub judge_failed : (fault : StoreFault) → judged ends ≡ Err fault → Turned wire component settings old after (Err fault) ds es
        judge_failed fault is = crew_failed wire component settings old after entered held ends ds es enters crews fetched (endures_stays third) fault
            (judge_fails wire component settings old after entered held ends ds es enters crews fetched (endures_stays third) fault is)
            (λ other other_is. sym is ∙ other_is) (λ t. holds.underway t)

        pub settle_after_failed : (end : ComponentEnd) (fault : StoreFault) → judged ends ≡ Ok end → IsRefusal held after fault → Turned wire component settings old after (Err fault) ds es
        settle_after_failed end fault is refused = crew_failed wire component settings old after entered held ends ds es enters crews fetched (endures_stays third) fault
            (fails_endures (endures_both enters.endures fetched) (refusal_fails refused))
            (λ other other_is. absurd (let e : ended end ≡ faulted other = sym is ∙ other_is in cc)) (λ t. holds.underway t)

        pub end_told : (end : ComponentEnd) → judged ends ≡ Ok end → (end ≡ Whole → ⊥) → (IsTrue after.tells → after.story.now ≡ settled held.story.now) → Turned wire component settings old after (Ok end) ds es
        end_told end is not_whole settled_after = end_turned wire component settings old after entered held ends ds es enters crews fetched (endures_stays third) end is not_whole settled_after holds

        module _ (is : judged ends ≡ Ok Whole) (new : World) (fourth : Stays after new) (puts : Puts C (count_of component) after new) where
          pub put_failed : (fault : StoreFault) → (fault ≡ store.OutOfMemory) ⊎ IsRefusal after new fault → Turned wire component settings old new (Err fault) ds es
          put_failed fault refused = crew_failed wire component settings old new entered held ends ds es enters crews fetched (endures_stays (stays_both third fourth)) fault
              (fails_endures holds.endures (fails_of refused))
              (λ other other_is. absurd (let e : ended Whole ≡ faulted other = sym is ∙ other_is in cc))
              (λ t. put_underway component settings Truth old after new holds fourth t (puts.moments t) (puts.sound t))

          pub whole_told : HasPut C (count_of component) after new → Turned wire component settings old new (Ok Whole) ds es
          whole_told put = whole_turned wire component settings old new entered held ends ds es enters crews fetched (endures_stays (stays_both third fourth)) after is holds fourth
              (λ t. puts.moments t) (λ t. puts.sound t) (λ t. put.done t) (λ t. put.in_all t)
