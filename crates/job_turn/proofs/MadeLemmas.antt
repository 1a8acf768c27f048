-- What stands of components that were made.
use Rattle.std.proofs.Common.{◌≡◌, ⊎_elim, ℕ, zero, suc, ◌+◌, ◌≤◌, Bool, true, false, IsTrue, List, [], ◌∷◌, map, refl, sym, ◌∙◌, ap, subst, arith}
use Rattle.std.proofs.lemmas.List.Elements.{All-nil, All-cons}
use Rattle.std.proofs.lemmas.Option.{same_Some}
use Rattle.std.specs.List.{slice_get}
use Rattle.std.specs.Prelude.{Option, Some, None, All, IsOk, IsSome, Result, MatchResult, Ok, Err, is_ok}
use Rattle.folder_base.specs.Disk.{Name, Bytes, Image}
use Rattle.folder_base.specs.Story.{World, Through}
use Rattle.folder_base.specs.declared.store_fault.StoreFault.{StoreFault}
use Rattle.folder_base.proofs.Disjoint.{so_left, so_right}
use Rattle.folder_base.proofs.Moments.{begun, stays}
use Rattle.folder_steps.specs.Follow.{Always, AsRead}
use Rattle.keep_store.specs.Promise.{IfStands}
use Rattle.link_http.specs.Wire.{Wire}
use Rattle.link_http.specs.declared.piece.Piece.{Piece}
use Rattle.frag_crew.specs.Asked.{Asked}
use Rattle.plan_record.specs.Names.{record_of}
use Rattle.plan_record.specs.Plan.{plan_text}
use Rattle.component_store.proofs.SoundLemmas.{none_stands}
use Rattle.component_turn.specs.Component.{name_of, text_of}
use Rattle.component_turn.specs.Plan.{is_of, lines_of}
use Rattle.component_turn.specs.declared.component_end.ComponentEnd.{ComponentEnd}
use Rattle.component_turn.specs.declared.component_end.ComponentEnd.TheVariants.{Whole, Failed}
use Rattle.component_turn.proofs.TurnLemmas.{at_end}
use Rattle.job_pieces.specs.declared.component.Component.{Component}
use Rattle.job_turn.specs.Clearing.{is_of_some, AreNamesApart}
use Rattle.job_turn.specs.Components.{OneMade, AllMade, HadTurn, HadNone}
use Rattle.job_turn.specs.Ends.{fault_at, component_answer}
use Rattle.job_turn.specs.Standing.{HasOwnRecord, StandsWhole, IsRecorded, IsComplete, StandsFirm}
use Rattle.job_turn.specs.declared.end.FaultAt.TheVariants as at
use Rattle.job_turn.specs.declared.end.JobEnd.TheVariants.{Done, Already, Fragment, Tool}
use Rattle.job_turn.specs.declared.end.Stop.{Stop}
use Rattle.job_turn.specs.declared.end.Stop.TheVariants.{End, Fault}
use Rattle.job_turn.specs.declared.settings.Settings.{Settings}
use Rattle.job_turn.proofs.ApartLemmas.{made_endures, one_apart, made_apart}
use Rattle.job_turn.proofs.ClearLemmas.{record_is_of, self_is_of}
use Rattle.job_turn.proofs.SoundLemmas.{still, still_as_read, others_not}

-- By how a component ended: it is whole, or there was a stop.
pub by_end : {A X : Type 0} {S : Stop → Type 0} (k : ℕ) (end : Result ComponentEnd StoreFault) → MatchResult (component_answer k end) (λ _. X) S → (end ≡ Ok Whole → X → A) → ((stop : Stop) → component_answer k end ≡ Err stop → S stop → A) → A
by_end k (Ok Whole) h goes stops = goes refl h
by_end k (Ok (Failed piece tries cause)) h goes stops = stops (End (Fragment k piece tries cause)) refl h
by_end k (Err fault) h goes stops = stops (Fault (fault_at (at.Component k) fault)) refl h

-- the component whose piece failed
abbrev pub fragment_at : Result (Unit {0}) Stop → Option ℕ
fragment_at (Ok done) = None
fragment_at (Err (End Done)) = None
fragment_at (Err (End Already)) = None
fragment_at (Err (End (Fragment component piece tries cause))) = Some component
fragment_at (Err (End (Tool step cause))) = None
fragment_at (Err (Fault fault)) = None

-- That component got an end, and has that number.
fragment_is : (k : ℕ) (end : Result ComponentEnd StoreFault) (number : ℕ) → fragment_at (component_answer k end) ≡ Some number → IsOk end × (k ≡ number)
fragment_is k (Ok Whole) number is = absurd (let e : None ≡ Some number = is in cc)
fragment_is k (Ok (Failed piece tries cause)) number is = (refl, same_Some k number is)
fragment_is k (Err fault) number is = absurd (let e : None ≡ Some number = is in cc)

-- ---- what hangs on the names of a component

pub recorded_local : (component : Component) (before image : Image) → ((n : Name) → is_of component.name n ≡ true → image n ≡ before n) → HasOwnRecord component before → HasOwnRecord component image
recorded_local component before image same is = same (record_of component.name) (record_is_of component.name) ∙ is

pub whole_local : (component : Component) (before image : Image) → ((n : Name) → is_of component.name n ≡ true → image n ≡ before n) → StandsWhole component before → StandsWhole component image
whole_local component before image same is = (
  subst (λ (o : Option Bytes). IsSome o) (sym (same component.name (self_is_of component.name))) is.0,
  recorded_local component before image same is.1,
)

-- The component stands only beside its plan's record.
abbrev pub OwnOf : Component → Image → Type 0
OwnOf component image = IfStands (image component.name) (λ bytes. HasOwnRecord component image)

module _ {D : Type 0} (wire : D → Wire) (final : Bool) (settings : Settings) where
  module _ (component : Component) {old new : World} {end : Result ComponentEnd StoreFault} {ds es : List D} (made : OneMade wire final settings component old new end ds es) (t : IsTrue new.tells)
      (as_read : Always (AsRead (is_of component.name) old.story.now) old.story.now) where
    read_as : (had : HadTurn wire final settings component old new end ds es) → Always (AsRead (is_of (name_of had.making)) old.story.now) old.story.now
    read_as had = subst (λ (n : Name). Always (AsRead (is_of n) old.story.now) old.story.now) (sym had.is_of.named) as_read

    not_ok : HadNone wire final settings old new end ds es → IsOk end → ⊥
    not_ok none ok = let e : false ≡ true = sym (ap (λ (r : Result ComponentEnd StoreFault). is_ok r) none.refused) ∙ ok in cc

    -- Where its turn got an end its record is that of its plan in every image,
    pub one_recorded : IsOk end → IsRecorded new.story.now component
    one_recorded ok = ⊎_elim
        (λ (had : HadTurn wire final settings component old new end ds es).
        subst (λ (pieces : List Piece). Always (λ image. image (record_of component.name) ≡ Some (plan_text (lines_of pieces))) new.story.now) had.is_of.pieces
        (subst (λ (n : Name). Always (λ image. image (record_of n) ≡ Some (text_of had.making)) new.story.now) had.is_of.named ((had.turned.stands t).record_is ok (λ goes. read_as had))))
        (λ (none : HadNone wire final settings old new end ds es). absurd (not_ok none ok)) made

    -- and where it is whole it stands in every image.
    one_stands : end ≡ Ok Whole → StandsFirm component.name new.story.now
    one_stands whole = ⊎_elim
        (λ (had : HadTurn wire final settings component old new end ds es).
        subst (λ (n : Name). StandsFirm n new.story.now) had.is_of.named ((had.turned.stands t).whole whole (λ goes. read_as had)))
        (λ (none : HadNone wire final settings old new end ds es). absurd (not_ok none (ap (λ (r : Result ComponentEnd StoreFault). is_ok r) whole))) made

    pub one_complete : end ≡ Ok Whole → IsComplete new.story.now component
    one_complete whole image may = (one_stands whole image may, one_recorded (ap (λ (r : Result ComponentEnd StoreFault). is_ok r) whole) image may)

    -- Where it did not stand it stands only beside its plan's record at each moment.
    pub one_own : Always (λ image. image component.name ≡ None) old.story.now → Through old.story new.story (OwnOf component)
    one_own none_there = ⊎_elim
        (λ (had : HadTurn wire final settings component old new end ds es).
        subst (λ (pieces : List Piece). Through old.story new.story (λ image. IfStands (image component.name) (λ bytes. image (record_of component.name) ≡ Some (plan_text (lines_of pieces))))) had.is_of.pieces
        (subst (λ (n : Name). Through old.story new.story (λ image. IfStands (image n) (λ bytes. image (record_of n) ≡ Some (text_of had.making)))) had.is_of.named
        ((had.turned.underway t).own (λ goes. read_as had) (subst (λ (n : Name). Always (λ image. image n ≡ None) old.story.now) (sym had.is_of.named) none_there))))
        (λ (none : HadNone wire final settings old new end ds es).
        stays (begun old.story (OwnOf component) (λ image may. none_stands (λ bytes. HasOwnRecord component image) (image component.name) (none_there image may))) (ap (λ (w : World). w.story) none.same)) made

  -- ---- components, one after the other

  -- Where all came to be whole, each stands beside its record in every image.
  pub made_complete : (k : ℕ) (components : List Component) → AreNamesApart (map (λ component. component.name) components) → (old new : World) (result : Result (Unit {0}) Stop) (ds es : List D) (told : List (List Asked))
      → AllMade wire final settings k components old new result ds es told → result ≡ Ok tt → IsTrue new.tells → Always (AsRead (is_of_some (map (λ component. component.name) components)) old.story.now) old.story.now
      → All (IsComplete new.story.now) components
  made_complete k [] apart old new result ds es told made ok t as_read = All-nil (IsComplete new.story.now)
  made_complete k (c ∷ cs) apart old new result ds es told made ok t as_read = by_end k made.2 made.6
      (λ whole h.
      let u = (made_endures wire final settings (k + 1) cs made.0 new result made.1 es made.4 h).tells t in
      All-cons (IsComplete new.story.now) c cs
      (at_end (still mine others (λ before image same s. whole_local c before image same s) apart.0 (made_apart wire final settings (k + 1) cs made.0 new result made.1 es made.4 h t)
      (one_complete c made.3 u (λ image may n is. as_read image may n (so_left (mine n) (others n) is)) whole)))
      (made_complete (k + 1) cs apart.1 made.0 new result made.1 es made.4 h ok t
      (still_as_read others mine (others_not c.name names apart.0) (one_apart wire final settings c made.3 u) (λ image may n is. as_read image may n (so_right (mine n) (others n) is)))))
      (λ stop is h. absurd (let e : Ok tt ≡ Err stop = sym ok ∙ h.0 in cc))
    where
      names : List Name
      names = map (λ (d : Component). d.name) cs

      mine : Name → Bool
      mine = is_of c.name

      others : Name → Bool
      others = is_of_some names

  -- Where a piece failed, so the records do of the components up to its own.
  pub made_recorded : (k : ℕ) (components : List Component) → AreNamesApart (map (λ component. component.name) components) → (old new : World) (result : Result (Unit {0}) Stop) (ds es : List D) (told : List (List Asked))
      → AllMade wire final settings k components old new result ds es told → (number : ℕ) → fragment_at result ≡ Some number → IsTrue new.tells
      → Always (AsRead (is_of_some (map (λ component. component.name) components)) old.story.now) old.story.now → (j : ℕ) (component : Component) → slice_get components j ≡ Some component → k + j ≤ number → IsRecorded new.story.now component
  made_recorded k [] apart old new result ds es told made number failed t as_read j component is most = absurd (let e : None ≡ Some component = is in cc)
  made_recorded k (c ∷ cs) apart old new result ds es told made number failed t as_read zero component is most = subst (λ (d : Component). IsRecorded new.story.now d) (same_Some c component is) (by_end k made.2 made.6
      (λ whole h.
      let u = (made_endures wire final settings (k + 1) cs made.0 new result made.1 es made.4 h).tells t in
      at_end (still (is_of c.name) (is_of_some (map (λ (d : Component). d.name) cs)) (λ before image same s. recorded_local c before image same s) apart.0 (made_apart wire final settings (k + 1) cs made.0 new result made.1 es made.4 h t)
      (one_recorded c made.3 u (λ image may n of. as_read image may n (so_left (is_of c.name n) _ of)) (ap (λ (r : Result ComponentEnd StoreFault). is_ok r) whole))))
      (λ stop answer h. subst (λ (w : World). IsRecorded w.story.now c) (sym h.1)
      (one_recorded c made.3 (subst (λ (w : World). IsTrue w.tells) h.1 t) (λ image may n of. as_read image may n (so_left (is_of c.name n) _ of))
      (fragment_is k made.2 number (ap fragment_at answer ∙ sym (ap fragment_at h.0) ∙ failed)).0)))
  made_recorded k (c ∷ cs) apart old new result ds es told made number failed t as_read (suc j) component is most = by_end k made.2 made.6
      (λ whole h.
      let u = (made_endures wire final settings (k + 1) cs made.0 new result made.1 es made.4 h).tells t in
      made_recorded (k + 1) cs apart.1 made.0 new result made.1 es made.4 h number failed t
      (still_as_read (is_of_some (map (λ (d : Component). d.name) cs)) (is_of c.name) (others_not c.name (map (λ (d : Component). d.name) cs) apart.0) (one_apart wire final settings c made.3 u)
      (λ image may n of. as_read image may n (so_right (is_of c.name n) _ of))) j component is (omega (arith, most)))
      (λ stop answer h. absurd (let e = (fragment_is k made.2 number (ap fragment_at answer ∙ sym (ap fragment_at h.0) ∙ failed)).1 in omega (arith, most, e)))

  -- The only component stands only beside its record, at each moment of its turn.
  pub sole_own : (k : ℕ) (c : Component) (old new : World) (result : Result (Unit {0}) Stop) (ds es : List D) (told : List (List Asked)) → AllMade wire final settings k (c ∷ []) old new result ds es told → IsTrue new.tells
      → Always (AsRead (is_of c.name) old.story.now) old.story.now → Always (λ image. image c.name ≡ None) old.story.now → Through old.story new.story (OwnOf c)
  sole_own k c old new result ds es told made t as_read none = by_end k made.2 made.6
      (λ whole h. subst (λ (w : World). Through old.story w.story (OwnOf c)) (sym h.1) (one_own c made.3 (subst (λ (w : World). IsTrue w.tells) h.1 t) as_read none))
      (λ stop answer h. subst (λ (w : World). Through old.story w.story (OwnOf c)) (sym h.1) (one_own c made.3 (subst (λ (w : World). IsTrue w.tells) h.1 t) as_read none))
