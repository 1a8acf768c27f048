-- That components which are made are sound at each moment, where the replies were truthful.
use Rattle.std.proofs.Common.{◌≡◌, inl, inr, ⊎_elim, ℕ, zero, suc, ◌+◌, Bool, true, false, IsTrue, List, [], ◌∷◌, map, take, drop, refl, sym, ◌∙◌, ap, subst}
use Rattle.std.proofs.lemmas.List.Elements.{All-nil, All-cons, All-head, All-tail}
use Rattle.std.specs.Prelude.{Some, None, All, Result, bytes_eq}
use Rattle.folder_base.specs.Disk.{Name, Image, May}
use Rattle.folder_base.specs.Story.{World, Story, Through}
use Rattle.folder_base.specs.declared.store_fault.StoreFault.{StoreFault}
use Rattle.folder_base.proofs.Disjoint.{so_left, so_right}
use Rattle.folder_base.proofs.Images.{reads_may}
use Rattle.folder_base.proofs.Moments.{begun, stays, joined, weaker, both}
use Rattle.folder_steps.specs.Follow.{Always, AsRead, Follows, Beside}
use Rattle.keep_store.specs.Promise.{promising}
use Rattle.keep_store.specs.Safe.{reads}
use Rattle.link_http.specs.Wire.{Wire}
use Rattle.link_http.specs.declared.piece.Piece.{Piece}
use Rattle.claim_crew.specs.Claimed.{joined_all}
use Rattle.frag_crew.specs.Asked.{Asked, AllWork}
use Rattle.plan_record.specs.Names.{record_of, spare_of, joined_of, pieces_of, stem_of, is_beside, begins as begins_with}
use Rattle.component_store.specs.Component.{Web, ComponentSound}
use Rattle.component_store.proofs.FamilyLemmas.{pieces_stem, pieces_promise}
use Rattle.component_store.proofs.SoundLemmas.{less_sound}
use Rattle.component_turn.specs.Pieces.{AllTell, AreTold}
use Rattle.component_turn.specs.Plan.{is_of, lines_of}
use Rattle.component_turn.specs.declared.component_end.ComponentEnd.{ComponentEnd}
use Rattle.component_turn.proofs.TurnLemmas.{at_end}
use Rattle.job_pieces.specs.declared.component.Component.{Component}
use Rattle.job_turn.specs.Clearing.{is_of_some, AreNamesApart}
use Rattle.job_turn.specs.Components.{OneMade, turns_of, AllMade, HadTurn, HadNone}
use Rattle.job_turn.specs.Ends.{component_answer}
use Rattle.job_turn.specs.Sound.{AllTold}
use Rattle.job_turn.specs.declared.end.Stop.{Stop}
use Rattle.job_turn.specs.declared.settings.Settings.{Settings}
use Rattle.job_turn.proofs.ApartLemmas.{at_answer, made_endures, one_apart, made_apart}
use Rattle.job_turn.proofs.ClearLemmas.{record_is_of, self_is_of}

-- ---- families that are not touched

-- A piece's name is of its component's family.
piece_is_of : (component name : Name) → begins_with (pieces_of component) name ≡ true → is_of component name ≡ true
piece_is_of component name mine = so_right (bytes_eq component name) (is_beside component name)
    (so_right (bytes_eq (record_of component) name) _ (so_right (bytes_eq (spare_of component) name) _ (so_right (bytes_eq (joined_of component) name) _ mine)))

-- Whose names are as before is sound as before.
pub same_sound : (web : Web) (component : Name) (before image : Image) → ((n : Name) → is_of component n ≡ true → image n ≡ before n) → ComponentSound web component before → ComponentSound web component image
same_sound web component before image same = less_sound web component before image (record {
  record_less = inl (same (record_of component) (record_is_of component));
  self_less = inl (same component (self_is_of component));
  less = record {
    stem_less = λ k. inl (same (stem_of component k) (piece_is_of component (stem_of component k) (pieces_stem component k)));
    promise_less = λ k digits. inl (same (promising (stem_of component k) digits) (piece_is_of component (promising (stem_of component k) digits) (pieces_promise component k digits)));
  };
})

-- What is so of the images before a call, and hangs on names that it does not touch, is so through it.
pub still : {Q : Image → Type 0} {old new : Story} (mine loose : Name → Bool) → ((before image : Image) → ((n : Name) → mine n ≡ true → image n ≡ before n) → Q before → Q image) → ((n : Name) → mine n ≡ true → loose n ≡ false)
    → Through old new (Follows (May old.now) (Beside loose)) → Always Q old.now → Through old new Q
still mine loose local off run always = weaker run (λ image f. local f.before image (λ n is. f.each n (off n is)) (always f.before f.possible))

-- Names that are not touched are as they read then, too.
pub still_as_read : {old new : Story} (mine loose : Name → Bool) → ((n : Name) → mine n ≡ true → loose n ≡ false) → Through old new (Follows (May old.now) (Beside loose)) → Always (AsRead mine old.now) old.now → Always (AsRead mine new.now) new.now
still_as_read {old} {new} mine loose off run as_read image may n is = as_before image may ∙ sym (as_before (reads new.now) (reads_may new.now))
  where
    as_before : (other : Image) → May new.now other → other n ≡ reads old.now n
    as_before other there = let f = at_end run other there in f.each n (off n is) ∙ as_read f.before f.possible n is

-- ---- dialers that tell

module _ {D : Type 0} (wire : D → Wire) where
  tell_none : AllTell wire []
  tell_none w e at = absurd (cc)

  tell_head : (d : D) (ds : List D) → AllTell wire (d ∷ ds) → IsTrue (wire d).tells
  tell_head d ds all = all 0 d refl

  tell_tail : (d : D) (ds : List D) → AllTell wire (d ∷ ds) → AllTell wire ds
  tell_tail d ds all w e at = all (suc w) e at

  tell_cons : (d : D) (ds : List D) → IsTrue (wire d).tells → AllTell wire ds → AllTell wire (d ∷ ds)
  tell_cons d ds first rest zero e at = subst (λ (o : D). IsTrue (wire o).tells) (same at) first
    where
      same : Some d ≡ Some e → d ≡ e
      same is = cc
  tell_cons d ds first rest (suc w) e at = rest w e at

  -- Of dialers that tell the first do,
  pub tell_take : (n : ℕ) (ds : List D) → AllTell wire ds → AllTell wire (take n ds)
  tell_take zero ds all = tell_none
  tell_take (suc n) [] all = tell_none
  tell_take (suc n) (d ∷ ds) all = tell_cons d (take n ds) (tell_head d ds all) (tell_take n ds (tell_tail d ds all))

  -- and so do the others;
  tell_drop : (n : ℕ) (ds : List D) → AllTell wire ds → AllTell wire (drop n ds)
  tell_drop zero ds all = all
  tell_drop (suc n) [] all = tell_none
  tell_drop (suc n) (d ∷ ds) all = tell_drop n ds (tell_tail d ds all)

  -- where both do all tell.
  tell_both : (n : ℕ) (ds : List D) → AllTell wire (take n ds) → AllTell wire (drop n ds) → AllTell wire ds
  tell_both zero ds first rest = rest
  tell_both (suc n) [] first rest = tell_none
  tell_both (suc n) (d ∷ ds) first rest = tell_cons d ds (tell_head d (take n ds) first) (tell_both n ds (tell_tail d (take n ds) first) rest)

  -- Dialers that tell behind a crew told before it.
  works_tell : (asked : List (List Asked)) (ds es : List D) → AllWork wire asked ds es → AllTell wire es → AllTell wire ds
  works_tell [] [] [] works all = tell_none
  works_tell (turns ∷ asked) (d ∷ ds) (e ∷ es) works all = tell_cons d ds (works.0.dialer.tells (tell_head e es all)) (works_tell asked ds es works.1 (tell_tail e es all))
  works_tell [] [] (e ∷ es) works all = absurd works
  works_tell [] (d ∷ ds) es works all = absurd works
  works_tell (turns ∷ asked) [] es works all = absurd works
  works_tell (turns ∷ asked) (d ∷ ds) [] works all = absurd works

module _ {D : Type 0} (wire : D → Wire) (final : Bool) (settings : Settings) where
  one_tells : (component : Component) {old new : World} {end : Result ComponentEnd StoreFault} {ds es : List D} → OneMade wire final settings component old new end ds es → AllTell wire es → AllTell wire ds
  one_tells component {old} {new} {end} {ds} {es} made all = ⊎_elim
      (λ (had : HadTurn wire final settings component old new end ds es).
      tell_both wire _ ds (works_tell wire had.turned.turns.asked _ _ had.turned.turns.works (tell_take wire _ es all)) (subst (AllTell wire) had.idle (tell_drop wire _ es all)))
      (λ (none : HadNone wire final settings old new end ds es). subst (AllTell wire) none.unasked all) made

  -- Dialers that tell behind components that are made told before.
  pub made_tells : (k : ℕ) (components : List Component) (old new : World) (result : Result (Unit {0}) Stop) (ds es : List D) (told : List (List Asked)) → AllMade wire final settings k components old new result ds es told → AllTell wire es → AllTell wire ds
  made_tells k [] old new result ds es told made all = subst (AllTell wire) made.2 all
  made_tells k (component ∷ components) old new result ds es told made all =
      one_tells component made.3 (at_answer (component_answer k made.2) made.6 (λ h. made_tells (k + 1) components made.0 new result made.1 es made.4 h all) (λ stop h. subst (AllTell wire) h.2 all))

-- ---- components, one after the other

-- What hangs on each component's own names hangs on theirs.
pub all_local : (Q : Component → Image → Type 0) → ((component : Component) (before image : Image) → ((n : Name) → is_of component.name n ≡ true → image n ≡ before n) → Q component before → Q component image) → (components : List Component) (before image : Image)
    → ((n : Name) → is_of_some (map (λ (c : Component). c.name) components) n ≡ true → image n ≡ before n) → All (λ component. Q component before) components → All (λ component. Q component image) components
all_local Q local [] before image same all = All-nil (λ (component : Component). Q component image)
all_local Q local (component ∷ components) before image same all =
    let others = is_of_some (map (λ (c : Component). c.name) components) in
    All-cons (λ (c : Component). Q c image) component components
    (local component before image (λ n is. same n (so_left (is_of component.name n) (others n) is)) (All-head (λ (c : Component). Q c before) component components all))
    (all_local Q local components before image (λ n is. same n (so_right (is_of component.name n) (others n) is)) (All-tail (λ (c : Component). Q c before) component components all))

-- A name of the others is none of the first one's.
pub others_not : (component : Name) (components : List Name) → ((n : Name) → is_of component n ≡ true → is_of_some components n ≡ false) → (n : Name) → is_of_some components n ≡ true → is_of component n ≡ false
others_not component components apart n is = by (is_of component n) refl
  where
    never : true ≡ false → ⊥
    never e = cc

    by : (b : Bool) → is_of component n ≡ b → is_of component n ≡ false
    by true mine = absurd (never (sym is ∙ apart n mine))
    by false off = off

-- the component is sound
abbrev pub SoundOf : Web → Component → Image → Type 0
SoundOf web component image = ComponentSound web component.name image

-- the component does not stand
abbrev pub NoneOf : Component → Image → Type 0
NoneOf component image = image component.name ≡ None

pub sound_local : (web : Web) (component : Component) (before image : Image) → ((n : Name) → is_of component.name n ≡ true → image n ≡ before n) → SoundOf web component before → SoundOf web component image
sound_local web component before image same sound = same_sound web component.name before image same sound

none_local : (component : Component) (before image : Image) → ((n : Name) → is_of component.name n ≡ true → image n ≡ before n) → NoneOf component before → NoneOf component image
none_local component before image same none = same component.name (self_is_of component.name) ∙ none

module _ {D : Type 0} (wire : D → Wire) (final : Bool) (settings : Settings) (web : Web) where
  -- A component is sound at each moment of its turn.
  one_sound : (component : Component) (old new : World) (end : Result ComponentEnd StoreFault) (ds es : List D) (made : OneMade wire final settings component old new end ds es) → IsTrue new.tells → AllTell wire es
      → AreTold web (lines_of component.pieces.items) (turns_of wire final settings component old new end ds es made) → Always (AsRead (is_of component.name) old.story.now) old.story.now
      → (final ≡ true → Always (NoneOf component) old.story.now) → Always (SoundOf web component) old.story.now → Through old.story new.story (SoundOf web component)
  one_sound component old new end ds es (inl had) t tell told as_read none sound =
      let named = had.is_of.named in
      subst (λ (n : Name). Through old.story new.story (ComponentSound web n)) named
      ((had.turned.underway t).sound web
      (tell_take wire _ es tell, subst (λ (pieces : List Piece). AreTold web (lines_of pieces) (joined_all had.turned.turns.asked)) (sym had.is_of.pieces) told)
      (λ goes. subst (λ (n : Name). Always (AsRead (is_of n) old.story.now) old.story.now) (sym named) as_read)
      (λ is. subst (λ (n : Name). Always (λ image. image n ≡ None) old.story.now) (sym named) (none (sym had.is_of.is_final ∙ is)))
      (subst (λ (n : Name). Always (ComponentSound web n) old.story.now) (sym named) sound))
  one_sound component old new end ds es (inr none_made) t tell told as_read none sound = stays (begun old.story (SoundOf web component) sound) (ap (λ (w : World). w.story) none_made.same)

  -- All of them are, at each moment of theirs.
  pub made_sound : (k : ℕ) (components : List Component) → AreNamesApart (map (λ component. component.name) components) → (old new : World) (result : Result (Unit {0}) Stop) (ds es : List D) (told : List (List Asked))
      → AllMade wire final settings k components old new result ds es told → IsTrue new.tells → AllTell wire es → AllTold web components told
      → Always (AsRead (is_of_some (map (λ component. component.name) components)) old.story.now) old.story.now → (final ≡ true → Always (λ image. All (λ component. NoneOf component image) components) old.story.now)
      → Always (λ image. All (λ component. SoundOf web component image) components) old.story.now → Through old.story new.story (λ image. All (λ component. SoundOf web component image) components)
  made_sound k [] apart old new result ds es told made t tell replies as_read none sound = stays (begun old.story (λ image. All (λ component. SoundOf web component image) []) sound) (ap (λ (w : World). w.story) made.1)
  made_sound k (component ∷ components) apart old new result ds es told made t tell true_replies as_read none sound =
      at_answer (component_answer k made.2) made.6
      (λ h.
      let u = (made_endures wire final settings (k + 1) components made.0 new result made.1 es made.4 h).tells t in
      let first = firsts u (made_tells wire final settings (k + 1) components made.0 new result made.1 es made.4 h tell) in
      let rest = made_sound (k + 1) components apart.1 made.0 new result made.1 es made.4 h t tell replies.1 (still_as_read others mine off (apart_first u) (λ image may n is. as_read image may n (so_right (mine n) (others n) is)))
      (λ is. at_end (still others mine (λ before image same all. all_local (λ c i. NoneOf c i) none_local components before image same all) off (apart_first u) (λ image may. All-tail (λ (c : Component). NoneOf c image) component components (none is image may))))
      (λ image may. All-tail (λ (c : Component). SoundOf web c image) component components (at_end first image may)) in
      let head = still mine others (λ before image same s. sound_local web component before image same s) apart.0 (made_apart wire final settings (k + 1) components made.0 new result made.1 es made.4 h t)
      (λ image may. All-head (λ (c : Component). SoundOf web c image) component components (at_end first image may)) in
      joined first (weaker (both head rest) (λ image s. All-cons (λ (c : Component). SoundOf web c image) component components s.0 s.1)))
      (λ stop h. subst (λ (w : World). Through old.story w.story (λ image. All (λ c. SoundOf web c image) (component ∷ components))) (sym h.1)
      (firsts (subst (λ (w : World). IsTrue w.tells) h.1 t) (subst (AllTell wire) h.2 tell)))
    where
      mine : Name → Bool
      mine = is_of component.name

      others : Name → Bool
      others = is_of_some (map (λ (c : Component). c.name) components)

      off : (n : Name) → others n ≡ true → mine n ≡ false
      off = others_not component.name (map (λ (c : Component). c.name) components) apart.0

      replies : AllTold web (component ∷ components) (turns_of wire final settings component old made.0 made.2 ds made.1 made.3 ∷ made.4)
      replies = subst (AllTold web (component ∷ components)) made.5 true_replies

      apart_first : IsTrue made.0.tells → Through old.story made.0.story (Follows (May old.story.now) (Beside mine))
      apart_first u = one_apart wire final settings component made.3 u

      firsts : IsTrue made.0.tells → AllTell wire made.1 → Through old.story made.0.story (λ image. All (λ c. SoundOf web c image) (component ∷ components))
      firsts u told_by =
          weaker (both
          (one_sound component old made.0 made.2 ds made.1 made.3 u told_by replies.0 (λ image may n is. as_read image may n (so_left (mine n) (others n) is))
          (λ is image may. All-head (λ (c : Component). NoneOf c image) component components (none is image may))
          (λ image may. All-head (λ (c : Component). SoundOf web c image) component components (sound image may)))
          (still others mine (λ before image same all. all_local (λ c i. SoundOf web c i) (sound_local web) components before image same all) off (apart_first u)
          (λ image may. All-tail (λ (c : Component). SoundOf web c image) component components (sound image may))))
          (λ image s. All-cons (λ (c : Component). SoundOf web c image) component components s.0 s.1)
