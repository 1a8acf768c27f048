-- That components which are made touch no name beside their families, and that the folder endures.
use Rattle.std.proofs.Common.{◌≡◌, ⊎_elim, ℕ, ◌+◌, Bool, false, IsTrue, List, [], ◌∷◌, map, sym, ap, subst}
use Rattle.std.specs.Prelude.{Result, MatchResult, Ok, Err}
use Rattle.folder_base.specs.Disk.{Name, Image, May}
use Rattle.folder_base.specs.Story.{World, Story, Through}
use Rattle.folder_base.proofs.Disjoint.{neither_so}
use Rattle.folder_base.proofs.Moments.{begun, stays, weaker}
use Rattle.folder_steps.specs.Follow.{Follows, Beside}
use Rattle.keep_store.specs.TookLaws.{stays_none}
use Rattle.link_http.specs.Wire.{Wire}
use Rattle.frag_crew.specs.Asked.{Asked}
use Rattle.component_turn.specs.Crew.{Endures}
use Rattle.component_turn.specs.Plan.{is_of}
use Rattle.component_turn.specs.declared.component_end.ComponentEnd.{ComponentEnd}
use Rattle.component_turn.proofs.CrewLemmas.{endures_stays, endures_both}
use Rattle.component_turn.proofs.TurnLemmas.{same_beside, beside_on}
use Rattle.folder_base.specs.declared.store_fault.StoreFault.{StoreFault}
use Rattle.job_pieces.specs.declared.component.Component.{Component}
use Rattle.job_turn.specs.Clearing.{is_of_some}
use Rattle.job_turn.specs.Components.{OneMade, AllMade, HadTurn, HadNone}
use Rattle.job_turn.specs.Ends.{component_answer}
use Rattle.job_turn.specs.declared.end.Stop.{Stop}
use Rattle.job_turn.specs.declared.settings.Settings.{Settings}

-- More names may be touched.
pub beside_more : {was : Image → Type 0} (few loose : Name → Bool) → ((n : Name) → loose n ≡ false → few n ≡ false) → (image : Image) → Follows was (Beside few) image → Follows was (Beside loose) image
beside_more few loose less image f = record { before = f.before; possible = f.possible; each = λ n free. f.each n (less n free) }

-- Nothing was touched.
pub beside_none : {old new : Story} (loose : Name → Bool) → new ≡ old → Through old new (Follows (May old.now) (Beside loose))
beside_none {old} loose same = stays (begun old (Follows (May old.now) (Beside loose)) (λ image may. same_beside loose old.now image may)) same

pub endures_none : {old new : World} → new ≡ old → Endures old new
endures_none {old} {new} same = subst (λ (w : World). Endures old w) (sym same) (endures_stays (stays_none old))

-- By what a component's end means: the others had their turns, or there was a stop.
pub at_answer : {A X : Type 0} {S : Stop → Type 0} (r : Result (Unit {0}) Stop) → MatchResult r (λ _. X) S → (X → A) → ((stop : Stop) → S stop → A) → A
at_answer (Ok x) h goes stops = goes h
at_answer (Err stop) h goes stops = stops stop h

module _ {D : Type 0} (wire : D → Wire) (final : Bool) (settings : Settings) where
  pub one_endures : (component : Component) {old new : World} {end : Result ComponentEnd StoreFault} {ds es : List D} → OneMade wire final settings component old new end ds es → Endures old new
  one_endures component {old} {new} {end} {ds} {es} made = ⊎_elim
      (λ (had : HadTurn wire final settings component old new end ds es). had.turned.endures)
      (λ (none : HadNone wire final settings old new end ds es). endures_none none.same) made

  pub made_endures : (k : ℕ) (components : List Component) (old new : World) (result : Result (Unit {0}) Stop) (ds es : List D) (told : List (List Asked)) → AllMade wire final settings k components old new result ds es told → Endures old new
  made_endures k [] old new result ds es told made = endures_none made.1
  made_endures k (component ∷ components) old new result ds es told made =
      endures_both (one_endures component made.3) (at_answer (component_answer k made.2) made.6 (λ h. made_endures (k + 1) components made.0 new result made.1 es made.4 h) (λ stop h. endures_none h.1))

  -- No name beside a component's family is touched as it has its turn,
  pub one_apart : (component : Component) {old new : World} {end : Result ComponentEnd StoreFault} {ds es : List D} → OneMade wire final settings component old new end ds es → IsTrue new.tells
      → Through old.story new.story (Follows (May old.story.now) (Beside (is_of component.name)))
  one_apart component {old} {new} {end} {ds} {es} made t = ⊎_elim
      (λ (had : HadTurn wire final settings component old new end ds es).
      subst (λ (n : Name). Through old.story new.story (Follows (May old.story.now) (Beside (is_of n)))) had.is_of.named (had.turned.underway t).apart)
      (λ (none : HadNone wire final settings old new end ds es). beside_none (is_of component.name) (ap (λ (w : World). w.story) none.same)) made

  -- nor beside all of theirs as they have.
  pub made_apart : (k : ℕ) (components : List Component) (old new : World) (result : Result (Unit {0}) Stop) (ds es : List D) (told : List (List Asked)) → AllMade wire final settings k components old new result ds es told → IsTrue new.tells
      → Through old.story new.story (Follows (May old.story.now) (Beside (is_of_some (map (λ component. component.name) components))))
  made_apart k [] old new result ds es told made t = beside_none (is_of_some []) (ap (λ (w : World). w.story) made.1)
  made_apart k (component ∷ components) old new result ds es told made t =
      at_answer (component_answer k made.2) made.6
      (λ h. beside_on (first ((made_endures (k + 1) components made.0 new result made.1 es made.4 h).tells t)) (weaker (made_apart (k + 1) components made.0 new result made.1 es made.4 h t) (λ image f. beside_more others all (λ n free. (neither_so (is_of component.name n) (others n) free).1) image f)))
      (λ stop h. subst (λ (w : World). Through old.story w.story (Follows (May old.story.now) (Beside all))) (sym h.1) (first (subst (λ (w : World). IsTrue w.tells) h.1 t)))
    where
      others : Name → Bool
      others = is_of_some (map (λ (c : Component). c.name) components)

      all : Name → Bool
      all = is_of_some (map (λ (c : Component). c.name) (component ∷ components))

      first : IsTrue made.0.tells → Through old.story made.0.story (Follows (May old.story.now) (Beside all))
      first u = weaker (one_apart component made.3 u) (λ image f. beside_more (is_of component.name) all (λ n free. (neither_so (is_of component.name n) (others n) free).0) image f)
