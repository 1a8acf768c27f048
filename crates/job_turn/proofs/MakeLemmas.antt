-- What components come to that are made one after the other.
use Rattle.std.proofs.Common.{◌≡◌, ℕ, ◌+◌, Bool, List, [], ◌∷◌, length, refl, sym, ◌∙◌, ap, subst, arith}
use Rattle.std.specs.Prelude.{Result, MatchResult, Ok, Err}
use Rattle.folder_base.specs.Story.{World}
use Rattle.folder_base.specs.declared.store_fault.StoreFault.{StoreFault}
use Rattle.link_http.specs.Wire.{Wire}
use Rattle.frag_crew.specs.Asked.{Asked}
use Rattle.component_turn.specs.declared.component_end.ComponentEnd.{ComponentEnd}
use Rattle.job_pieces.specs.declared.component.Component.{Component}
use Rattle.job_turn.specs.Components.{OneMade, turns_of, AllMade, Makes}
use Rattle.job_turn.specs.Ends.{component_answer}
use Rattle.job_turn.specs.declared.end.Stop.{Stop}
use Rattle.job_turn.specs.declared.settings.Settings.{Settings}

module _ {D : Type 0} (wire : D → Wire) (final : Bool) (settings : Settings) where
  -- The last of the components that are made: it stops the others.
  pub made_stop : (k : ℕ) (component : Component) (components : List Component) {old new : World} {end : Result ComponentEnd StoreFault} {ds es : List D} (stop : Stop) → component_answer k end ≡ Err stop
      → OneMade wire final settings component old new end ds es → Makes wire final settings k (component ∷ components) old new (Err stop) ds es
  made_stop k component components {old} {new} {end} {ds} {es} stop is made = record {
    told = turns_of wire final settings component old new end ds es made ∷ [];
    made = (new, es, end, made, [], refl, subst (λ (r : Result (Unit {0}) Stop). MatchResult r (λ _. AllMade wire final settings (k + 1) components new new (Err stop) es es []) (λ s. (◌≡◌ {A = Result (Unit {0}) Stop} (Err stop) (Err s)) × (new ≡ new) × (es ≡ es) × (◌≡◌ {A = List (List Asked)} [] []))) (sym is) (refl, refl, refl, refl));
  }

  -- One that is whole, and those behind it.
  pub made_next : (k : ℕ) (component : Component) (components : List Component) {old mid new : World} {end : Result ComponentEnd StoreFault} {ds ms es : List D} (result : Result (Unit {0}) Stop) → component_answer k end ≡ Ok tt
      → OneMade wire final settings component old mid end ds ms → Makes wire final settings (k + 1) components mid new result ms es → Makes wire final settings k (component ∷ components) old new result ds es
  made_next k component components {old} {mid} {new} {end} {ds} {ms} {es} result is made rest = record {
    told = turns_of wire final settings component old mid end ds ms made ∷ rest.told;
    made = (mid, ms, end, made, rest.told, refl, subst (λ (r : Result (Unit {0}) Stop). MatchResult r (λ _. AllMade wire final settings (k + 1) components mid new result ms es rest.told) (λ s. (result ≡ Err s) × (new ≡ mid) × (es ≡ ms) × (rest.told ≡ []))) (sym is) rest.made);
  }

  -- Behind the last there is none.
  pub made_none : (k : ℕ) (world : World) (ds : List D) → Makes wire final settings k [] world world (Ok tt) ds ds
  made_none k world ds = record { told = []; made = (refl, refl, refl, refl) }

  -- So it is of the components that an iterator has left, of which this one is the next: it stops the others,
  pub made_halt : (k number : ℕ) (left : List Component) (component : Component) (components : List Component) {old new : World} {end : Result ComponentEnd StoreFault} {ds es : List D} (stop : Stop) → left ≡ component ∷ components → number ≡ k
      → Err stop ≡ component_answer number end → OneMade wire final settings component old new end ds es → Makes wire final settings k left old new (Err stop) ds es
  made_halt k number left component components {old} {new} {end} {ds} {es} stop here at is made =
      subst (λ (cs : List Component). Makes wire final settings k cs old new (Err stop) ds es) (sym here)
      (made_stop k component components stop (ap (λ (n : ℕ). component_answer n end) (sym at) ∙ sym is) made)

  -- is whole, and those behind it are made,
  pub made_on : (k number later : ℕ) (left : List Component) (component : Component) (components : List Component) {old mid new : World} {end : Result ComponentEnd StoreFault} {ds ms es : List D} (result : Result (Unit {0}) Stop) → left ≡ component ∷ components
      → number ≡ k → later ≡ k + 1 → Ok tt ≡ component_answer number end → OneMade wire final settings component old mid end ds ms → Makes wire final settings later components mid new result ms es → Makes wire final settings k left old new result ds es
  made_on k number later left component components {old} {mid} {new} {end} {ds} {ms} {es} result here at next is made rest =
      subst (λ (cs : List Component). Makes wire final settings k cs old new result ds es) (sym here)
      (made_next k component components result (ap (λ (n : ℕ). component_answer n end) (sym at) ∙ sym is) made (subst (λ (n : ℕ). Makes wire final settings n components mid new result ms es) next rest))

  -- or there is none left.
  pub made_end : (k : ℕ) (left : List Component) (world : World) (ds : List D) → length left ≡ 0 → Makes wire final settings k left world world (Ok tt) ds ds
  made_end k [] world ds none = made_none k world ds
  made_end k (component ∷ components) world ds none = absurd (omega (arith, none))
