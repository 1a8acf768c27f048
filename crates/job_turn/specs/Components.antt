-- What came of the components of a job, one after the other.
use Rattle.std.specs.Prelude.{◌≡◌, ◌⊎◌, ℕ, ◌+◌, Bool, List, [], ◌∷◌, take, drop, if◌then◌else◌, Result, MatchResult, Ok, Err}
use Rattle.std.proofs.Common.{inl, inr}
use Rattle.folder_base.specs.Story.{World}
use Rattle.folder_base.specs.declared.store_fault.StoreFault.{StoreFault}
use Rattle.folder_base.specs.declared.store_fault.StoreFault.TheVariants.{OutOfMemory}
use Rattle.link_http.specs.Wire.{Wire}
use Rattle.claim_crew.specs.Claimed.{joined_all}
use Rattle.frag_crew.specs.Asked.{Asked}
use Rattle.component_turn.specs.Component.{name_of, workers_for}
use Rattle.component_turn.specs.Turned.{Turned}
use Rattle.component_turn.specs.declared.component.Component.{Component as Making}
use Rattle.component_turn.specs.declared.component_end.ComponentEnd.{ComponentEnd}
use Rattle.component_turn.specs.declared.settings.Settings.{Settings as MakingSettings}
use Rattle.job_pieces.specs.declared.component.Component.{Component}
use Rattle.job_turn.specs.Ends.{component_answer}
use Rattle.job_turn.specs.declared.end.Stop.{Stop}
use Rattle.job_turn.specs.declared.settings.Settings.{Settings}

-- how often a piece is tried again: fragments have a number of tries of their own
abbrev pub retries_for : Bool → Settings → ℕ
retries_for fragments settings = if fragments then settings.fragment_retries else settings.retries

-- how a component is fetched
abbrev pub settings_for : Component → Settings → MakingSettings
settings_for component settings = record {
  fresh = settings.fresh;
  workers = settings.workers;
  retries = retries_for component.fragments settings;
}

-- The component is made under its name, of its pieces.
pub record IsMakingOf (component : Component) (final : Bool) (making : Making) : Type 0 where
  pub named : name_of making ≡ component.name
  pub pieces : making.pieces.items ≡ component.pieces.items
  pub is_final : making.target.is_final ≡ final

module _ {D : Type 0} (wire : D → Wire) (final : Bool) (settings : Settings) where
  -- A component had its turn, by the first of these dialers.
  pub record HadTurn (component : Component) (old new : World) (end : Result ComponentEnd StoreFault) (ds es : List D) : Type 0 where
    pub making : Making
    pub is_of : IsMakingOf component final making
    pub turned : Turned wire making (settings_for component settings) old new end (take (workers_for making (settings_for component settings)) ds) (take (workers_for making (settings_for component settings)) es)
    pub idle : drop (workers_for making (settings_for component settings)) es ≡ drop (workers_for making (settings_for component settings)) ds

  -- Memory was refused before its turn began.
  pub record HadNone (old new : World) (end : Result ComponentEnd StoreFault) (ds es : List D) : Type 0 where
    pub refused : end ≡ Err OutOfMemory
    pub same : new ≡ old
    pub unasked : es ≡ ds

  -- One of both.
  abbrev pub OneMade : Component → World → World → Result ComponentEnd StoreFault → List D → List D → Type 0
  OneMade component old new end ds es = HadTurn component old new end ds es ⊎ HadNone old new end ds es

  -- what was asked for a component
  abbrev pub turns_of : (component : Component) (old new : World) (end : Result ComponentEnd StoreFault) (ds es : List D) → OneMade component old new end ds es → List Asked
  turns_of component old new end ds es (inl had) = joined_all had.turned.turns.asked
  turns_of component old new end ds es (inr none) = []

  -- The components from number k on had their turns in order, up to the first that did not come to be whole; this was asked for them, one after the other.
  abbrev pub AllMade : ℕ → List Component → World → World → Result (Unit {0}) Stop → List D → List D → List (List Asked) → Type 0
  AllMade k [] old new result ds es told = (result ≡ Ok tt) × (new ≡ old) × (es ≡ ds) × (told ≡ [])
  AllMade k (component ∷ components) old new result ds es told =
      (mid : World) × (ms : List D) × (end : Result ComponentEnd StoreFault) × (made : OneMade component old mid end ds ms) × (others : List (List Asked))
      × (told ≡ turns_of component old mid end ds ms made ∷ others)
      × MatchResult (component_answer k end) (λ _. AllMade (k + 1) components mid new result ms es others) (λ stop. (result ≡ Err stop) × (new ≡ mid) × (es ≡ ms) × (others ≡ []))

  -- They had, and this was asked.
  pub record Makes (k : ℕ) (components : List Component) (old new : World) (result : Result (Unit {0}) Stop) (ds es : List D) : Type 0 where
    pub told : List (List Asked)
    pub made : AllMade k components old new result ds es told
