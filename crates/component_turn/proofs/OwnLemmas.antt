-- That a component stands only beside its plan's record, call by call.
use Rattle.std.proofs.Common.{◌≡◌, ◌⊎◌, inl, inr, ℕ, Bool, true, false, refl, sym, ◌∙◌, ap, subst}
use Rattle.std.specs.Prelude.{Option, Some, None, if◌then◌else◌}
use Rattle.folder_base.specs.Disk.{Name, Bytes, Disk, Image, May, begins}
use Rattle.folder_steps.specs.Follow.{Always, Follows, Beside}
use Rattle.keep_store.specs.Promise.{IfStands}
use Rattle.plan_record.specs.Names.{record_of, pieces_of, is_swept}
use Rattle.component_store.specs.Assemble.{IsAssembling}
use Rattle.component_store.specs.Begin.{IsBeginning, IsStarting}
use Rattle.component_store.proofs.FamilyLemmas.{begins_one, spare_self, record_self, joined_self, joined_record, self_record, pieces_self, pieces_record}
use Rattle.component_turn.proofs.TurnLemmas.{thin_same}

-- What did not stand does not where it may only go.
thin_none : {may : Type 0} (before now : Option Bytes) → before ≡ None → (now ≡ before) ⊎ (may × (now ≡ None)) → now ≡ None
thin_none before now none (inl same) = same ∙ none
thin_none before now none (inr gone) = gone.1

module _ (component : Name) (text : Bytes) where
  -- It stands only beside the record of this text.
  abbrev Own : Image → Type 0
  Own image = IfStands (image component) (λ bytes. image (record_of component) ≡ Some text)

  pub own_none : (image : Image) → image component ≡ None → Own image
  own_none image none = subst (λ (o : Option Bytes). IfStands o (λ bytes. image (record_of component) ≡ Some text)) (sym none) tt

  own_recorded : (image : Image) → image (record_of component) ≡ Some text → Own image
  own_recorded image is = by (image component)
    where
      by : (o : Option Bytes) → IfStands o (λ bytes. image (record_of component) ≡ Some text)
      by None = tt
      by (Some bytes) = is

  own_same : (before image : Image) → image component ≡ before component → image (record_of component) ≡ before (record_of component) → Own before → Own image
  own_same before image self beside own = subst (λ (o : Option Bytes). IfStands o (λ bytes. image (record_of component) ≡ Some text)) (sym self)
      (subst (λ (r : Option Bytes). IfStands (before component) (λ bytes. r ≡ Some text)) (sym beside) own)

  module _ (disk : Disk) where
    starting_none : (final : Bool) → Always (λ image. image component ≡ None) disk → (image : Image) → IsStarting component final text disk image → image component ≡ None
    starting_none final none image (inl cleared) = thin_none (cleared.before component) (image component) (none cleared.before cleared.possible) (cleared.each component (spare_self component))
    starting_none final none image (inr started) =
        started.each component
        ∙ ap (λ (b : Bool). if b then Some text else (if is_swept component final component then None else started.before component)) (record_self component)
        ∙ by (is_swept component final component) (started.before component) (none started.before started.possible)
      where
        by : (swept : Bool) (was : Option Bytes) → was ≡ None → (if swept then None else was) ≡ None
        by true was e = refl
        by false was e = e

    -- As a component is begun that stood in no image it comes to stand in none,
    pub beginning_none : (final goes : Bool) → Always (λ image. image component ≡ None) disk → (image : Image) → IsBeginning component final text goes disk image → image component ≡ None
    beginning_none final goes none image (inl thinner) = thin_none (thinner.before component) (image component) (none thinner.before thinner.possible) (thinner.each component)
    beginning_none final goes none image (inr anew) = starting_none final none image anew.1

    -- the crew touches neither it nor its record,
    pub crew_own : Always Own disk → (image : Image) → Follows (May disk) (Beside (begins (pieces_of component))) image → Own image
    crew_own own image follows = own_same follows.before image
        (follows.each component (begins_one (pieces_of component) component ∙ pieces_self component))
        (follows.each (record_of component) (begins_one (pieces_of component) (record_of component) ∙ pieces_record component))
        (own follows.before follows.possible)

    -- and it is put together beside its record.
    pub assembling_own : (count : ℕ) → Always Own disk → Always (λ image. image (record_of component) ≡ Some text) disk → (image : Image) → IsAssembling component count disk image → Own image
    assembling_own count own recorded image (inl loose) = own_same loose.before image
        (loose.each component (joined_self component)) (loose.each (record_of component) (joined_record component)) (own loose.before loose.possible)
    assembling_own count own recorded image (inr done) = own_recorded image
        (thin_same (begins (pieces_of component) (record_of component)) (done.before (record_of component)) (image (record_of component))
        (begins_one (pieces_of component) (record_of component) ∙ pieces_record component)
        (done.others (record_of component) (self_record component) (joined_record component))
        ∙ recorded done.before (inl (inl done.possible)))
