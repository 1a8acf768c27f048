-- What tidying leaves.
use Rattle.std.proofs.Common.{◌≡◌, Bool, true, false, sym, ◌∙◌, ap, subst}
use Rattle.std.specs.Prelude.{None, is_some, ◌&&◌, ◌||◌, if◌then◌else◌}
use Rattle.folder_base.specs.Disk.{Name, Names, Image, May}
use Rattle.folder_base.specs.Story.{Story, Through}
use Rattle.folder_steps.specs.Follow.{Follows, Thinner}
use Rattle.folder_steps.proofs.RemovalLemmas.{thin_more}
use Rattle.plan_record.specs.Names.{record_of}
use Rattle.component_store.specs.Tidy.{is_cleared, is_tidied}

module _ (component : Name) (final keep : Bool) (live : Names) where
  -- With its record there just those files go,
  pub tidied_is : is_some (live (record_of component)) ≡ true → (keeps : Bool) → keeps ≡ (keep && is_some (live component)) → (n : Name) → is_tidied component final keep live n ≡ is_cleared component (final || keep) keeps n
  tidied_is stands keeps is n = ap (λ (b : Bool). b && is_cleared component (final || keep) (keep && is_some (live component)) n) stands ∙ ap (λ (b : Bool). is_cleared component (final || keep) b n) (sym is)

  -- and without it none.
  pub tidied_none : is_some (live (record_of component)) ≡ false → (n : Name) → is_tidied component final keep live n ≡ false
  tidied_none none n = ap (λ (b : Bool). b && is_cleared component (final || keep) (keep && is_some (live component)) n) none

  pub none_names : is_some (live (record_of component)) ≡ false → {now : Names} → ((n : Name) → now n ≡ live n) → (n : Name) → now n ≡ (if is_tidied component final keep live n then None else live n)
  none_names none same n = same n ∙ sym (ap (λ (b : Bool). if b then None else live n) (tidied_none none n))

  pub cleared_names : is_some (live (record_of component)) ≡ true → (keeps : Bool) → keeps ≡ (keep && is_some (live component)) → {now : Names} → ((n : Name) → now n ≡ (if is_cleared component (final || keep) keeps n then None else live n))
      → (n : Name) → now n ≡ (if is_tidied component final keep live n then None else live n)
  cleared_names stands keeps is cleared n = cleared n ∙ sym (ap (λ (b : Bool). if b then None else live n) (tidied_is stands keeps is n))

  pub cleared_thin : is_some (live (record_of component)) ≡ true → (keeps : Bool) → keeps ≡ (keep && is_some (live component)) → {was : Image → Type 0} (image : Image)
      → Follows was (Thinner (is_cleared component (final || keep) keeps)) image → Follows was (Thinner (is_tidied component final keep live)) image
  cleared_thin stands keeps is image f = thin_more (is_cleared component (final || keep) keeps) (is_tidied component final keep live) (λ n goes. tidied_is stands keeps is n ∙ goes) image f

-- A run of removals from the same story on, whatever goes.
pub thin_from : {old mid new : Story} (goes : Name → Bool) → mid ≡ old → Through mid new (Follows (May mid.now) (Thinner goes)) → Through old new (Follows (May old.now) (Thinner goes))
thin_from {old} {mid} {new} goes same run = subst (λ (s : Story). Through s new (Follows (May s.now) (Thinner goes))) same run
