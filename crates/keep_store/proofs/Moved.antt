-- What a sync and a rename leave.
use Rattle.std.proofs.Common.{◌⊎◌, inl, inr, ⊎_elim, ◌∙◌, ap, subst}
use Rattle.std.specs.Prelude.{Result}
use Rattle.text_base.specs.declared.faults.FolderFault.{FolderFault}
use Rattle.folder_base.specs.Disk.{Name, Disk, Image, May, synced, renamed}
use Rattle.folder_base.specs.Story.{Story, Through, Next, Does}
use Rattle.folder_base.proofs.Images.{sync_keeps}
use Rattle.folder_base.proofs.Moments.{begun, goes_on, stays, outcome}
use Rattle.keep_store.specs.Publish.{IsMoving}

module _ (from to : Name) (old : Story) where
  abbrev Passed : Image → Type 0
  Passed image = May old.now image ⊎ May (renamed from to (synced from old.now)) image

  before : Through old old Passed
  before = begun old Passed (λ image may. inl may)

  synced_so : {mid : Story} → Next (synced from) old mid → Through old mid Passed
  synced_so next = goes_on before next (λ image may. inl (sync_keeps from old.now image may))

  pub after_sync : {mid : Story} {proper : Type 0} (result : Result (Unit {0}) FolderFault) → Does proper (synced from) old mid result → IsMoving from to old mid
  after_sync result does = ⊎_elim
      (λ same. record { moments = stays before same; ends = inl (ap (λ (s : Story). s.now) same) })
      (λ done. record { moments = synced_so done.1; ends = inr (inl done.1.now) }) (outcome result does)

  pub after_rename : {mid new : Story} {proper : Type 0} (result : Result (Unit {0}) FolderFault) → Next (synced from) old mid → Does proper (renamed from to) mid new result → IsMoving from to old new
  after_rename result first does = ⊎_elim
      (λ same. record { moments = stays (synced_so first) same; ends = inr (inl (ap (λ (s : Story). s.now) same ∙ first.now)) })
      (λ done. record {
        moments = goes_on (synced_so first) done.1 (λ image may. inr (subst (λ (d : Disk). May (renamed from to d) image) first.now may));
        ends = inr (inr (done.1.now ∙ ap (renamed from to) first.now));
      }) (outcome result does)
