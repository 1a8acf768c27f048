-- What one change of one name leaves, and what is so at the end of a run.
use Rattle.std.proofs.Common.{◌≡◌, inl, inr, ⊎_elim, false, sym, subst}
use Rattle.std.specs.Prelude.{None, bytes_eq, Result}
use Rattle.folder_base.specs.Disk.{Name, Disk, Image, Leaves, May, removed, settled}
use Rattle.folder_base.specs.Story.{Story, Through, Does}
use Rattle.text_base.specs.declared.faults.FolderFault.{FolderFault}
use Rattle.folder_base.proofs.Images.{remove_may, none_is, settle_keeps}
use Rattle.folder_base.proofs.Moments.{begun, call}
use Rattle.folder_steps.specs.Follow.{Always}

-- What holds of every image holds once a file is gone.
pub removed_keeps : (P : Image → Type 0) (name : Name) (disk : Disk) → Always P disk → ((before image : Image) → P before → ((other : Name) → bytes_eq name other ≡ false → image other ≡ before other) → image name ≡ None → P image) → Always P (removed name disk)
removed_keeps P name disk always closed image h = ⊎_elim (λ old. always image old)
    (λ new. closed new.before image (always new.before (inl new.held)) new.by_it.others (none_is (image name) new.by_it.here))
    (remove_may name disk image h)

-- What holds of every moment of a run holds at its end.
pub ends : {old new : Story} {P : Image → Type 0} → Through old new P → Always P new.now
ends run image h = run.each image (inl h)

-- A settle leaves no image that was not there.
pub after_settle : {old new : Story} {proper : Type 0} (result : Result (Unit {0}) FolderFault) → Does proper settled old new result → Through old new (May old.now)
after_settle {old} result does = call result (begun old (May old.now) (λ image h. h)) does (λ proper image h. settle_keeps old.now image h)

-- Nothing but the names as they are is left right behind it.
pub settled_only : (disk now : Disk) → now ≡ settled disk → Always (Leaves now.live) now
settled_only disk now is = subst (λ (d : Disk). Always (Leaves d.live) d) (sym is) only
  where
    only : (image : Image) → May (settled disk) image → Leaves disk.live image
    only image (inl (inl h)) = h
    only image (inl (inr none)) = absurd none
    only image (inr (inl none)) = absurd none
    only image (inr (inr none)) = absurd none
