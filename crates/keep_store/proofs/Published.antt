-- What a crash leaves in each step of `publish`.
use Rattle.std.proofs.Common.{◌≡◌, inl, inr, ⊎_elim, refl, sym, ◌∙◌, ap, subst}
use Rattle.std.specs.Prelude.{Option, Some, None, option_map, Result, IsSome}
use Rattle.text_base.specs.declared.faults.FolderFault.{FolderFault}
use Rattle.folder_base.specs.Changes.{IsMoved, Comes}
use Rattle.folder_base.specs.Disk.{Name, File, Disk, Image, content, MayBe, May, put, firm, synced, renamed, settled}
use Rattle.folder_base.specs.Story.{Story, Through, Does}
use Rattle.folder_base.proofs.Images.{sync_keeps, settle_keeps, rename_may, put_elim, put_here, firm_is}
use Rattle.folder_base.proofs.Moments.{begun, call}
use Rattle.keep_store.specs.Publish.{IsPublished, IsBeforeOrMoved}

module _ (from to : Name) (disk : Disk) where
  -- what held before the rename, with the whole file moved
  moved : (file : File) → disk.live from ≡ Some file → (image : Image) → Comes (IsMoved from to ((synced from disk).live from)) (synced from disk) image → IsPublished from to disk image
  moved file stood image comes = record {
    file = file;
    stood = stood;
    before = comes.before;
    possible = sync_keeps from disk comes.before (inl comes.held);
    moved = λ n. same n;
  }
    where
      firm_file : (synced from disk).live from ≡ Some (firm file)
      firm_file = put_here disk.live from (option_map firm (disk.live from)) ∙ ap (option_map firm) stood

      same : (n : Name) → image n ≡ put (put comes.before from None) to (Some (content file)) n
      same n = put_elim (λ o. image n ≡ o) (put comes.before from None) to (Some (content file)) n
          (λ is_to. ap image (sym is_to) ∙ firm_is file (image to) (subst (λ (o : Option File). MayBe o (image to)) firm_file comes.by_it.here))
          (λ not_to. put_elim (λ o. image n ≡ o) comes.before from None n
          (λ is_from. ap image (sym is_from) ∙ comes.by_it.gone)
          (λ not_from. comes.by_it.others n not_from not_to))

  pub renamed_may : IsSome (disk.live from) → (image : Image) → May (renamed from to (synced from disk)) image → IsBeforeOrMoved from to disk image
  renamed_may stands image h = by (disk.live from) refl stands
    where
      by : (o : Option File) → disk.live from ≡ o → IsSome o → IsBeforeOrMoved from to disk image
      by None e none = cc
      by (Some file) e stands = ⊎_elim (λ old. inl (sync_keeps from disk image old)) (λ new. inr (moved file e image new)) (rename_may from to (synced from disk) image h)

-- the three calls, each of which may end it
module _ (from to : Name) (start : Story) where
  abbrev P : Image → Type 0
  P = IsBeforeOrMoved from to start.now

  pub after_sync : {mid : Story} (result : Result (Unit {0}) FolderFault) → Does (IsSome (start.now.live from)) (synced from) start mid result → Through start mid P
  after_sync result does = call result (begun start P (λ image h. inl h)) does (λ stood image h. inl (sync_keeps from start.now image h))

  pub after_rename : {mid new : Story} {proper : Type 0} (result : Result (Unit {0}) FolderFault) → IsSome (start.now.live from) → mid.now ≡ synced from start.now → Through start mid P → Does proper (renamed from to) mid new result → Through start new P
  after_rename result stood is so_far does = call result so_far does (λ proper image h. renamed_may from to start.now stood image (subst (λ (d : Disk). May (renamed from to d) image) is h))

  pub after_settle : {mid new : Story} {proper : Type 0} (result : Result (Unit {0}) FolderFault) → IsSome (start.now.live from) → mid.now ≡ renamed from to (synced from start.now) → Through start mid P → Does proper settled mid new result → Through start new P
  after_settle result stood is so_far does = call result so_far does (λ proper image h. renamed_may from to start.now stood image (settle_keeps (renamed from to (synced from start.now)) image (subst (λ (d : Disk). May (settled d) image) is h)))
