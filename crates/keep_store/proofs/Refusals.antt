-- The fault of a call of the folder names that call.
use Rattle.std.proofs.Common.{◌≡◌, ◌⊎◌, inl, inr, ⊎_elim, ℕ, IsTrue, length, take, refl, sym, ◌∙◌, ap, subst, arith}
use Rattle.std.specs.Prelude.{Option, Some, None, IsSome, Result, Ok, Err, IsErr, IsErrOf, is_err, option_map}
use Rattle.text_base.specs.declared.faults.FolderFault.{FolderFault}
use Rattle.text_base.specs.declared.faults.FolderFault.TheVariants.{Failed, OutOfMemory}
use Rattle.text_base.specs.declared.faults.FolderCall.{FolderCall}
use Rattle.text_base.specs.declared.faults.FolderCall.TheVariants.{Append}
use Rattle.folder_base.specs.Disk.{Name, Bytes, File, Disk, put, firm, appended, synced}
use Rattle.folder_base.specs.Story.{World, Asks, Causes, Same, Reads, Does, DoesSome}
use Rattle.folder_base.specs.declared.store_fault.StoreFault.{StoreFault}
use Rattle.folder_base.specs.declared.store_fault.StoreFault.TheVariants.{Folder, OutOfMemory as NoMemory}
use Rattle.folder_base.proofs.Images.{put_here}
use Rattle.keep_store.specs.Lane.{IsRefusal}
use Rattle.keep_store.specs.Publish.{Stays, IsStepOf, DidAtMost, FailedBetween, MayRefuse, IsCalm, store_fault}
use Rattle.keep_store.specs.TookLaws.{stays_none}

module _ {T : Type 0} (old new : World) (call : FolderCall) (fault : FolderFault) (result : Result T FolderFault) (is : result ≡ Err fault) where
  failed_as : fault ≡ Failed → IsErrOf result Failed
  failed_as e = subst (λ (f : FolderFault). IsErrOf result f) e is

  refused_as : fault ≡ OutOfMemory → IsErrOf result OutOfMemory
  refused_as e = subst (λ (f : FolderFault). IsErrOf result f) e is

  -- A call that failed, or was refused for want of memory.
  pub may_refuse : {proper : Type 0} → Causes proper old new result → (IsErrOf result Failed → IsTrue new.tells → DidAtMost call old.story new.story) → MayRefuse old new (store_fault call fault)
  may_refuse {proper} causes did = by fault refl
    where
      by : (f : FolderFault) → fault ≡ f → MayRefuse old new (store_fault call f)
      by Failed e = record { before = old; after = new; earlier = stays_none old; fails = record { rose = causes.failed (failed_as e); told = did (failed_as e) }; later = stays_none new }
      by OutOfMemory e = causes.refused (refused_as e)

  -- Of a steady folder that tells it is want of memory, where the call was proper.
  pub refusal_by : {proper : Type 0} → (IsTrue old.tells → proper) → Causes proper old new result → (IsErrOf result Failed → IsTrue new.tells → DidAtMost call old.story new.story) → IsRefusal old new (store_fault call fault)
  refusal_by {proper} is_proper causes did = record { rose = may_refuse causes did; steady = λ steady tells. by fault refl steady tells }
    where
      by : (f : FolderFault) → fault ≡ f → IsTrue old.steady → IsTrue old.tells → store_fault call f ≡ store_fault call OutOfMemory
      by Failed e steady tells = absurd (causes.never steady (is_proper tells) (failed_as e))
      by OutOfMemory e steady tells = refl

-- The count of faults stands still in a call that answers Ok,
pub calm_ok : {T proper : Type 0} {old new : World} {x : T} → Causes proper old new (Ok x) → new.faults ≡ old.faults
calm_ok {T} {proper} {old} {new} {x} causes = causes.calm (λ failed. absurd (let e : Ok x ≡ Err Failed = failed in cc))

-- and in one that is refused for want of memory.
pub calm_by : {T proper : Type 0} (U : Type 0) (old new : World) (call : FolderCall) (fault : FolderFault) (result : Result T FolderFault) → result ≡ Err fault → Causes proper old new result → IsCalm {T = U} old new (Err (store_fault call fault))
calm_by U old new call Failed result is causes = tt
calm_by U old new call OutOfMemory result is causes = causes.calm (λ failed. absurd (let e : Err OutOfMemory ≡ Err Failed = sym is ∙ failed in cc))

-- So it is of two calls in turn.
pub calm_later : {T : Type 0} (first second third : World) (result : Result T StoreFault) → second.faults ≡ first.faults → IsCalm second third result → IsCalm first third result
calm_later first second third (Ok x) before calm = calm ∙ before
calm_later first second third (Err (Folder call)) before calm = tt
calm_later first second third (Err NoMemory) before calm = calm ∙ before

-- what a failed call did that is done whole or not at all,
pub did_whole : {T proper : Type 0} {step : Disk → Disk} (call : FolderCall) (old new : World) (result : Result T FolderFault) → IsStepOf call step → (IsTrue new.tells → Does proper step old.story new.story result)
    → IsErrOf result Failed → IsTrue new.tells → DidAtMost call old.story new.story
did_whole {T} {proper} {step} call old new result is does failed tells = ⊎_elim (λ same. inl same) (λ done. inr (step, is, done.1)) ((does tells).failed failed)

-- and what a failed `append` did.
pub did_append : {T proper : Type 0} (old new : World) (name : Name) (bytes : Bytes) (result : Result T FolderFault)
    → (IsTrue new.tells → DoesSome proper (λ count. appended name (take count bytes)) (length bytes) old.story new.story result) → IsErrOf result Failed → IsTrue new.tells → DidAtMost Append old.story new.story
did_append old new name bytes result does failed tells =
    ⊎_elim (λ same. inl same) (λ done. inr (appended name (take done.1.count bytes), (name, take done.1.count bytes, refl), done.1.next)) ((does tells).failed failed)

-- A call that reads and failed.
pub read_failed : {T E proper : Type 0} (old new : World) (call : FolderCall) (result : Result T E) → IsErr result → Stays old new → (IsTrue old.tells → proper) → Reads proper old new result → IsRefusal old new (Folder call)
read_failed old new call result failed stays is_proper reads = record {
  rose = record { before = old; after = new; earlier = stays_none old; fails = record { rose = reads.failed failed; told = λ t. inl (reads.same.story t) }; later = stays_none new };
  steady = λ steady tells. absurd (reads.never steady (is_proper tells) failed);
}

-- A file that was synced stands.
pub stands_synced : (name : Name) (disk : Disk) → IsSome (disk.live name) → IsSome ((synced name disk).live name)
stands_synced name disk stands = subst (λ (o : Option File). IsSome o) (sym (put_here disk.live name (option_map firm (disk.live name)))) (by (disk.live name) stands)
  where
    by : (o : Option File) → IsSome o → IsSome (option_map firm o)
    by None none = none
    by (Some file) is = refl
