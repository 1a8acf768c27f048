-- Why a call was refused, and that no call of the folder failed in it else.
use Rattle.std.proofs.Common.{◌≡◌, inl, inr, ⊎_elim, refl, sym, ◌∙◌, subst, IsTrue}
use Rattle.std.specs.Prelude.{Result, Ok, Err, IsErr, IsErrOf, IfErr, ⊤}
use Rattle.folder_base.specs.Story.{World, Asks, Causes, Same, Reads}
use Rattle.folder_base.specs.declared.store_fault.StoreFault.{StoreFault}
use Rattle.folder_base.specs.declared.store_fault.StoreFault.TheVariants.{Folder, OutOfMemory}
use Rattle.text_base.specs.declared.faults.FolderCall.{FolderCall}
use Rattle.text_base.specs.declared.faults.FolderCall.TheVariants.{Names}
use Rattle.text_base.specs.declared.faults.FolderFault.{FolderFault}
use Rattle.text_base.specs.declared.faults.FolderFault.TheVariants.{Failed, OutOfMemory as NoMemory}
use Rattle.keep_store.specs.Lane.{IsRefusal}
use Rattle.keep_store.specs.Publish.{Stays, DidAtMost, MayRefuse, IsCalm, store_fault}
use Rattle.keep_store.specs.TookLaws.{stays_none, refusal_later}
use Rattle.keep_store.proofs.Refusals.{refusal_by, read_failed, calm_ok, calm_by, calm_later}
use Rattle.folder_steps.specs.Blames.{Blames, BlamesMemory}

-- A refusal that names its cause, and is want of memory alone where the folder is steady.
refusal_of : {T P : Type 0} (old new : World) (result : Result T StoreFault) → IfErr result (MayRefuse old new) → (IsTrue old.steady → IsTrue old.tells → P → IfErr result (λ fault. fault ≡ OutOfMemory)) → (IsTrue old.tells → P) → IfErr result (IsRefusal old new)
refusal_of old new (Ok x) rose steady proper = tt
refusal_of old new (Err fault) rose steady proper = record { rose = rose; steady = λ is tells. steady is tells (proper tells) }

-- What publishing answers,
pub blames_of : {T P : Type 0} (old new : World) (result : Result T StoreFault) → IfErr result (MayRefuse old new) → IsCalm old new result → (IsTrue old.steady → IsTrue old.tells → P → IfErr result (λ fault. fault ≡ OutOfMemory)) → (IsTrue old.tells → P) → Blames old new result
blames_of old new result rose calm steady proper = record { cause = refusal_of old new result rose steady proper; calm = calm }

-- a call of the folder that answered Ok,
pub done : {T U proper : Type 0} {old new : World} {x : T} {y : U} → Causes proper old new (Ok x) → Blames old new (Ok y)
done causes = record { cause = tt; calm = calm_ok causes }

-- one that was refused,
pub refused : {T proper : Type 0} (U : Type 0) (old new : World) (call : FolderCall) (fault : FolderFault) (result : Result T FolderFault) → result ≡ Err fault → (IsTrue old.tells → proper) → Causes proper old new result
    → (IsErrOf result Failed → IsTrue new.tells → DidAtMost call old.story new.story) → (told : StoreFault) → told ≡ store_fault call fault → Blames {T = U} old new (Err told)
refused U old new call fault result is proper causes did told told_is =
    subst (λ (f : StoreFault). Blames {T = U} old new (Err f)) (sym told_is) (record { cause = refusal_by old new call fault result is proper causes did; calm = calm_by U old new call fault result is causes })

-- one that reads, and answered Ok,
pub read_calm : {T E proper : Type 0} {old new : World} {x : T} → Reads {E = E} proper old new (Ok x) → new.faults ≡ old.faults
read_calm reads = reads.calm (λ failed. absurd (cc))

pub read_done : {T E U proper : Type 0} {old new : World} {x : T} {y : U} → Reads {E = E} proper old new (Ok x) → Blames old new (Ok y)
read_done reads = record { cause = tt; calm = read_calm reads }

-- or failed,
pub read_refused : {T E proper : Type 0} (U : Type 0) (old new : World) (call : FolderCall) (result : Result T E) → IsErr result → Stays old new → (IsTrue old.tells → proper) → Reads proper old new result → Blames {T = U} old new (Err (Folder call))
read_refused U old new call result failed stays is_proper reads = record { cause = read_failed old new call result failed stays is_proper reads; calm = tt }

-- and the listing of its names.
pub names_calm : {T proper : Type 0} {old new : World} {x : T} → Asks proper old new (Ok x) → new.faults ≡ old.faults
names_calm {T} {proper} {old} {new} {x} asks = asks.calm (λ failed. absurd (let e : Ok x ≡ Err Failed = failed in cc))

pub names_refused : {T : Type 0} (U : Type 0) (old new : World) (fault : FolderFault) (result : Result T FolderFault) → result ≡ Err fault → Asks ⊤ old new result → Same old new → (told : StoreFault) → told ≡ store_fault Names fault → BlamesMemory {T = U} old new (Err told)
names_refused U old new fault result is asks same told told_is = subst (λ (f : StoreFault). BlamesMemory {T = U} old new (Err f)) (sym told_is) (by fault is)
  where
    by : (f : FolderFault) → result ≡ Err f → BlamesMemory {T = U} old new (Err (store_fault Names f))
    by Failed is = record {
      cause = inr (record {
        rose = record { before = old; after = new; earlier = stays_none old; fails = record { rose = asks.failed is; told = λ t. inl (same.story t) }; later = stays_none new };
        steady = λ steady tells. absurd (asks.never steady tt is);
      });
      calm = tt;
    }
    by NoMemory is = record { cause = inl refl; calm = asks.calm (λ failed. absurd (let e : Err NoMemory ≡ Err Failed = sym is ∙ failed in cc)) }

-- So it is of calls in turn: of the last one, whose answer is given on,
pub later : {T : Type 0} {first second : World} (third : World) (result : Result T StoreFault) → Stays first second → second.faults ≡ first.faults → Blames second third result → Blames first third result
later {T} {first} {second} third (Ok x) stays calm is = record { cause = tt; calm = is.calm ∙ calm }
later {T} {first} {second} third (Err fault) stays calm is = record { cause = refusal_later stays is.cause; calm = calm_later {T = T} first second third (Err fault) calm is.calm }

-- and of one that was refused.
pub err_later : {T U : Type 0} {first second third : World} {fault : StoreFault} → Stays first second → second.faults ≡ first.faults → Blames {T = T} second third (Err fault) → Blames {T = U} first third (Err fault)
err_later {T} {U} {first} {second} {third} {fault} stays calm is = record { cause = refusal_later stays is.cause; calm = calm_later {T = T} first second third (Err fault) calm is.calm }

-- The same of calls of which some take memory of their own.
pub own : {T : Type 0} {old new : World} (result : Result T StoreFault) → Blames old new result → BlamesMemory old new result
own (Ok x) is = record { cause = tt; calm = is.calm }
own (Err fault) is = record { cause = inr is.cause; calm = is.calm }

pub own_err : {T U : Type 0} {old new : World} {fault : StoreFault} → Blames {T = T} old new (Err fault) → BlamesMemory {T = U} old new (Err fault)
own_err is = record { cause = inr is.cause; calm = is.calm }

pub err_later_own : {T U : Type 0} {first second third : World} {fault : StoreFault} → Stays first second → second.faults ≡ first.faults → Blames {T = T} second third (Err fault) → BlamesMemory {T = U} first third (Err fault)
err_later_own {T} {U} {first} {second} {third} {fault} stays calm is = record { cause = inr (refusal_later stays is.cause); calm = calm_later {T = T} first second third (Err fault) calm is.calm }

pub own_later : {T : Type 0} {first second : World} (third : World) (result : Result T StoreFault) → Stays first second → second.faults ≡ first.faults → BlamesMemory second third result → BlamesMemory first third result
own_later {T} {first} {second} third (Ok x) stays calm is = record { cause = tt; calm = is.calm ∙ calm }
own_later {T} {first} {second} third (Err fault) stays calm is = record {
  cause = ⊎_elim (λ none. inl none) (λ refusal. inr (refusal_later stays refusal)) is.cause;
  calm = calm_later {T = T} first second third (Err fault) calm is.calm;
}

pub own_err_later : {T U : Type 0} {first second third : World} {fault : StoreFault} → Stays first second → second.faults ≡ first.faults → BlamesMemory {T = T} second third (Err fault) → BlamesMemory {T = U} first third (Err fault)
own_err_later {T} {U} {first} {second} {third} {fault} stays calm is = record {
  cause = ⊎_elim (λ none. inl none) (λ refusal. inr (refusal_later stays refusal)) is.cause;
  calm = calm_later {T = T} first second third (Err fault) calm is.calm;
}

-- Memory of its own was refused.
pub own_none : {U : Type 0} {old new : World} → new.faults ≡ old.faults → BlamesMemory {T = U} old new (Err OutOfMemory)
own_none calm = record { cause = inl refl; calm = calm }

-- A refusal is one of whatever the call would have given.
pub own_err_as : {T U : Type 0} {old new : World} {fault : StoreFault} → BlamesMemory {T = T} old new (Err fault) → BlamesMemory {T = U} old new (Err fault)
own_err_as is = record { cause = is.cause; calm = is.calm }

pub err_as : {T U : Type 0} {old new : World} {fault : StoreFault} → Blames {T = T} old new (Err fault) → Blames {T = U} old new (Err fault)
err_as is = record { cause = is.cause; calm = is.calm }
