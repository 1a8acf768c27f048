-- What the answer of a call that works by a folder tells of the calls of the folder in it.
use Rattle.std.specs.Prelude.{◌≡◌, ◌⊎◌, IfErr, Result}
use Rattle.folder_base.specs.Story.{World}
use Rattle.folder_base.specs.declared.store_fault.StoreFault.{StoreFault}
use Rattle.folder_base.specs.declared.store_fault.StoreFault.TheVariants.{OutOfMemory}
use Rattle.keep_store.specs.Lane.{IsRefusal}
use Rattle.keep_store.specs.Publish.{IsCalm}

-- A fault names a call of the folder that failed; after want of memory, which the folder counted, and after Ok none failed.
pub record Blames {T : Type 0} (old new : World) (result : Result T StoreFault) : Type 0 where
  pub cause : IfErr result (IsRefusal old new)
  pub calm : IsCalm old new result

-- The same of a call that takes memory of its own too, which no folder counts.
pub record BlamesMemory {T : Type 0} (old new : World) (result : Result T StoreFault) : Type 0 where
  pub cause : IfErr result (λ fault. (fault ≡ OutOfMemory) ⊎ IsRefusal old new fault)
  pub calm : IsCalm old new result
