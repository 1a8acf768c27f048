-- What a run of puts took, and what a put may be refused for.
use Rattle.std.specs.Prelude.{◌≡◌, ℕ, ◌≤◌, List, length, take}
use Rattle.folder_base.specs.declared.store_fault.StoreFault.{StoreFault}
use Rattle.folder_base.specs.declared.store_fault.StoreFault.TheVariants.{OutOfMemory}

-- The first `count` bytes were taken.
pub record TookSome {T : Type 0} (took : T → List ℕ → T → Type 0) (old : T) (bytes : List ℕ) (new : T) : Type 0 where
  pub count : ℕ
  pub within : count ≤ length bytes
  pub front : took old (take count bytes) new

-- From this taker on, whatever is put, a put is refused for want of memory alone.
abbrev pub RefusesOnlyMemory : {T : Type 0} → (T → List ℕ → T → Type 0) → (T → List ℕ → StoreFault → Type 0) → T → Type 0
RefusesOnlyMemory {T} took may_refuse taker =
    (bytes : List ℕ) (later : T) → took taker bytes later → (piece : List ℕ) (fault : StoreFault) → may_refuse later piece fault → fault ≡ OutOfMemory
