-- What the calls of a lane leave, whatever they answer.
use Rattle.std.specs.Prelude.{◌≡◌, ◌+◌, ◌≤◌, true, false, [], length, Some, None, Result, OnOk, OnErr, IfErr}
use Rattle.folder_base.specs.Disk.{Bytes}
use Rattle.folder_base.specs.Took.{TookSome}
use Rattle.folder_base.specs.declared.store_fault.StoreFault.{StoreFault}
use Rattle.keep_store.specs.Lane.{Seen, Took, Finishes}
use Rattle.keep_store.specs.State.{IsNear}

-- The bytes were taken, or a front of them; and where the lane answers Ok all are promised up to the last mark.
pub record Takes (old : Seen) (bytes : Bytes) (new : Seen) (result : Result (Unit {0}) StoreFault) : Type 0 where
  pub taken : OnOk result (Took old bytes new)
  pub part_taken : OnErr result (TookSome Took old bytes new)
  pub free : OnOk result (new.fault ≡ None)
  pub held : IfErr result (λ fault. new.fault ≡ Some fault)
  pub size : OnOk result (new.size ≡ old.size + length bytes)
  pub part_size : OnErr result (new.size ≤ old.size + length bytes)
  pub near : OnOk result (IsNear new.size new.promised)

-- All bytes so far are promised, or as many as before.
pub record Checkpoints (old new : Seen) (result : Result (Unit {0}) StoreFault) : Type 0 where
  pub taken : Took old [] new
  pub free : OnOk result (new.fault ≡ None)
  pub held : IfErr result (λ fault. new.fault ≡ Some fault)
  pub size : new.size ≡ old.size
  pub promised : OnOk result (new.promised ≡ new.size)
  pub stays : OnErr result (new.promised ≡ old.promised)

-- The piece is complete and all its bytes are promised, or it is not and as many are as before.
pub record EndsPiece (old new : Seen) (result : Result (Unit {0}) StoreFault) : Type 0 where
  pub finished : Finishes old new
  pub free : OnOk result (new.fault ≡ None)
  pub held : IfErr result (λ fault. new.fault ≡ Some fault)
  pub size : new.size ≡ old.size
  pub complete : OnOk result (new.complete ≡ true)
  pub promised : OnOk result (new.promised ≡ new.size)
  pub part : OnErr result (new.complete ≡ false)
  pub stays : OnErr result (new.promised ≡ old.promised)
