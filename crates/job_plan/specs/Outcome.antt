-- What a call answers that may also stop at a fault of a job, or for want of memory.
use Rattle.std.specs.Prelude.{◌≡◌, Option, Some, None, Result, Ok, Err}
use Rattle.job_plan.specs.declared.fault.JobFault.{JobFault}
use Rattle.job_plan.specs.declared.stop.Stop.{Stop}
use Rattle.job_plan.specs.declared.stop.Stop.TheVariants.{Fault, OutOfMemory}

-- The answer, as `view` sees it, or the fault, is what it is to be. Want of memory may be answered at any time.
abbrev pub Gives : {A B : Type 0} → (A → B) → Result A Stop → Result B JobFault → Type 0
Gives view (Ok x) expected = expected ≡ Ok (view x)
Gives view (Err (Fault fault)) expected = expected ≡ Err fault
Gives view (Err OutOfMemory) expected = Unit {0}

-- The answer, as `view` sees it, is what there is to be, and this fault comes only where there is nothing. Want of memory may be answered at any time.
abbrev pub GivesSome : {A B : Type 0} → (A → B) → Result A Stop → Option B → JobFault → Type 0
GivesSome view (Ok x) expected fault = expected ≡ Some (view x)
GivesSome view (Err (Fault told)) expected fault = (expected ≡ None) × (told ≡ fault)
GivesSome view (Err OutOfMemory) expected fault = Unit {0}
