-- Faults of sinks over several calls.
use Rattle.std.proofs.Common.{◌≡◌, ◌∙◌, ℕ, ◌≤◌, Bool, true, arith}
use Rattle.std.specs.Prelude.{Result}
use Rattle.text_base.specs.Causes.{Rose}
use Rattle.ytdl_core.specs.declared.run_fault.Which.{Which}
use Rattle.ytdl_core.specs.declared.run_fault.RunFault.{RunFault}
use Rattle.ytdl_core.specs.Run.{SinkFails}

-- a count that rose later rose since before
pub rose_since : (before now after : ℕ) → before ≤ now → Rose now after → Rose before after
rose_since before now after less rose = omega (arith, less, rose)

-- a count that rose before has risen later
pub rose_until : (before now after : ℕ) → now ≤ after → Rose before now → Rose before after
rose_until before now after less rose = omega (arith, less, rose)

-- a call that fails by a sink, after others that did not
pub sink_fails_since : {T : Type 0} (which : Which) (steady steady_now : Bool) (before now after : ℕ) (result : Result T RunFault) →
    now ≡ before → (steady ≡ true → steady_now ≡ true) → SinkFails which steady_now now after result →
    SinkFails which steady before after result
sink_fails_since which steady steady_now before now after result same stays fails = record {
  later = omega (arith, same, fails.later);
  rose = λ h. omega (arith, same, fails.rose h);
  kept = λ h. fails.kept h ∙ same;
  kept_memory = λ h. fails.kept_memory h ∙ same;
  steady = λ h s. fails.steady h (stays s);
}
