-- What the program holds of steps, as the definitions see it.
use Rattle.job_steps.specs.declared.steps.Change.{Change as HeldChange}
use Rattle.job_steps.specs.declared.steps.Change.TheVariants as changes
use Rattle.job_steps.specs.declared.steps.Step.{Step as HeldStep}
use Rattle.job_steps.specs.Steps.{Step, Change, merge, copy, code_audio}

-- what a step does, as the definitions see it
abbrev pub plain_change : HeldChange → Change
plain_change changes.Merge = merge
plain_change changes.Copy = copy
plain_change (changes.CodeAudio coder) = code_audio coder.now

-- a step, as the definitions see it
abbrev pub plain_step : HeldStep → Step
plain_step s = record { change = plain_change s.change; ext = s.ext.now }
