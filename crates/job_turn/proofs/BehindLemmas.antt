-- What is removed behind a job: outputs first, which are none of its components' files.
use Rattle.std.proofs.Common.{◌≡◌, Bool, true, false, refl, sym, ◌∙◌, ap}
use Rattle.std.specs.Prelude.{None, Result, Ok, if◌then◌else◌}
use Rattle.folder_base.specs.Disk.{Name}
use Rattle.folder_base.specs.Story.{World}
use Rattle.tool_chain.specs.Jobs.{is_output_of}
use Rattle.job_turn.specs.Clearing.{Clears, is_tidied_of, is_of_some}
use Rattle.job_turn.specs.Making.{IsFit, steps_in, is_alone, goes_behind}
use Rattle.job_turn.specs.declared.frame.Frame.{Frame}
use Rattle.job_turn.proofs.ClearLemmas.{clears_as, clears_next, tidied_of_same}

-- A name of a component's family is no output.
pub family_no_output : (frame : Frame) → IsFit frame → (n : Name) → is_of_some frame.components.items n ≡ true → is_output_of (steps_in frame) n ≡ false
family_no_output frame fit n is = by (is_output_of (steps_in frame) n) refl
  where
    never : true ≡ false → ⊥
    never e = cc

    by : (b : Bool) → is_output_of (steps_in frame) n ≡ b → is_output_of (steps_in frame) n ≡ false
    by true e = absurd (never (sym is ∙ fit.outputs n e))
    by false e = e

-- Outputs were removed, and then what tidying removes.
pub clears_behind : {E F : Type 0} {old mid new : World} (frame : Frame) (result : Result (Unit {0}) F) → IsFit frame → Clears {E = E} (is_output_of (steps_in frame)) old mid (Ok tt)
    → Clears (is_tidied_of (is_alone frame) frame.keep mid.story.now.live frame.components.items) mid new result → Clears (goes_behind frame old) old new result
clears_behind {E} {F} {old} {mid} {new} frame result fit first rest =
    clears_next {E = E} (is_output_of (steps_in frame)) (is_tidied_of (is_alone frame) frame.keep old.story.now.live frame.components.items) result first
    (clears_as (is_tidied_of (is_alone frame) frame.keep mid.story.now.live frame.components.items) (is_tidied_of (is_alone frame) frame.keep old.story.now.live frame.components.items) result
    (λ t n. tidied_of_same (is_alone frame) frame.keep old.story.now.live mid.story.now.live frame.components.items (λ m is. first.gone (rest.stays.tells t) m ∙ ap (λ (b : Bool). if b then None else old.story.now.live m) (family_no_output frame fit m is)) n) rest)
