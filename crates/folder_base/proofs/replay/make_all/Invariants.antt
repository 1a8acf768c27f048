use Rattle.std.proofs.Common.{take}
use Rattle.folder_base.specs.Log.{told}
use Rattle.folder_base.specs.Story.{Story}
use Rattle.folder_base.specs.Undo.{IsReplayed}
use Rattle.folder_base.proofs.replay.make_all.Given as goal

abbrev pub invariant-loop-step : goal.invariant-loop-step
invariant-loop-step l =
    (story : Story) → IsReplayed story.now l.initial.replay → IsReplayed (told story (take l.step-index l.step-items)).now l.replay
