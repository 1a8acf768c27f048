use Rattle.std.proofs.Common.{take}
use Rattle.folder_base.specs.Log.{begun, chapter_after}
use Rattle.folder_base.specs.Undo.{IsReplayed}
use Rattle.folder_base.proofs.log.Log.replay.Given as goal

abbrev pub invariant-loop-round : goal.invariant-loop-round
invariant-loop-round l =
    IsReplayed (chapter_after (record { story = begun l.self.birth.items; since = 0 }) (take l.round-index l.round-items)).story.now l.replay
