use Rattle.std.proofs.Common.{◌≡◌, drop}
use Rattle.std.specs.Prelude.{Result}
use Rattle.folder_base.specs.Story.{World}
use Rattle.keep_store.specs.Publish.{Stays}
use Rattle.job_turn.specs.Clearing.{Clears, is_tidied_of}
use Rattle.job_turn.specs.declared.end.TurnFault.{TurnFault}
use Rattle.job_turn.proofs.clearing.tidy_all.Given as goal

-- what is removed from here on is what is left to be
abbrev pub invariant-loop-number : goal.invariant-loop-number
invariant-loop-number g l = record {
  kept : Stays (g.F.Folder.world l.fn.folder) (g.F.Folder.world l.folder);
  calm : (g.F.Folder.world l.folder).faults ≡ (g.F.Folder.world l.fn.folder).faults;
  rest : (world : World) (result : Result (Unit {0}) TurnFault)
      → Clears (is_tidied_of l.is_final l.keep (g.F.Folder.world l.folder).story.now.live (drop l.number l.components)) (g.F.Folder.world l.folder) world result
      → Clears (is_tidied_of l.is_final l.keep (g.F.Folder.world l.fn.folder).story.now.live l.components) (g.F.Folder.world l.fn.folder) world result;
}
