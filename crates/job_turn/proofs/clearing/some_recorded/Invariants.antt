use Rattle.std.proofs.Common.{◌≡◌, drop, IsTrue}
use Rattle.keep_store.specs.Opening.{Looked}
use Rattle.job_turn.specs.Clearing.{some_recorded}
use Rattle.job_turn.proofs.clearing.some_recorded.Given as goal

-- none was recorded so far
abbrev pub invariant-loop-component : goal.invariant-loop-component
invariant-loop-component g l = record {
  looked : Looked (g.F.Folder.world l.fn.folder) (g.F.Folder.world l.folder);
  calm : (g.F.Folder.world l.folder).faults ≡ (g.F.Folder.world l.fn.folder).faults;
  none : IsTrue (g.F.Folder.world l.folder).tells
      → some_recorded (g.F.Folder.world l.fn.folder).story.now.live l.components ≡ some_recorded (g.F.Folder.world l.fn.folder).story.now.live (drop l.component-index l.components);
}
