use Rattle.std.proofs.Common.{◌≡◌, ◌≤◌, ◌-◌, IsTrue, length, take}
use Rattle.std.specs.Prelude.{Some}
use Rattle.folder_base.specs.Disk.{File, content}
use Rattle.keep_store.specs.Opening.{Looked}
use Rattle.folder_steps.proofs.comparing.reads_as.Given as goal

abbrev pub invariant-loop-at : goal.invariant-loop-at
invariant-loop-at g l = record {
  looked : Looked (g.F.Folder.world l.fn.folder) (g.F.Folder.world l.folder);
  calm : (g.F.Folder.world l.folder).faults ≡ (g.F.Folder.world l.fn.folder).faults;
  within : l.at ≤ length l.bytes;
  same : IsTrue (g.F.Folder.world l.folder).tells → (file : File) → (g.F.Folder.world l.fn.folder).story.now.live l.name ≡ Some file → take l.at (content file) ≡ take l.at l.bytes;
}

abbrev pub decreases-loop-at : goal.decreases-loop-at
decreases-loop-at g l = length l.bytes - l.at
