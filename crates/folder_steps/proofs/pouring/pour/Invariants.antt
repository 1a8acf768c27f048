use Rattle.std.proofs.Common.{◌≡◌, ◌≤◌, ◌-◌, ◌++◌, false, IsTrue, List, ℕ, length, take}
use Rattle.std.specs.Prelude.{Some, IsSome, bytes_eq}
use Rattle.folder_base.specs.Disk.{Disk, File, content}
use Rattle.keep_store.specs.Publish.{Stays}
use Rattle.folder_steps.specs.Make.{HasNew, KeepsLoose}
use Rattle.folder_steps.proofs.pouring.pour.Given as goal

abbrev pub invariant-loop-at : goal.invariant-loop-at
invariant-loop-at g l = record {
  kept : Stays (g.F.Folder.world l.fn.folder) (g.F.Folder.world l.folder);
  calm : (g.F.Folder.world l.folder).faults ≡ (g.F.Folder.world l.fn.folder).faults;
  within : l.at ≤ l.size;
  sized : IsTrue (g.F.Folder.world l.folder).tells → (file : File) → (g.F.Folder.world l.fn.folder).story.now.live l.from ≡ Some file → length (content file) ≡ l.size;
  others : IsTrue (g.F.Folder.world l.folder).tells → (other : List ℕ) → bytes_eq l.to other ≡ false → (g.F.Folder.world l.folder).story.now.live other ≡ (g.F.Folder.world l.fn.folder).story.now.live other;
  to_stands : IsTrue (g.F.Folder.world l.folder).tells → IsSome ((g.F.Folder.world l.folder).story.now.live l.to);
  loose : IsTrue (g.F.Folder.world l.folder).tells → KeepsLoose l.to (g.F.Folder.world l.fn.folder).story (g.F.Folder.world l.folder).story;
  poured : IsTrue (g.F.Folder.world l.folder).tells → (start : Disk) (before : List ℕ) (file : File) → HasNew l.to before start (g.F.Folder.world l.fn.folder).story.now
      → (g.F.Folder.world l.fn.folder).story.now.live l.from ≡ Some file → HasNew l.to (before ++ take l.at (content file)) start (g.F.Folder.world l.folder).story.now;
}

abbrev pub decreases-loop-at : goal.decreases-loop-at
decreases-loop-at g l = l.size - l.at
