use Rattle.std.proofs.Common.{◌≡◌, IsTrue, false}
use Rattle.folder_base.specs.Disk.{Name, May, begins}
use Rattle.folder_base.specs.Story.{Through}
use Rattle.keep_store.specs.Publish.{Stays}
use Rattle.folder_steps.specs.Follow.{Follows, Thinner}
use Rattle.folder_steps.proofs.RemovalLemmas.{LeftFrom, StandFrom}
use Rattle.folder_steps.proofs.dropping.sweep.Given as goal

abbrev pub invariant-loop-name : goal.invariant-loop-name
invariant-loop-name g l = record {
  kept : Stays (g.F.Folder.world l.fn.folder) (g.F.Folder.world l.folder);
  calm : (g.F.Folder.world l.folder).faults ≡ (g.F.Folder.world l.fn.folder).faults;
  moments : IsTrue (g.F.Folder.world l.folder).tells → Through (g.F.Folder.world l.fn.folder).story (g.F.Folder.world l.folder).story (Follows (May (g.F.Folder.world l.fn.folder).story.now) (Thinner (begins l.prefix)));
  left : IsTrue (g.F.Folder.world l.folder).tells → LeftFrom l.prefix l.name-index l.name-items (g.F.Folder.world l.folder).story.now.live;
  stand : IsTrue (g.F.Folder.world l.folder).tells → StandFrom l.name-index l.name-items (g.F.Folder.world l.folder).story.now.live;
  elsewhere : IsTrue (g.F.Folder.world l.folder).tells → (n : Name) → begins l.prefix n ≡ false → (g.F.Folder.world l.folder).story.now.live n ≡ (g.F.Folder.world l.fn.folder).story.now.live n;
}
