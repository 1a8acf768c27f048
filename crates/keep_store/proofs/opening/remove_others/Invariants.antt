use Rattle.std.proofs.Common.{IsTrue}
use Rattle.keep_store.specs.Publish.{Stays}
use Rattle.keep_store.specs.Opening.{Removes, KeepsOthers, Secures}
use Rattle.keep_store.proofs.Removing.{LeftFrom}
use Rattle.keep_store.proofs.opening.remove_others.Given as goal

abbrev pub invariant-loop-name : goal.invariant-loop-name
invariant-loop-name g l = record {
  kept : Stays (g.F.Folder.world l.fn.folder) (g.F.Folder.world l.folder);
  removed : IsTrue (g.F.Folder.world l.folder).tells → Removes l.prefix l.current l.names l.name-index (g.F.Folder.world l.fn.folder).story.now (g.F.Folder.world l.folder).story.now;
  left : IsTrue (g.F.Folder.world l.folder).tells → LeftFrom l.name-index l.names (g.F.Folder.world l.folder).story.now.live;
  others : IsTrue (g.F.Folder.world l.folder).tells → KeepsOthers l.prefix l.current (g.F.Folder.world l.fn.folder).story.now (g.F.Folder.world l.folder).story.now;
  secured : IsTrue (g.F.Folder.world l.folder).tells → Secures l.current (g.F.Folder.world l.fn.folder).story (g.F.Folder.world l.folder).story;
}
