use Rattle.std.proofs.Common.{IsTrue}
use Rattle.keep_store.specs.Opening.{Looked, IsGreatest}
use Rattle.keep_store.proofs.opening.greatest_promise.Given as goal

abbrev pub invariant-loop-name : goal.invariant-loop-name
invariant-loop-name g l = record {
  looked : Looked (g.F.Folder.world l.fn.folder) (g.F.Folder.world l.folder);
  found : IsTrue (g.F.Folder.world l.folder).tells → IsGreatest l.prefix (g.F.Folder.world l.fn.folder).story.now.live l.names l.name-index l.greatest;
}
