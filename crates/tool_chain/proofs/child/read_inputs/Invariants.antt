use Rattle.std.proofs.Common.{◌≡◌, ◌≤◌, IsTrue, true, length, map, take, vec_capacity}
use Rattle.keep_store.specs.Opening.{Looked}
use Rattle.keep_store.specs.Safe.{reads}
use Rattle.tool_chain.specs.Memory.{bytes_of}
use Rattle.tool_chain.specs.Runs.{AreRead}
use Rattle.tool_chain.proofs.child.read_inputs.Given as goal

abbrev pub invariant-loop-name : goal.invariant-loop-name
invariant-loop-name g l = record {
  looked : Looked (g.F.Folder.world l.fn.folder) (g.F.Folder.world l.folder);
  told : IsTrue (g.F.Folder.world l.folder).tells → AreRead (take l.name-index l.name-items) (g.F.Folder.world l.fn.folder).story.now (map bytes_of l.all.items);
  exact : IsTrue (g.F.Folder.world l.folder).tells → l.are_read ≡ true → map bytes_of l.all.items ≡ map (reads (g.F.Folder.world l.fn.folder).story.now) (take l.name-index l.name-items);
  still : l.are_read ≡ true → (g.F.Folder.world l.folder).faults ≡ (g.F.Folder.world l.fn.folder).faults;
  room : length l.name-items ≤ vec_capacity l.all;
  count : length l.all.items ≡ l.name-index;
  steady : IsTrue (g.F.Folder.world l.fn.folder).steady → IsTrue (g.F.Folder.world l.fn.folder).tells → l.are_read ≡ true;
}
