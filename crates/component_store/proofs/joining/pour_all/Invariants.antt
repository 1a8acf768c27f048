use Rattle.std.proofs.Common.{◌≡◌, ◌≤◌, ◌+◌, [], IsTrue, length}
use Rattle.std.specs.Prelude.{IsSome, string_bytes}
use Rattle.std.specs.String.{string_capacity}
use Rattle.folder_base.specs.Disk.{Disk}
use Rattle.keep_store.specs.Publish.{Stays}
use Rattle.folder_steps.specs.Make.{HasNew}
use Rattle.plan_record.specs.Names.{joined_of}
use Rattle.component_store.specs.Assemble.{AllComplete, HasJoined, PoursLoose}
use Rattle.component_store.proofs.joining.pour_all.Given as goal

abbrev pub invariant-loop-piece : goal.invariant-loop-piece
invariant-loop-piece g l = record {
  kept : Stays (g.F.Folder.world l.fn.folder) (g.F.Folder.world l.folder);
  calm : (g.F.Folder.world l.folder).faults ≡ (g.F.Folder.world l.fn.folder).faults;
  room : length (string_bytes l.target.name) + 52 ≤ string_capacity l.stem;
  complete : IsTrue (g.F.Folder.world l.folder).tells → AllComplete (string_bytes l.target.name) l.target.count (g.F.Folder.world l.folder).story.now.live;
  stands : IsTrue (g.F.Folder.world l.folder).tells → IsSome ((g.F.Folder.world l.folder).story.now.live (joined_of (string_bytes l.target.name)));
  loose : IsTrue (g.F.Folder.world l.folder).tells → PoursLoose (joined_of (string_bytes l.target.name)) (g.F.Folder.world l.fn.folder).story (g.F.Folder.world l.folder).story;
  poured : IsTrue (g.F.Folder.world l.folder).tells → (start : Disk) → HasNew (joined_of (string_bytes l.target.name)) [] start (g.F.Folder.world l.fn.folder).story.now → HasJoined (string_bytes l.target.name) l.piece start (g.F.Folder.world l.folder).story.now;
}
