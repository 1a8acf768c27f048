use Rattle.std.proofs.Common.{◌≡◌, ◌≤◌, ◌+◌, IsTrue, length}
use Rattle.std.specs.Prelude.{string_bytes}
use Rattle.std.specs.String.{string_capacity}
use Rattle.folder_base.specs.Disk.{May, begins}
use Rattle.folder_base.specs.Story.{Through}
use Rattle.keep_store.specs.Publish.{Stays}
use Rattle.folder_steps.specs.Follow.{Follows, Thinner}
use Rattle.plan_record.specs.Names.{pieces_of}
use Rattle.component_store.proofs.JoinLemmas.{IsGone}
use Rattle.component_store.proofs.joining.drop_pieces.Given as goal

abbrev pub invariant-loop-piece : goal.invariant-loop-piece
invariant-loop-piece g l = record {
  kept : Stays (g.F.Folder.world l.fn.folder) (g.F.Folder.world l.folder);
  calm : (g.F.Folder.world l.folder).faults ≡ (g.F.Folder.world l.fn.folder).faults;
  room : length (string_bytes l.target.name) + 52 ≤ string_capacity l.stem;
  gone : IsTrue (g.F.Folder.world l.folder).tells → IsGone (string_bytes l.target.name) l.piece (g.F.Folder.world l.fn.folder).story.now.live (g.F.Folder.world l.folder).story.now.live;
  moments : IsTrue (g.F.Folder.world l.folder).tells → Through (g.F.Folder.world l.fn.folder).story (g.F.Folder.world l.folder).story (Follows (May (g.F.Folder.world l.fn.folder).story.now) (Thinner (begins (pieces_of (string_bytes l.target.name)))));
}
