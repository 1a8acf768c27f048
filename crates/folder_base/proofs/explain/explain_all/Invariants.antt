use Rattle.std.proofs.Common.{◌≡◌, ◌++◌, List, vec_len}
use Rattle.std.specs.Prelude.{reverse}
use Rattle.folder_base.specs.Disk.{Older, mark}
use Rattle.folder_base.specs.Files.{names_of}
use Rattle.folder_base.specs.Listing.{seen_spots, listed}
use Rattle.folder_base.specs.Undo.{AreUndone}
use Rattle.folder_base.proofs.Explaining.{reached}
use Rattle.folder_base.proofs.explain.explain_all.Given as goal

abbrev pub invariant-loop-undo : goal.invariant-loop-undo
invariant-loop-undo l = record {
  seen : seen_spots (names_of l.files) l.seen ≡ reached (listed l.all.items) (mark (names_of l.files));
  undoes : (back : List Older) → AreUndone (reverse l.initial.undos.items) (mark (names_of l.files)) back
      → AreUndone (listed l.all.items ++ reverse l.undos.items) (mark (names_of l.files)) back;
}

abbrev pub decreases-loop-undo : goal.decreases-loop-undo
decreases-loop-undo l = vec_len l.undos
