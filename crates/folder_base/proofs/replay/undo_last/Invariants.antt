use Rattle.std.proofs.Common.{◌≡◌, reverse, vec_len}
use Rattle.folder_base.specs.Files.{names_of}
use Rattle.folder_base.specs.Undo.{first_done}
use Rattle.folder_base.proofs.replay.undo_last.Given as goal

abbrev pub invariant-loop-alloc : goal.invariant-loop-alloc
invariant-loop-alloc l =
    first_done (names_of l.live) l.kept (reverse l.undos.items) (names_of l.files) ≡ first_done (names_of l.live) l.kept (reverse l.initial.undos.items) (names_of l.initial.files)

abbrev pub decreases-loop-alloc : goal.decreases-loop-alloc
decreases-loop-alloc l = vec_len l.undos
