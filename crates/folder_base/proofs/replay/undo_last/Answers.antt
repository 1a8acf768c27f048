use Rattle.std.proofs.Common.{◌≤◌, ◌∙◌, sym, length, arith}
use Rattle.folder_base.specs.Files.{names_of}
use Rattle.folder_base.proofs.Undoing.{kept_all}
use Rattle.folder_base.proofs.replay.undo_last.Goals as goal

pub returns-after-loop-alloc : goal.returns-after-loop-alloc
returns-after-loop-alloc c =
    let few : length c.loop-alloc.undos.items ≤ c.args.kept = omega (arith, c.len.ensures, c.loop-alloc-test.false) in
    sym (kept_all (names_of c.args.live.now) c.args.kept c.loop-alloc.undos.items (names_of c.loop-alloc.files) few) ∙ c.loop-alloc.invariant
