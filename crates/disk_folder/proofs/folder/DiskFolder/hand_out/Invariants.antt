use Rattle.std.proofs.Common.{◌≡◌, ◌+◌, length}
use Rattle.std.specs.Prelude.{All}
use Rattle.std.specs.Vec.Iter.{into_iter_items}
use Rattle.disk_folder.specs.Silent.{silent, world_of}
use Rattle.disk_folder.proofs.folder.DiskFolder.hand_out.Given as goal

abbrev pub invariant-loop-disk : goal.invariant-loop-disk
invariant-loop-disk g l = record {
  count : length l.parts.items + length (into_iter_items l.disk-iterator) ≡ length l.stems.items;
  begun : All (λ part. world_of part ≡ silent 0) l.parts.items;
}
