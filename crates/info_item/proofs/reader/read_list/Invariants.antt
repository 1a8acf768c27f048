use Rattle.std.proofs.Common.{◌≡◌, Ok}
use Rattle.std.specs.Prelude.{take}
use Rattle.info_item.specs.Formats.{each}
use Rattle.info_item.specs.Items as spec
use Rattle.info_item.proofs.reader.read_list.Given as goal

abbrev pub invariant-loop-k : goal.invariant-loop-k
invariant-loop-k l = each spec.item_of 0 (take l.k l.list) ≡ Ok l.items.items
