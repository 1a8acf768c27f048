use Rattle.std.proofs.Common.{◌≡◌, Ok}
use Rattle.std.specs.Prelude.{take}
use Rattle.info_item.specs.Formats as spec
use Rattle.info_item.proofs.Ids.{ids_of}
use Rattle.info_item.proofs.formats.listed.Given as goal

abbrev pub invariant-loop-j : goal.invariant-loop-j
invariant-loop-j l = record {
  read : spec.each (spec.format_of l.k l.list) 0 (take l.j l.list) ≡ Ok l.formats.items;
  ids : l.ids ≡ ids_of (take l.j l.list);
}
