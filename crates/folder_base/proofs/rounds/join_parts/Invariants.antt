use Rattle.std.proofs.Common.{◌≡◌, true, not, List, map, drop}
use Rattle.std.specs.Vec.Iter.{into_iter_items}
use Rattle.folder_base.specs.Disk.{Name, Disk}
use Rattle.folder_base.specs.Handing.{AreStarts}
use Rattle.folder_base.specs.Index.{IsIndex}
use Rattle.folder_base.specs.Parts.{is_in_some, AreApart}
use Rattle.folder_base.specs.Undo.{IsReplayed, HoldsOnly}
use Rattle.folder_base.proofs.Rejoined.{IsJoined}
use Rattle.folder_base.proofs.rounds.join_parts.Given as goal

abbrev pub invariant-loop-at : goal.invariant-loop-at
invariant-loop-at l = record {
  joined : (stems : List Name) (birth rest : Disk) → IsIndex stems l.index → AreApart stems → AreStarts stems birth l.fn.starts.items
      → IsReplayed rest l.initial.replay → HoldsOnly (λ name. not (is_in_some stems name) ≡ true) l.initial.replay
      → IsJoined birth rest stems (map (λ steps. steps.now.items) l.parts.items) l.at l.replay;
  left : into_iter_items l.starts ≡ drop l.at l.fn.starts.items;
}
