use Rattle.std.proofs.Common.{◌≡◌, [], length}
use Rattle.std.specs.Prelude.{All}
use Rattle.folder_base.proofs.parting.no_undos.Given as goal

abbrev pub invariant-loop-at : goal.invariant-loop-at
invariant-loop-at l = record {
  many : length l.lists.items ≡ l._at;
  none : All (λ own. own.items ≡ []) l.lists.items;
}
