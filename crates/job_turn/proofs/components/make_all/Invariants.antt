use Rattle.std.proofs.Common.{◌≡◌, List, vec_len, IsTrue, All}
use Rattle.std.specs.Prelude.{Result}
use Rattle.folder_base.specs.Story.{World, IsWhole}
use Rattle.job_turn.specs.Components.{Makes}
use Rattle.job_turn.specs.Job.{HasPieces}
use Rattle.job_turn.specs.declared.end.Stop.{Stop}
use Rattle.job_turn.proofs.components.make_all.Given as goal

-- what is made from here on is what is left to be
abbrev pub invariant-loop-number : goal.invariant-loop-number
invariant-loop-number g l = record {
  whole : IsTrue (g.F.Folder.world l.folder).tells → IsWhole (g.F.Folder.world l.folder);
  pieces : All HasPieces l.number-iterator.iter.rest.items;
  many : vec_len l.dialers ≡ vec_len l.fn.dialers;
  rest : (world : World) (result : Result (Unit {0}) Stop) (es : List g.row.D.Denot)
      → Makes g.D.Dialer.wire l.is_final l.settings l.number-iterator.count l.number-iterator.iter.rest.items (g.F.Folder.world l.folder) world result l.dialers.items es
      → Makes g.D.Dialer.wire l.is_final l.settings 0 l.fn.components.items (g.F.Folder.world l.fn.folder) world result l.fn.dialers.items es;
}
