use Rattle.std.proofs.Common.{◌≡◌, ◌+◌, [], length, true}
use Rattle.keep_store.specs.State.{seen, Holds, IsReady, IsNear, IsSameLane}
use Rattle.keep_store.proofs.Runs.{HasTaken}
use Rattle.keep_store.proofs.taking.take_all.Given as goal

abbrev pub invariant-loop-rest : goal.invariant-loop-rest
invariant-loop-rest g l = record {
  taken : HasTaken (seen (g.F.Folder.world l.fn.folder) l.fn.state) (seen (g.F.Folder.world l.folder) l.state) l.fn.bytes l.rest;
  holds : Holds (g.F.Folder.world l.folder) l.state;
  is_ready : IsReady (g.F.Folder.world l.folder) l.state;
  same : IsSameLane l.fn.state l.state;
  size : l.state.size + length l.rest ≡ l.fn.state.size + length l.fn.bytes;
  near : IsNear l.state.size l.state.promised;
  full : l.fn.state.complete ≡ true → l.rest ≡ [];
}

abbrev pub decreases-loop-rest : goal.decreases-loop-rest
decreases-loop-rest g l = length l.rest
