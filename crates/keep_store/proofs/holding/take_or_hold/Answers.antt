use Rattle.std.proofs.Common.{arith}
use Rattle.keep_store.specs.State.{seen}
use Rattle.keep_store.specs.TookLaws.{took_none}
use Rattle.keep_store.proofs.holding.take_or_hold.Goals as goal

pub returns-in-Some-clause-takes : goal.returns-in-Some-clause-takes
returns-in-Some-clause-takes g c = record {
  taken = tt;
  part_taken = record { count = 0; within = omega arith; front = took_none (seen (g.F.Folder.world c.args.folder.now) c.args.state.now) };
  free = tt;
  held = c.in-Some.is;
  size = tt;
  part_size = omega arith;
  near = tt;
}
