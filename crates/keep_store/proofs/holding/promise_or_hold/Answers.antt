use Rattle.std.proofs.Common.{refl}
use Rattle.keep_store.specs.State.{seen}
use Rattle.keep_store.specs.TookLaws.{took_none}
use Rattle.keep_store.proofs.holding.promise_or_hold.Goals as goal

pub returns-in-Some-clause-checkpoints : goal.returns-in-Some-clause-checkpoints
returns-in-Some-clause-checkpoints g c = record {
  taken = took_none (seen (g.F.Folder.world c.args.folder.now) c.args.state.now);
  free = tt;
  held = c.in-Some.is;
  size = refl;
  promised = tt;
  stays = refl;
}
