use Rattle.std.proofs.Common.{refl}
use Rattle.keep_store.specs.State.{seen}
use Rattle.keep_store.proofs.Promising.{finishes_none}
use Rattle.keep_store.proofs.holding.finish_or_hold.Goals as goal

pub returns-in-Some-clause-ends : goal.returns-in-Some-clause-ends
returns-in-Some-clause-ends g c = record {
  finished = finishes_none (seen (g.F.Folder.world c.args.folder.now) c.args.state.now) c.requires.part;
  free = tt;
  held = c.in-Some.is;
  size = refl;
  complete = tt;
  promised = tt;
  part = c.requires.part;
  stays = refl;
}
