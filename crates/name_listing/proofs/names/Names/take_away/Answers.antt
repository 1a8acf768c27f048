use Rattle.std.proofs.Common.{false}
use Rattle.std.proofs.lemmas.Map.Text.{btree_set_updates_text}
use Rattle.name_listing.proofs.names.Names.take_away.Goals as goal

pub returns : goal.returns
returns c name = btree_set_updates_text c.args.name.now c.args.self.now.set c.remove.new.self false c.remove.ensures.updates name
