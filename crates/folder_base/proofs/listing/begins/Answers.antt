use Rattle.std.proofs.Common.{◌∙◌}
use Rattle.folder_base.proofs.Listed.{begins_is}
use Rattle.folder_base.proofs.listing.begins.Goals as goal

pub returns : goal.returns
returns c = c.starts_with.ensures.value ∙ begins_is c.args.prefix.now c.args.name.now
