use Rattle.std.specs.Prelude.{None}
use Rattle.name_listing.proofs.ListingLemmas.{known_by}
use Rattle.name_listing.proofs.listing.Listing.forget.Goals as goal

pub returns : goal.returns
returns c other name = known_by c.args.folder.now c.args.self.now.folders c.remove.new.self None c.remove.ensures.updates other name
