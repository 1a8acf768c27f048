use Rattle.std.proofs.Common.{◌≡◌, rules, Some, false}
use Rattle.std.specs.BTreeMap.{get_by_text}
use Rattle.name_listing.specs.Names.{has}
use Rattle.name_listing.proofs.ListingLemmas.{noted_by}
use Rattle.name_listing.proofs.listing.Listing.hand_out.Goals as goal

pub returns-in-Some : goal.returns-in-Some
returns-in-Some c =
    let was : get_by_text c.args.self.now.folders c.args.folder.now ≡ Some c.in-Some.names.now = search rules in
    noted_by c.args.folder.now (has c.args.share.now) false c.args.self.now.folders (c.get_mut.follows.lender c.hand_out.new.self) c.in-Some.names.now c.hand_out.new.self was
    ((c.get_mut.follows.holds c.hand_out.new.self).3 (search rules)) c.hand_out.ensures
