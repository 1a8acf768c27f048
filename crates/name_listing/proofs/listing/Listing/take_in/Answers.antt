use Rattle.std.proofs.Common.{◌≡◌, inl, inr, sym, rules, Some, true}
use Rattle.std.specs.BTreeMap.{get_by_text}
use Rattle.name_listing.specs.Names.{has}
use Rattle.name_listing.proofs.ListingLemmas.{noted_by, forgotten, holds_then}
use Rattle.name_listing.proofs.listing.Listing.take_in.Goals as goal

pub returns-then-is_err : goal.returns-then-is_err
returns-then-is_err c =
    inr (forgotten c.args.folder.now c.args.self.now.folders (c.get_mut.follows.lender c.take_in.new.self) c.remove.new.self c.take_in.new.self
    ((c.get_mut.follows.holds c.take_in.new.self).3 (search rules)) c.remove.ensures.updates)

pub returns-else-is_err : goal.returns-else-is_err
returns-else-is_err c =
    let was : get_by_text c.args.self.now.folders c.args.folder.now ≡ Some c.in-Some.names.now = search rules in
    inl (noted_by c.args.folder.now (has c.args.share.now) true c.args.self.now.folders (c.get_mut.follows.lender c.take_in.new.self) c.in-Some.names.now c.take_in.new.self was
    ((c.get_mut.follows.holds c.take_in.new.self).3 (search rules)) (holds_then c.take_in.result (sym c.if-is_err.ensures.value) c.take_in.ensures.put))
