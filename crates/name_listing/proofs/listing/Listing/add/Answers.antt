use Rattle.std.proofs.Common.{◌≡◌, inl, inr, sym, rules, Some, true}
use Rattle.std.specs.Prelude.{bytes_eq}
use Rattle.std.specs.BTreeMap.{get_by_text}
use Rattle.name_listing.proofs.ListingLemmas.{noted_by, forgotten, holds_then}
use Rattle.name_listing.proofs.listing.Listing.add.Goals as goal

pub returns-then-is_err : goal.returns-then-is_err
returns-then-is_err c =
    inr (forgotten c.args.folder.now c.args.self.now.folders (c.get_mut.follows.lender c.put.new.self) c.remove.new.self c.put.new.self
    ((c.get_mut.follows.holds c.put.new.self).3 (search rules)) c.remove.ensures.updates)

pub returns-else-is_err : goal.returns-else-is_err
returns-else-is_err c =
    let was : get_by_text c.args.self.now.folders c.args.folder.now ≡ Some c.in-Some.names.now = search rules in
    inl (noted_by c.args.folder.now (bytes_eq c.args.name.now) true c.args.self.now.folders (c.get_mut.follows.lender c.put.new.self) c.in-Some.names.now c.put.new.self was
    ((c.get_mut.follows.holds c.put.new.self).3 (search rules)) (holds_then c.put.result (sym c.if-is_err.ensures.value) c.put.ensures.put))
