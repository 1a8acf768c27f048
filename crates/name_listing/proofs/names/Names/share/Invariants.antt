use Rattle.std.proofs.Common.{◌≡◌, take}
use Rattle.name_listing.specs.Names.{Name, has}
use Rattle.name_listing.proofs.SetLemmas.{among}
use Rattle.name_listing.proofs.names.Names.share.Given as goal

abbrev pub invariant-loop-name : goal.invariant-loop-name
invariant-loop-name l = (name : Name) → has l.share name ≡ among name (take l.name-index l.name-items)
