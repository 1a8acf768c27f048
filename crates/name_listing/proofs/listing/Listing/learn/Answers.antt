use Rattle.std.proofs.Common.{◌∙◌, ap, List, ℕ, string_bytes}
use Rattle.std.specs.Prelude.{Some, bytes_eq, if◌then◌else◌}
use Rattle.name_listing.specs.Names.{has}
use Rattle.name_listing.specs.Listing.{known}
use Rattle.name_listing.proofs.ListingLemmas.{known_by}
use Rattle.name_listing.proofs.listing.Listing.learn.Goals as goal

pub returns-in-Ok-clause-learnt : goal.returns-in-Ok-clause-learnt
returns-in-Ok-clause-learnt c other name =
    known_by (string_bytes c.in_ok-folder.folder) c.args.self.now.folders c.insert.new.self (Some c.args.names) c.in-Ok.ensures.updates other name
    ∙ ap (λ (bs : List ℕ). if bytes_eq bs other then Some (has c.args.names name) else known c.args.self.now other name) c.in_ok-folder.ensures.ok
