use Rattle.std.proofs.Common.{◌∙◌, ap, List, ℕ, string_bytes, true}
use Rattle.std.specs.Prelude.{bytes_eq, if◌then◌else◌}
use Rattle.std.proofs.lemmas.Map.Text.{btree_set_updates_text}
use Rattle.name_listing.specs.Names.{has}
use Rattle.name_listing.proofs.names.Names.put.Goals as goal

pub returns-in-Ok-clause-put : goal.returns-in-Ok-clause-put
returns-in-Ok-clause-put c name =
    btree_set_updates_text (string_bytes c.in_ok-name.name) c.args.self.now.set c.insert.new.self true c.in-Ok.ensures.updates name
    ∙ ap (λ (bs : List ℕ). if bytes_eq bs name then true else has c.args.self.now name) c.in_ok-name.ensures.ok
