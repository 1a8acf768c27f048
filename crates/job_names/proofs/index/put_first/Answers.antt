use Rattle.std.proofs.Common.{Some, sym, ◌∙◌}
use Rattle.std.proofs.lemmas.Map.Text.{btree_map_updates_str}
use Rattle.job_names.specs.Index.{told}
use Rattle.job_names.proofs.MapLemmas.{first_put}
use Rattle.job_names.proofs.index.put_first.Goals as goal

pub returns-in_ok-insert : goal.returns-in_ok-insert
returns-in_ok-insert c = λ other.
    first_put (told c.args.map.now) _ c.args.name.now other (Some c.args.place) (sym c.contains_key.ensures ∙ c.if-not-contains_key.true)
    (btree_map_updates_str c.args.name.now c.args.map.now c.insert.new.self _ c.in_ok-insert.ensures.updates other)
