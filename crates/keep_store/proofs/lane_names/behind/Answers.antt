use Rattle.std.proofs.Common.{sym, ◌∙◌}
use Rattle.keep_store.proofs.Naming.{behind_is, not_behind}
use Rattle.keep_store.proofs.lane_names.behind.Goals as goal

pub returns-then-starts_with-clause-some : goal.returns-then-starts_with-clause-some
returns-then-starts_with-clause-some c =
    behind_is c.args.prefix.now c.args.name.now _ _ c.as_bytes-prefix.ensures.value c.as_bytes-name.ensures.value (sym c.starts_with.ensures.value ∙ c.if-starts_with.true)

pub returns-else-starts_with-clause-none : goal.returns-else-starts_with-clause-none
returns-else-starts_with-clause-none c =
    not_behind c.args.prefix.now c.args.name.now _ _ c.as_bytes-prefix.ensures.value c.as_bytes-name.ensures.value (sym c.starts_with.ensures.value ∙ c.if-starts_with.false)
