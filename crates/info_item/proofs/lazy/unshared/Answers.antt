use Rattle.std.proofs.Common.{sym, ◌∙◌}
use Rattle.info_tree.specs.Plain.{plain}
use Rattle.info_item.proofs.LookupLemmas.{hidden, shown}
use Rattle.info_item.proofs.lazy.unshared.Goals as goal

pub returns-then-is_shared : goal.returns-then-is_shared
returns-then-is_shared c = hidden c.args.key.now (plain c.args.item.now) (sym c.if-is_shared.ensures)

pub returns : goal.returns
returns c = c.get.ensures ∙ shown c.args.key.now (plain c.args.item.now) (sym c.if-is_shared.ensures)
