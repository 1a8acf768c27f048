use Rattle.std.proofs.Common.{◌∙◌}
use Rattle.info_tree.specs.Plain.{plain}
use Rattle.info_item.proofs.LookupLemmas.{member-is}
use Rattle.info_item.proofs.lazy.in_item.Goals as goal

pub returns-else-is_merged : goal.returns-else-is_merged
returns-else-is_merged c = rw c.if-is_merged.false (c.get.ensures ∙ member-is (plain c.args.item.now) c.args.key.now)
