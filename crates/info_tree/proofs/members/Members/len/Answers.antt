use Rattle.std.proofs.Common.{◌∙◌}
use Rattle.std.specs.Prelude.{map}
use Rattle.info_tree.specs.Plain.{plain}
use Rattle.info_tree.proofs.PairLemmas.{length-view}
use Rattle.info_tree.proofs.Parts.{distinct_pairs}
use Rattle.info_tree.proofs.members.Members.len.Goals as goal

pub returns : goal.returns
returns c = rw (← c.self.view_is) (record {
  len = c.len.ensures.len ∙ c.self.invariant ∙ length-view c.self.inside.keys c.self.inside.values.items c.self.invariant;
  distinct = distinct_pairs c.self.inside.keys (map plain c.self.inside.values.items) c.len.ensures.distinct;
})
