use Rattle.std.proofs.Common.{◌∙◌, ap}
use Rattle.std.specs.BTreeMap.{get_by_text}
use Rattle.info_tree.proofs.keys.Keys.place_of.Goals as goal

pub returns-in-Some-clause-place : goal.returns-in-Some-clause-place
returns-in-Some-clause-place c =
    rw (← c.self.view_is)
    (c.copied.ensures ∙ c.get.ensures.value ∙ ap (λ m. get_by_text m c.args.text.now) c.deref.ensures ∙ c.self.invariant.1 c.in-Some.places c.in-Some.is c.args.text.now)
