use Rattle.std.proofs.Common.{◌≡◌, sym, ◌∙◌, rules}
use Rattle.std.specs.Prelude.{[], ◌∷◌, ◌++◌, map}
use Rattle.info_tree.specs.Plain.{plain}
use Rattle.info_tree.proofs.PairLemmas.{put_at, put_new, view-push}
use Rattle.info_tree.proofs.Parts.{distinct_pairs}
use Rattle.info_tree.proofs.members.Members.put.Goals as goal

pub returns-in-Some-clause-ok : goal.returns-in-Some-clause-ok
returns-in-Some-clause-ok c =
    let ks = c.self.inside.keys in
    let vs = c.self.inside.values.items in
    rw (← c.self.view_is) (rw c.replace.ensures (put_at c.args.key ks vs c.args.tree c.in-Some.place c.self.invariant (rw c.as_str.ensures at (sym c.in-Some.ensures.place))))

pub returns-else-is_err-clause-ok : goal.returns-else-is_err-clause-ok
returns-else-is_err-clause-ok c =
    let ks = c.self.inside.keys in
    let vs = c.self.inside.values.items in
    let keys : c.put_last.new.self ≡ ks ++ c.args.key ∷ [] = search rules in
    let values : c.push.new.self.items ≡ vs ++ c.args.tree ∷ [] = c.in_ok-push-in-None.ensures.items in
    rw (keys, values, ← c.self.view_is)
    (view-push ks vs c.args.key c.args.tree c.self.invariant ∙ sym (put_new c.args.key ks vs c.args.tree c.self.invariant (rw c.as_str.ensures at (sym c.in-None.ensures.place))))

pub returns-in_err-push-in-None-clause-distinct : goal.returns-in_err-push-in-None-clause-distinct
returns-in_err-push-in-None-clause-distinct c = rw (← c.self.view_is) (distinct_pairs c.self.inside.keys (map plain c.self.inside.values.items) c.place_of.ensures.distinct)

pub returns-then-is_err-clause-distinct : goal.returns-then-is_err-clause-distinct
returns-then-is_err-clause-distinct c = rw (← c.self.view_is) (distinct_pairs c.self.inside.keys (map plain c.self.inside.values.items) c.place_of.ensures.distinct)

pub returns-in-Some-clause-distinct : goal.returns-in-Some-clause-distinct
returns-in-Some-clause-distinct c = rw (← c.self.view_is) (distinct_pairs c.self.inside.keys (map plain c.self.inside.values.items) c.place_of.ensures.distinct)

pub returns-else-is_err-clause-distinct : goal.returns-else-is_err-clause-distinct
returns-else-is_err-clause-distinct c = rw (← c.self.view_is) (distinct_pairs c.self.inside.keys (map plain c.self.inside.values.items) c.place_of.ensures.distinct)
