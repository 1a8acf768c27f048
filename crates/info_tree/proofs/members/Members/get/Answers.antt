use Rattle.std.proofs.Common.{◌≡◌, refl}
use Rattle.std.specs.Prelude.{slice_get, map}
use Rattle.std.specs.Option.{option_map}
use Rattle.info_tree.specs.Plain.{plain}
use Rattle.info_tree.proofs.PairLemmas.{value_at_is}
use Rattle.info_tree.proofs.Parts.{distinct_pairs}
use Rattle.info_tree.proofs.members.Members.get.Goals as goal

pub returns-in_err-place-clause-value : goal.returns-in_err-place-clause-value
returns-in_err-place-clause-value c =
    let q = c.args.key.now in
    let ks = c.self.inside.keys in
    let vs = c.self.inside.values.items in
    rw (c.from_residual.ensures, ← c.self.view_is) (rw (value_at_is q ks vs c.self.invariant, ← c.in_err-place.ensures.place) refl)

pub returns-clause-value : goal.returns-clause-value
returns-clause-value c =
    let q = c.args.key.now in
    let ks = c.self.inside.keys in
    let vs = c.self.inside.values.items in
    let got : option_map (λ t. plain t.now) c.value.result ≡ option_map plain (slice_get vs c.in_ok-place.place) = c.value.ensures in
    rw (← c.self.view_is) (rw (value_at_is q ks vs c.self.invariant, ← c.in_ok-place.ensures.place) got)

pub returns-in_err-place-clause-distinct : goal.returns-in_err-place-clause-distinct
returns-in_err-place-clause-distinct c =
    rw (← c.self.view_is) (distinct_pairs c.self.inside.keys (map plain c.self.inside.values.items) c.in_err-place.ensures.distinct)

pub returns-clause-distinct : goal.returns-clause-distinct
returns-clause-distinct c = rw (← c.self.view_is) (distinct_pairs c.self.inside.keys (map plain c.self.inside.values.items) c.in_ok-place.ensures.distinct)
