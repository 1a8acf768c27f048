use Rattle.std.proofs.Common.{◌≡◌, refl, rules, sym}
use Rattle.std.specs.Prelude.{Some, None, slice_get}
use Rattle.std.specs.Option.{option_map}
use Rattle.info_tree.specs.Plain.{plain}
use Rattle.info_tree.proofs.PairLemmas.{pair_at}
use Rattle.info_tree.proofs.members.Members.pair.Goals as goal

pub returns-in_err-key : goal.returns-in_err-key
returns-in_err-key c =
    let ks = c.self.inside.keys in
    let none : slice_get ks c.args.place ≡ None = search rules in
    rw (c.from_residual.ensures, ← c.self.view_is, pair_at ks c.self.inside.values.items c.args.place, none) refl

pub returns : goal.returns
returns c =
    let ks = c.self.inside.keys in
    let vs = c.self.inside.values.items in
    let key : slice_get ks c.args.place ≡ Some c.in_ok-key.key.now = search rules in
    let tree : option_map plain (slice_get vs c.args.place) ≡ Some (plain c.in_ok-tree.tree.now) = sym c.in_ok-tree.ensures in
    rw (← c.self.view_is, pair_at ks vs c.args.place, key, tree) refl
