use Rattle.std.proofs.Common.{◌≡◌, List, ℕ}
use Rattle.std.specs.Prelude.{None}
use Rattle.std.specs.List.{position}
use Rattle.std.specs.Str.{bytes_eq}
use Rattle.info_tree.proofs.KeyLemmas.{distinct_more}
use Rattle.info_tree.proofs.keys.Keys.put_last.Goals as goal

pub invariant_of-self-2 : goal.invariant_of-self-2
invariant_of-self-2 c =
    let ks : List (List ℕ) = c.self.inside.texts.items in
    let fresh : position (bytes_eq c.args.text) ks ≡ None = rw c.self.view_is c.requires in
    rw c.in_ok-push.ensures.items (distinct_more ks c.args.text c.self.invariant.0 fresh, rw c.as_str.ensures at c.in_ok-places.ensures)
