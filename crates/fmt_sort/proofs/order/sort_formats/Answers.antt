use Rattle.std.proofs.Common.{◌∙◌, map, reverse, ap}
use Rattle.std.proofs.lemmas.Result.{IfOk-weaker}
use Rattle.fmt_sort.specs.Spec.{wish_of}
use Rattle.fmt_sort.proofs.RankedLemmas.{best_first}
use Rattle.fmt_sort.proofs.order.sort_formats.Goals as goal

pub returns : goal.returns
returns c =
    let wish = wish_of c.args.spec.now in
    let f = c.deref.ensures.value ∙ c.formats.ensures in
    let a = rw f at c.in_ok-ranked.ensures in
    IfOk-weaker c.places_of.result _ _ (λ v e. best_first wish c.args.item.now.formats c.in_ok-ranked.ranked.items c.sort_unstable.new.self.items v.items a
    c.sort_unstable.ensures.permutation c.sort_unstable.ensures.sorted (e ∙ ap (λ z. map (λ r. r.place) (reverse z)) c.deref-2.ensures.value)) c.places_of.ensures
