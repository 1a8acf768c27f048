use Rattle.std.proofs.Common.{◌≡◌, length, sym, ◌∙◌}
use Rattle.sel_eval.proofs.PickLemmas.{all_over}
use Rattle.sel_eval.proofs.picking.all.Goals as goal

pub returns-then-len-eq-MOST : goal.returns-then-len-eq-MOST
returns-then-len-eq-MOST c =
    let many : 10000 ≡ length c.loop-placed.choices.items = sym c.if-len-eq-MOST.true ∙ (c.len.ensures ∙ c.loop-placed.choices.ok.0) in
    all_over c.args.formats.now c.loop-placed.placed-index c.placed-item.result c.loop-placed.choices.items c.loop-placed-test.true c.placed-item.is
    (sym c.has_stream.ensures ∙ c.if-has_stream.true) c.loop-placed.invariant.0 many
