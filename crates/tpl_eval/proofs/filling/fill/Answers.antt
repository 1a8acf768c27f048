use Rattle.std.proofs.Common.{rules, ◌≡◌, Err, Some, sym, ap, ◌∙◌}
use Rattle.std.specs.String.{string_bytes}
use Rattle.tpl_eval.specs.declared.fill_fault.FillFault.TheVariants.{TooLong}
use Rattle.tpl_eval.proofs.FillLemmas.{is_long, is_all}
use Rattle.tpl_eval.proofs.filling.fill.Goals as goal

pub returns-in_err-extend-clause-long : goal.returns-in_err-extend-clause-long
returns-in_err-extend-clause-long g c = λ e.
    let was : c.extend.result ≡ Err TooLong = search rules in
    rw (sym c.parts-part-items.ensures)
    (is_long (g.V.Values.tree c.args.values.now) c.args.marks.now.na c.args.clean (string_bytes c.loop-part.out) c.parts-part-items.result.now c.loop-part.part-index c.part-item.result c.loop-part-test.true c.part-item.is
    c.loop-part.invariant (c.extend.ensures.long was))

pub returns-clause-text : goal.returns-clause-text
returns-clause-text g c =
    rw (sym c.parts-part-items.ensures)
    (is_all (g.V.Values.tree c.args.values.now) c.args.marks.now.na c.args.clean (string_bytes c.loop-part.out) c.parts-part-items.result.now c.loop-part.part-index c.loop-part-test.false c.loop-part.invariant
    ∙ ap Some (search rules))
