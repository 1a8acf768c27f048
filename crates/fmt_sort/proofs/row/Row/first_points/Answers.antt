use Rattle.std.proofs.Common.{[], ◌∙◌, sym, ap}
use Rattle.fmt_sort.specs.Rows.{fits}
use Rattle.fmt_sort.proofs.RowLemmas.{first_points_here, first_points_next}
use Rattle.fmt_sort.proofs.row.Row.first_points.Goals as goal

pub returns-then-fits : goal.returns-then-fits
returns-then-fits c =
    let f = fits c.args.is_whole c.args.text.now in
    first_points_here (λ e. (e.0.now, e.1)) f c.entries-name-items.result.now c.loop-name.name-index (record { ref_ptr = (0, 0); now = [] }, 0) _
    c.loop-name-test.true c.loop-name.invariant (ap f (sym c.as_bytes.ensures.value) ∙ (sym c.fits.ensures ∙ c.if-fits.true))

pub loop-name-preserved : goal.loop-name-preserved
loop-name-preserved c =
    let f = fits c.args.is_whole c.args.text.now in
    first_points_next (λ e. (e.0.now, e.1)) f c.entries-name-items.result.now c.loop-name.name-index (record { ref_ptr = (0, 0); now = [] }, 0) _
    c.loop-name-test.true c.loop-name.invariant (ap f (sym c.as_bytes.ensures.value) ∙ (sym c.fits.ensures ∙ c.if-fits.false))
