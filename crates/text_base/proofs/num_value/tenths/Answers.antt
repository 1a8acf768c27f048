use Rattle.std.proofs.Common.{◌≡◌, true, not, sym, ◌∙◌, refl, ◌||◌, eqb}
use Rattle.text_base.specs.Value.{digits_value}
use Rattle.text_base.specs.Spelled.{spelled_parts}
use Rattle.text_base.proofs.PlacesLemmas.{tenths_of_runs}
use Rattle.text_base.proofs.num_value.tenths.Goals as goal

pub returns-then-has_nonzero : goal.returns-then-has_nonzero
returns-then-has_nonzero c =
    let t : (not (eqb (digits_value c.split_at.result.1.now) 0) || not (eqb (digits_value c.split_at-2.result.1.now) 0)) ≡ true =
    rw (sym c.has_nonzero.ensures ∙ c.if-has_nonzero.true) refl in
    tenths_of_runs (spelled_parts c.args.spelled.now) c.requires.digits.int c.requires.digits.frac c.requires.short c.place_of_tenths-place.result c.place_of_tenths-place.ensures
    c.split_at.result.0.now c.split_at-2.result.0.now c.split_at.result.1.now c.split_at-2.result.1.now
    (rw (← c.min.ensures) c.split_at.ensures.front) (rw (← c.min-2.ensures) c.split_at-2.ensures.front)
    (rw (← c.min.ensures) c.split_at.ensures.front_len) (rw (← c.min-2.ensures) c.split_at-2.ensures.front_len)
    (rw (← c.min.ensures) c.split_at.ensures.back) (rw (← c.min-2.ensures) c.split_at-2.ensures.back)
    c.count_on.result c.count_on-2.result c.append_zeros-count.result c.count_on.ensures c.count_on-2.ensures c.append_zeros-count.ensures
    c.has_nonzero.result (c.if-has_nonzero.true ∙ sym t)

pub returns-else-has_nonzero : goal.returns-else-has_nonzero
returns-else-has_nonzero c =
    let t : (not (eqb (digits_value c.split_at.result.1.now) 0) || not (eqb (digits_value c.split_at-2.result.1.now) 0)) ≡ not (eqb (digits_value c.split_at-2.result.1.now) 0) =
    rw (sym c.has_nonzero.ensures ∙ c.if-has_nonzero.false) refl in
    tenths_of_runs (spelled_parts c.args.spelled.now) c.requires.digits.int c.requires.digits.frac c.requires.short c.place_of_tenths-place.result c.place_of_tenths-place.ensures
    c.split_at.result.0.now c.split_at-2.result.0.now c.split_at.result.1.now c.split_at-2.result.1.now
    (rw (← c.min.ensures) c.split_at.ensures.front) (rw (← c.min-2.ensures) c.split_at-2.ensures.front)
    (rw (← c.min.ensures) c.split_at.ensures.front_len) (rw (← c.min-2.ensures) c.split_at-2.ensures.front_len)
    (rw (← c.min.ensures) c.split_at.ensures.back) (rw (← c.min-2.ensures) c.split_at-2.ensures.back)
    c.count_on.result c.count_on-2.result c.append_zeros-count.result c.count_on.ensures c.count_on-2.ensures c.append_zeros-count.ensures
    c.has_nonzero-is_cut.result (c.has_nonzero-is_cut.ensures ∙ sym t)
