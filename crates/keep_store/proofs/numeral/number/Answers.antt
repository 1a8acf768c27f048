use Rattle.std.proofs.Common.{◌≡◌, ℕ, ◌+◌, sym, ◌∙◌, ap, arith, fold, drop, get_or, List}
use Rattle.std.proofs.lemmas.List.{drop_all}
use Rattle.keep_store.proofs.Numerals.{step, step_on, read_so_far}
use Rattle.keep_store.proofs.numeral.number.Goals as goal

pub returns-in_err-tens-clause-none : goal.returns-in_err-tens-clause-none
returns-in_err-tens-clause-none c =
    let read = read_so_far c.args.digits.now c.loop-digit.digit-index c.loop-digit.number (omega arith) c.loop-digit.invariant in
    rw c.from_residual.ensures (omega (arith, read, c.in_err-tens.ensures))

pub overflow_sub-digit : goal.overflow_sub-digit
overflow_sub-digit c = (c.requires.each c.loop-digit.digit-index (omega arith)).0

pub returns-in_err-number-clause-none : goal.returns-in_err-number-clause-none
returns-in_err-number-clause-none c =
    let read = read_so_far c.args.digits.now c.loop-digit.digit-index c.loop-digit.number (omega arith) c.loop-digit.invariant in
    rw c.from_residual-in_err-number.ensures (omega (arith, read, c.in_err-number.ensures, c.in_ok-tens.ensures))

pub loop-digit-preserved : goal.loop-digit-preserved
loop-digit-preserved c =
    let digit = get_or c.args.digits.now c.loop-digit.digit-index 0 in
    let is : c.in_ok-number.number ≡ step c.loop-digit.number digit = omega (arith, c.in_ok-number.ensures, c.in_ok-tens.ensures) in
    ap (λ (n : ℕ). fold step n (drop (c.loop-digit.digit-index + 1) c.args.digits.now)) is
    ∙ sym (step_on c.args.digits.now c.loop-digit.digit-index c.loop-digit.number (omega arith)) ∙ c.loop-digit.invariant

pub returns-clause-some : goal.returns-clause-some
returns-clause-some c =
    ap (λ (ds : List ℕ). fold step c.loop-digit.number ds) (sym (drop_all c.loop-digit.digit-index c.args.digits.now (omega arith))) ∙ c.loop-digit.invariant
