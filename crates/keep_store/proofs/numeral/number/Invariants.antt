use Rattle.std.proofs.Common.{◌≡◌, fold, drop}
use Rattle.keep_store.specs.Promise.{number_of}
use Rattle.keep_store.proofs.Numerals.{step}
use Rattle.keep_store.proofs.numeral.number.Given as goal

abbrev pub invariant-loop-digit : goal.invariant-loop-digit
invariant-loop-digit l = fold step l.number (drop l.digit-index l.digits) ≡ number_of l.digits
