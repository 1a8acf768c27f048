use Rattle.std.proofs.lemmas.Result.{err_from_is_err_and}
use Rattle.text_pattern.proofs.PatternLemmas.{made_is_pattern, made_finds, error_is_refusal}
use Rattle.text_pattern.proofs.pattern.Pattern.new.Goals as goal

pub returns-in_err-regex-clause-fault : goal.returns-in_err-regex-clause-fault
returns-in_err-regex-clause-fault c =
    let p = err_from_is_err_and c.from_residual.result c.from_residual.ensures.1 in
    rw p.1 (error_is_refusal _ c.in_err-regex.field-0.0 _ p.2 c.in_err-regex.ensures.by_grammar c.in_err-regex.ensures.kind)

pub invariant_of-result : goal.invariant_of-result
invariant_of-result c = made_finds c.in_ok-regex.regex c.in_ok-regex.ensures.config c.in_ok-regex.ensures.read

pub returns-clause-pattern : goal.returns-clause-pattern
returns-clause-pattern c =
    let made = c.in_ok-regex.ensures in made_is_pattern c.in_ok-regex.regex _ made.source made.config made.read
