use Rattle.std.proofs.Common.{◌≡◌, ◌∙◌, List, ℕ, ap, rules}
use Rattle.std.proofs.lemmas.Str.Pattern.{starts_text, ends_text}
use Rattle.sel_eval.specs.Holds.{contains}
use Rattle.sel_eval.proofs.MatcherLemmas.{found_contains}
use Rattle.sel_eval.proofs.matcher.Matcher.fits.Goals as goal

pub returns-in-Prefix-clause-fits : goal.returns-in-Prefix-clause-fits
returns-in-Prefix-clause-fits c = rw c.in-Prefix.is (starts_text _ _ _ c.starts_with.ensures.cases)

pub returns-in-Suffix-clause-fits : goal.returns-in-Suffix-clause-fits
returns-in-Suffix-clause-fits c = rw c.in-Suffix.is (ends_text _ _ _ c.ends_with.ensures.cases)

pub returns-in-Contains-clause-fits : goal.returns-in-Contains-clause-fits
returns-in-Contains-clause-fits c =
    let text : c.as_bytes.result.now ≡ c.args.text.now = first_of (search rules, cc) in
    rw c.in-Contains.is (c.is_some.ensures ∙ (found_contains _ _ _ c.find.ensures ∙ ap (λ (t : List ℕ). contains t c.in-Contains.finder) text))
