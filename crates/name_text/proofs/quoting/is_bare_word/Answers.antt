use Rattle.std.proofs.Common.{◌≡◌, length, false, sym, ◌∙◌, rules}
use Rattle.std.specs.Prelude.{◌==◌}
use Rattle.std.proofs.lemmas.Iterator.{YieldsList-from_slice}
use Rattle.std.proofs.lemmas.Iterator.Search.{all_from_yields_List}
use Rattle.name_text.specs.Quote.{is_bare}
use Rattle.name_text.proofs.quoting.is_bare_word.Goals as goal

pub returns-then-not-is_empty : goal.returns-then-not-is_empty
returns-then-not-is_empty c =
    let some : (length c.args.text.now == 0) ≡ false = sym c.is_empty.ensures ∙ c.if-not-is_empty.true in
    rw some (all_from_yields_List is_bare _ _ c.all.result c.all.ensures.ran (YieldsList-from_slice c.args.text.now (cc)) (λ x b q h. search (rules, h)))
