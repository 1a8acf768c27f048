use Rattle.std.proofs.Common.{sym, ◌∙◌, subst, List, ℕ}
use Rattle.std.proofs.lemmas.List.{append_cancel_left}
use Rattle.keep_store.specs.Promise.{IsNumber}
use Rattle.keep_store.proofs.Finding.{not_begun}
use Rattle.keep_store.proofs.opening.is_other.Goals as goal

pub returns-else-is_number-clause-all : goal.returns-else-is_number-clause-all
returns-else-is_number-clause-all c other =
    let same = append_cancel_left c.args.prefix.now other.digits c.in-Some.digits.now (sym other.is ∙ c.in-Some.ensures.some) in
    c.is_number.ensures.1 (subst (λ (d : List ℕ). IsNumber d) same other.number)

pub returns-in-None-clause-all : goal.returns-in-None-clause-all
returns-in-None-clause-all c other = absurd (not_begun c.args.prefix.now c.args.name.now c.in-None.ensures.none other.digits other.is)
