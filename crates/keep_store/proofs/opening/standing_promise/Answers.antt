use Rattle.std.proofs.Common.{sym, ◌∙◌, ap, subst, rules, List, ℕ}
use Rattle.std.specs.Prelude.{is_err}
use Rattle.std.proofs.lemmas.List.{append_cancel_left}
use Rattle.keep_store.specs.Promise.{IsNumber}
use Rattle.keep_store.specs.Opening.{IsStanding}
use Rattle.text_base.specs.declared.faults.FolderCall.TheVariants.{Size}
use Rattle.keep_store.proofs.Found.{stays_read}
use Rattle.keep_store.proofs.Refusals.{read_failed}
use Rattle.keep_store.proofs.Finding.{none_standing, not_begun, standing_is}
use Rattle.keep_store.proofs.opening.standing_promise.Goals as goal

pub returns-in_default-clause-told : goal.returns-in_default-clause-told
returns-in_default-clause-told g c t = none_standing c.args.prefix.now c.args.name.now _ (λ digits number is. not_begun c.args.prefix.now c.args.name.now c.in_default.ensures.none digits is)

pub returns-then-not-is_number-clause-told : goal.returns-then-not-is_number-clause-told
returns-then-not-is_number-clause-told g c t = none_standing c.args.prefix.now c.args.name.now _ (λ digits number is.
    let same = append_cancel_left c.args.prefix.now c.in-Some.digits.now digits (sym c.in-Some.ensures.some ∙ is) in
    let test = c.is_number.ensures.1 (subst (λ (d : List ℕ). IsNumber d) (sym same) number) in
    let no_more = c.if-not-is_number.true in cc)

pub returns-in-Ok-clause-told : goal.returns-in-Ok-clause-told
returns-in-Ok-clause-told g c t =
    let number = c.is_number.ensures.0 (search rules) in
    subst (IsStanding c.args.prefix.now _ c.args.name.now) (sym c.standing_len.ensures.value)
    (standing_is c.args.prefix.now c.args.name.now _ c.in-Some.digits.now c.in-Some.ensures.some number c.number.result c.in-Ok.size c.number.ensures.some c.number.ensures.none (c.in-Ok.ensures.told t) c.standing_len.ensures.small)

pub returns-in-Err-clause-refused : goal.returns-in-Err-clause-refused
returns-in-Err-clause-refused g c =
    read_failed (g.F.Folder.world c.args.folder.now) (g.F.Folder.world c.size.new.self) Size c.size.result (ap is_err c.in-Err.is) (stays_read c.size.ensures.cause) (λ t. tt) c.size.ensures.cause
