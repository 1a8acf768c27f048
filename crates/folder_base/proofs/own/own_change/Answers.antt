use Rattle.std.proofs.Common.{◌≡◌, ◌∙◌, sym, ap, subst, rules, arith}
use Rattle.std.proofs.lemmas.Grind.{common_steps}
use Rattle.folder_base.specs.Files.{names_of}
use Rattle.folder_base.specs.Handing.{answers, TellsOwn}
use Rattle.folder_base.specs.declared.was.Was.{Was}
use Rattle.folder_base.proofs.Handed.{own_change_is, other_change_is}
use Rattle.folder_base.proofs.own.own_change.Goals as goal
use Rattle.folder_base.proofs.own.own_change.Goals.{then-is_name_of+in_ok-was, else-is_name_of}

pub returns : goal.returns
returns c = λ stems is apart.
    let mine = answers stems c.args.place in
    let live = names_of c.args.live.now in
    let change = c.args.change.now in
    let named : c.in_ok-name.name ≡ change.name = first_of (search rules, grind (arith, common_steps)) in
    let asked : c.as_str-2.result.now ≡ change.name = first_of (search rules, grind (arith, common_steps)) in
    let answer : mine change.name ≡ c.is_name_of.result = ap mine (sym asked) ∙ sym (c.is_name_of.ensures.exact stems is apart) in
    elim c.if-is_name_of.branch [
      | then-is_name_of+in_ok-was w ↦ own_change_is mine live change (record { name = c.in_ok-name.name; was = c.if-is_name_of.was }) named (answer ∙ w.if-is_name_of.true)
          (subst (λ (was : Was). TellsOwn mine live change.was was) (sym w.was-is) (w.in_ok-was.ensures stems is apart))
      | else-is_name_of w ↦ other_change_is mine live change (record { name = c.in_ok-name.name; was = c.if-is_name_of.was }) named (answer ∙ w.if-is_name_of.false) w.was-is
    ]
