use Rattle.std.proofs.Common.{◌≡◌, ◌<◌, ◌∙◌, sym, ap, length, true, Some, arith}
use Rattle.std.specs.Prelude.{slice_get}
use Rattle.std.proofs.lemmas.Option.{slice_get-get_or}
use Rattle.folder_base.specs.Handing.{answers}
use Rattle.folder_base.specs.declared.change.Change.{Change}
use Rattle.folder_base.proofs.Handed.{touches_at}
use Rattle.folder_base.proofs.own.touch.Goals as goal

pub returns-then-is_name_of : goal.returns-then-is_name_of
returns-then-is_name_of c = λ stems is apart.
    let mine = answers stems c.args.place in
    let items = c.args.changes.now in
    let at = c.loop-change.change-index in
    let change = c.change-item.result in
    let within : at < length items = omega arith in
    let stands : slice_get items at ≡ Some change = slice_get-get_or items at change within ∙ ap (λ (x : Change). Some x) (sym c.change-item.is) in
    let own : mine change.name ≡ true = ap mine (sym c.as_str.ensures) ∙ sym (c.is_name_of.ensures.exact stems is apart) ∙ c.if-is_name_of.true in
    sym (touches_at mine items at change stands own)
