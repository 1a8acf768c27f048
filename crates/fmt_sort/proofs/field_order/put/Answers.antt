use Rattle.std.proofs.Common.{◌∙◌, ap}
use Rattle.std.specs.Str.{bytes_eq}
use Rattle.std.specs.List.{list_any}
use Rattle.fmt_sort.specs.Keys.{name_of}
use Rattle.fmt_sort.proofs.ReadingLemmas.{put_new, put_again}
use Rattle.fmt_sort.proofs.field_order.put.Goals as goal

pub returns-in_ok-push : goal.returns-in_ok-push
returns-in_ok-push c =
    let h = c.is_there.ensures ∙ ap (list_any (λ g. bytes_eq (name_of g.key) (name_of c.args.field.key))) c.as_slice.ensures.value in
    put_new c.args.fields.now.items c.args.field c.is_there.result h c.push.new.self.items c.if-not-is_there.true c.in_ok-push.ensures.items

pub returns-else-not-is_there : goal.returns-else-not-is_there
returns-else-not-is_there c =
    let h = c.is_there.ensures ∙ ap (list_any (λ g. bytes_eq (name_of g.key) (name_of c.args.field.key))) c.as_slice.ensures.value in
    put_again c.args.fields.now.items c.args.field c.is_there.result h c.if-not-is_there.false
