use Rattle.std.proofs.Common.{◌∙◌, ap, map}
use Rattle.std.specs.Prelude.{fold}
use Rattle.fmt_sort.specs.Read.{latest_first}
use Rattle.fmt_sort.specs.Reading.{put, first_fields, last_fields}
use Rattle.fmt_sort.specs.Spec.{wanted_of, wanted_when}
use Rattle.fmt_sort.proofs.ReadingLemmas.{put_three}
use Rattle.fmt_sort.proofs.field_order.in_order.Goals as goal

pub returns-then-force : goal.returns-then-force
returns-then-force c =
    let given = map (wanted_when c.args.free) (latest_first c.args.given.items) in
    rw c.if-force.true (
    put_three given first_fields last_fields _ _ _ (c.in_ok-put_given.ensures ∙ ap (λ z. fold put (map wanted_of z) given) c.new-fields.ensures.items)
    c.in_ok-put_standing.ensures c.in_ok-put_standing-2.ensures
    )

pub returns : goal.returns
returns c =
    let given = map (wanted_when c.args.free) (latest_first c.args.given.items) in
    rw c.if-force.false (
    put_three first_fields given last_fields _ _ _ (c.in_ok-put_standing-3.ensures ∙ ap (λ z. fold put (map wanted_of z) first_fields) c.new-fields.ensures.items)
    c.in_ok-put_given-2.ensures c.in_ok-put_standing-4.ensures
    )
