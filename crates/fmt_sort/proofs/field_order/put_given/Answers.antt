use Rattle.std.proofs.Common.{◌∙◌, ap, map}
use Rattle.fmt_sort.specs.Reading.{put}
use Rattle.fmt_sort.specs.Spec.{wanted_of}
use Rattle.fmt_sort.proofs.ReadingLemmas.{last_put}
use Rattle.fmt_sort.proofs.field_order.put_given.Goals as goal

pub loop-field-preserved : goal.loop-field-preserved
loop-field-preserved c =
    last_put c.args.free c.loop-field.given.items c.pop.new.self.items c.in-Some.field _ (map wanted_of c.loop-field.fields.items) _ c.loop-field.invariant c.in-Some.ensures.items
    (c.in_ok-put.ensures ∙ ap (put (map wanted_of c.loop-field.fields.items)) c.settled.ensures)
