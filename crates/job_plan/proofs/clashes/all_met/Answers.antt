use Rattle.std.proofs.Common.{◌≡◌, ◌<◌, [], length, map, take, get_or}
use Rattle.job_plan.specs.Jobs.{all_behind}
use Rattle.job_plan.specs.Views.{plain_drafted}
use Rattle.job_plan.proofs.ClashLemmas.{met_more, next_follows, stands_at, within_plain}
use Rattle.job_plan.proofs.clashes.all_met.Goals as goal

pub loop-place-preserved : goal.loop-place-preserved
loop-place-preserved c =
    let entries = map plain_drafted c.args.entries.now in
    let i = c.loop-place.place in
    let entry = c.index-entries-place.result in
    let earlier = all_behind [] (take i entries) in
    let within : i < length entries = within_plain c.args.entries.now i c.loop-place-test.true in
    let at : get_or entries i (plain_drafted entry) ≡ plain_drafted entry = stands_at c.args.entries.now i entry c.loop-place-test.true c.index-entries-place.is in
    record {
      follows = next_follows entries i (plain_drafted entry) c.met.new.index within at (c.in_ok-met.ensures.index earlier c.loop-place.invariant.follows);
      met = met_more entries i (plain_drafted entry) c.loop-place.all.items c.push.new.self.items c.in_ok-met.field-0 within at c.loop-place.invariant.met c.in_ok-push.ensures.items
          (c.in_ok-met.ensures.met earlier c.loop-place.invariant.follows);
    }
