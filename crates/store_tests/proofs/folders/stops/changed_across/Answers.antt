use Rattle.std.proofs.Common.{◌∙◌, refl}
use Rattle.store_tests.proofs.folders.stops.changed_across.Goals as goal

pub returns : goal.returns
returns c =
    let gathered = c.gather.ensures.told refl in
    let fanned = c.in_ok-fan.ensures.told refl in
    record {
      no_part = gathered.part ∙ c.create.ensures.cause.part ∙ fanned.part ∙ c.in_ok-written_and_renamed.ensures.no_part;
      none_out = gathered.out;
    }
