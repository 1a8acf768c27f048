use Rattle.job_plan.proofs.FetchableLemmas.{parts_begin}
use Rattle.job_plan.proofs.fetchable.Fetchable.first_without.Goals as goal

pub loop-part-init : goal.loop-part-init
loop-part-init c = record {
  told = λ formats told. told;
  none = λ formats told. parts_begin formats c.args.places.now;
}
