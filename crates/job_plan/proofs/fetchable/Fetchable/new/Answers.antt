use Rattle.std.proofs.Common.{◌≡◌, length, arith}
use Rattle.job_plan.proofs.FetchableLemmas.{told_none}
use Rattle.job_plan.proofs.fetchable.Fetchable.new.Goals as goal

pub returns : goal.returns
returns c =
    let count : length c.loop-format.answers.items ≡ length c.args.formats.now = omega (arith, c.loop-format.invariant.count, c.loop-format.invariant.within, c.loop-format-test.false) in
    told_none _ count c.loop-format.invariant.none
