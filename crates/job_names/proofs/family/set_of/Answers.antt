use Rattle.std.proofs.Common.{◌≡◌}
use Rattle.job_names.proofs.MapLemmas.{set_updates, has_more}
use Rattle.job_names.proofs.family.set_of.Goals as goal

pub loop-text-preserved : goal.loop-text-preserved
loop-text-preserved c = λ other.
    let key : c.as_bytes.result.now ≡ c.text-item.result = cc in
    has_more other c.text-item.result c.as_bytes.result.now c.args.texts.now c.loop-text.text-index _ _ c.loop-text-test.true c.text-item.is key (c.loop-text.invariant other)
    (set_updates c.as_bytes.result.now c.loop-text.set c.insert.new.self c.in_ok-insert.ensures.updates other)
