use Rattle.std.proofs.Common.{◌≡◌, false, true, sym, ◌∙◌}
use Rattle.job_names.specs.Index.{has_text}
use Rattle.job_names.proofs.MapLemmas.{set_updates, has_more, twice_here, once_more, not_true, not_false}
use Rattle.job_names.proofs.family.has_twice.Goals as goal

pub returns-then-not-branch : goal.returns-then-not-branch
returns-then-not-branch c =
    let key : c.as_str.result.now ≡ c.name-item.result = cc in
    let was : has_text c.loop-name.seen c.as_str.result.now ≡ true = not_false _ (sym c.in_ok-insert.ensures.added ∙ c.if-not-branch.true) in
    sym (twice_here c.args.names.now c.loop-name.name-index c.name-item.result c.loop-name-test.true c.name-item.is (sym (c.loop-name.invariant.0 c.name-item.result) ∙ rw key at was))

pub loop-name-preserved : goal.loop-name-preserved
loop-name-preserved c =
    let key : c.as_str.result.now ≡ c.name-item.result = cc in
    let was : has_text c.loop-name.seen c.as_str.result.now ≡ false = not_true _ (sym c.in_ok-insert.ensures.added ∙ c.if-not-branch.false) in (
      (λ text. has_more text c.name-item.result c.as_str.result.now c.args.names.now c.loop-name.name-index _ _ c.loop-name-test.true c.name-item.is key (c.loop-name.invariant.0 text)
          (set_updates c.as_str.result.now c.loop-name.seen c.insert.new.self c.in_ok-insert.ensures.updates text)),
      once_more c.args.names.now c.loop-name.name-index c.name-item.result c.loop-name-test.true c.name-item.is c.loop-name.invariant.1
          (sym (c.loop-name.invariant.0 c.name-item.result) ∙ rw key at was),
    )
