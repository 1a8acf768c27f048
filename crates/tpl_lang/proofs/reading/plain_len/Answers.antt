use Rattle.std.proofs.Common.{◌≡◌, arith}
use Rattle.std.specs.List.{prefix_len}
use Rattle.tpl_lang.specs.Reading.{is_plain}
use Rattle.tpl_lang.proofs.PlainLemmas.{plain_len_is}
use Rattle.tpl_lang.proofs.reading.plain_len.Goals as goal

pub returns-else-bytes-at-ne37 : goal.returns-else-bytes-at-ne37
returns-else-bytes-at-ne37 c =
    let h : c.loop-at.at ≡ prefix_len is_plain c.as_bytes-bytes.result.now =
    plain_len_is c.as_bytes-bytes.result.now c.loop-at.at c.loop-at.invariant.0 c.loop-at.invariant.1 (λ lt. c.if-bytes-at-ne37.false) in
    rw c.as_bytes-bytes.ensures.value at h

pub returns-after-loop-at : goal.returns-after-loop-at
returns-after-loop-at c =
    let h : c.loop-at.at ≡ prefix_len is_plain c.as_bytes-bytes.result.now =
    plain_len_is c.as_bytes-bytes.result.now c.loop-at.at c.loop-at.invariant.0 c.loop-at.invariant.1 (λ lt. absurd (omega (arith, lt, c.loop-at-test.false))) in
    rw c.as_bytes-bytes.ensures.value at h
