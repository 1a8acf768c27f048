use Rattle.std.proofs.Common.{◌≤◌, ◌-◌, length}
use Rattle.tpl_lang.proofs.PlainLemmas.{PlainBefore}
use Rattle.tpl_lang.proofs.reading.plain_len.Given as goal

abbrev pub invariant-loop-at : goal.invariant-loop-at
invariant-loop-at l = (l.at ≤ length l.bytes) × PlainBefore l.bytes l.at

abbrev pub decreases-loop-at : goal.decreases-loop-at
decreases-loop-at l = length l.bytes - l.at
