use Rattle.std.proofs.Common.{◌≡◌, ◌+◌, ◌-◌, ◌*◌, length, map}
use Rattle.std.specs.Str.{IsUtf8}
use Rattle.read_base.specs.Reads.{more, all_at}
use Rattle.read_base.proofs.LoopLemmas.{with_front}
use Rattle.sel_lang.specs.View.{plain}
use Rattle.sel_lang.specs.Reading.{is_next, behind, operand_at, mark_of}
use Rattle.sel_lang.proofs.Ranks.{rank}
use Rattle.sel_lang.proofs.reading.+read.Given as goal

-- the tighter the joint, the less is left to go down to; a group opens at the loosest one again
abbrev pub decreases-atom : goal.decreases-atom
decreases-atom l = 11 * l.groups + 1

abbrev pub decreases-group : goal.decreases-group
decreases-group l = 11 * l.groups

abbrev pub decreases-joined : goal.decreases-joined
decreases-joined l = 11 * l.groups + 3 * rank l.joint + 1

abbrev pub decreases-operand : goal.decreases-operand
decreases-operand l = 11 * l.groups + 3 * rank l.joint - 1

abbrev pub decreases-others : goal.decreases-others
decreases-others l = 11 * l.groups + 3 * rank l.joint

-- what was read and what is still read are all the operands
abbrev pub invariant-others-loop : goal.invariant-others-loop
invariant-others-loop l =
    (with_front (map plain l.all.items) (more (is_next (mark_of l.joint)) (behind (operand_at l.joint l.groups)) (length l.text - l.counter) l.rest)
    ≡ all_at (is_next (mark_of l.joint)) (behind (operand_at l.joint l.groups)) l.text) × IsUtf8 l.rest
