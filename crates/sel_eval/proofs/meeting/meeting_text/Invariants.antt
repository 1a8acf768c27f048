use Rattle.std.proofs.Common.{◌≡◌, take}
use Rattle.sel_lang.specs.Plain.{text, test_op, test_value}
use Rattle.sel_eval.specs.Den.{meeting}
use Rattle.sel_eval.specs.Matchers.{matcher_op, matcher_value}
use Rattle.sel_eval.proofs.meeting.meeting_text.Given as goal

abbrev pub invariant-loop-placed : goal.invariant-loop-placed
invariant-loop-placed l =
    (l.left.items ≡ meeting (text (record { field = l.field; op = test_op l.fn.test; negated = l.not; value = test_value l.fn.test; unknown = l.unknown })) (take l.placed-index l.formats))
    × (matcher_op l.matcher ≡ test_op l.fn.test) × (matcher_value l.matcher ≡ test_value l.fn.test)
