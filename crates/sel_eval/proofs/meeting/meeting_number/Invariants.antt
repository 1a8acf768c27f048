use Rattle.std.proofs.Common.{◌≡◌, take}
use Rattle.text_base.specs.Number.{number_of}
use Rattle.sel_lang.specs.Plain.{num}
use Rattle.sel_eval.specs.Den.{meeting}
use Rattle.sel_eval.proofs.meeting.meeting_number.Given as goal

abbrev pub invariant-loop-placed : goal.invariant-loop-placed
invariant-loop-placed l =
    l.left.items ≡ meeting (num (record { field = l.field; op = l.op; value = number_of l.value; unknown = l.unknown })) (take l.placed-index l.formats)
