use Rattle.std.proofs.Common.{◌≡◌, take, map}
use Rattle.sel_eval.specs.Answer.{plain_combo, combo_of}
use Rattle.sel_eval.proofs.choosing.choose.Given as goal

abbrev pub invariant-loop-choice : goal.invariant-loop-choice
invariant-loop-choice l = map plain_combo l.combos.items ≡ map (combo_of l.streams) (take l.choice-index l.choice-items)
