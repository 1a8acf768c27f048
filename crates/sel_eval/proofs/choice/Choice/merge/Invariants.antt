use Rattle.std.proofs.Common.{◌≡◌, take, fold}
use Rattle.sel_eval.specs.Keep.{kept_with}
use Rattle.sel_eval.proofs.choice.Choice.merge.Given as goal

abbrev pub invariant-loop-part : goal.invariant-loop-part
invariant-loop-part l = l.self ≡ fold (kept_with l.streams) l.initial.self (take l.part-index l.parts)
