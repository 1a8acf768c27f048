use Rattle.std.proofs.Common.{◌≡◌, ◌++◌, drop}
use Rattle.std.specs.String.{string_bytes}
use Rattle.plan_record.specs.Plan.{lines_text, plan_text}
use Rattle.plan_record.proofs.plan.plan_text.Given as goal

-- what is written, and the lines to come
abbrev pub invariant-loop-line : goal.invariant-loop-line
invariant-loop-line l = string_bytes l.text ++ lines_text (drop l.line-index l.lines) ≡ plan_text l.lines
