use Rattle.std.proofs.Common.{◌≡◌, drop}
use Rattle.fmt_sort.specs.Rows.{begins}
use Rattle.fmt_sort.proofs.row.begins.Given as goal

-- what is left of the text decides with what is left of the name
abbrev pub invariant-loop-letter : goal.invariant-loop-letter
invariant-loop-letter l = begins l.text l.name ≡ begins l.rest (drop l.letter-index l.name)
