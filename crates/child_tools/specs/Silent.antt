-- What tools over child programs tell: their count of faults alone.
use Rattle.std.specs.Prelude.{ℕ, false, []}
use Rattle.tool_chain.specs.Runs.{Bench}
use Rattle.child_tools.specs.declared.tools.ChildTools.{ChildTools}

-- nothing but so many faults
abbrev pub silent : ℕ → Bench
silent faults = record { tells = false; steady = false; works = false; faults = faults; make = λ args inputs. []; runs = [] }

-- what the tools tell
abbrev pub bench_of : {P A B C D W : Type 0} → ChildTools P A B C D W → Bench
bench_of tools = silent tools.faults.count
