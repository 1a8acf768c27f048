use Rattle.std.proofs.Common.{◌≡◌, ◌++◌, drop, map}
use Rattle.tool_chain.specs.Memory.{bytes_of, joined}
use Rattle.tool_chain.proofs.child.join.Given as goal

abbrev pub invariant-loop-input : goal.invariant-loop-input
invariant-loop-input l = l.joined.items ++ joined (map bytes_of (drop l.input-index l.input-items)) ≡ joined (map bytes_of l.input-items)
