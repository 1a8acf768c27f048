use Rattle.std.proofs.Common.{◌≡◌, ◌++◌, length}
use Rattle.std.specs.Str.{IsUtf8}
use Rattle.std.specs.String.{string_bytes}
use Rattle.info_tree.specs.Printed.{escaped, all_by}
use Rattle.info_tree.proofs.escaping.push_escaped.Given as goal

-- with the escapes of what is left, the whole text is out
abbrev pub invariant-runs : goal.invariant-runs
invariant-runs l = record {
  out : string_bytes l.out ++ all_by escaped l.rest ≡ string_bytes l.initial.out ++ all_by escaped l.text;
  text : IsUtf8 l.rest;
}

abbrev pub decreases-runs : goal.decreases-runs
decreases-runs l = length l.rest
