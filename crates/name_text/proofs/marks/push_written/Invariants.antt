use Rattle.std.proofs.Common.{◌≡◌, ◌++◌, length}
use Rattle.std.specs.List.{flat_map}
use Rattle.std.specs.Str.{IsUtf8, chars}
use Rattle.std.specs.String.{string_bytes}
use Rattle.name_text.specs.Marks.{written}
use Rattle.name_text.proofs.marks.push_written.Given as goal

-- with what is left, the whole text is written
abbrev pub invariant-runs : goal.invariant-runs
invariant-runs l = record {
  out : string_bytes l.out ++ flat_map (written l.marks) (chars l.rest) ≡ string_bytes l.initial.out ++ flat_map (written l.marks) (chars l.text);
  text : IsUtf8 l.rest;
}

abbrev pub decreases-runs : goal.decreases-runs
decreases-runs l = length l.rest
