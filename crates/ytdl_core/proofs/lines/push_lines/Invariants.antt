use Rattle.std.proofs.Common.{◌≡◌, ◌++◌, drop}
use Rattle.std.specs.String.{string_bytes}
use Rattle.ytdl_core.specs.Lines.{each_line}
use Rattle.ytdl_core.proofs.lines.push_lines.Given as goal

abbrev pub invariant-loop-text : goal.invariant-loop-text
invariant-loop-text l =
    string_bytes l.fn.lines ++ each_line l.texts ≡ string_bytes l.lines ++ each_line (drop l.text-index l.texts)
