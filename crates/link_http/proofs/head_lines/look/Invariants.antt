use Rattle.std.proofs.Common.{◌≡◌, drop}
use Rattle.std.specs.Prelude.{◌||◌}
use Rattle.link_http.specs.HeadLines.{lines_after, ends_in}
use Rattle.link_http.proofs.head_lines.look.Given as goal

abbrev pub invariant-loop-byte : goal.invariant-loop-byte
invariant-loop-byte l = record {
  place : lines_after l.fn.from l.bytes ≡ lines_after l.place (drop l.byte-index l.bytes);
  ends : ends_in l.fn.from l.bytes ≡ (l.ends || ends_in l.place (drop l.byte-index l.bytes));
}
