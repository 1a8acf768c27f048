use Rattle.std.proofs.Common.{◌≡◌, ◌≤◌, ◌++◌, drop, length, vec_len, vec_capacity}
use Rattle.component_turn.specs.Plan.{lines_of}
use Rattle.component_turn.proofs.component.lines_of.Given as goal

-- the lines that are made, and those to come
abbrev pub invariant-loop-piece : goal.invariant-loop-piece
invariant-loop-piece l = record {
  made : l.lines.items ++ lines_of (drop l.piece-index l.pieces) ≡ lines_of l.pieces;
  many : vec_len l.lines ≡ l.piece-index;
  room : length l.pieces ≤ vec_capacity l.lines;
}
