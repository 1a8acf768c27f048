use Rattle.std.proofs.Common.{◌≡◌, ◌≤◌, ◌++◌, drop, map, length, vec_len, vec_capacity}
use Rattle.job_turn.proofs.turn.names_of.Given as goal

-- the names that are copied, and those to come
abbrev pub invariant-loop-component : goal.invariant-loop-component
invariant-loop-component l = record {
  made : l.names.items ++ map (λ component. component.name) (drop l.component-index l.components) ≡ map (λ component. component.name) l.components;
  many : vec_len l.names ≡ l.component-index;
  room : length l.components ≤ vec_capacity l.names;
}
