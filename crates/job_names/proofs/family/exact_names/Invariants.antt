use Rattle.std.proofs.Common.{◌≡◌, ◌++◌, flat_map, take}
use Rattle.job_names.specs.Family.{component_names}
use Rattle.job_names.proofs.family.exact_names.Given as goal

abbrev pub invariant-loop-component : goal.invariant-loop-component
invariant-loop-component l = l.names.items ≡ l.initial.names.items ++ flat_map component_names (take l.component-index l.components)
