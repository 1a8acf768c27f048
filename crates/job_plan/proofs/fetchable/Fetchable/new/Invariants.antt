use Rattle.std.proofs.Common.{◌≡◌, ◌≤◌, None, length}
use Rattle.std.specs.Prelude.{All}
use Rattle.job_plan.proofs.fetchable.Fetchable.new.Given as goal

abbrev pub invariant-loop-format : goal.invariant-loop-format
invariant-loop-format l = record {
  count : length l.answers.items ≡ l._format-index;
  within : l._format-index ≤ length l.formats;
  none : All (λ answer. answer ≡ None) l.answers.items;
}
