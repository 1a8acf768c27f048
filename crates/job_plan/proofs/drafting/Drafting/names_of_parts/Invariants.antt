use Rattle.std.proofs.Common.{◌≡◌, map, take}
use Rattle.job_plan.specs.Draft.{name_of_part}
use Rattle.job_plan.specs.Views.{plain_drafting}
use Rattle.job_plan.proofs.drafting.Drafting.names_of_parts.Given as goal

abbrev pub invariant-loop-part : goal.invariant-loop-part
invariant-loop-part l =
    l.names.items ≡ map (name_of_part (plain_drafting l.self).restricted l.stem) (map (λ f. f.now) (take l.part-index l.parts))
