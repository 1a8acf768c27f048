-- What a folder in memory plans.
use Rattle.std.specs.Prelude.{ℕ, Bool, true, false, not, ◌&&◌, ◌||◌, List, [], ◌∷◌, Option, is_none, nat_eq, nat_lt}
use Rattle.std.specs.List.{list_any}
use Rattle.std.specs.Option.{option_map_or}
use Rattle.folder_base.specs.declared.plan.Plan.{Plan}

-- No number is listed.
abbrev pub is_empty : List ℕ → Bool
is_empty [] = true
is_empty (n ∷ ns) = false

-- It plans no fault and no stop.
abbrev pub plans_none : List ℕ → Option ℕ → Bool
plans_none fails stop = is_empty fails && is_none stop

-- The plan has no fault and no stop.
abbrev pub plans_nothing : Plan → Bool
plans_nothing plan = plans_none plan.fails.items plan.stop

-- The call with this number is to fail: it is listed, or they stop before it.
abbrev pub plans_call : List ℕ → Option ℕ → ℕ → Bool
plans_call fails stop call = option_map_or (λ first. not (nat_lt call first)) stop false || list_any (λ number. nat_eq number call) fails
