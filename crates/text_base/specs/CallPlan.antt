-- Which calls of an object in memory fail, by their numbers from 0 on.
use Rattle.std.specs.Prelude.{◌≡◌, ℕ, ◌+◌, ◌-◌, ◌^◌, min, Bool, true, false, not, ◌&&◌, ◌||◌, IsTrue, List, [], ◌∷◌, Option, is_none, nat_eq, nat_lt}
use Rattle.std.specs.List.{list_any}
use Rattle.std.specs.Option.{option_map_or}
use Rattle.text_base.specs.declared.call_plan.CallPlan.{CallPlan}
use Rattle.text_base.specs.declared.call_plan.FaultPlan.{FaultPlan}

-- a list has no number
abbrev pub is_empty : List ℕ → Bool
is_empty [] = true
is_empty (n ∷ ns) = false

-- no call is listed, and there is no stop
abbrev pub plans_none : List ℕ → Option ℕ → Bool
plans_none fails stop = is_empty fails && is_none stop

-- the call with this number fails: it is listed, or it is not before the stop
abbrev pub plans_call : List ℕ → Option ℕ → ℕ → Bool
plans_call fails stop call = option_map_or (λ first. not (nat_lt call first)) stop false || list_any (λ number. nat_eq number call) fails

-- a plan under which no call fails
abbrev pub plans_nothing : FaultPlan → Bool
plans_nothing plan = plans_none plan.fails.items plan.stop

-- which calls fail by a plan
abbrev pub plans : FaultPlan → ℕ → Bool
plans plan = plans_call plan.fails.items plan.stop

-- a plan with a count under which no call fails
abbrev pub never_fails : CallPlan → Bool
never_fails calls = plans_nothing calls.plan

-- the call that comes next fails
abbrev pub FailsNext : CallPlan → Type 0
FailsNext calls = IsTrue (plans calls.plan calls.next)

-- just these calls fail, and all from the stop on, and none came yet
pub record Plans (calls : CallPlan) (fails : List ℕ) (stop : Option ℕ) : Type 0 where
  pub numbers : plans calls.plan ≡ plans_call fails stop
  pub never : never_fails calls ≡ plans_none fails stop
  pub first : calls.next ≡ 0

-- One call was counted. Where that was planned it failed, and else a call that is proper did not.
pub record Counts (proper failed : Type 0) (old new : CallPlan) : Type 0 where
  pub number : new ≡ record old { next = min (old.next + 1) (2 ^ 64 - 1) }
  pub fails : FailsNext old → failed
  pub others : (FailsNext old → ⊥) → proper → failed → ⊥
