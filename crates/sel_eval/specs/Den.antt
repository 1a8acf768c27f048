-- The choices that a selector stands for, over a list of formats from best to worst.
use Rattle.std.specs.Prelude.{ℕ, ◌*◌, List, [], ◌∷◌, ◌++◌, map, filter, length, Bool, true, false, ◌||◌, nat_lt, if◌then◌else◌}
use Rattle.std.specs.List.{flat_map}
use Rattle.sel_lang.specs.Plain.{Plain, list, first, merge, narrow, name, Plains, no_plains, a_plain, PlainFilter}
use Rattle.sel_eval.specs.Placed.{Placed}
use Rattle.sel_eval.specs.Holds.{holds}
use Rattle.sel_eval.specs.Keep.{keep}
use Rattle.sel_eval.specs.Picks.{picks, is_choice}
use Rattle.sel_eval.specs.declared.streams.Streams.{Streams}

-- some choices, each a list of formats
abbrev pub Choices : Type 0
Choices = List (List Placed)

-- the choices of several parts, one after the other
abbrev pub joined : List Choices → Choices
joined all = flat_map (λ choices. choices) all

-- the choices of the first part that has one
abbrev pub first_found : List Choices → Choices
first_found [] = []
first_found ([] ∷ all) = first_found all
first_found ((c ∷ cs) ∷ all) = c ∷ cs

-- every row of one choice of each part, its formats joined; the leftmost part changes last
abbrev pub products : List Choices → Choices
products [] = [] ∷ []
products (choices ∷ all) = flat_map (λ c. map (λ d. c ++ d) (products all)) choices

-- how many there are
abbrev pub product_count : List Choices → ℕ
product_count [] = 1
product_count (choices ∷ all) = length choices * product_count all

-- what is kept of each, without what is then empty
abbrev pub merged : Streams → List Choices → Choices
merged streams all = filter is_choice (map (keep streams) (products all))

-- the formats that meet a filter
abbrev pub meeting : PlainFilter → List Placed → List Placed
meeting f ps = filter (λ p. holds f p.format) ps

-- more choices than are answered
abbrev pub is_over : ℕ → Bool
is_over n = nat_lt 10000 n

-- there is no choice
abbrev pub is_none : Choices → Bool
is_none [] = true
is_none (c ∷ cs) = false

module _ (streams : Streams) (both : Bool) where
  unfoldable mutual
    -- the choices of a selector
    pub den : Plain → List Placed → Choices
    den (list xs) ps = joined (den_each xs ps)
    den (first xs) ps = first_found (den_each xs ps)
    den (merge xs) ps = merged streams (den_each xs ps)
    den (narrow x f) ps = den x (meeting f ps)
    den (name pick) ps = picks streams both pick ps

    -- those of each part
    pub den_each : Plains → List Placed → List Choices
    den_each no_plains ps = []
    den_each (a_plain x xs) ps = den x ps ∷ den_each xs ps

  unfoldable mutual
    -- Whether a part that is met has more choices than are answered; those of a merge count before empty ones go.
    pub large : Plain → List Placed → Bool
    large (list xs) ps = any_large xs ps || is_over (length (joined (den_each xs ps)))
    large (first xs) ps = first_large xs ps
    large (merge xs) ps = any_large xs ps || is_over (product_count (den_each xs ps))
    large (narrow x f) ps = large x (meeting f ps)
    large (name pick) ps = is_over (length (picks streams both pick ps))

    -- some part has: all of them are met
    pub any_large : Plains → List Placed → Bool
    any_large no_plains ps = false
    any_large (a_plain x xs) ps = large x ps || any_large xs ps

    -- of alternatives those are met that stand before the first with a choice, and that one
    pub first_large : Plains → List Placed → Bool
    first_large no_plains ps = false
    first_large (a_plain x xs) ps = large x ps || (if is_none (den x ps) then first_large xs ps else false)
