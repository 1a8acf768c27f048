-- The machine keeps as many brackets open as its tokens do.
use Rattle.std.proofs.Common.{◌≡◌, ℕ, ◌+◌, List, [], ◌∷◌, length, sym, ap, subst, ◌∙◌, arith, rules}
use Rattle.std.specs.Prelude.{Option, Some, None}
use Rattle.info_tree.specs.Token.{Token, begin_list}
use Rattle.info_tree.specs.Levels.{level, levels}
use Rattle.info_tree.specs.Lexed.{inner_levels, state_levels}
use Rattle.info_tree.specs.Machine.{Frame, in_list, in_map, Next, value, item_or_end, key_or_end, key, colon_after, done, State, step, Runs}

abbrev IsLevel : Option State → ℕ → Type 0
IsLevel None n = Unit {0}
IsLevel (Some s) n = state_levels s ≡ n

step_level : (fs : List Frame) (n : Next) (t : Token) → IsLevel (step fs n t) (level (length fs + inner_levels n) t)
step_level fs value begin_list = omega arith
step_level fs value t = first_of (search rules, grind arith)
step_level fs item_or_end begin_list = omega arith
step_level fs item_or_end t = first_of (search rules, grind arith)
step_level fs key_or_end begin_list = tt
step_level fs key_or_end t = first_of (search rules, grind arith)
step_level fs (key ps) begin_list = tt
step_level fs (key ps) t = first_of (search rules, grind arith)
step_level fs (colon_after ps k) begin_list = tt
step_level fs (colon_after ps k) t = first_of (search rules, grind arith)
step_level [] (done u) t = tt
step_level (in_list xs ∷ fs) (done u) begin_list = tt
step_level (in_list xs ∷ fs) (done u) t = first_of (search rules, grind arith)
step_level (in_map ps k ∷ fs) (done u) begin_list = tt
step_level (in_map ps k ∷ fs) (done u) t = first_of (search rules, grind arith)

pub runs_level : (s u : State) (ts : List Token) → Runs s ts u → state_levels u ≡ levels (state_levels s) ts
runs_level s u [] r = sym (ap state_levels r)
runs_level s u (t ∷ ts) (mid, e, r) =
    let one : state_levels mid ≡ level (state_levels s) t = subst (λ (o : Option State). IsLevel o (level (state_levels s) t)) e (step_level s.0 s.1 t) in
    runs_level mid u ts r ∙ ap (λ n. levels n ts) one
