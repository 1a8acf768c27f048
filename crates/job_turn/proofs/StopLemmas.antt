-- What follows a call by its answer, and what children without an output leave.
use Rattle.std.proofs.Common.{◌≡◌, false, List, [], ◌∷◌, refl, sym, subst, ap}
use Rattle.std.proofs.lemmas.List.Elements.{All-nil, All-cons, All-head, All-tail}
use Rattle.std.specs.Option.{option_map_or}
use Rattle.std.specs.Prelude.{Option, None, All, IfSome, Result, MatchResult, Ok, Err, ◌||◌, bytes_eq}
use Rattle.folder_base.specs.Disk.{Name}
use Rattle.tool_chain.specs.Jobs.{Job as Command, is_output, is_output_of, OutputsApart}
use Rattle.job_turn.specs.declared.end.Stop.{Stop}

-- The answer lets the turn go on.
pub goes_on : {A : Type 0} (S : Stop → Type 0) {r : Result (Unit {0}) Stop} → Ok tt ≡ r → A → MatchResult r (λ _. A) S
goes_on {A} S is a = subst (λ (r : Result (Unit {0}) Stop). MatchResult r (λ _. A) S) is a

-- It stops it.
pub stops : (A : Type 0) (S : Stop → Type 0) {r : Result (Unit {0}) Stop} (stop : Stop) → Err stop ≡ r → S stop → MatchResult r (λ _. A) S
stops A S stop is s = subst (λ (r : Result (Unit {0}) Stop). MatchResult r (λ _. A) S) is s

-- What is so of every name is so of these.
all_names : {P : Name → Type 0} (names : List Name) → ((n : Name) → P n) → All P names
all_names {P} [] each = All-nil P
all_names {P} (name ∷ names) each = All-cons P name names (each name) (all_names names each)

-- Children without an output make no file.
pub silent_none : (execs : List Command) → All (λ exec. exec.output ≡ None) execs → (n : Name) → is_output_of execs n ≡ false
silent_none [] silent n = refl
silent_none (exec ∷ execs) silent n =
    let here : is_output exec n ≡ false = ap (λ (o : Option Name). option_map_or (λ output. bytes_eq output n) o false) (All-head (λ (e : Command). e.output ≡ None) exec execs silent) in
    let there = silent_none execs (All-tail (λ (e : Command). e.output ≡ None) exec execs silent) n in
    λ i. here i || there i

-- They do not get in each other's way.
pub silent_apart : (execs : List Command) → All (λ exec. exec.output ≡ None) execs → OutputsApart execs
silent_apart [] silent = tt
silent_apart (exec ∷ execs) silent = (
  all_names exec.inputs (silent_none (exec ∷ execs) silent),
  (
    subst (λ (o : Option Name). IfSome o (λ output. is_output_of execs output ≡ false)) (sym (All-head (λ (e : Command). e.output ≡ None) exec execs silent)) tt,
    silent_apart execs (All-tail (λ (e : Command). e.output ≡ None) exec execs silent),
  ),
)
