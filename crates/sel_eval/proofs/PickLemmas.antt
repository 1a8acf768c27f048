-- What loops over candidates know.
use Rattle.std.proofs.Common.{◌≡◌, ℕ, zero, suc, ◌+◌, ◌-◌, ◌<◌, ◌≤◌, List, [], ◌∷◌, ◌++◌, map, filter, length, take, drop, get_or, slice_get, Bool, true, false, cond, Option, Some, None, refl, sym, ap, ◌∙◌, arith, length-append}
use Rattle.std.proofs.lemmas.List.{length-map, take-append-drop}
use Rattle.std.proofs.lemmas.List.Elements.{filter-append}
use Rattle.std.proofs.lemmas.List.Filters.{length-filter_more}
use Rattle.sel_eval.specs.Placed.{Placed, has_stream}
use Rattle.sel_eval.specs.Picks.{nth, alone, at_most_one, is_choice}
use Rattle.sel_eval.specs.Den.{Choices, is_over}
use Rattle.sel_eval.proofs.DenLemmas.{over}

-- the n-th counts from 1
pub nth_back : (n : ℕ) (ps : List Placed) → 0 < n → slice_get ps (n - 1) ≡ nth n ps
nth_back zero ps l = absurd (omega arith)
nth_back (suc k) ps l =
    let e : suc k - 1 ≡ k = omega arith in
    ap (slice_get ps) e

-- one that passes is among the passing ones of the whole
one_more_passes : (test : Placed → Bool) (ps : List Placed) (i : ℕ) (p : Placed) → i < length ps → p ≡ get_or ps i p → test p ≡ true
    → length (filter test (take i ps)) + 1 ≤ length (filter test ps)
one_more_passes test ps i p l is passing =
    let pass : test (get_or ps i p) ≡ true = ap test (sym is) ∙ passing in
    let more : length (filter test (take (i + 1) ps)) ≡ length (filter test (take i ps)) + 1 =
    length-filter_more test ps i p l ∙ ap (λ (b : Bool). length (filter test (take i ps)) + cond b 1 0) pass in
    let whole : filter test ps ≡ filter test (take (i + 1) ps) ++ filter test (drop (i + 1) ps) =
    ap (filter test) (sym (take-append-drop (i + 1) ps)) ∙ filter-append test (take (i + 1) ps) (drop (i + 1) ps) in
    omega (arith, more, ap length whole, length-append (filter test (take (i + 1) ps)) (filter test (drop (i + 1) ps)))

-- where 10,000 stand before one more, all are too many
pub all_over : (ps : List Placed) (i : ℕ) (p : Placed) (choices : Choices) → i < length ps → p ≡ get_or ps i p → has_stream p ≡ true
    → choices ≡ map alone (filter has_stream (take i ps)) → 10000 ≡ length choices → is_over (length (map alone (filter has_stream ps))) ≡ true
all_over ps i p choices l is passing e many =
    over _ (omega (arith, one_more_passes has_stream ps i p l is passing, ap length e, length-map (filter has_stream (take i ps)) alone, length-map (filter has_stream ps) alone))

-- one choice is not too many
pub one_is_few : (only : Option Placed) → is_over (length (at_most_one only)) ≡ false
one_is_few None = refl
one_is_few (Some p) = refl

pub merged_is_few : (c : List Placed) → is_over (length (filter is_choice (c ∷ []))) ≡ false
merged_is_few [] = refl
merged_is_few (p ∷ ps) = refl
