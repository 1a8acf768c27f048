-- A sum that goes on, number by number.
use Rattle.std.proofs.Common.{◌≡◌, List, [], ◌∷◌, refl, sym, ap, subst, ◌∙◌, arith, Bool, true, false, cond}
use Rattle.std.specs.Prelude.{Option, Some, None, ℤ, pos, ◌+ℤ◌, ◌&&◌}
use Rattle.std.specs.Option.{option_map, option_and_then}
use Rattle.std.proofs.lemmas.Int.{ints}
use Rattle.text_base.specs.Number.{Number}
use Rattle.text_base.specs.Arithmetic.{nano_of, whole_in_range, decimal_in_range}
use Rattle.info_item.specs.Sums.{all_known, is_whole, whole_part, all_whole, whole_total, nano_total, sum_of, nano_in, Adds, number_in_range}
use Rattle.info_item.specs.declared.sums.Sum.{Sum}

-- the sum of all, where these numbers are still to come
abbrev pub after : Sum → List Number → Option Number
after s ns = cond (s.is_whole && all_whole ns) (whole_in_range (s.whole +ℤ whole_total ns)) (decimal_in_range (nano_in s +ℤ nano_total ns))

and-assoc : (a b c : Bool) → (a && (b && c)) ≡ ((a && b) && c)
and-assoc true b c = refl
and-assoc false b c = refl

and-true : (a : Bool) → (a && true) ≡ a
and-true true = refl
and-true false = refl

plus-assoc : (a b c : ℤ) → a +ℤ (b +ℤ c) ≡ (a +ℤ b) +ℤ c
plus-assoc a b c = omega (arith, ints)

plus-zero : (a : ℤ) → a +ℤ pos 0 ≡ a
plus-zero a = omega (arith, ints)

zero-plus : (a : ℤ) → pos 0 +ℤ a ≡ a
zero-plus a = omega (arith, ints)

after-more : (s t : Sum) (n : Number) (ns : List Number) → Adds s n t → after s (n ∷ ns) ≡ after t ns
after-more s t n ns adds =
    let kind : (s.is_whole && (is_whole n && all_whole ns)) ≡ (t.is_whole && all_whole ns) =
    and-assoc s.is_whole (is_whole n) (all_whole ns) ∙ ap (λ b. b && all_whole ns) (sym adds.kind) in
    let whole : s.whole +ℤ (whole_part n +ℤ whole_total ns) ≡ t.whole +ℤ whole_total ns =
    plus-assoc s.whole (whole_part n) (whole_total ns) ∙ ap (λ z. z +ℤ whole_total ns) (sym adds.whole) in
    let nano : nano_in s +ℤ (nano_of n +ℤ nano_total ns) ≡ nano_in t +ℤ nano_total ns =
    plus-assoc (nano_in s) (nano_of n) (nano_total ns) ∙ ap (λ z. z +ℤ nano_total ns) (sym adds.nano) in
    λ i. cond (kind i) (whole_in_range (whole i)) (decimal_in_range (nano i))

known-more : (s t : Sum) (n : Number) (o : Option (List Number)) → Adds s n t →
    option_and_then (after s) (option_map (λ ns. n ∷ ns) o) ≡ option_and_then (after t) o
known-more s t n None adds = refl
known-more s t n (Some ns) adds = after-more s t n ns adds

-- one more number that is known
pub sum-step : (s t : Sum) (n : Number) (all rest : List (Option Number)) (goal : Option Number) → all ≡ Some n ∷ rest → Adds s n t →
    option_and_then (after s) (all_known all) ≡ goal → option_and_then (after t) (all_known rest) ≡ goal
sum-step s t n all rest goal e adds before =
    sym (known-more s t n (all_known rest) adds) ∙ subst (λ (l : List (Option Number)). option_and_then (after s) (all_known l) ≡ goal) e before

-- one that is not
pub sum-unknown : (s : Sum) (all rest : List (Option Number)) (goal : Option Number) → all ≡ None ∷ rest →
    option_and_then (after s) (all_known all) ≡ goal → None ≡ goal
sum-unknown s all rest goal e before = subst (λ (l : List (Option Number)). option_and_then (after s) (all_known l) ≡ goal) e before

-- no more numbers
pub sum-end : (s : Sum) (all : List (Option Number)) (goal : Option Number) → all ≡ [] →
    option_and_then (after s) (all_known all) ≡ goal → number_in_range s ≡ goal
sum-end s all goal e before =
    let kind : s.is_whole ≡ (s.is_whole && true) = sym (and-true s.is_whole) in
    let whole : s.whole ≡ s.whole +ℤ pos 0 = sym (plus-zero s.whole) in
    let nano : nano_in s ≡ nano_in s +ℤ pos 0 = sym (plus-zero (nano_in s)) in
    let last : number_in_range s ≡ after s [] = λ i. cond (kind i) (whole_in_range (whole i)) (decimal_in_range (nano i)) in
    last ∙ subst (λ (l : List (Option Number)). option_and_then (after s) (all_known l) ≡ goal) e before

after-none : (o : Option (List Number)) → option_and_then (after (record { is_whole = true; whole = pos 0; carries = pos 0; nano = pos 0 })) o ≡ option_and_then sum_of o
after-none None = refl
after-none (Some ns) =
    let zero : nano_in (record { is_whole = true; whole = pos 0; carries = pos 0; nano = pos 0 }) ≡ pos 0 = omega (arith, ints) in
    λ i. cond (all_whole ns) (whole_in_range (zero-plus (whole_total ns) i)) (decimal_in_range ((ap (λ z. z +ℤ nano_total ns) zero ∙ zero-plus (nano_total ns)) i))

-- all numbers are still to come
pub sum-begin : (all : List (Option Number)) →
    option_and_then (after (record { is_whole = true; whole = pos 0; carries = pos 0; nano = pos 0 })) (all_known all) ≡ option_and_then sum_of (all_known all)
sum-begin all = after-none (all_known all)
