-- The choices of a selector part by part, as loops meet them.
use Rattle.std.proofs.Common.{◌≡◌, ℕ, ◌+◌, ◌-◌, ◌<◌, ◌≤◌, List, [], ◌∷◌, ◌++◌, map, length, take, drop, get_or, Bool, true, false, ◌||◌, Result, Ok, Err, Vec, Box, Global, refl, sym, ap, ◌∙◌, append_assoc, append-nil, arith, length-append}
use Rattle.std.proofs.lemmas.Bool.{lt-ltb}
use Rattle.std.proofs.lemmas.Bool.Decides.{nat_tests}
use Rattle.std.proofs.lemmas.List.{drop_more, drop_all, map_more}
use Rattle.sel_lang.specs.Plain.{Plain, Plains, no_plains, a_plain, plains_of, list, first, merge, narrow, name, PlainFilter, plain_filter}
use Rattle.sel_lang.specs.View.{plain, node_plain}
use Rattle.sel_lang.specs.declared.sel.Sel.{Sel, Sel-F, fold-roll-Sel}
use Rattle.sel_lang.specs.declared.sel.Sel.TheVariants.{Narrow, Name, rolls-Narrow, rolls-Name}
use Rattle.sel_lang.specs.declared.filter.Filter.{Filter}
use Rattle.sel_lang.specs.declared.pick.Pick.{Pick}
use Rattle.sel_eval.specs.Placed.{Placed}
use Rattle.sel_eval.specs.Den.{Choices, den, den_each, large, any_large, first_large, joined, first_found, merged, product_count, is_over, meeting}
use Rattle.sel_eval.specs.Answer.{Answers}
use Rattle.sel_eval.specs.Merging.{IsMerging}
use Rattle.sel_eval.specs.Parts.{IsSamePart}
use Rattle.sel_eval.specs.Picks.{picks}
use Rattle.sel_eval.specs.declared.choice.Choice.{Choice}
use Rattle.sel_eval.specs.declared.merging.Merging.{Merging}
use Rattle.sel_eval.specs.declared.streams.Streams.{Streams}
use Rattle.sel_eval.specs.declared.choose_fault.ChooseFault.{ChooseFault}
use Rattle.sel_eval.specs.declared.choose_fault.ChooseFault.TheVariants as faults

-- a selector, by its kind
pub plain_narrow : (inner : Box Sel Global) (f : Filter) → plain (Narrow inner f) ≡ narrow (plain inner.value) (plain_filter f)
plain_narrow inner f = ap plain (sym (rolls-Narrow inner f)) ∙ fold-roll-Sel Plain node_plain (Sel-F.Narrow inner f)

pub plain_name : (pick : Pick) → plain (Name pick) ≡ name pick
plain_name pick = ap plain (sym (rolls-Name pick)) ∙ fold-roll-Sel Plain node_plain (Sel-F.Name pick)

-- a fault of a part is one of the whole, where what is too large for the part is too large for the whole
pub fault_passes : (e : ChooseFault) (xs ys : Choices) (l k : Bool) → (l ≡ true → k ≡ true) → Answers (Err e) xs l → Answers (Err e) ys k
fault_passes faults.TooMany xs ys l k h a = h a
fault_passes faults.OutOfMemory xs ys l k h a = tt

or_true : (b : Bool) → (b || true) ≡ true
or_true true = refl
or_true false = refl

-- more than 10,000 are too many, and as many are not
pub over : (n : ℕ) → 10000 < n → is_over n ≡ true
over n l = lt-ltb 10000 n l

pub not_over : (n : ℕ) → n ≤ 10000 → is_over n ≡ false
not_over n l = grind (arith, nat_tests)

-- the part at a place, and those behind it
pub next_part : (parts : List Sel) (i : ℕ) (part : Sel) → i < length parts → part ≡ get_or parts i part
    → plains_of (map plain (drop i parts)) ≡ a_plain (plain part) (plains_of (map plain (drop (i + 1) parts)))
next_part parts i part l is =
    ap (λ (z : List Sel). plains_of (map plain z)) (drop_more parts i part l)
    ∙ ap (λ (x : Sel). a_plain (plain x) (plains_of (map plain (drop (i + 1) parts)))) (sym is)

pub no_part : (parts : List Sel) (i : ℕ) → length parts ≤ i → plains_of (map plain (drop i parts)) ≡ no_plains
no_part parts i l = ap (λ (z : List Sel). plains_of (map plain z)) (drop_all i parts l)

module _ (streams : Streams) (both : Bool) (ps : List Placed) where
  -- the choices of one more part
  den_each_push : (xs : List Plain) (x : Plain) → den_each streams both (plains_of (xs ++ x ∷ [])) ps ≡ den_each streams both (plains_of xs) ps ++ den streams both x ps ∷ []
  unfolding den
  den_each_push [] x = refl
  den_each_push (y ∷ ys) x = ap (λ (z : List Choices). den streams both y ps ∷ z) (den_each_push ys x)

  pub parts_more : (parts : List Sel) (i : ℕ) (part : Sel) → i < length parts → part ≡ get_or parts i part
      → den_each streams both (plains_of (map plain (take (i + 1) parts))) ps ≡ den_each streams both (plains_of (map plain (take i parts))) ps ++ den streams both (plain part) ps ∷ []
  parts_more parts i part l is =
      ap (λ (z : List Plain). den_each streams both (plains_of z) ps) (map_more plain parts i part l)
      ∙ (ap (λ (x : Sel). den_each streams both (plains_of (map plain (take i parts) ++ plain x ∷ [])) ps) (sym is)
      ∙ den_each_push (map plain (take i parts)) (plain part))

  -- a part that is not too large
  pub any_more : (x : Plain) (xs : Plains) (total : Bool) → large streams both x ps ≡ false → any_large streams both (a_plain x xs) ps ≡ total → any_large streams both xs ps ≡ total
  unfolding den large
  any_more x xs total e h = rw e at h

  -- a part that is too large
  pub any_here : (x : Plain) (xs : Plains) (total : Bool) → any_large streams both (a_plain x xs) ps ≡ total → large streams both x ps ≡ true → total ≡ true
  unfolding den large
  any_here x xs total h e = sym h ∙ rw e refl

  -- the parts of a list
  pub list_more : (front choices : Choices) (x : Plain) (xs : Plains) (total : Choices) → choices ≡ den streams both x ps
      → front ++ joined (den_each streams both (a_plain x xs) ps) ≡ total → (front ++ choices) ++ joined (den_each streams both xs ps) ≡ total
  unfolding den
  list_more front choices x xs total e h =
      append_assoc front choices (joined (den_each streams both xs ps))
      ∙ (ap (λ (z : Choices). front ++ (z ++ joined (den_each streams both xs ps))) e ∙ h)

  pub list_over : (front choices : Choices) (x : Plain) (rest xs : Plains) → length front ≤ 10000 → 10000 - length front < length choices → choices ≡ den streams both x ps
      → front ++ joined (den_each streams both (a_plain x rest) ps) ≡ joined (den_each streams both xs ps) → large streams both (list xs) ps ≡ true
  unfolding den large
  list_over front choices x rest xs few many e h =
      let more = list_more front choices x rest _ e h in
      let long : 10000 < length (joined (den_each streams both xs ps)) =
      omega (arith, ap length more, length-append (front ++ choices) (joined (den_each streams both rest ps)), length-append front choices) in
      ap (λ (b : Bool). any_large streams both xs ps || b) (over _ long) ∙ or_true (any_large streams both xs ps)

  pub list_large : (xs : Plains) → any_large streams both xs ps ≡ true → large streams both (list xs) ps ≡ true
  unfolding den large
  list_large xs e = rw e refl

  pub list_done : (result : Vec Choice Global) (xs rest : Plains) → rest ≡ no_plains → length result.items ≤ 10000
      → result.items ++ joined (den_each streams both rest ps) ≡ joined (den_each streams both xs ps) → any_large streams both rest ps ≡ any_large streams both xs ps
      → Answers (Ok result) (den streams both (list xs) ps) (large streams both (list xs) ps)
  unfolding den large
  list_done result xs rest none few h k =
      let all : result.items ≡ joined (den_each streams both xs ps) = sym (append-nil result.items) ∙ (rw none at h) in
      let small : any_large streams both xs ps ≡ false = sym (rw none at k) in
      (all, rw small (ap (λ (z : Choices). is_over (length z)) (sym all) ∙ not_over (length result.items) few))

  -- alternatives
  pub first_more : (x : Plain) (xs : Plains) (total : Choices) → den streams both x ps ≡ [] → first_found (den_each streams both (a_plain x xs) ps) ≡ total
      → first_found (den_each streams both xs ps) ≡ total
  unfolding den
  first_more x xs total e h = rw e at h

  pub first_large_more : (x : Plain) (xs : Plains) (total : Bool) → large streams both x ps ≡ false → den streams both x ps ≡ [] → first_large streams both (a_plain x xs) ps ≡ total
      → first_large streams both xs ps ≡ total
  unfolding den large
  first_large_more x xs total small e h = rw (small, e) at h

  pub first_large_here : (x : Plain) (rest xs : Plains) → first_large streams both (a_plain x rest) ps ≡ first_large streams both xs ps → large streams both x ps ≡ true
      → large streams both (first xs) ps ≡ true
  unfolding den large
  first_large_here x rest xs h e = sym h ∙ rw e refl

  pub first_is : (result : Vec Choice Global) (choices : Choices) (x : Plain) (rest xs : Plains) → result.items ≡ choices → 0 < length choices → choices ≡ den streams both x ps
      → large streams both x ps ≡ false
      → first_found (den_each streams both (a_plain x rest) ps) ≡ first_found (den_each streams both xs ps)
      → first_large streams both (a_plain x rest) ps ≡ first_large streams both xs ps
      → Answers (Ok result) (den streams both (first xs) ps) (large streams both (first xs) ps)
  unfolding den large
  first_is result [] x rest xs is some e small h k = absurd (omega arith)
  first_is result (c ∷ cs) x rest xs is some e small h k =
      (is ∙ (rw (← e) at h), sym k ∙ rw (small, ← e) refl)

  pub first_none : (result : Vec Choice Global) (xs rest : Plains) → rest ≡ no_plains → result.items ≡ []
      → first_found (den_each streams both rest ps) ≡ first_found (den_each streams both xs ps)
      → first_large streams both rest ps ≡ first_large streams both xs ps
      → Answers (Ok result) (den streams both (first xs) ps) (large streams both (first xs) ps)
  unfolding den large
  first_none result xs rest none is h k = (is ∙ (rw none at h), sym (rw none at k))

  -- merges
  pub no_parts : (m : Merging) → IsMerging streams [] m → IsMerging streams (den_each streams both no_plains ps) m
  unfolding den
  no_parts m is = is

  pub merge_more : (parts : List Sel) (i : ℕ) (part : Sel) (m n : Merging) (choices : Choices) → i < length parts → part ≡ get_or parts i part → choices ≡ den streams both (plain part) ps
      → ((front : List Choices) → IsMerging streams front m → IsMerging streams (front ++ choices ∷ []) n)
      → IsMerging streams (den_each streams both (plains_of (map plain (take i parts))) ps) m
      → IsMerging streams (den_each streams both (plains_of (map plain (take (i + 1) parts))) ps) n
  merge_more parts i part m n choices l is e step so_far = rw (parts_more parts i part l is, ← e) (step _ so_far)

  pub merge_done : (r : Result (Vec Choice Global) ChooseFault) (xs rest : Plains) → rest ≡ no_plains → any_large streams both rest ps ≡ any_large streams both xs ps
      → Answers r (merged streams (den_each streams both xs ps)) (is_over (product_count (den_each streams both xs ps)))
      → Answers r (den streams both (merge xs) ps) (large streams both (merge xs) ps)
  unfolding den large
  merge_done r xs rest none k a =
      let small : any_large streams both xs ps ≡ false = sym (rw none at k) in
      rw small a

  pub merge_large : (xs : Plains) → any_large streams both xs ps ≡ true → large streams both (merge xs) ps ≡ true
  unfolding den large
  merge_large xs e = rw e refl

-- what stands behind a filter
pub narrow_same : (x y : Plain) (f : PlainFilter) (ps qs : List Placed) → IsSamePart (narrow x f) ps y qs → IsSamePart x (meeting f ps) y qs
unfolding den large
narrow_same x y f ps qs h = record { same_den = h.same_den; same_large = h.same_large }

-- an answer for the one is an answer for the other
pub same_answer : (r : Result (Vec Choice Global) ChooseFault) (streams : Streams) (both : Bool) (x y : Plain) (ps qs : List Placed) → IsSamePart x ps y qs
    → Answers r (den streams both x ps) (large streams both x ps) → Answers r (den streams both y qs) (large streams both y qs)
same_answer r streams both x y ps qs h a = rw (← h.same_den streams both, ← h.same_large streams both) a

pub narrow_answer : (r : Result (Vec Choice Global) ChooseFault) (streams : Streams) (both : Bool) (x : Plain) (f : PlainFilter) (ps : List Placed)
    → Answers r (den streams both x (meeting f ps)) (large streams both x (meeting f ps)) → Answers r (den streams both (narrow x f) ps) (large streams both (narrow x f) ps)
unfolding den large
narrow_answer r streams both x f ps a = a

pub name_answer : (r : Result (Vec Choice Global) ChooseFault) (streams : Streams) (both : Bool) (pick : Pick) (ps : List Placed)
    → Answers r (picks streams both pick ps) (is_over (length (picks streams both pick ps))) → Answers r (den streams both (name pick) ps) (large streams both (name pick) ps)
unfolding den large
name_answer r streams both pick ps a = a
