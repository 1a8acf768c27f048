-- A part stands in a text exactly where the search for it finds a place.
use Rattle.std.proofs.Common.{◌≡◌, ℕ, zero, suc, ◌+◌, ◌≤◌, List, [], ◌∷◌, length, take, get_or, Bool, true, false, ◌||◌, nat_eq, Option, Some, None, is_some, refl, sym, ap, ◌∙◌, arith}
use Rattle.std.specs.List.{starts_with}
use Rattle.std.specs.Cmp.Lexicographic.{same_text, other_text}
use Rattle.std.proofs.lemmas.Bool.{true_from_ne_false, false_from_ne_true}
use Rattle.std.proofs.lemmas.List.{ext_get_or, length-take, length-take-le, get_or-take}
use Rattle.memchr.specs.Find.{OccursAt, FindsNeedle}
use Rattle.sel_eval.specs.Holds.{contains}

starts_here : (text part : List ℕ) → OccursAt text part 0 → starts_with nat_eq text part ≡ true
starts_here text part o =
    let e : part ≡ take (length part) text =
    ext_get_or 0 part (take (length part) text) (sym (length-take-le (length part) text (omega (arith, o.fits)))) (λ i l.
    let from : 0 + i ≡ i = omega arith in
    sym (o.reads i l) ∙ (ap (λ (j : ℕ). get_or text j 0) from ∙ sym (get_or-take (length part) text i 0 l))) in
    true_from_ne_false _ (λ no. other_text part (take (length part) text) (sym no) e)

occurs_here : (text part : List ℕ) → starts_with nat_eq text part ≡ true → OccursAt text part 0
occurs_here text part begins =
    let e : part ≡ take (length part) text = same_text part (take (length part) text) (sym begins) in
    let fits : length part ≤ length text = omega (arith, ap length e, length-take (length part) text) in
    record {
      fits = omega arith;
      reads = λ j l.
          let from : 0 + j ≡ j = omega arith in
          ap (λ (i : ℕ). get_or text i 0) from ∙ (sym (get_or-take (length part) text j 0 l) ∙ ap (λ (z : List ℕ). get_or z j 0) (sym e));
    }

or_true : (b : Bool) → (b || true) ≡ true
or_true true = refl
or_true false = refl

contains_at : (text part : List ℕ) (k : ℕ) → OccursAt text part k → contains text part ≡ true
contains_at [] part zero o = starts_here [] part o
contains_at [] part (suc k) o = absurd (omega (arith, o.fits))
contains_at (b ∷ bs) part zero o = ap (λ (c : Bool). c || contains bs part) (starts_here (b ∷ bs) part o)
contains_at (b ∷ bs) part (suc k) o =
    let later : OccursAt bs part k = record {
      fits = omega (arith, o.fits);
      reads = λ j l.
          let on : suc k + j ≡ suc (k + j) = omega arith in
          ap (λ (i : ℕ). get_or (b ∷ bs) i 0) (sym on) ∙ o.reads j l;
    } in
    ap (λ (c : Bool). starts_with nat_eq (b ∷ bs) part || c) (contains_at bs part k later) ∙ or_true (starts_with nat_eq (b ∷ bs) part)

-- it occurs at some place
abbrev Occurs : List ℕ → List ℕ → Type 0
Occurs text part = (k : ℕ) × (k ≤ length text) × OccursAt text part k

contains_by : (text part : List ℕ) (here : Bool) (b : ℕ) → starts_with nat_eq (b ∷ text) part ≡ here → (contains text part ≡ true → Occurs text part)
    → (here || contains text part) ≡ true → Occurs (b ∷ text) part
contains_by text part true b e later is = (0, omega arith, occurs_here (b ∷ text) part e)
contains_by text part false b e later is =
    let w = later is in
    let k = w.0 in
    let o : OccursAt text part k = w.2 in (
      suc k,
      omega (arith, w.1),
      record {
        fits = omega (arith, o.fits);
        reads = λ j l.
            let on : suc k + j ≡ suc (k + j) = omega arith in
            ap (λ (i : ℕ). get_or (b ∷ text) i 0) on ∙ o.reads j l;
      },
    )

occurs : (text part : List ℕ) → contains text part ≡ true → Occurs text part
occurs [] part is = (0, omega arith, occurs_here [] part is)
occurs (b ∷ bs) part is = contains_by bs part (starts_with nat_eq (b ∷ bs) part) b refl (occurs bs part) is

-- a search that finds a place tells that the part stands in the text
pub found_contains : (text part : List ℕ) (found : Option ℕ) → FindsNeedle text part 0 found → is_some found ≡ contains text part
found_contains text part None h = sym (false_from_ne_true (contains text part) (λ is.
    let w = occurs text part is in h w.0 (omega arith) (omega (arith, w.1)) w.2))
found_contains text part (Some k) h = sym (contains_at text part k h.1)
