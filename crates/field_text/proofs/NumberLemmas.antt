-- A text that is a number as a whole.
use Rattle.std.proofs.Common.{◌≡◌, ◌<◌, ℕ, zero, suc, ◌+◌, List, length, refl, sym, ◌∙◌, arith, Bool, true, false, cond, eqb, not, ◌&&◌}
use Rattle.std.specs.Prelude.{Some, None, Result, Err, if◌then◌else◌}
use Rattle.std.specs.Option.{option_map}
use Rattle.std.proofs.lemmas.Bool.{ne_eqb}
use Rattle.text_base.specs.Number.{number_of}
use Rattle.text_base.specs.Reading.{spelling_at, value_at}
use Rattle.text_base.specs.Value.{number_value}
use Rattle.text_base.specs.declared.number.Num.{Num}
use Rattle.text_base.specs.declared.num_fault.NumFault.{NumFault}
use Rattle.text_base.specs.declared.num_fault.NumFault.TheVariants.{NotNumber, NumberLong, NumberRange}
use Rattle.field_text.specs.Plain.{number_of_text}
use borrow.Author.Tests.{lt-leb, eqb-true}

abbrev pub spelled : List ℕ → ℕ
spelled t = length (spelling_at t 0)

-- a number at the front is the text's where it ends with the text
pub number_read : (t : List ℕ) (n : Num) (end : ℕ) → value_at t 0 ≡ Some (number_of n) → end ≡ 0 + spelled t → 0 < spelled t →
    option_map number_of (if eqb end (length t) then Some n else None) ≡ number_of_text t
unfolding number_of_text
number_read t n end v at some = step (eqb (spelled t) (length t)) refl
  where
    same : end ≡ spelled t
    same = omega arith

    step : (b : Bool) → eqb (spelled t) (length t) ≡ b → option_map number_of (if eqb end (length t) then Some n else None) ≡ number_of_text t
    step true e =
        let all : spelled t ≡ length t = eqb-true (spelled t) (length t) e in
        let not_empty : eqb (length t) 0 ≡ false = ne_eqb (length t) 0 (λ z. omega arith) in
        rw (same, e, not_empty, v) refl
    step false e = rw (same, e) (neither (eqb (length t) 0))
      where
        neither : (b : Bool) → None ≡ cond (not b && false) (value_at t 0) None
        neither true = refl
        neither false = refl

-- no number stands at the front
pub none_there : (t : List ℕ) → spelled t ≡ 0 → None ≡ number_of_text t
unfolding number_of_text
none_there t e = step (eqb (length t) 0) refl
  where
    step : (b : Bool) → eqb (length t) 0 ≡ b → None ≡ cond (not b && eqb (spelled t) (length t)) (value_at t 0) None
    step true z = refl
    step false z =
        let other : eqb (spelled t) (length t) ≡ false = ne_eqb (spelled t) (length t) (λ s. false_ne (length t) z (sym s ∙ e)) in
        rw other refl
      where
        false_ne : (n : ℕ) → eqb n 0 ≡ false → n ≡ 0 → ⊥
        false_ne zero f s = cc f
        false_ne (suc n) f s = absurd (omega (arith, s))

-- or one that has no value
pub no_value : (t : List ℕ) → value_at t 0 ≡ None → None ≡ number_of_text t
unfolding number_of_text
no_value t e = step (not (eqb (length t) 0) && eqb (spelled t) (length t))
  where
    step : (b : Bool) → None ≡ cond b (value_at t 0) None
    step true = sym e
    step false = refl

too_long : (t : List ℕ) → 64 < spelled t → value_at t 0 ≡ None
unfolding number_value
too_long t h = let long = lt-leb (spelled t) 64 h in rw long refl

pub refused : (t : List ℕ) (r : Result (Num × ℕ) NumFault) (f : NumFault) → r ≡ Err f → (r ≡ Err NotNumber → spelled t ≡ 0) → (r ≡ Err NumberLong → 64 < spelled t) →
    (r ≡ Err NumberRange → value_at t 0 ≡ None) → None ≡ number_of_text t
refused t r NotNumber e a b c = none_there t (a e)
refused t r NumberLong e a b c = no_value t (too_long t (b e))
refused t r NumberRange e a b c = no_value t (c e)
