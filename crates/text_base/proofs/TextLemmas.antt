-- The decimals of a count, one after another.
use Rattle.std.proofs.Common.{◌≡◌, ◌≤◌, ◌<◌, ◌+◌, ◌-◌, ◌*◌, ◌/◌, ◌%◌, ◌^◌, ℕ, List, [], ◌∷◌, ◌++◌, false, cond, eqb, refl, ap, ◌∙◌, arith, append_assoc, subst, zero, suc, inl, inr, ◌&&◌}
use Rattle.std.proofs.Math.Nat.{pow-suc, mul-le-mul_left}
use Rattle.std.proofs.lemmas.Bool.{cases_lt, ne_eqb}
use Rattle.std.specs.List.{list_all}
use Rattle.text_base.specs.NumberText.{padded, trimmed}
use Rattle.text_base.proofs.PlacesLemmas.{power_positive}

zero_parts : (p q r m : ℕ) → 1 ≤ p → p * q + r ≡ m → (eqb (48 + q) 48 && eqb r 0) ≡ eqb m 0
zero_parts p zero r m l e = let n : r ≡ m = omega arith in rw n refl
zero_parts p (suc q) r m l e =
    let a : eqb (48 + suc q) 48 ≡ false = ne_eqb (48 + suc q) 48 (λ z. omega arith) in
    let b : p * 1 ≤ p * suc q = mul-le-mul_left p (omega arith) in
    let c : eqb m 0 ≡ false = ne_eqb m 0 (λ z. omega arith) in
    rw a (rw c refl)

padded_zeros : (k m : ℕ) → m < 10 ^ k → list_all (λ b. eqb b 48) (padded k m) ≡ eqb m 0
unfolding padded
padded_zeros zero m l = let z : m ≡ 0 = omega arith in rw z refl
padded_zeros (suc k) m l =
    let p = power_positive k in
    let r : m % 10 ^ k < 10 ^ k = omega arith in
    let e : 10 ^ k * (m / 10 ^ k) + m % 10 ^ k ≡ m = omega arith in
    rw (padded_zeros k (m % 10 ^ k) r) (zero_parts (10 ^ k) (m / 10 ^ k) (m % 10 ^ k) m p e)

-- the first decimal, and more where something is left
pub trimmed_step : (k n : ℕ) → trimmed (padded (suc k) n) ≡ (48 + n / 10 ^ k) ∷ cond (eqb (n % 10 ^ k) 0) [] (trimmed (padded k (n % 10 ^ k)))
unfolding padded trimmed
trimmed_step k n =
    let p = power_positive k in
    let r : n % 10 ^ k < 10 ^ k = omega arith in
    rw (padded_zeros k (n % 10 ^ k) r) refl

-- a digit of a count is below 10
pub digit_below : (k n : ℕ) → n < 10 ^ suc k → n / 10 ^ k < 10
digit_below k n l =
    let p = power_positive k in
    let s : 10 ^ suc k ≡ 10 ^ k * 10 = pow-suc 10 k in
    let e : 10 ^ k * (n / 10 ^ k) + n % 10 ^ k ≡ n = omega arith in
    elim (cases_lt (n / 10 ^ k) 10) [
      | inl h ↦ h
      | inr h ↦ let m : 10 ^ k * 10 ≤ 10 ^ k * (n / 10 ^ k) = mul-le-mul_left (10 ^ k) h in absurd (omega arith)
    ]

last_place : (k n : ℕ) (before after : List ℕ) → after ≡ before ++ (48 + n / 10 ^ k) ∷ [] → n % 10 ^ k ≡ 0 → after ≡ before ++ trimmed (padded (suc k) n)
last_place k n before after e z =
    let t : trimmed (padded (suc k) n) ≡ (48 + n / 10 ^ k) ∷ [] = trimmed_step k n ∙ rw z refl in
    rw t e

more_places : (k n : ℕ) (before after : List ℕ) → after ≡ before ++ (48 + n / 10 ^ k) ∷ [] → (n % 10 ^ k ≡ 0 → ⊥) → after ++ trimmed (padded k (n % 10 ^ k)) ≡ before ++ trimmed (padded (suc k) n)
more_places k n before after e z =
    let t : trimmed (padded (suc k) n) ≡ (48 + n / 10 ^ k) ∷ trimmed (padded k (n % 10 ^ k)) = trimmed_step k n ∙ rw (ne_eqb (n % 10 ^ k) 0 z) refl in
    rw t (rw e (append_assoc before ((48 + n / 10 ^ k) ∷ []) (trimmed (padded k (n % 10 ^ k)))))

-- the same where the places are counted from the other end
pub text_done : (places n p : ℕ) (before after : List ℕ) → 0 < places → p ≡ 10 ^ (places - 1) → after ≡ before ++ (48 + n / p) ∷ [] → n % p ≡ 0 → after ≡ before ++ trimmed (padded places n)
text_done places n p before after l h e z =
    let s : suc (places - 1) ≡ places = omega arith in
    rw (← s) (last_place (places - 1) n before after (rw (← h) e) (rw (← h) z))

pub text_more : (places n p : ℕ) (before after : List ℕ) → 0 < places → p ≡ 10 ^ (places - 1) → after ≡ before ++ (48 + n / p) ∷ [] → (n % p ≡ 0 → ⊥) → after ++ trimmed (padded (places - 1) (n % p)) ≡ before ++ trimmed (padded places n)
text_more places n p before after l h e z =
    let s : suc (places - 1) ≡ places = omega arith in
    rw h (subst (λ m. after ++ trimmed (padded (places - 1) (n % 10 ^ (places - 1))) ≡ before ++ trimmed (padded m n)) s
    (more_places (places - 1) n before after (rw (← h) e) (rw (← h) z)))

-- what is left after the last place is nothing
pub no_place_left : (places n p : ℕ) → 0 < places → p ≡ 10 ^ (places - 1) → (n % p ≡ 0 → ⊥) → 0 < places - 1
no_place_left places n p l h z = elim (cases_lt 1 places) [
  | inl m ↦ omega arith
  | inr m ↦
      let e : places - 1 ≡ 0 = omega arith in
      let o : p ≡ 10 ^ 0 = h ∙ ap (λ x. 10 ^ x) e in
      let d : n % p ≡ 0 = rw o (omega arith) in
      absurd (z d)
]

pub rest_below : (k n p : ℕ) → p ≡ 10 ^ k → n % p < 10 ^ k
rest_below k n p h = let q = power_positive k in rw h (omega arith)

pub digit_of_place : (places n p : ℕ) → 0 < places → p ≡ 10 ^ (places - 1) → n < 10 ^ places → n / p < 10
digit_of_place places n p l h b =
    let s : places ≡ suc (places - 1) = omega arith in
    let b' : n < 10 ^ suc (places - 1) = rw s at b in
    rw h (digit_below (places - 1) n b')
