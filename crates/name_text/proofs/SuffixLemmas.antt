-- The power that a size is counted in, by repeated division.
use Rattle.std.proofs.Common.{◌≡◌, ◌⊎◌, ℕ, zero, suc, ◌+◌, ◌/◌, ◌^◌, ◌<◌, ◌≤◌, cond, leb, refl, sym, ap, ◌∙◌, arith, inl, inr, add-one}
use Rattle.std.proofs.Math.Nat.{pow-suc, div-div-eq-div-mul}
use Rattle.std.proofs.lemmas.Bool.Decides.{nat_tests}
use Rattle.name_text.specs.Suffix.{power_within}

-- dividing once more by the factor divides by its next power
pub next_power : (size factor power : ℕ) → size / factor ^ power / factor ≡ size / factor ^ (power + 1)
next_power size factor power = div-div-eq-div-mul size (factor ^ power) factor ∙ ap (λ p. size / p) (sym (pow-suc factor power)) ∙ ap (λ n. size / factor ^ n) (sym (add-one power))

-- the greatest power is the one that the size reaches, and whose next it does not
greatest : (a b c d e size : ℕ) → a ≤ b → b ≤ c → c ≤ d → d ≤ e → (power : ℕ) →
    ((power ≡ 0) × (size < a)) ⊎ (((power ≡ 1) × (a ≤ size) × (size < b)) ⊎ (((power ≡ 2) × (b ≤ size) × (size < c)) ⊎ (((power ≡ 3) × (c ≤ size) × (size < d))
    ⊎ (((power ≡ 4) × (d ≤ size) × (size < e)) ⊎ ((power ≡ 5) × (e ≤ size)))))) →
    cond (leb e size) 5 (cond (leb d size) 4 (cond (leb c size) 3 (cond (leb b size) 2 (cond (leb a size) 1 0)))) ≡ power
greatest a b c d e size ab bc cd de power h = grind (arith, nat_tests)

not_none : (n count : ℕ) → (suc n ≡ 0) ⊎ (1 ≤ count) → 1 ≤ count
not_none n count (inl e) = absurd (omega (arith, e))
not_none n count (inr h) = h

of_thousand : (size count power : ℕ) → power ≤ 5 → count ≡ size / 1000 ^ power → (power ≡ 0) ⊎ (1 ≤ count) → (power < 5 → count < 1000) → power_within 1000 size ≡ power
of_thousand size count zero few e reached stops =
    let below : count < 1000 = stops (omega arith) in
    greatest 1000 (1000 ^ 2) (1000 ^ 3) (1000 ^ 4) (1000 ^ 5) size (omega arith) (omega arith) (omega arith) (omega arith) 0 (inl (refl, omega arith))
of_thousand size count (suc zero) few e reached stops =
    let some = not_none 0 count reached in
    let below : count < 1000 = stops (omega arith) in
    greatest 1000 (1000 ^ 2) (1000 ^ 3) (1000 ^ 4) (1000 ^ 5) size (omega arith) (omega arith) (omega arith) (omega arith) 1 (inr (inl (refl, omega arith, omega arith)))
of_thousand size count (suc (suc zero)) few e reached stops =
    let some = not_none 1 count reached in
    let below : count < 1000 = stops (omega arith) in
    greatest 1000 (1000 ^ 2) (1000 ^ 3) (1000 ^ 4) (1000 ^ 5) size (omega arith) (omega arith) (omega arith) (omega arith) 2 (inr (inr (inl (refl, omega arith, omega arith))))
of_thousand size count (suc (suc (suc zero))) few e reached stops =
    let some = not_none 2 count reached in
    let below : count < 1000 = stops (omega arith) in
    greatest 1000 (1000 ^ 2) (1000 ^ 3) (1000 ^ 4) (1000 ^ 5) size (omega arith) (omega arith) (omega arith) (omega arith) 3 (inr (inr (inr (inl (refl, omega arith, omega arith)))))
of_thousand size count (suc (suc (suc (suc zero)))) few e reached stops =
    let some = not_none 3 count reached in
    let below : count < 1000 = stops (omega arith) in
    greatest 1000 (1000 ^ 2) (1000 ^ 3) (1000 ^ 4) (1000 ^ 5) size (omega arith) (omega arith) (omega arith) (omega arith) 4 (inr (inr (inr (inr (inl (refl, omega arith, omega arith))))))
of_thousand size count (suc (suc (suc (suc (suc zero))))) few e reached stops =
    let some = not_none 4 count reached in
    greatest 1000 (1000 ^ 2) (1000 ^ 3) (1000 ^ 4) (1000 ^ 5) size (omega arith) (omega arith) (omega arith) (omega arith) 5 (inr (inr (inr (inr (inr (refl, omega arith))))))
of_thousand size count (suc (suc (suc (suc (suc (suc power)))))) few e reached stops = absurd (omega arith)

of_1024 : (size count power : ℕ) → power ≤ 5 → count ≡ size / 1024 ^ power → (power ≡ 0) ⊎ (1 ≤ count) → (power < 5 → count < 1024) → power_within 1024 size ≡ power
of_1024 size count zero few e reached stops =
    let below : count < 1024 = stops (omega arith) in
    greatest 1024 (1024 ^ 2) (1024 ^ 3) (1024 ^ 4) (1024 ^ 5) size (omega arith) (omega arith) (omega arith) (omega arith) 0 (inl (refl, omega arith))
of_1024 size count (suc zero) few e reached stops =
    let some = not_none 0 count reached in
    let below : count < 1024 = stops (omega arith) in
    greatest 1024 (1024 ^ 2) (1024 ^ 3) (1024 ^ 4) (1024 ^ 5) size (omega arith) (omega arith) (omega arith) (omega arith) 1 (inr (inl (refl, omega arith, omega arith)))
of_1024 size count (suc (suc zero)) few e reached stops =
    let some = not_none 1 count reached in
    let below : count < 1024 = stops (omega arith) in
    greatest 1024 (1024 ^ 2) (1024 ^ 3) (1024 ^ 4) (1024 ^ 5) size (omega arith) (omega arith) (omega arith) (omega arith) 2 (inr (inr (inl (refl, omega arith, omega arith))))
of_1024 size count (suc (suc (suc zero))) few e reached stops =
    let some = not_none 2 count reached in
    let below : count < 1024 = stops (omega arith) in
    greatest 1024 (1024 ^ 2) (1024 ^ 3) (1024 ^ 4) (1024 ^ 5) size (omega arith) (omega arith) (omega arith) (omega arith) 3 (inr (inr (inr (inl (refl, omega arith, omega arith)))))
of_1024 size count (suc (suc (suc (suc zero)))) few e reached stops =
    let some = not_none 3 count reached in
    let below : count < 1024 = stops (omega arith) in
    greatest 1024 (1024 ^ 2) (1024 ^ 3) (1024 ^ 4) (1024 ^ 5) size (omega arith) (omega arith) (omega arith) (omega arith) 4 (inr (inr (inr (inr (inl (refl, omega arith, omega arith))))))
of_1024 size count (suc (suc (suc (suc (suc zero))))) few e reached stops =
    let some = not_none 4 count reached in
    greatest 1024 (1024 ^ 2) (1024 ^ 3) (1024 ^ 4) (1024 ^ 5) size (omega arith) (omega arith) (omega arith) (omega arith) 5 (inr (inr (inr (inr (inr (refl, omega arith))))))
of_1024 size count (suc (suc (suc (suc (suc (suc power)))))) few e reached stops = absurd (omega arith)

-- the power at which dividing stops is the greatest
pub stops_at_greatest : (factor : ℕ) → (factor ≡ 1000) ⊎ (factor ≡ 1024) → (size count power : ℕ) → power ≤ 5 → count ≡ size / factor ^ power →
    (power ≡ 0) ⊎ (1 ≤ count) → (power < 5 → count < factor) → power_within factor size ≡ power
stops_at_greatest factor (inl e) size count power few c r s =
    rw e (of_thousand size count power few (rw e at c) r (λ l. rw e at (s l)))
stops_at_greatest factor (inr e) size count power few c r s =
    rw e (of_1024 size count power few (rw e at c) r (λ l. rw e at (s l)))

-- a factor that is not above a count is contained in it
pub still_some : (factor count : ℕ) → (factor ≡ 1000) ⊎ (factor ≡ 1024) → factor ≤ count → 1 ≤ count / factor
still_some factor count (inl e) l = let h : 1000 ≤ count = rw e at l in rw e (omega arith)
still_some factor count (inr e) l = let h : 1024 ≤ count = rw e at l in rw e (omega arith)
