-- What digits count, as std's `parse` reads them.
use Rattle.std.proofs.Common.{◌≡◌, ℕ, zero, suc, ◌+◌, ◌*◌, ◌-◌, ◌<◌, ◌≤◌, Bool, true, false, cond, eqb, ltb, List, [], ◌∷◌, length, take, drop, get_or, fold, Result, Ok, Err, refl, sym, ap, subst, ◌∙◌, arith, inl, inr}
use Rattle.std.specs.Prelude.{◌==◌, ℤ, pos, negsuc}
use Rattle.std.specs.Int.{IsInRange, w64}
use Rattle.std.specs.Result.{OkIff}
use Rattle.std.specs.Str.Parse.{ParsesSigned, ParsesUnsigned}
use Rattle.std.proofs.Math.IntN.{neg_ℤ}
use Rattle.std.specs.List.{prefix_len}
use Rattle.std.proofs.lemmas.Bool.{and_parts, and_from, leb-true, le-leb, ne_eqb, eqb-true, eqb-false, ltb-false}
use Rattle.std.proofs.lemmas.List.Folds.{length-prefix_len}
use Rattle.std.proofs.lemmas.Str.Parse.{IsDigitsTest, IsNumeralModel, numerals_by_fold, digits_value_short, parse_gives, parse_signed_minus, parse_signed_digits}
use Rattle.text_base.specs.Spelling.{is_digit}
use Rattle.text_base.specs.Value.{digits_value, signed}
use Rattle.read_base.specs.Reads.{is_at}
use Rattle.read_base.specs.Spelled.{AreAll}
use Rattle.read_base.proofs.StepLemmas.{bind_ok, ok_is, chosen, run_all}
use Rattle.tpl_lang.specs.declared.tpl_kind.TplKind.{TplKind}
use Rattle.tpl_lang.specs.Bytes.{has_word}
use Rattle.tpl_lang.specs.Ints.{minus_length, int_value, int_length, int_at}

in_range : (c : ℕ) → is_digit c ≡ true → IsInRange 48 57 c
in_range c h = let two = and_parts _ _ h in (leb-true 48 c two.0, leb-true c 57 two.1)

is_in_range : (c : ℕ) → IsInRange 48 57 c → is_digit c ≡ true
is_in_range c h = and_from _ _ (le-leb 48 c h.0) (le-leb c 57 h.1)

tells : IsDigitsTest (AreAll is_digit)
tells = record { empty = tt; parts = λ c cs h. (in_range c h.0, h.1); more = λ c cs r h. (is_in_range c r, h) }

own : IsNumeralModel (AreAll is_digit) digits_value
own = numerals_by_fold (AreAll is_digit) tells (λ (n : ℕ) (ds : List ℕ). fold (λ m b. 10 * m + (b - 48)) n ds)
    (record { empty = λ n. refl; more = λ n c cs r. ap (λ (k : ℕ). fold (λ m b. 10 * m + (b - 48)) k cs) (omega arith) })

-- a width and a precision fit
pub count_parses : {E : Type 0} (ds : List ℕ) (r : Result ℕ E) → ParsesUnsigned 32 10 ds r → AreAll is_digit ds → 0 < length ds → length ds ≤ 5 → r ≡ Ok (digits_value ds)
count_parses ds r h all some few = parse_gives own 32 ds r h all some (omega (arith, digits_value_short own ds 5 all few))

ok_from : {E : Type 0} (r : Result ℤ E) (Q : Type 0) (v : ℤ) → OkIff r Q v → Q → r ≡ Ok v
ok_from (Ok x) Q v h q = ap (λ (z : ℤ). Ok z) h.1
ok_from (Err e) Q v h q = absurd (h q)

negated_by : (c : Bool) (n : ℕ) → c ≡ false → negsuc n ≡ cond c (pos 0) (negsuc (suc n - 1))
negated_by true n h = absurd cc
negated_by false n h = let e : suc n - 1 ≡ n = omega arith in ap (λ (k : ℕ). negsuc k) (sym e)

negated : (n : ℕ) → neg_ℤ (pos n) ≡ signed true n
negated zero = refl
negated (suc n) = negated_by (eqb (suc n) 0) n (ne_eqb (suc n) 0 (λ e. omega (arith, e)))

first_is : (t : List ℕ) → is_at 45 t ≡ true → get_or t 0 0 ≡ 45
first_is [] h = absurd cc
first_is (b ∷ t) h = eqb-true b 45 h

parses_by : {E : Type 0} (c : Bool) (bs : List ℕ) (r : Result ℤ E) → is_at 45 bs ≡ c → ParsesSigned w64 10 bs r → AreAll is_digit (drop (minus_length bs) bs) → 0 < length (drop (minus_length bs) bs) → length (drop (minus_length bs) bs) ≤ 18
    → r ≡ Ok (signed c (digits_value (drop (minus_length bs) bs)))
parses_by true bs r e h all some few =
    let one : minus_length bs ≡ 1 = rw e refl in
    let all1 = subst (λ (n : ℕ). AreAll is_digit (drop n bs)) one all in
    let few1 = subst (λ (n : ℕ). length (drop n bs) ≤ 18) one few in
    let small = digits_value_short own (drop 1 bs) 18 all1 few1 in
    ok_from r _ _ (parse_signed_minus own w64 bs r h (first_is bs e)) (all1, subst (λ (n : ℕ). 0 < length (drop n bs)) one some, omega (arith, small))
    ∙ ap (λ (z : ℤ). Ok z) (negated (digits_value (drop 1 bs)) ∙ ap (λ (n : ℕ). signed true (digits_value (drop n bs))) (sym one))
parses_by false bs r e h all some few =
    let one : minus_length bs ≡ 0 = rw e refl in
    let all1 = subst (λ (n : ℕ). AreAll is_digit (drop n bs)) one all in
    let few1 = subst (λ (n : ℕ). length (drop n bs) ≤ 18) one few in
    let small = digits_value_short own bs 18 all1 few1 in
    ok_from r _ _ (parse_signed_digits own w64 bs r h all1) (subst (λ (n : ℕ). 0 < length (drop n bs)) one some, omega (arith, small))
    ∙ ap (λ (n : ℕ). Ok (signed false (digits_value (drop n bs)))) (sym one)

-- an int fits 64 bits
pub int_parses : {E : Type 0} (bs : List ℕ) (r : Result ℤ E) → ParsesSigned w64 10 bs r → AreAll is_digit (drop (minus_length bs) bs) → 0 < length (drop (minus_length bs) bs) → length (drop (minus_length bs) bs) ≤ 18 → r ≡ Ok (int_value bs)
int_parses bs r h all some few = parses_by (is_at 45 bs) bs r refl h all some few

-- what is a value is no error
pub no_error : {T E : Type 0} (r : Result T E) (v : T) (e : E) → r ≡ Ok v → r ≡ Err e → ⊥
no_error (Ok x) v e h k = absurd cc
no_error (Err x) v e h k = absurd cc

-- what is known of an int that was read: its digits, of which there are 1 to 18
pub record GoodInt (s : List ℕ) : Type 0 where
  pub digits : AreAll is_digit (drop (minus_length s) s)
  pub some : 0 < length (drop (minus_length s) s)
  pub few : length (drop (minus_length s) s) ≤ 18

good_minus : (x : List ℕ) → AreAll is_digit x → 0 < length x → length x ≤ 18 → GoodInt (45 ∷ x)
good_minus x all some few = record { digits = all; some = some; few = few }

good_plain : (b : ℕ) (x : List ℕ) → (b == 45) ≡ false → AreAll is_digit (b ∷ x) → length (b ∷ x) ≤ 18 → GoodInt (b ∷ x)
good_plain b x h all few =
    let none : minus_length (b ∷ x) ≡ 0 = rw h refl in
    record {
      digits = subst (λ (n : ℕ). AreAll is_digit (drop n (b ∷ x))) (sym none) all;
      some = subst (λ (n : ℕ). 0 < length (drop n (b ∷ x))) (sym none) (omega arith);
      few = subst (λ (n : ℕ). length (drop n (b ∷ x)) ≤ 18) (sym none) few;
    }

good_by : (c : Bool) (t : List ℕ) (n : ℕ) → is_at 45 t ≡ c → prefix_len is_digit (drop (cond c 1 0) t) ≡ n → 0 < n → n ≤ 18 → GoodInt (take (cond c 1 0 + n) t)
good_by true [] n h e some few = absurd cc
good_by true (b ∷ u) n h e some few =
    let all : AreAll is_digit (take n u) = subst (λ (k : ℕ). AreAll is_digit (take k u)) e (run_all is_digit u) in
    let len : length (take n u) ≡ n = subst (λ (k : ℕ). length (take k u) ≡ k) e (length-prefix_len is_digit u) in
    let one : suc n ≡ 1 + n = omega arith in
    subst (λ (k : ℕ). GoodInt (take k (b ∷ u))) one (subst (λ (d : ℕ). GoodInt (d ∷ take n u)) (sym (eqb-true b 45 h)) (good_minus (take n u) all (omega (arith, len, some)) (omega (arith, len, few))))
good_by false t zero h e some few = absurd (omega (arith, some))
good_by false [] (suc n) h e some few = absurd (omega (arith, e))
good_by false (b ∷ u) (suc n) h e some few =
    let all : AreAll is_digit (take (suc n) (b ∷ u)) = subst (λ (k : ℕ). AreAll is_digit (take k (b ∷ u))) e (run_all is_digit (b ∷ u)) in
    let len : length (take (suc n) (b ∷ u)) ≡ suc n = subst (λ (k : ℕ). length (take k (b ∷ u)) ≡ k) e (length-prefix_len is_digit (b ∷ u)) in
    let none : suc n ≡ 0 + suc n = omega arith in
    subst (λ (k : ℕ). GoodInt (take k (b ∷ u))) none (good_plain b (take n u) h all (omega (arith, len, few)))

-- what is known of the length of an int's digits
pub record GoodLength (u : List ℕ) (n : ℕ) : Type 0 where
  pub len : prefix_len is_digit u ≡ n
  pub some : 0 < n
  pub few : n ≤ 18
  pub ends : has_word (drop n u) ≡ false

pub int_length_is : (u : List ℕ) (n : ℕ) → int_length u ≡ Ok n → GoodLength u n
unfolding int_length
int_length_is u n e =
    let k = prefix_len is_digit u in
    elim (chosen (eqb k 0) _ _ _ e) [
      | inl h ↦ absurd cc
      | inr h ↦ elim (chosen (ltb 18 k) _ _ _ h.1) [
        | inl l ↦ absurd cc
        | inr l ↦ elim (chosen (has_word (drop k u)) _ _ _ l.1) [
          | inl w ↦ absurd cc
          | inr w ↦ subst (GoodLength u) (ok_is {K = TplKind} k n w.1)
              (record { len = refl; some = omega (arith, eqb-false k 0 h.0); few = ltb-false 18 k l.0; ends = w.0 })
        ]
      ]
    ]

-- an int that was read
pub int_is : (t : List ℕ) (p : List ℕ × List ℕ) → int_at t ≡ Ok p → GoodInt p.0
unfolding int_at
int_is t p e =
    let m = minus_length t in
    let a = bind_ok (int_length (drop m t)) (λ n. Ok (take (m + n) t, drop (m + n) t)) p e in
    let good = int_length_is (drop m t) a.0 a.1 in
    subst (λ (q : List ℕ × List ℕ). GoodInt q.0) (ok_is {K = TplKind} (take (m + a.0) t, drop (m + a.0) t) p a.2)
    (good_by (is_at 45 t) t a.0 refl good.len good.some good.few)
