-- The number at the front of a text is spelled by its longest number, so cutting the text behind it keeps its parts.
use Rattle.std.proofs.Common.{◌≡◌, ◌≤◌, ◌<◌, ◌+◌, ◌-◌, ℕ, List, [], ◌∷◌, length, take, drop, Bool, true, false, cond, eqb, get_or, refl, sym, ap, ◌∙◌, arith, not, get_or-take, length-drop, length-take, ◌&&◌, ◌||◌, ◌==◌, min, inl, inr}
use Rattle.std.proofs.lemmas.List.{drop-take, drop-drop, take-take}
use Rattle.std.proofs.lemmas.List.Sums.{position_or_len_is, fails_before_first, passes_at_first, prefix_len-le-length}
use Rattle.std.proofs.lemmas.Bool.Decides.{nat_tests}
use Rattle.std.proofs.lemmas.Bool.{cases_lt, not-false, not-true}
use Rattle.std.specs.Prelude.{slice_index}
use Rattle.text_base.specs.Spelling.{is_digit, digits_length, minus_length, sign_length, int_length, frac_length, exp_length, marked_length, unsigned_length, number_length}
use Rattle.text_base.specs.Value.{Parts, parts}

-- the first place that holds no digit
pub digits_length_is : (bs : List ℕ) (n : ℕ) → n ≤ length bs → ((k : ℕ) → k < n → is_digit (get_or bs k 0) ≡ true) → (n < length bs → is_digit (get_or bs n 0) ≡ false) → n ≡ digits_length bs
unfolding digits_length
digits_length_is bs n w b e =
    sym (position_or_len_is (λ x. not (is_digit x)) bs n 0 w (λ k l. rw (b k l) refl) (λ l. rw (e l) refl))

pub digits_length-within : (bs : List ℕ) → digits_length bs ≤ length bs
unfolding digits_length
digits_length-within bs = prefix_len-le-length (λ x. not (not (is_digit x))) bs

pub digits_before : (bs : List ℕ) (k : ℕ) → k < digits_length bs → is_digit (get_or bs k 0) ≡ true
unfolding digits_length
digits_before bs k l = not-false _ (fails_before_first (λ x. not (is_digit x)) bs k 0 l)

pub no_digit_behind : (bs : List ℕ) → digits_length bs < length bs → is_digit (get_or bs (digits_length bs) 0) ≡ false
unfolding digits_length
no_digit_behind bs l = not-true _ (passes_at_first (λ x. not (is_digit x)) bs 0 l)

-- cutting a text keeps its digits as far as it reaches
pub digits_length-take : (n : ℕ) (bs : List ℕ) → digits_length (take n bs) ≡ min n (digits_length bs)
digits_length-take n bs =
    let w = digits_length-within bs in
    let t : length (take n bs) ≡ min n (length bs) = length-take n bs in
    sym (digits_length_is (take n bs) (min n (digits_length bs)) (omega arith)
    (λ k l. let m : k < n = omega arith in rw get_or-take (digits_before bs k (omega arith)))
    (λ l. let m : digits_length bs < n = omega arith in
    let e : min n (digits_length bs) ≡ digits_length bs = omega arith in
    rw e (rw get_or-take (no_digit_behind bs (omega arith)))))

-- a front that holds a byte begins with it
head-take : (n : ℕ) (bs : List ℕ) → 0 < n → get_or (take n bs) 0 0 ≡ get_or bs 0 0
head-take n bs l = get_or-take n bs 0 0 l

minus_length-take : (n : ℕ) (bs : List ℕ) → 0 < n → minus_length (take n bs) ≡ minus_length bs
minus_length-take n bs l = rw (head-take n bs l) refl

pub sign_length-take : (n : ℕ) (bs : List ℕ) → 0 < n → sign_length (take n bs) ≡ sign_length bs
sign_length-take n bs l = rw (head-take n bs l) refl

int_length-take : (n : ℕ) (bs : List ℕ) → 0 < n → int_length bs ≤ n → int_length (take n bs) ≡ int_length bs
int_length-take n bs l w = rw (head-take n bs l) (rw (digits_length-take n bs) (shorter (eqb (get_or bs 0 0) 48) n (digits_length bs) w))
  where
    shorter : (b : Bool) (n d : ℕ) → cond b 1 d ≤ n → cond b 1 (min n d) ≡ cond b 1 d
    shorter true n d w = refl
    shorter false n d w = omega arith

marked_take : (n m d : ℕ) → m ≤ n → cond (eqb d 0) 0 (m + d) ≤ n → cond (eqb (min (n - m) d) 0) 0 (m + min (n - m) d) ≡ cond (eqb d 0) 0 (m + d)
marked_take n m d l w = grind (arith, nat_tests)

marked_length-take : (n mark : ℕ) (bs : List ℕ) → mark ≤ n → marked_length mark bs ≤ n → marked_length mark (take n bs) ≡ marked_length mark bs
marked_length-take n mark bs l w =
    let e : mark + (n - mark) ≡ n = omega arith in
    let t : drop mark (take n bs) ≡ take (n - mark) (drop mark bs) = ap (λ k. drop mark (take k bs)) (sym e) ∙ drop-take mark (n - mark) bs in
    rw t (rw digits_length-take (marked_take n mark (digits_length (drop mark bs)) l w))

-- both sides of a test on the mark
picked : (b : Bool) (n p q : ℕ) → (q ≤ n → p ≡ q) → cond b q 0 ≤ n → cond b p 0 ≡ cond b q 0
picked true n p q h w = h w
picked false n p q h w = refl

nothing : (n : ℕ) (bs : List ℕ) (f : List ℕ → ℕ) → f [] ≡ 0 → n ≤ 0 → f bs ≤ n → f (take n bs) ≡ f bs
nothing n bs f z l w = let e : n ≡ 0 = omega arith in let g : 0 ≡ f bs = omega arith in rw e (z ∙ g)

frac_length-take : (n : ℕ) (bs : List ℕ) → frac_length bs ≤ n → frac_length (take n bs) ≡ frac_length bs
frac_length-take n bs w = elim (cases_lt 0 n) [
  | inl l ↦ rw (head-take n bs l)
      (picked (eqb (get_or bs 0 0) 46) n (marked_length 1 (take n bs)) (marked_length 1 bs) (marked_length-take n 1 bs l) w)
  | inr z ↦ nothing n bs frac_length refl z w
]

-- the text from int on, from frac on and from exp on
abbrev pub from_int : List ℕ → List ℕ
from_int bs = drop (minus_length bs) bs

abbrev pub from_frac : List ℕ → List ℕ
from_frac bs = drop (int_length (from_int bs)) (from_int bs)

abbrev pub from_exp : List ℕ → List ℕ
from_exp bs = drop (frac_length (from_frac bs)) (from_frac bs)

number_sum : (m i f x : ℕ) → 0 < i → cond (eqb (cond (eqb i 0) 0 (i + f + x)) 0) 0 (m + cond (eqb i 0) 0 (i + f + x)) ≡ m + (i + (f + x))
number_sum m i f x l = grind (arith, nat_tests)

pub number_length_is : (bs : List ℕ) → 0 < int_length (from_int bs) → number_length bs ≡ minus_length bs + (int_length (from_int bs) + (frac_length (from_frac bs) + exp_length (from_exp bs)))
unfolding number_length unsigned_length
number_length_is bs l =
    let m = minus_length bs in
    let i = int_length (from_int bs) in
    let f = frac_length (from_frac bs) in
    let e : drop (i + f) (from_int bs) ≡ from_exp bs = sym (drop-drop f i (from_int bs)) in
    let q : exp_length (drop (i + f) (from_int bs)) ≡ exp_length (from_exp bs) = ap exp_length e in
    rw q (number_sum m i f (exp_length (from_exp bs)) l)

pub number_length_none : (bs : List ℕ) → int_length (from_int bs) ≡ 0 → number_length bs ≡ 0
unfolding number_length unsigned_length
number_length_none bs e = rw e refl

pub int_length-within : (bs : List ℕ) → int_length bs ≤ length bs
int_length-within [] = digits_length-within []
int_length-within (x ∷ xs) = let d = digits_length-within (x ∷ xs) in grind (arith, nat_tests)

marked_length-within : (mark : ℕ) (bs : List ℕ) → marked_length mark bs ≤ length bs
marked_length-within mark bs =
    let d = digits_length-within (drop mark bs) in
    let e : length (drop mark bs) ≡ length bs - mark = length-drop mark bs in
    marked_within mark (digits_length (drop mark bs)) (length bs) (omega arith)
  where
    marked_within : (m d n : ℕ) → d ≤ n - m → cond (eqb d 0) 0 (m + d) ≤ n
    marked_within m d n l = grind (arith, nat_tests)

either_within : (b : Bool) (m n : ℕ) → m ≤ n → cond b m 0 ≤ n
either_within true m n l = l
either_within false m n l = omega arith

frac_length-within : (bs : List ℕ) → frac_length bs ≤ length bs
frac_length-within bs = either_within (eqb (get_or bs 0 0) 46) (marked_length 1 bs) (length bs) (marked_length-within 1 bs)

exp_length-within : (bs : List ℕ) → exp_length bs ≤ length bs
exp_length-within bs = either_within (eqb (get_or bs 0 0) 101 || eqb (get_or bs 0 0) 69) (marked_length (1 + sign_length (drop 1 bs)) bs) (length bs) (marked_length-within (1 + sign_length (drop 1 bs)) bs)

-- a minus sign at the front is one byte of the text
pub minus_length-within : (bs : List ℕ) → minus_length bs ≤ length bs
minus_length-within [] = omega arith
minus_length-within (x ∷ xs) = grind (arith, nat_tests)

-- a number at the front is no longer than the text
pub number_length-within : (bs : List ℕ) → number_length bs ≤ length bs
number_length-within bs = elim (cases_lt 0 (int_length (from_int bs))) [
  | inl l ↦
      let n = number_length_is bs l in
      let m = minus_length-within bs in
      let i = int_length-within (from_int bs) in
      let f = frac_length-within (from_frac bs) in
      let x = exp_length-within (from_exp bs) in
      let a : length (from_int bs) ≡ length bs - minus_length bs = length-drop (minus_length bs) bs in
      let b : length (from_frac bs) ≡ length (from_int bs) - int_length (from_int bs) = length-drop (int_length (from_int bs)) (from_int bs) in
      let c : length (from_exp bs) ≡ length (from_frac bs) - frac_length (from_frac bs) = length-drop (frac_length (from_frac bs)) (from_frac bs) in
      omega arith
  | inr z ↦ let e : int_length (from_int bs) ≡ 0 = omega arith in let n = number_length_none bs e in omega arith
]

-- a spelling whose pieces are these has these parts
parts_are : (s : List ℕ) (m i f : ℕ) (a b c : List ℕ) → minus_length s ≡ m → drop m s ≡ a → int_length a ≡ i → drop i a ≡ b → frac_length b ≡ f → drop f b ≡ c →
    parts s ≡ record {
      is_negative = m == 1;
      int = take i a;
      frac = drop 1 (take f b);
      exponent_is_negative = slice_index c 1 == 45;
      exponent = drop (1 + sign_length (drop 1 c)) c;
      is_whole = (f == 0) && (length c == 0);
    }
unfolding parts
parts_are s m i f a b c p q r t u v = rw p (rw q (rw r (rw t (rw u (rw v refl)))))

-- the parts of the number at the front, by the whole text
pub parts_at_front : (bs : List ℕ) → 0 < int_length (from_int bs) →
    parts (take (number_length bs) bs) ≡ record {
      is_negative = minus_length bs == 1;
      int = take (int_length (from_int bs)) (from_int bs);
      frac = drop 1 (take (frac_length (from_frac bs)) (from_frac bs));
      exponent_is_negative = slice_index (take (exp_length (from_exp bs)) (from_exp bs)) 1 == 45;
      exponent = drop (1 + sign_length (drop 1 (take (exp_length (from_exp bs)) (from_exp bs)))) (take (exp_length (from_exp bs)) (from_exp bs));
      is_whole = (frac_length (from_frac bs) == 0) && (length (take (exp_length (from_exp bs)) (from_exp bs)) == 0);
    }
parts_at_front bs l =
    let m = minus_length bs in
    let i = int_length (from_int bs) in
    let f = frac_length (from_frac bs) in
    let x = exp_length (from_exp bs) in
    let n = number_length_is bs l in
    let pos : 0 < i + (f + x) = omega arith in
    let w : i ≤ i + (f + x) = omega arith in
    let v : f ≤ f + x = omega arith in
    let all : 0 < m + (i + (f + x)) = omega arith in
    rw n (parts_are (take (m + (i + (f + x))) bs) m i f (take (i + (f + x)) (from_int bs)) (take (f + x) (from_frac bs)) (take x (from_exp bs))
    (minus_length-take (m + (i + (f + x))) bs all)
    (drop-take m (i + (f + x)) bs)
    (int_length-take (i + (f + x)) (from_int bs) pos w)
    (drop-take i (f + x) (from_int bs))
    (frac_length-take (f + x) (from_frac bs) v)
    (drop-take f x (from_frac bs))
    ∙ rw (take-take i (i + (f + x)) (from_int bs) w) (rw (take-take f (f + x) (from_frac bs) v) refl))

negative_is : (m w : ℕ) (neg : Bool) → m ≤ 1 → w ≡ m → neg ≡ eqb w 0 → not neg ≡ eqb m 1
negative_is m w true a b e = grind (arith, nat_tests)
negative_is m w false a b e = grind (arith, nat_tests)

whole_is : (f x y b c d : ℕ) (whole : Bool) → c ≡ b - f → f ≤ b → d ≡ c - x → x ≤ c → y ≡ x → whole ≡ eqb d b → whole ≡ (eqb f 0 && eqb y 0)
whole_is f x y b c d whole e1 w1 e2 w2 e3 e = rw e (grind (arith, nat_tests))

pub minus_length-le : (bs : List ℕ) → minus_length bs ≤ 1
minus_length-le bs = grind (arith, nat_tests)

-- the pieces that are cut off one after another, from a text that begins with a number
pub record Cut (bs minus a int b frac c exp d : List ℕ) (m i f x : ℕ) : Type 0 where
  pub minus_is : m ≡ minus_length bs
  pub minus_front : minus ≡ take m bs
  pub minus_back : a ≡ drop m bs
  pub minus_within : m ≤ length bs
  pub int_is : i ≡ int_length a
  pub int_front : int ≡ take i a
  pub int_back : b ≡ drop i a
  pub int_within : i ≤ length a
  pub frac_is : f ≡ frac_length b
  pub frac_front : frac ≡ take f b
  pub frac_back : c ≡ drop f b
  pub frac_within : f ≤ length b
  pub exp_is : x ≡ exp_length c
  pub exp_front : exp ≡ take x c
  pub exp_back : d ≡ drop x c
  pub exp_within : x ≤ length c

parts_same : (p q : Parts) → p.is_negative ≡ q.is_negative → p.int ≡ q.int → p.frac ≡ q.frac → p.exponent_is_negative ≡ q.exponent_is_negative → p.exponent ≡ q.exponent → p.is_whole ≡ q.is_whole → p ≡ q
parts_same p q a b c d e f =
    let make : Bool → List ℕ → List ℕ → Bool → List ℕ → Bool → Parts = λ n i r m x w. record { is_negative = n; int = i; frac = r; exponent_is_negative = m; exponent = x; is_whole = w } in
    let t : make p.is_negative p.int p.frac p.exponent_is_negative p.exponent p.is_whole ≡ make q.is_negative q.int q.frac q.exponent_is_negative q.exponent q.is_whole = rw a (rw b (rw c (rw d (rw e (rw f refl))))) in t

module _ (bs minus a int b frac c exp d : List ℕ) (m i f x : ℕ) (k : Cut bs minus a int b frac c exp d m i f x) where
  cut_int : a ≡ from_int bs
  cut_int = cc

  cut_frac : b ≡ from_frac bs
  cut_frac = cc cut_int

  cut_exp : c ≡ from_exp bs
  cut_exp = cc cut_frac

  cut_exp_length : x ≡ exp_length (from_exp bs)
  cut_exp_length = cc cut_exp

  cut_frac_length : f ≡ frac_length (from_frac bs)
  cut_frac_length = cc cut_frac

  cut_int_length : i ≡ int_length (from_int bs)
  cut_int_length = cc cut_int

  pub cut_begins : 0 < i → 0 < int_length (from_int bs)
  cut_begins l = rw (← cut_int_length) l

  pub cut_length : 0 < i → number_length bs ≡ m + (i + (f + x))
  cut_length l =
      let l' = cut_begins l in
      let n = number_length_is bs l' in
      let e0 = k.minus_is in
      rw (cut_int_length, cut_frac_length, cut_exp_length, e0) n

  pub cut_some : 0 < i → 0 < number_length bs
  cut_some l = let n = cut_length l in omega arith

  pub cut_none : i ≡ 0 → number_length bs ≡ 0
  cut_none z = number_length_none bs (sym cut_int_length ∙ z)

  pub cut_rest : 0 < i → d ≡ drop (number_length bs) bs
  cut_rest l =
      let n = cut_length l in
      let e1 : drop (m + (i + (f + x))) bs ≡ drop (i + (f + x)) (drop m bs) = sym (drop-drop (i + (f + x)) m bs) in
      let e2 : drop (i + (f + x)) a ≡ drop (f + x) (drop i a) = sym (drop-drop (f + x) i a) in
      let e3 : drop (f + x) b ≡ drop x (drop f b) = sym (drop-drop x f b) in
      cc (n, e1, e2, e3)

  pub cut_parts : (p : Parts) → 0 < i → p.is_negative ≡ eqb m 1 → p.int ≡ int → p.frac ≡ drop 1 frac → p.exponent_is_negative ≡ eqb (get_or exp 1 0) 45 → p.exponent ≡ drop (1 + sign_length (drop 1 exp)) exp → p.is_whole ≡ (eqb f 0 && eqb (length exp) 0) → p ≡ parts (take (number_length bs) bs)
  cut_parts p l e1 e2 e3 e4 e5 e6 =
      let l' = cut_begins l in
      let q1 = cut_int in
      let q2 = cut_frac in
      let q3 = cut_exp in
      let q4 = cut_int_length in
      let q5 = cut_frac_length in
      let q6 = cut_exp_length in
      let ex : exp ≡ take (exp_length (from_exp bs)) (from_exp bs) = cc in
      let fr : frac ≡ take (frac_length (from_frac bs)) (from_frac bs) = cc in
      rw (parts_at_front bs l') (parts_same p _
      (e1 ∙ ap (λ n. eqb n 1) k.minus_is) (cc) (e3 ∙ ap (λ (t : List ℕ). drop 1 t) fr) (e4 ∙ ap (λ t. eqb (get_or t 1 0) 45) ex)
      (e5 ∙ ap (λ t. drop (1 + sign_length (drop 1 t)) t) ex)
      (e6 ∙ rw q5 (rw ex refl)))

  pub cut_negative : (neg : Bool) → neg ≡ eqb (length minus) 0 → not neg ≡ eqb m 1
  cut_negative neg e =
      let u = minus_length-le bs in
      let w = k.minus_within in
      let l : length minus ≡ m = ap length k.minus_front ∙ (length-take m bs ∙ omega arith) in
      let t : m ≤ 1 = omega arith in
      negative_is m (length minus) neg t l e

  pub cut_whole : (whole : Bool) → whole ≡ eqb (length d) (length b) → whole ≡ (eqb f 0 && eqb (length exp) 0)
  cut_whole whole e =
      whole_is f x (length exp) (length b) (length c) (length d) whole
      (ap length k.frac_back ∙ length-drop f b) k.frac_within (ap length k.exp_back ∙ length-drop x c) k.exp_within
      (let w = k.exp_within in ap length k.exp_front ∙ (length-take x c ∙ omega arith)) e
