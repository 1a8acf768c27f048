-- The longest number at the front is one by the grammar, and no longer front is.
use Rattle.std.proofs.Common.{◌≡◌, ◌≤◌, ◌<◌, ◌+◌, ◌-◌, ℕ, List, [], ◌∷◌, ◌++◌, length, take, drop, get_or, Bool, true, false, cond, eqb, refl, sym, ap, ◌∙◌, arith, append_assoc, length-append, get_or-take, subst, zero, suc, inl, inr, ◌⊎◌, ◌||◌, lit<}
use Rattle.std.proofs.Math.Seq.{take-add, get_or-append_right}
use Rattle.std.proofs.lemmas.Bool.{cases_lt, ne_eqb, eqb-true}
use Rattle.std.proofs.lemmas.List.{get_or_append_left, take-append-drop, drop_at, length-take-le, take_all}
use Rattle.text_base.specs.Spelling.{is_digit, digits_length, minus_length, sign_length, int_length, frac_length, exp_length, marked_length, number_length}
use Rattle.text_base.specs.Spelled.{AreDigits}
use Rattle.text_base.specs.Grammar.{IsDigits, IsInt, IsFrac, IsSign, IsExp, IsNumber}
use Rattle.text_base.proofs.SpellingLemmas.{not_digit}
use Rattle.text_base.proofs.PartsLemmas.{front_digits, int_digits}
use Rattle.text_base.proofs.FrontLemmas.{int_length-within, digits_length-within, digits_before, no_digit_behind, from_int, from_frac, from_exp, number_length_is, number_length_none, number_length-within}

-- a run of digits at the front is within the digits there
digits_length-ge : (ds bs : List ℕ) → AreDigits ds → length ds ≤ digits_length (ds ++ bs)
digits_length-ge ds bs h = elim (cases_lt (digits_length (ds ++ bs)) (length ds)) [
  | inr l ↦ l
  | inl l ↦
      let n = length-append ds bs in
      let k = digits_length (ds ++ bs) in
      let w : k < length (ds ++ bs) = omega arith in
      let e : is_digit (get_or (ds ++ bs) k 0) ≡ false = no_digit_behind (ds ++ bs) w in
      let f : is_digit (get_or (ds ++ bs) k 0) ≡ true = ap is_digit (get_or_append_left ds bs 0 k l) ∙ h k l in
      absurd (cc)
]

-- what follows begins with no digit
abbrev pub StopsAt : List ℕ → Type 0
StopsAt bs = is_digit (get_or bs 0 0) ≡ false

-- digits end where what follows begins with no digit
pub digits_length-stop : (ds bs : List ℕ) → AreDigits ds → StopsAt bs → digits_length (ds ++ bs) ≡ length ds
digits_length-stop ds bs h e =
    let g = digits_length-ge ds bs h in
    elim (cases_lt (length ds) (digits_length (ds ++ bs))) [
      | inr l ↦ omega arith
      | inl l ↦
          let a : length ds ≤ length ds = omega arith in
          let z : length ds - length ds ≡ 0 = omega arith in
          let d : is_digit (get_or (ds ++ bs) (length ds) 0) ≡ true = digits_before (ds ++ bs) (length ds) l in
          let f : is_digit (get_or (ds ++ bs) (length ds) 0) ≡ false = ap is_digit (get_or-append_right ds bs (length ds) 0 a ∙ ap (λ k. get_or bs k 0) z) ∙ e in
          absurd (cc)
    ]

int_length-ge : (int bs : List ℕ) → IsInt int → length int ≤ int_length (int ++ bs)
int_length-ge int bs n = by_head (eqb (get_or int 0 0) 48) refl
  where
    by_head : (b : Bool) → eqb (get_or int 0 0) 48 ≡ b → length int ≤ int_length (int ++ bs)
    by_head true e =
        let p = n.are_digits.some_digit in
        let o = n.lone_zero (eqb-true (get_or int 0 0) 48 e) in
        rw (get_or_append_left int bs 0 0 p) (rw e (omega arith))
    by_head false e =
        let p = n.are_digits.some_digit in
        let g = digits_length-ge int bs n.are_digits.digits in
        rw (get_or_append_left int bs 0 0 p) (rw e g)

int_length-stop : (int bs : List ℕ) → IsInt int → StopsAt bs → int_length (int ++ bs) ≡ length int
int_length-stop int bs n s = by_head (eqb (get_or int 0 0) 48) refl
  where
    by_head : (b : Bool) → eqb (get_or int 0 0) 48 ≡ b → int_length (int ++ bs) ≡ length int
    by_head true e =
        let p = n.are_digits.some_digit in
        let o = n.lone_zero (eqb-true (get_or int 0 0) 48 e) in
        rw (get_or_append_left int bs 0 0 p) (rw e (sym o))
    by_head false e =
        let p = n.are_digits.some_digit in
        rw (get_or_append_left int bs 0 0 p) (rw e (digits_length-stop int bs n.are_digits.digits s))

marked_ge : (m d n : ℕ) → 0 < n → n ≤ d → m + n ≤ cond (eqb d 0) 0 (m + d)
marked_ge m d n l w = rw (ne_eqb d 0 (λ z. omega arith)) (omega arith)

frac_length-ge : (ds bs : List ℕ) → IsDigits ds → suc (length ds) ≤ frac_length (46 ∷ (ds ++ bs))
frac_length-ge ds bs h =
    let g = marked_ge 1 (digits_length (ds ++ bs)) (length ds) h.some_digit (digits_length-ge ds bs h.digits) in omega arith

frac_length-stop : (ds bs : List ℕ) → IsDigits ds → StopsAt bs → frac_length (46 ∷ (ds ++ bs)) ≡ suc (length ds)
frac_length-stop ds bs h s =
    let p = h.some_digit in
    rw (digits_length-stop ds bs h.digits s) (rw (ne_eqb (length ds) 0 (λ z. omega arith)) (omega arith))

mark_stops : (m : ℕ) (bs : List ℕ) → (m ≡ 101) ⊎ (m ≡ 69) → StopsAt (m ∷ bs)
mark_stops m bs (inl e) = rw e refl
mark_stops m bs (inr e) = rw e refl

mark_no_point : (m : ℕ) (bs : List ℕ) → (m ≡ 101) ⊎ (m ≡ 69) → frac_length (m ∷ bs) ≡ 0
mark_no_point m bs (inl e) = rw e refl
mark_no_point m bs (inr e) = rw e refl

mark_is : (m : ℕ) → (m ≡ 101) ⊎ (m ≡ 69) → (eqb m 101 || eqb m 69) ≡ true
mark_is m (inl e) = rw e refl
mark_is m (inr e) = rw e refl

no_sign : (b : ℕ) → is_digit b ≡ true → ◌≡◌ {A = ℕ} (cond (eqb b 43) 1 (cond (eqb b 45) 1 0)) 0
no_sign b h = rw (not_digit b 43 h (lit< tt)) (rw (not_digit b 45 h (lit< tt)) refl)

sign_length-of : (sign ds bs : List ℕ) → IsSign sign → IsDigits ds → sign_length (sign ++ (ds ++ bs)) ≡ length sign
sign_length-of sign ds bs (inl e) h =
    let p = h.some_digit in
    let d = h.digits 0 p in
    rw e (rw (get_or_append_left ds bs 0 0 p) (no_sign (get_or ds 0 0) d))
sign_length-of sign ds bs (inr (inl e)) h = rw e refl
sign_length-of sign ds bs (inr (inr e)) h = rw e refl

exp_length-ge : (x bs : List ℕ) → IsExp x → length x ≤ exp_length (x ++ bs)
exp_length-ge x bs e =
    let h = e.are_digits in
    let a : x ++ bs ≡ e.mark ∷ (e.sign ++ (e.behind ++ bs)) = ap (λ (t : List ℕ). t ++ bs) e.is_marked ∙ ap (λ (t : List ℕ). e.mark ∷ t) (append_assoc e.sign e.behind bs) in
    let s = sign_length-of e.sign e.behind bs e.is_sign h in
    let d : drop (1 + length e.sign) (e.mark ∷ (e.sign ++ (e.behind ++ bs))) ≡ e.behind ++ bs = drop_at (e.mark ∷ e.sign) (e.behind ++ bs) (1 + length e.sign) (omega arith) in
    let l : length x ≡ 1 + length e.sign + length e.behind = (let n = length-append e.sign e.behind in ap length e.is_marked ∙ omega arith) in
    let g = marked_ge (1 + length e.sign) (digits_length (e.behind ++ bs)) (length e.behind) h.some_digit (digits_length-ge e.behind bs h.digits) in
    rw a (rw (mark_is e.mark e.is_mark) (rw s (rw d (rw l g))))

-- the length of int, frac and exp at the front, one after another
abbrev in_turn : List ℕ → ℕ
in_turn bs =
    int_length bs + (frac_length (drop (int_length bs) bs) + exp_length (drop (frac_length (drop (int_length bs) bs)) (drop (int_length bs) bs)))

in_turn-stop : (int bs : List ℕ) → IsInt int → StopsAt bs → in_turn (int ++ bs) ≡ length int + (frac_length bs + exp_length (drop (frac_length bs) bs))
in_turn-stop int bs n s =
    let i = int_length-stop int bs n s in
    let d : drop (length int) (int ++ bs) ≡ bs = drop_at int bs (length int) refl in
    rw i (rw d refl)

exp_stops : (x bs : List ℕ) → IsExp x → StopsAt (x ++ bs)
exp_stops x bs e = rw e.is_marked (mark_stops e.mark ((e.sign ++ e.behind) ++ bs) e.is_mark)

exp_no_point : (x bs : List ℕ) → IsExp x → frac_length (x ++ bs) ≡ 0
exp_no_point x bs e = rw e.is_marked (mark_no_point e.mark ((e.sign ++ e.behind) ++ bs) e.is_mark)

with_exp : (int x bs : List ℕ) → IsInt int → IsExp x → length int + (0 + length x) ≤ in_turn (int ++ (x ++ bs))
with_exp int x bs n e =
    let g = exp_length-ge x bs e in
    rw (in_turn-stop int (x ++ bs) n (exp_stops x bs e)) (rw (exp_no_point x bs e) (omega arith))

with_frac : (int ds bs : List ℕ) → IsInt int → IsDigits ds → length int + (suc (length ds) + 0) ≤ in_turn (int ++ 46 ∷ (ds ++ bs))
with_frac int ds bs n h =
    let g = frac_length-ge ds bs h in
    rw (in_turn-stop int (46 ∷ (ds ++ bs)) n refl) (omega arith)

with_both : (int ds x bs : List ℕ) → IsInt int → IsDigits ds → IsExp x → length int + (suc (length ds) + length x) ≤ in_turn (int ++ 46 ∷ (ds ++ (x ++ bs)))
with_both int ds x bs n h e =
    let f = frac_length-stop ds (x ++ bs) h (exp_stops x bs e) in
    let d : drop (suc (length ds)) (46 ∷ (ds ++ (x ++ bs))) ≡ x ++ bs = drop_at (46 ∷ ds) (x ++ bs) (suc (length ds)) refl in
    let g = exp_length-ge x bs e in
    rw (in_turn-stop int (46 ∷ (ds ++ (x ++ bs))) n refl) (rw f (rw d (omega arith)))

without : (int bs : List ℕ) → IsInt int → length int + (0 + 0) ≤ in_turn (int ++ bs)
without int bs n = let g = int_length-ge int bs n in omega arith

unsigned_fits : (int frac x bs : List ℕ) → IsInt int → (frac ≡ []) ⊎ IsFrac frac → (x ≡ []) ⊎ IsExp x → length int + (length frac + length x) ≤ in_turn (int ++ (frac ++ (x ++ bs)))
unsigned_fits int frac x bs n (inl f) (inl e) = rw f (rw e (without int bs n))
unsigned_fits int frac x bs n (inl f) (inr e) = rw f (with_exp int x bs n e)
unsigned_fits int frac x bs n (inr f) (inl e) = rw f.is_marked (rw e (with_frac int f.behind bs n f.are_digits))
unsigned_fits int frac x bs n (inr f) (inr e) = rw f.is_marked (with_both int f.behind x bs n f.are_digits e)

minus_length-of : (minus int bs : List ℕ) → (minus ≡ []) ⊎ (minus ≡ 45 ∷ []) → IsInt int → minus_length (minus ++ (int ++ bs)) ≡ length minus
minus_length-of minus int bs (inl e) n =
    let p = n.are_digits.some_digit in
    let d = n.are_digits.digits 0 p in
    rw e (rw (get_or_append_left int bs 0 0 p) (rw (not_digit (get_or int 0 0) 45 d (lit< tt)) refl))
minus_length-of minus int bs (inr e) n = rw e refl

whole_fits : (minus int frac x bs : List ℕ) → (minus ≡ []) ⊎ (minus ≡ 45 ∷ []) → IsInt int → (frac ≡ []) ⊎ IsFrac frac → (x ≡ []) ⊎ IsExp x →
    length minus + (length int + (length frac + length x)) ≤ number_length (minus ++ (int ++ (frac ++ (x ++ bs))))
whole_fits minus int frac x bs m n f e =
    let t = minus ++ (int ++ (frac ++ (x ++ bs))) in
    let a = minus_length-of minus int (frac ++ (x ++ bs)) m n in
    let d : from_int t ≡ int ++ (frac ++ (x ++ bs)) = ap (λ k. drop k t) a ∙ drop_at minus (int ++ (frac ++ (x ++ bs))) (length minus) refl in
    let u = unsigned_fits int frac x bs n f e in
    let g = int_length-ge int (frac ++ (x ++ bs)) n in
    let p = n.are_digits.some_digit in
    let q : 0 < int_length (from_int t) = rw d (omega arith) in
    let l : number_length t ≡ minus_length t + in_turn (from_int t) = number_length_is t q in
    let v : number_length t ≡ length minus + in_turn (int ++ (frac ++ (x ++ bs))) = l ∙ (ap (λ k. k + in_turn (from_int t)) a ∙ ap (λ y. length minus + in_turn y) d) in
    rw v (omega arith)

-- no front of the text that is a number is longer
pub longest_front : (bs : List ℕ) (k : ℕ) → k ≤ length bs → IsNumber (take k bs) → k ≤ number_length bs
longest_front bs k w n =
    let r = drop k bs in
    let e : take k bs ++ r ≡ bs = take-append-drop k bs in
    let s : take k bs ++ r ≡ n.minus ++ (n.int ++ (n.frac ++ (n.exp ++ r))) =
    ap (λ (t : List ℕ). t ++ r) n.is_spelled
    ∙ (append_assoc n.minus (n.int ++ (n.frac ++ n.exp)) r
    ∙ (ap (λ (t : List ℕ). n.minus ++ t) (append_assoc n.int (n.frac ++ n.exp) r ∙ ap (λ (t : List ℕ). n.int ++ t) (append_assoc n.frac n.exp r)))) in
    let h = whole_fits n.minus n.int n.frac n.exp r n.is_minus n.is_int n.is_frac n.is_exp in
    let l : length (take k bs) ≡ k = length-take-le k bs w in
    let c = length-append n.minus (n.int ++ (n.frac ++ n.exp)) in
    let c2 = length-append n.int (n.frac ++ n.exp) in
    let c3 = length-append n.frac n.exp in
    let m : length (take k bs) ≡ length n.minus + (length n.int + (length n.frac + length n.exp)) = ap length n.is_spelled ∙ omega arith in
    let v : number_length (n.minus ++ (n.int ++ (n.frac ++ (n.exp ++ r)))) ≡ number_length bs = ap number_length (sym s ∙ e) in
    omega arith

-- a front of one byte, where the text begins with it
front_byte : (b : Bool) (c : ℕ) (bs : List ℕ) → eqb (get_or bs 0 0) c ≡ b → 0 < c → (take (cond b 1 0) bs ≡ []) ⊎ (take (cond b 1 0) bs ≡ c ∷ [])
front_byte false c bs e l = inl refl
front_byte true c [] e l = absurd (let z = eqb-true 0 c e in omega arith)
front_byte true c (x ∷ xs) e l = inr (ap (λ y. y ∷ []) (eqb-true x c e))

int_at_front : (bs : List ℕ) → 0 < int_length bs → IsInt (take (int_length bs) bs)
int_at_front bs l =
    let w = int_length-within bs in
    let n : length (take (int_length bs) bs) ≡ int_length bs = length-take-le (int_length bs) bs w in
    record {
      are_digits = record { some_digit = rw n l; digits = int_digits bs };
      lone_zero = λ e. n ∙ (let h : get_or bs 0 0 ≡ 48 = sym (get_or-take (int_length bs) bs 0 0 l) ∙ e in rw h refl);
    }

frac_at_front : (bs : List ℕ) → (take (frac_length bs) bs ≡ []) ⊎ IsFrac (take (frac_length bs) bs)
frac_at_front [] = inl refl
frac_at_front (x ∷ xs) = by_mark (eqb x 46) refl
  where
    by_digits : (d : ℕ) → d ≡ digits_length xs → x ≡ 46 → (take (cond (eqb d 0) 0 (1 + d)) (x ∷ xs) ≡ []) ⊎ IsFrac (take (cond (eqb d 0) 0 (1 + d)) (x ∷ xs))
    by_digits zero e m = inl refl
    by_digits (suc d) e m =
        let z : eqb (suc d) 0 ≡ false = ne_eqb (suc d) 0 (λ y. omega arith) in
        let o : 1 + suc d ≡ suc (suc d) = omega arith in
        let w = digits_length-within xs in
        let n : length (take (suc d) xs) ≡ suc d = length-take-le (suc d) xs (omega arith) in
        rw z (rw o (inr (record {
          behind = take (suc d) xs;
          is_marked = ap (λ y. y ∷ take (suc d) xs) m;
          are_digits = record { some_digit = rw n (omega arith); digits = front_digits (suc d) xs (omega arith) };
        })))

    by_mark : (b : Bool) → eqb x 46 ≡ b → (take (cond b (marked_length 1 (x ∷ xs)) 0) (x ∷ xs) ≡ []) ⊎ IsFrac (take (cond b (marked_length 1 (x ∷ xs)) 0) (x ∷ xs))
    by_mark false e = inl refl
    by_mark true e = by_digits (digits_length xs) refl (eqb-true x 46 e)

sign_at_front : (bs : List ℕ) → IsSign (take (sign_length bs) bs)
sign_at_front bs = by_plus (eqb (get_or bs 0 0) 43) refl
  where
    plus : (take 1 bs ≡ []) ⊎ (take 1 bs ≡ 43 ∷ []) → IsSign (take 1 bs)
    plus (inl e) = inl e
    plus (inr e) = inr (inl e)

    minus_or_none : (take (minus_length bs) bs ≡ []) ⊎ (take (minus_length bs) bs ≡ 45 ∷ []) → IsSign (take (minus_length bs) bs)
    minus_or_none (inl e) = inl e
    minus_or_none (inr e) = inr (inr e)

    by_plus : (b : Bool) → eqb (get_or bs 0 0) 43 ≡ b → IsSign (take (cond b 1 (minus_length bs)) bs)
    by_plus true e = plus (front_byte true 43 bs e (lit< tt))
    by_plus false e = minus_or_none (front_byte (eqb (get_or bs 0 0) 45) 45 bs refl (lit< tt))

mark_cases : (x : ℕ) → (eqb x 101 || eqb x 69) ≡ true → (x ≡ 101) ⊎ (x ≡ 69)
mark_cases x e = by_e (eqb x 101) refl e
  where
    by_e : (b : Bool) → eqb x 101 ≡ b → (b || eqb x 69) ≡ true → (x ≡ 101) ⊎ (x ≡ 69)
    by_e true e f = inl (eqb-true x 101 e)
    by_e false e f = inr (eqb-true x 69 f)

exp_at_front : (bs : List ℕ) → (take (exp_length bs) bs ≡ []) ⊎ IsExp (take (exp_length bs) bs)
exp_at_front [] = inl refl
exp_at_front (x ∷ xs) = by_mark (eqb x 101 || eqb x 69) refl
  where
    by_digits : (s d : ℕ) → s ≡ sign_length xs → d ≡ digits_length (drop s xs) → (x ≡ 101) ⊎ (x ≡ 69) → (take (cond (eqb d 0) 0 ((1 + s) + d)) (x ∷ xs) ≡ []) ⊎ IsExp (take (cond (eqb d 0) 0 ((1 + s) + d)) (x ∷ xs))
    by_digits s zero q e m = inl refl
    by_digits s (suc d) q e m =
        let z : eqb (suc d) 0 ≡ false = ne_eqb (suc d) 0 (λ y. omega arith) in
        let o : (1 + s) + suc d ≡ suc (s + suc d) = omega arith in
        let w = digits_length-within (drop s xs) in
        let n : length (take (suc d) (drop s xs)) ≡ suc d = length-take-le (suc d) (drop s xs) (omega arith) in
        rw z (rw o (inr (record {
          mark = x;
          sign = take s xs;
          behind = take (suc d) (drop s xs);
          is_marked = ap (λ (t : List ℕ). x ∷ t) (take-add s (suc d) xs);
          is_mark = m;
          is_sign = subst (λ k. IsSign (take k xs)) (sym q) (sign_at_front xs);
          are_digits = record { some_digit = rw n (omega arith); digits = front_digits (suc d) (drop s xs) (omega arith) };
        })))

    one_further : drop (1 + sign_length xs) (x ∷ xs) ≡ drop (sign_length xs) xs
    one_further = let o : 1 + sign_length xs ≡ suc (sign_length xs) = omega arith in ap (λ k. drop k (x ∷ xs)) o

    by_mark : (b : Bool) → (eqb x 101 || eqb x 69) ≡ b → (take (cond b (marked_length (1 + sign_length xs) (x ∷ xs)) 0) (x ∷ xs) ≡ []) ⊎ IsExp (take (cond b (marked_length (1 + sign_length xs) (x ∷ xs)) 0) (x ∷ xs))
    by_mark false e = inl refl
    by_mark true e = rw one_further (by_digits (sign_length xs) (digits_length (drop (sign_length xs) xs)) refl refl (mark_cases x e))

-- what stands at the front is a number
pub number_at_front : (bs : List ℕ) → 0 < number_length bs → IsNumber (take (number_length bs) bs)
number_at_front bs l = by_int (cases_lt 0 (int_length (from_int bs)))
  where
    by_int : (0 < int_length (from_int bs)) ⊎ (int_length (from_int bs) ≤ 0) → IsNumber (take (number_length bs) bs)
    by_int (inr z) = let e : int_length (from_int bs) ≡ 0 = omega arith in let n = number_length_none bs e in absurd (omega arith)
    by_int (inl p) =
        let m = minus_length bs in
        let i = int_length (from_int bs) in
        let f = frac_length (from_frac bs) in
        let x = exp_length (from_exp bs) in
        record {
          minus = take m bs;
          int = take i (from_int bs);
          frac = take f (from_frac bs);
          exp = take x (from_exp bs);
          is_minus = front_byte (eqb (get_or bs 0 0) 45) 45 bs refl (lit< tt);
          is_int = int_at_front (from_int bs) p;
          is_frac = frac_at_front (from_frac bs);
          is_exp = exp_at_front (from_exp bs);
          is_spelled = ap (λ k. take k bs) (number_length_is bs p)
              ∙ (take-add m (i + (f + x)) bs
              ∙ ap (λ (t : List ℕ). take m bs ++ t) (take-add i (f + x) (from_int bs)
              ∙ ap (λ (t : List ℕ). take i (from_int bs) ++ t) (take-add f x (from_frac bs))));
        }

-- what stands at the front is a number to its end
pub number_length-again : (bs : List ℕ) → number_length (take (number_length bs) bs) ≡ number_length bs
number_length-again bs = elim (cases_lt 0 (number_length bs)) [
  | inl l ↦
      let t = take (number_length bs) bs in
      let w = number_length-within bs in
      let n : length t ≡ number_length bs = length-take-le (number_length bs) bs w in
      let m : length t ≤ length t = omega arith in
      let i : IsNumber (take (length t) t) = rw (take_all (length t) t m) (number_at_front bs l) in
      let a : length t ≤ number_length t = longest_front t (length t) m i in
      let b : number_length t ≤ length t = number_length-within t in
      omega arith
  | inr z ↦ let e : number_length bs ≡ 0 = omega arith in let d : digits_length [] ≤ 0 = digits_length-within [] in rw e (number_length_none [] (omega arith))
]
