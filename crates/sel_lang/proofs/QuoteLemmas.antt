-- Values between quotes, character by character.
use Rattle.std.proofs.Common.{◌≡◌, ◌≢◌, ℕ, suc, ◌<◌, ◌≤◌, Bool, true, false, List, [], ◌∷◌, ◌++◌, length, get_or, Option, Some, None, refl, sym, ap, ◌∙◌, append_assoc, arith, inl, inr}
use Rattle.std.specs.Option.{option_map}
use Rattle.std.specs.Char.{encode_utf8}
use Rattle.std.proofs.lemmas.Str.{encode_ascii, inside_one, length-encode, len_utf8_bounds}
use Rattle.std.proofs.lemmas.Bool.{cases_lt, ne_eqb, eq-eqb}
use Rattle.std.proofs.lemmas.List.{append-nil}
use Rattle.sel_lang.specs.Filters.{put, unquoted}

-- what was read, and what is still read
abbrev pub after_front : List ℕ → Option (List ℕ × List ℕ) → Option (List ℕ × List ℕ)
after_front front = option_map (λ x. (front ++ x.0, x.1))

pub regroup : (front w : List ℕ) (r : Option (List ℕ × List ℕ)) → after_front front (after_front w r) ≡ after_front (front ++ w) r
regroup front w None = refl
regroup front w (Some x) = ap (λ (l : List ℕ). Some (l, x.1)) (sym (append_assoc front w x.0))

put_front : (b : ℕ) (w : List ℕ) (r : Option (List ℕ × List ℕ)) → put b (after_front w r) ≡ after_front (b ∷ w) r
put_front b w None = refl
put_front b w (Some x) = refl

no_front : (r : Option (List ℕ × List ℕ)) → r ≡ after_front [] r
no_front None = refl
no_front (Some x) = refl

-- bytes of characters beyond ASCII
abbrev AreHigh : List ℕ → Type 0
AreHigh [] = Unit {0}
AreHigh (b ∷ w) = (128 ≤ b) × AreHigh w

high_taken : (quote : ℕ) (w t : List ℕ) → quote < 128 → AreHigh w → unquoted quote false (w ++ t) ≡ after_front w (unquoted quote false t)
unfolding unquoted
high_taken quote [] t q h = no_front (unquoted quote false t)
high_taken quote (b ∷ w) t q h =
    rw (ne_eqb b quote (λ e. omega (arith, q, e, h.0)), ne_eqb b 92 (λ e. omega (arith, e, h.0)))
    (ap (put b) (high_taken quote w t q h.1) ∙ put_front b w (unquoted quote false t))

high_by : (w : List ℕ) → ((k : ℕ) → k < length w → 128 ≤ get_or w k 0) → AreHigh w
high_by [] h = tt
high_by (b ∷ w) h = (h 0 (omega arith), high_by w (λ k lt. h (suc k) (omega (arith, lt))))

-- the bytes of a character beyond ASCII
encode_high : (c : ℕ) → 128 ≤ c → AreHigh (encode_utf8 c)
encode_high c big = high_by (encode_utf8 c) (λ k lt. elim (cases_lt (get_or (encode_utf8 c) k 0) 128) [
  | inl low ↦ let same = inside_one c [] (encode_utf8 c) k (sym (append-nil (encode_utf8 c))) lt low in absurd (omega (arith, same, low, big))
  | inr high ↦ high
])

-- a character that is no quote and no backslash
pub plain_taken : (quote c : ℕ) (t : List ℕ) → quote < 128 → c ≢ quote → c ≢ 92 → unquoted quote false (encode_utf8 c ++ t) ≡ after_front (encode_utf8 c) (unquoted quote false t)
unfolding unquoted
plain_taken quote c t q not_quote not_back = elim (cases_lt c 128) [
  | inl low ↦ let one = encode_ascii c low in rw one (rw (ne_eqb c quote not_quote, ne_eqb c 92 not_back) refl)
  | inr high ↦ high_taken quote (encode_utf8 c) t q (encode_high c high)
]

as_is_by : (quote : ℕ) (w t : List ℕ) → quote < 128 → AreHigh w → 0 < length w → unquoted quote true (w ++ t) ≡ after_front w (unquoted quote false t)
unfolding unquoted
as_is_by quote [] t q h some = absurd (omega (arith, some))
as_is_by quote (b ∷ w) t q h some = ap (put b) (high_taken quote w t q h.1) ∙ put_front b w (unquoted quote false t)

-- a character behind a backslash
pub as_is_taken : (quote c : ℕ) (t : List ℕ) → quote < 128 → 0 < length (encode_utf8 c) → unquoted quote true (encode_utf8 c ++ t) ≡ after_front (encode_utf8 c) (unquoted quote false t)
unfolding unquoted
as_is_taken quote c t q some = elim (cases_lt c 128) [
  | inl low ↦ let one = encode_ascii c low in rw one refl
  | inr high ↦ as_is_by quote (encode_utf8 c) t q (encode_high c high) some
]

-- the quote itself
pub closed : (quote : ℕ) (t : List ℕ) → quote < 128 → unquoted quote false (encode_utf8 quote ++ t) ≡ Some ([], t)
unfolding unquoted
closed quote t q = let one = encode_ascii quote q in rw one (rw (eq-eqb quote quote refl) refl)

-- a backslash
pub escapes : (quote : ℕ) (t : List ℕ) → 92 ≢ quote → unquoted quote false (encode_utf8 92 ++ t) ≡ unquoted quote true t
unfolding unquoted
escapes quote t ne = let one = encode_ascii 92 (omega arith) in rw one (rw (ne_eqb 92 quote ne) refl)

encode_some : (c : ℕ) → 0 < length (encode_utf8 c)
encode_some c = omega (arith, length-encode c, (len_utf8_bounds c).0)

-- ---- the steps of a loop over characters: what was read stands before what is still read

abbrev Total : Type 0
Total = Option (List ℕ × List ℕ)

-- the quote ends the value
pub ends_at : (quote c : ℕ) (front rest after : List ℕ) (total : Total) → quote < 128 → after_front front (unquoted quote false rest) ≡ total → rest ≡ encode_utf8 c ++ after → c ≡ quote
    → total ≡ Some (front, after)
ends_at quote c front rest after total q so parts is =
    let here : unquoted quote false rest ≡ Some ([], after) = ap (unquoted quote false) (parts ∙ ap (λ (k : ℕ). encode_utf8 k ++ after) is) ∙ closed quote after q in
    sym so ∙ ap (after_front front) here ∙ ap (λ (l : List ℕ). Some (l, after)) (append-nil front)

-- any other character but a backslash is taken
pub takes_at : (quote c : ℕ) (front rest after : List ℕ) (total : Total) → quote < 128 → after_front front (unquoted quote false rest) ≡ total → rest ≡ encode_utf8 c ++ after → c ≢ quote → c ≢ 92
    → after_front (front ++ encode_utf8 c) (unquoted quote false after) ≡ total
takes_at quote c front rest after total q so parts not_quote not_back =
    let here = ap (unquoted quote false) parts ∙ plain_taken quote c after q not_quote not_back in
    sym (regroup front (encode_utf8 c) (unquoted quote false after)) ∙ sym (ap (after_front front) here) ∙ so

backslash : (quote c : ℕ) (rest after : List ℕ) → rest ≡ encode_utf8 c ++ after → c ≢ quote → c ≡ 92 → unquoted quote false rest ≡ unquoted quote true after
backslash quote c rest after parts ne is =
    ap (unquoted quote false) (parts ∙ ap (λ (k : ℕ). encode_utf8 k ++ after) is) ∙ escapes quote after (λ e. ne (is ∙ e))

-- the character behind a backslash is taken as it is
pub escapes_at : (quote c e : ℕ) (front rest mid after : List ℕ) (total : Total) → quote < 128 → after_front front (unquoted quote false rest) ≡ total → rest ≡ encode_utf8 c ++ mid → c ≢ quote → c ≡ 92 → mid ≡ encode_utf8 e ++ after
    → after_front (front ++ encode_utf8 e) (unquoted quote false after) ≡ total
escapes_at quote c e front rest mid after total q so parts ne is parts2 =
    let here = backslash quote c rest mid parts ne is ∙ ap (unquoted quote true) parts2 ∙ as_is_taken quote e after q (encode_some e) in
    sym (regroup front (encode_utf8 e) (unquoted quote false after)) ∙ sym (ap (after_front front) here) ∙ so

nothing_left : (quote : ℕ) (as_is : Bool) (rest : List ℕ) → length rest ≡ 0 → unquoted quote as_is rest ≡ None
unfolding unquoted
nothing_left quote as_is [] h = refl
nothing_left quote as_is (b ∷ t) h = absurd (omega (arith, h))

-- the text ends before the quote
pub opens_at : (quote : ℕ) (front rest : List ℕ) (total : Total) → after_front front (unquoted quote false rest) ≡ total → length rest ≡ 0 → total ≡ None
opens_at quote front rest total so h = sym so ∙ ap (after_front front) (nothing_left quote false rest h)

-- the text ends behind a backslash
pub opens_behind : (quote c : ℕ) (front rest mid : List ℕ) (total : Total) → after_front front (unquoted quote false rest) ≡ total → rest ≡ encode_utf8 c ++ mid → c ≢ quote → c ≡ 92 → length mid ≡ 0 → total ≡ None
opens_behind quote c front rest mid total so parts ne is h =
    sym so ∙ ap (after_front front) (backslash quote c rest mid parts ne is ∙ nothing_left quote true mid h)
