-- The fields of a head, one by one.
use Rattle.std.proofs.Common.{◌≡◌, ◌≢◌, ℕ, suc, ◌+◌, ◌*◌, ◌<◌, ◌≤◌, List, [], ◌∷◌, length, take, drop, map, get_or, refl, sym, ◌∙◌, arith, add-one, drop-cons, inl, inr}
use Rattle.std.specs.Prelude.{Bool, true, false, Option, Some, None, codes, nat_eq, nat_lt, if◌then◌else◌}
use Rattle.std.specs.List.{list_all}
use Rattle.std.specs.Prelude.{◌==◌, ◌-◌, is_some, unwrap_or}
use Rattle.std.proofs.Common.{rules}
use Rattle.std.specs.List.{position_or_len}
use Rattle.std.specs.Char.{is_ascii_digit, digit_value}
use Rattle.std.specs.Str.Parse.{digits_value}
use Rattle.std.specs.Int.{IsInRange}
use Rattle.std.proofs.lemmas.List.Sums.{position_or_len_is}
use Rattle.std.proofs.lemmas.List.Folds.{list_all_more}
use Rattle.std.proofs.lemmas.Int.Digits.{digits_value_more}
use Rattle.std.proofs.lemmas.Str.{digit_value_digit}
use Rattle.std.proofs.lemmas.Bool.{lt-ltb, eq-eqb}
use Rattle.std.specs.Option.{option_eq}
use Rattle.std.specs.Str.{str_eq_ignore_ascii_case}
use Rattle.std.proofs.lemmas.Bool.{cond-true, cond-false, cases_Bool}
use Rattle.std.specs.Prelude.{cond}
use Rattle.std.proofs.lemmas.List.{drop_all}
use Rattle.httparse.specs.Spans.{header_bytes}
use Rattle.httparse.specs.declared.spans.HeaderSpan.{HeaderSpan}
use Rattle.http_reply.specs.Chunked.{capped}
use Rattle.http_reply.specs.declared.range.Range.{Range}
use Rattle.http_reply.specs.declared.range.Range.TheVariants.{Unreadable}
use Rattle.http_reply.specs.Fields.{Fields, agreed, fields_at, values, number, one_of, one_range, range_value}

-- The first field is of the name, or it is not.
pub values-named : (name : List ℕ) (f : List ℕ × List ℕ) (fields : Fields)
    → str_eq_ignore_ascii_case f.0 name ≡ true → values name (f ∷ fields) ≡ f.1 ∷ values name fields
unfolding values
values-named name f fields is = rw is refl

pub values-other : (name : List ℕ) (f : List ℕ × List ℕ) (fields : Fields)
    → str_eq_ignore_ascii_case f.0 name ≡ false → values name (f ∷ fields) ≡ values name fields
unfolding values
values-other name f fields other = rw other refl

-- A loop over the fields is at one of them.
abbrev pub name_at : List ℕ → List HeaderSpan → ℕ → HeaderSpan → List ℕ
name_at bytes headers i d = (header_bytes bytes (get_or headers i d)).0

abbrev pub value_at : List ℕ → List HeaderSpan → ℕ → HeaderSpan → List ℕ
value_at bytes headers i d = (header_bytes bytes (get_or headers i d)).1

pub values_at-named : (name bytes : List ℕ) (headers : List HeaderSpan) (i : ℕ) (d : HeaderSpan) → i < length headers
    → str_eq_ignore_ascii_case (name_at bytes headers i d) name ≡ true
    → values name (fields_at bytes (drop i headers)) ≡ value_at bytes headers i d ∷ values name (fields_at bytes (drop (i + 1) headers))
values_at-named name bytes headers i d within is =
    rw (add-one, drop-cons headers i d within) (values-named name (header_bytes bytes (get_or headers i d)) (fields_at bytes (drop (suc i) headers)) is)

pub values_at-other : (name bytes : List ℕ) (headers : List HeaderSpan) (i : ℕ) (d : HeaderSpan) → i < length headers
    → str_eq_ignore_ascii_case (name_at bytes headers i d) name ≡ false
    → values name (fields_at bytes (drop i headers)) ≡ values name (fields_at bytes (drop (i + 1) headers))
values_at-other name bytes headers i d within other =
    rw (add-one, drop-cons headers i d within) (values-other name (header_bytes bytes (get_or headers i d)) (fields_at bytes (drop (suc i) headers)) other)

-- At the end there are none left.
pub values_at-end : (name bytes : List ℕ) (headers : List HeaderSpan) (i : ℕ) → length headers ≤ i
    → values name (fields_at bytes (drop i headers)) ≡ []
unfolding values
values_at-end name bytes headers i past = rw (drop_all i headers past) refl

abbrev pub lengths : Fields → List (Option ℕ)
lengths fields = map number (values (codes "content-length") fields)

cond_same : {A : Type 0} (b : Bool) (x : A) → cond b x x ≡ x
cond_same true x = refl
cond_same false x = refl

agreed-same : (m n : ℕ) (size : Option ℕ) → option_eq nat_eq size (Some m) ≡ true → agreed (Some m) size ≡ Some n → m ≡ n
agreed-same m n size is e = let f : Some m ≡ Some n = sym (cond-true _ _ _ is) ∙ e in cc

agreed-other : (m n : ℕ) (size : Option ℕ) → option_eq nat_eq size (Some m) ≡ false → agreed (Some m) size ≢ Some n
agreed-other m n size other e = let f : None ≡ Some n = sym (cond-false _ _ _ other) ∙ e in absurd (cc)

agreed-some : (m : ℕ) (size : Option ℕ) → option_eq nat_eq size (Some m) ≡ true → agreed (Some m) size ≢ None
agreed-some m size is e = let f : Some m ≡ None = sym (cond-true _ _ _ is) ∙ e in absurd (cc)

-- one number, after fields that told this one or none
abbrev pub told_after : Option ℕ → List (Option ℕ) → Option ℕ
told_after None ns = one_of ns
told_after (Some n) ns = if list_all (λ m. option_eq nat_eq m (Some n)) ns then Some n else None

abbrev pub ranges : Fields → List (List ℕ)
ranges fields = values (codes "content-range") fields

-- one range, after fields that told this one or none
abbrev pub range_after : Option Range → List (List ℕ) → Range
range_after None values = one_range values
range_after (Some range) [] = range
range_after (Some range) (value ∷ values) = Unreadable

-- One more number, after those that told this one or none.
pub told_step : (told size : Option ℕ) (ns : List (Option ℕ)) (n : ℕ) → agreed told size ≡ Some n
    → told_after told (size ∷ ns) ≡ told_after (Some n) ns
told_step None (Some m) ns n e = let same : m ≡ n = cc in rw same refl
told_step None None ns n e = absurd (cc)
told_step (Some m) size ns n e =
    elim (cases_Bool (option_eq nat_eq size (Some m))) [
      | inl is ↦ let same : m ≡ n = agreed-same m n size is e in rw (sym same, is) refl
      | inr other ↦ absurd (agreed-other m n size other e)
    ]

pub told_stop : (told size : Option ℕ) (ns : List (Option ℕ)) → agreed told size ≡ None
    → told_after told (size ∷ ns) ≡ None
told_stop None (Some m) ns e = absurd (cc)
told_stop None None ns e = cond_same (list_all (λ m. option_eq nat_eq m None) ns) None
told_stop (Some m) size ns e =
    elim (cases_Bool (option_eq nat_eq size (Some m))) [
      | inl is ↦ absurd (agreed-some m size is e)
      | inr other ↦ rw other refl
    ]

pub capped-more : (n d : ℕ) → capped (capped (capped n * 10) + d) ≡ capped (n * 10 + d)
capped-more n d = omega arith

pub some_values : (v : List ℕ) (vs : List (List ℕ)) → nat_lt 0 (length (v ∷ vs)) ≡ true
some_values v vs = lt-ltb 0 (length (v ∷ vs)) (omega arith)

-- The first place of a byte.
pub first_at : (byte : ℕ) (text : List ℕ) (i : ℕ) → i < length text → ((k : ℕ) → k < i → (get_or text k 0 == byte) ≡ false)
    → get_or text i 0 ≡ byte → position_or_len (λ b. b == byte) text ≡ i
first_at byte text i within others is =
    position_or_len_is (λ b. b == byte) text i 0 (omega arith) others (λ _. eq-eqb _ _ is)

pub first_none : (byte : ℕ) (text : List ℕ) (i : ℕ) → length text ≤ i → ((k : ℕ) → k < i → (get_or text k 0 == byte) ≡ false)
    → position_or_len (λ b. b == byte) text ≡ length text
first_none byte text i past others =
    position_or_len_is (λ b. b == byte) text (length text) 0 (omega arith) (λ k less. others k (omega arith)) (λ less. absurd (omega arith))

digit_range : (b : ℕ) → is_ascii_digit b ≡ true → IsInRange 48 57 b
digit_range b is = search (rules, is)

-- One more digit of a number, as far as it fits.
pub number_more : (text : List ℕ) (i value : ℕ) → i < length text → value ≡ capped (digits_value 10 (take i text))
    → is_ascii_digit (get_or text i 0) ≡ true
    → capped (capped (value * 10) + (get_or text i 0 - 48)) ≡ capped (digits_value 10 (take (i + 1) text))
number_more text i value within is digit =
    let d : digit_value (get_or text i 0) + 48 ≡ get_or text i 0 = digit_value_digit (get_or text i 0) (digit_range _ digit) in
    let e : get_or text i 0 - 48 ≡ digit_value (get_or text i 0) = omega arith in
    rw (is, e, digits_value_more 10 text i within) (capped-more (digits_value 10 (take i text)) (digit_value (get_or text i 0)))

pub digits_more : (text : List ℕ) (i : ℕ) → i < length text → list_all is_ascii_digit (take i text) ≡ true
    → is_ascii_digit (get_or text i 0) ≡ true → list_all is_ascii_digit (take (i + 1) text) ≡ true
digits_more text i within all digit = list_all_more is_ascii_digit text i 0 within ∙ rw (all, digit) refl

pub some_after : (xs : List (List ℕ)) (v : List ℕ) (vs : List (List ℕ)) → xs ≡ v ∷ vs → nat_lt 0 (length xs) ≡ true
some_after xs v vs e = rw e (some_values v vs)

-- A second range, and the first.
pub range_taken : (range : Option Range) (v : List ℕ) (vs : List (List ℕ)) → is_some range ≡ true
    → range_after range (v ∷ vs) ≡ Unreadable
range_taken (Some range) v vs some = refl
range_taken None v vs some = absurd (cc)

pub range_first : (range : Option Range) (v : List ℕ) (vs : List (List ℕ)) → is_some range ≡ false
    → range_after range (v ∷ vs) ≡ range_after (Some (range_value v)) vs
range_first (Some range) v vs some = absurd (cc)
range_first None v [] none = refl
range_first None v (w ∷ vs) none = refl

pub range_end : (range : Option Range) → range_after range [] ≡ unwrap_or range Unreadable
range_end (Some range) = refl
range_end None = refl

pub told_end : (told : Option ℕ) → told_after told [] ≡ told
told_end (Some n) = refl
told_end None = refl
