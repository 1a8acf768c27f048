-- The heads of a dialer in memory are read back, and its whole replies are honest.
use Rattle.std.proofs.Common.{◌≡◌, ◌^◌, ℕ, ◌-◌, ◌<◌, ◌≤◌, List, [], ◌∷◌, ◌++◌, length, drop, refl, sym, ap, ◌∙◌, subst, arith, append-nil, append_assoc, length-append, length-drop, true, inl, inr}
use Rattle.std.specs.Prelude.{◌==◌, Some, None, All, codes, decimal, IsTrue, IsFalse, nat_lt}
use Rattle.std.specs.List.{list_all}
use Rattle.std.specs.Char.{is_ascii_digit}
use Rattle.std.proofs.lemmas.Bool.{cases_Bool, eq-eqb}
use Rattle.std.proofs.lemmas.Bool.Decides.{nat_tests}
use Rattle.std.proofs.lemmas.List.Elements.{All-nil, All-cons, All-append}
use Rattle.std.proofs.lemmas.Fmt.{decimal_nonempty, length-decimal-le}
use Rattle.url.proofs.InputLemmas.{All_from_list_all}
use Rattle.httparse.specs.Ascii.{crlf_bytes}
use Rattle.link_http.specs.Request.{line}
use Rattle.httparse.specs.Grammar.{Field, ResponseHead, crlf, AllPass, IsField, IsResponseHead, is_token_byte, is_value_byte, trim_ows, print_response}
use Rattle.http_reply.specs.Fields.{fields_of, values, length_told, has_no_length_but, is_encoded, is_chunked, content_range}
use Rattle.http_reply.specs.declared.range.Range.TheVariants.{Part, Past}
use Rattle.http_reply.specs.Heads.{heads_room, is_informal}
use Rattle.http_reply.specs.Truth.{IsHonest, HasHeads}
use Rattle.link_http.specs.Replies.{whole_head, part_head, past_head, zeros, status_reply, honest_reply}
use Rattle.link_http.proofs.NumberLemmas.{decimal_digits, number_decimal, digits_bytes, trim_digits, trim_decimal, range_digits, range_value_part, range_value_past}

-- ---- the heads

-- a field, as it is told
abbrev pub told : List ℕ → List ℕ → Field
told name value = record { name = name; raw = 32 ∷ value; end = crlf }

abbrev pub head_of : List ℕ → List ℕ → List Field → ResponseHead
head_of digits reason fields = record {
  blank = [];
  minor = 1;
  digits = digits;
  reason = Some reason;
  line_end = crlf;
  fields = fields;
  last = crlf;
}

abbrev pub length_field : ℕ → Field
length_field n = told (codes "Content-Length") (decimal n)

abbrev pub no_length : Field
no_length = told (codes "Content-Length") (codes "0")

abbrev pub whole_fields : ℕ → List Field
whole_fields total = length_field total ∷ []

abbrev pub part_fields : ℕ → ℕ → List Field
part_fields from total =
    told (codes "Content-Range") (codes "bytes " ++ range_digits from (total - 1) total) ∷ length_field (total - from) ∷ []

abbrev pub past_fields : ℕ → List Field
past_fields total = told (codes "Content-Range") (codes "bytes */" ++ decimal total) ∷ no_length ∷ []

abbrev pub whole_response : ℕ → ResponseHead
whole_response total = head_of (codes "200") (codes "OK") (whole_fields total)

abbrev pub part_response : ℕ → ℕ → ResponseHead
part_response from total = head_of (codes "206") (codes "Partial Content") (part_fields from total)

abbrev pub past_response : ℕ → ResponseHead
past_response total = head_of (codes "416") (codes "Range Not Satisfiable") (past_fields total)

whole_print : (total : ℕ) → print_response (whole_response total) ≡ whole_head total
unfolding print_response
whole_print total = simp append_assoc

-- the same text in other brackets
regroup_part : (f l t e m c : List ℕ)
    → ((((((f ++ (45 ∷ [])) ++ l) ++ (47 ∷ [])) ++ t) ++ e) ++ (m ++ (c ++ e))) ++ e
    ≡ f ++ (45 ∷ (l ++ (47 ∷ (t ++ (e ++ (m ++ (c ++ (e ++ e))))))))
regroup_part f l t e m c = simp append_assoc

regroup_fields : (f l t e m c : List ℕ)
    → (((f ++ (45 ∷ (l ++ (47 ∷ t)))) ++ e) ++ (m ++ ((c ++ e) ++ []))) ++ e
    ≡ f ++ (45 ∷ (l ++ (47 ∷ (t ++ (e ++ (m ++ (c ++ (e ++ e))))))))
regroup_fields f l t e m c = simp (append_assoc, append-nil)

regroup_past : (t e m : List ℕ) → ((t ++ e) ++ m) ++ e ≡ t ++ (e ++ (m ++ e))
regroup_past t e m = simp append_assoc

regroup_status : (z d s e m : List ℕ) → ((((z ++ d) ++ s) ++ e) ++ m) ++ e ≡ z ++ (d ++ (s ++ (e ++ (m ++ e))))
regroup_status z d s e m = simp append_assoc

-- the text of each head as it is put together
pub status_formed : (code : ℕ)
    → codes "HTTP/1.1 " ++ (zeros code ++ (decimal code ++ (codes " Status" ++ (crlf_bytes ++ (line (codes "Content-Length: 0") ++ crlf_bytes)))))
    ≡ status_reply code
status_formed code =
    ap (λ (t : List ℕ). codes "HTTP/1.1 " ++ t)
    (sym (regroup_status (zeros code) (decimal code) (codes " Status") crlf_bytes (line (codes "Content-Length: 0"))))

pub part_formed : (from total : ℕ)
    → codes "HTTP/1.1 206 Partial Content" ++ (crlf_bytes ++ (codes "Content-Range: bytes " ++ (decimal from ++ (45 ∷ (decimal (total - 1) ++ (47 ∷ (decimal total ++ (crlf_bytes ++ (codes "Content-Length: " ++ (decimal (total - from) ++ (crlf_bytes ++ crlf_bytes)))))))))))
    ≡ part_head from total
part_formed from total =
    ap (λ (t : List ℕ). line (codes "HTTP/1.1 206 Partial Content") ++ (codes "Content-Range: bytes " ++ t))
    (sym (regroup_part (decimal from) (decimal (total - 1)) (decimal total) crlf_bytes (codes "Content-Length: ") (decimal (total - from))))

pub past_formed : (total : ℕ)
    → codes "HTTP/1.1 416 Range Not Satisfiable" ++ (crlf_bytes ++ (codes "Content-Range: bytes */" ++ (decimal total ++ (crlf_bytes ++ (line (codes "Content-Length: 0") ++ crlf_bytes)))))
    ≡ past_head total
past_formed total =
    ap (λ (t : List ℕ). line (codes "HTTP/1.1 416 Range Not Satisfiable") ++ (codes "Content-Range: bytes */" ++ t))
    (sym (regroup_past (decimal total) crlf_bytes (line (codes "Content-Length: 0"))))

part_print : (from total : ℕ) → print_response (part_response from total) ≡ part_head from total
unfolding print_response
part_print from total =
    ap (λ (t : List ℕ). line (codes "HTTP/1.1 206 Partial Content") ++ (codes "Content-Range: bytes " ++ t))
    (regroup_fields (decimal from) (decimal (total - 1)) (decimal total) crlf_bytes (codes "Content-Length: ") (decimal (total - from)))
    ∙ part_formed from total

past_print : (total : ℕ) → print_response (past_response total) ≡ past_head total
unfolding print_response
past_print total =
    ap (λ (t : List ℕ). line (codes "HTTP/1.1 416 Range Not Satisfiable") ++ (codes "Content-Range: bytes */" ++ t))
    (regroup_past (decimal total) crlf_bytes (line (codes "Content-Length: 0")))
    ∙ past_formed total

token_bytes : (name : List ℕ) → list_all is_token_byte name ≡ true → AllPass is_token_byte name
token_bytes name all = All_from_list_all is_token_byte name all

value_bytes : (value : List ℕ) → list_all is_value_byte value ≡ true → AllPass is_value_byte value
value_bytes value all = All_from_list_all is_value_byte value all

length_is_field : (n : ℕ) → n < 2 ^ 64 → IsField (length_field n)
unfolding is_token_byte
length_is_field n fits = record {
  name = (omega arith, token_bytes (codes "Content-Length") refl);
  raw = All-append (λ b. IsTrue (is_value_byte b)) (32 ∷ []) (decimal n) (value_bytes (32 ∷ []) refl) (digits_bytes (decimal n) (decimal_digits n fits));
}

no_length_is_field : IsField no_length
unfolding is_token_byte
no_length_is_field = record {
  name = (omega arith, token_bytes (codes "Content-Length") refl);
  raw = value_bytes (codes " 0") refl;
}

range_is_field : (value : List ℕ) → AllPass is_value_byte value → IsField (told (codes "Content-Range") value)
unfolding is_token_byte
range_is_field value all = record {
  name = (omega arith, token_bytes (codes "Content-Range") refl);
  raw = All-append (λ b. IsTrue (is_value_byte b)) (32 ∷ []) value (value_bytes (32 ∷ []) refl) all;
}

decimal_bytes : (n : ℕ) → n < 2 ^ 64 → AllPass is_value_byte (decimal n)
decimal_bytes n fits = digits_bytes (decimal n) (decimal_digits n fits)

part_bytes : (a b n : ℕ) → a < 2 ^ 64 → b < 2 ^ 64 → n < 2 ^ 64 → AllPass is_value_byte (codes "bytes " ++ range_digits a b n)
part_bytes a b n fa fb fn =
    let P = λ (b : ℕ). IsTrue (is_value_byte b) in
    All-append P (codes "bytes ") (range_digits a b n) (value_bytes (codes "bytes ") refl)
    (All-append P (decimal a) (45 ∷ (decimal b ++ (47 ∷ decimal n))) (decimal_bytes a fa)
    (All-append P (45 ∷ []) (decimal b ++ (47 ∷ decimal n)) (value_bytes (45 ∷ []) refl)
    (All-append P (decimal b) (47 ∷ decimal n) (decimal_bytes b fb)
    (All-append P (47 ∷ []) (decimal n) (value_bytes (47 ∷ []) refl) (decimal_bytes n fn)))))

past_bytes : (n : ℕ) → n < 2 ^ 64 → AllPass is_value_byte (codes "bytes */" ++ decimal n)
past_bytes n fits =
    All-append (λ (b : ℕ). IsTrue (is_value_byte b)) (codes "bytes */") (decimal n) (value_bytes (codes "bytes */") refl) (decimal_bytes n fits)

abbrev pub IsDigits3 : List ℕ → Type 0
IsDigits3 digits = (length digits ≡ 3) × AllPass is_ascii_digit digits

head_is : (digits reason : List ℕ) (fields : List Field) → IsDigits3 digits → AllPass is_value_byte reason → All IsField fields
    → IsResponseHead (head_of digits reason fields)
head_is digits reason fields three phrase all = record { minor = omega arith; digits = three; reason = phrase; fields = all }

three_digits : (digits : List ℕ) → length digits ≡ 3 → list_all is_ascii_digit digits ≡ true → IsDigits3 digits
three_digits digits three all = (three, All_from_list_all is_ascii_digit digits all)

whole_is : (total : ℕ) → total < 2 ^ 64 → IsResponseHead (whole_response total)
whole_is total fits =
    head_is (codes "200") (codes "OK") (whole_fields total) (three_digits (codes "200") refl refl) (value_bytes (codes "OK") refl)
    (All-cons IsField (length_field total) [] (length_is_field total fits) (All-nil IsField))

part_is : (from total : ℕ) → from < total → total < 2 ^ 64 → IsResponseHead (part_response from total)
part_is from total less fits =
    head_is (codes "206") (codes "Partial Content") (part_fields from total) (three_digits (codes "206") refl refl) (value_bytes (codes "Partial Content") refl)
    (All-cons IsField _ (length_field (total - from) ∷ []) (range_is_field _ (part_bytes from (total - 1) total (omega (arith, less, fits)) (omega (arith, fits)) fits))
    (All-cons IsField _ [] (length_is_field (total - from) (omega (arith, fits))) (All-nil IsField)))

past_is : (total : ℕ) → total < 2 ^ 64 → IsResponseHead (past_response total)
past_is total fits =
    head_is (codes "416") (codes "Range Not Satisfiable") (past_fields total) (three_digits (codes "416") refl refl)
    (value_bytes (codes "Range Not Satisfiable") refl)
    (All-cons IsField _ (no_length ∷ []) (range_is_field _ (past_bytes total fits)) (All-cons IsField _ [] no_length_is_field (All-nil IsField)))

-- a readable final head that stands alone and fits
alone : (head : ResponseHead) (text body : List ℕ) → IsResponseHead head → IsFalse (is_informal head) → length head.fields ≤ 128
    → print_response head ≡ text → length text ≤ heads_room → HasHeads (text ++ body) [] head body
alone head text body is final few print fits = record {
  early_are = All-nil _;
  head_is = is;
  final = final;
  fields = few;
  fits = rw print fits;
  reply_is = ap (λ (t : List ℕ). t ++ body) (sym print);
}

short : (n : ℕ) → n < 2 ^ 64 → length (decimal n) ≤ 20
short n fits = length-decimal-le 20 n (omega arith) (omega (arith, fits)) fits

whole_short : (total : ℕ) → total < 2 ^ 64 → length (whole_head total) ≤ heads_room
whole_short total fits = simp length-append (omega (arith, short total fits))

part_short : (from total : ℕ) → from < total → total < 2 ^ 64 → length (part_head from total) ≤ heads_room
part_short from total less fits =
    let a = short from (omega (arith, less, fits)) in
    let b = short (total - 1) (omega (arith, fits)) in
    let n = short total fits in
    let c = short (total - from) (omega (arith, fits)) in
    simp length-append (omega (arith, a, b, n, c))

past_short : (total : ℕ) → total < 2 ^ 64 → length (past_head total) ≤ heads_room
past_short total fits = simp length-append (omega (arith, short total fits))

-- ---- what their fields tell

whole_told : (total : ℕ) → total < 2 ^ 64 → length_told (fields_of (whole_response total)) ≡ Some total
unfolding values
whole_told total fits = rw (trim_decimal total fits) (number_decimal total fits)

part_sized : (from total : ℕ) → total < 2 ^ 64 → length_told (fields_of (part_response from total)) ≡ Some (total - from)
unfolding values
part_sized from total fits = rw (trim_decimal (total - from) (omega (arith, fits))) (number_decimal (total - from) (omega (arith, fits)))

part_but : (from total : ℕ) → total < 2 ^ 64 → has_no_length_but (total - from) (fields_of (part_response from total)) ≡ true
unfolding values
part_but from total fits =
    let same : (total - from == total - from) ≡ true = eq-eqb _ _ refl in
    rw (trim_decimal (total - from) (omega (arith, fits))) (rw (number_decimal (total - from) (omega (arith, fits))) (rw same refl))

part_range : (from total : ℕ) → from < total → total < 2 ^ 64 → content_range (fields_of (part_response from total)) ≡ Part from (total - 1) total
unfolding values
part_range from total less fits =
    let front = codes "bytes " ++ (decimal from ++ (45 ∷ (decimal (total - 1) ++ (47 ∷ [])))) in
    let split : codes "bytes " ++ range_digits from (total - 1) total ≡ front ++ decimal total = simp append_assoc in
    let trimmed = trim_digits front (decimal total) refl (decimal_nonempty total fits) (decimal_digits total fits) in
    let value : trim_ows (32 ∷ (codes "bytes " ++ range_digits from (total - 1) total)) ≡ codes "bytes " ++ range_digits from (total - 1) total =
    ap (λ (v : List ℕ). trim_ows (32 ∷ v)) split ∙ trimmed ∙ sym split in
    rw value (range_value_part from (total - 1) total (omega (arith, less, fits)) (omega (arith, fits)) fits)

past_range : (total : ℕ) → total < 2 ^ 64 → content_range (fields_of (past_response total)) ≡ Past total
unfolding values
past_range total fits =
    rw (trim_digits (codes "bytes */") (decimal total) refl (decimal_nonempty total fits) (decimal_digits total fits)) (range_value_past total fits)

whole_plain : (total : ℕ) → IsFalse (is_encoded (fields_of (whole_response total)))
unfolding values
whole_plain total = refl

part_plain : (from total : ℕ) → IsFalse (is_encoded (fields_of (part_response from total)))
unfolding values
part_plain from total = refl

past_plain : (total : ℕ) → IsFalse (is_encoded (fields_of (past_response total)))
unfolding values
past_plain total = refl

whole_unchunked : (total : ℕ) → IsFalse (is_chunked (fields_of (whole_response total)))
unfolding values
whole_unchunked total = refl

part_unchunked : (from total : ℕ) → IsFalse (is_chunked (fields_of (part_response from total)))
unfolding values
part_unchunked from total = refl

-- ---- honest replies

-- the whole, wherever it was asked from
pub whole_honest : (bytes : List ℕ) (from : ℕ) → length bytes < 2 ^ 64 → IsHonest bytes from (whole_head (length bytes) ++ bytes)
whole_honest bytes from fits =
    let n = length bytes in
    record {
      early = [];
      head = whole_response n;
      body = bytes;
      heads = alone (whole_response n) (whole_head n) bytes (whole_is n fits) refl (omega arith) (whole_print n) (whole_short n fits);
      plain = whole_plain n;
      answers = inl (refl, inl (record { not_chunked = whole_unchunked n; told = whole_told n fits; text_is = refl }));
    }

pub part_honest : (bytes : List ℕ) (from : ℕ) → 0 < from → from < length bytes → length bytes < 2 ^ 64
    → IsHonest bytes from (part_head from (length bytes) ++ drop from bytes)
part_honest bytes from some less fits =
    let n = length bytes in
    let size : length (drop from bytes) ≡ n - from = length-drop from bytes in
    record {
      early = [];
      head = part_response from n;
      body = drop from bytes;
      heads = alone (part_response from n) (part_head from n) (drop from bytes) (part_is from n less fits) refl (omega arith) (part_print from n) (part_short from n less fits);
      plain = part_plain from n;
      answers = inr (inl (
        some,
        less,
        refl,
        part_range from n less fits,
        part_but from n fits,
        inl (record { not_chunked = part_unchunked from n; text_is = refl }),
      ));
    }

pub past_honest : (bytes : List ℕ) (from : ℕ) → 0 < from → from ≡ length bytes → length bytes < 2 ^ 64
    → IsHonest bytes from (past_head (length bytes) ++ drop from bytes)
past_honest bytes from some same fits =
    let n = length bytes in
    record {
      early = [];
      head = past_response n;
      body = drop from bytes;
      heads = alone (past_response n) (past_head n) (drop from bytes) (past_is n fits) refl (omega arith) (past_print n) (past_short n fits);
      plain = past_plain n;
      answers = inr (inr (some, same, refl, past_range n fits ∙ ap Past (sym same)));
    }

-- what an honest server that knows ranges answers
pub reply_honest : (bytes : List ℕ) (from : ℕ) → from ≤ length bytes → length bytes < 2 ^ 64 → IsHonest bytes from (honest_reply None bytes from)
reply_honest bytes from within fits =
    elim (cases_Bool (from == 0)) [
      | inl start ↦
          let zero : from ≡ 0 = grind (arith, nat_tests, start) in
          subst (λ (n : ℕ). IsHonest bytes from (honest_reply None bytes n)) (sym zero) (whole_honest bytes from fits)
      | inr further ↦
          let some : 0 < from = grind (arith, nat_tests, further) in
          elim (cases_Bool (nat_lt from (length bytes))) [
            | inl less ↦
                let inside : from < length bytes = grind (arith, nat_tests, less) in
                rw (further, less) (part_honest bytes from some inside fits)
            | inr not_ ↦
                let past : length bytes ≤ from = grind (arith, nat_tests, not_) in
                rw (further, not_) (past_honest bytes from some (omega (arith, past, within)) fits)
          ]
    ]
