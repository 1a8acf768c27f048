-- What a request asks for, read back from its text.
use Rattle.std.proofs.Common.{◌≡◌, ◌≢◌, ◌^◌, ℕ, suc, ◌+◌, ◌<◌, ◌≤◌, List, [], ◌∷◌, ◌++◌, length, drop, get_or, refl, sym, ap, ◌∙◌, arith, append_assoc, length-append, add-one, drop-cons, true, false, inl, inr}
use Rattle.std.specs.Prelude.{Bool, not, All, Option, Some, ◌==◌, nat_eq, codes, decimal, bytes_eq}
use Rattle.std.specs.List.{starts_with, list_all}
use Rattle.std.specs.Option.{option_map_or}
use Rattle.std.specs.Char.{is_ascii_digit}
use Rattle.std.proofs.lemmas.Bool.{cases_Bool, and_parts, cond-true, cond-false, eq-eqb, ne_eqb}
use Rattle.std.proofs.lemmas.Bool.Decides.{Decides-eqb, nat_tests}
use Rattle.std.proofs.lemmas.List.{drop_all}
use Rattle.std.proofs.lemmas.List.Elements.{All-nil, All-cons, All-head, All-tail, All-append, All-weaker}
use Rattle.std.proofs.lemmas.Slice.Eq.{bytes_eq-Decides, starts_is}
use Rattle.std.proofs.Math.Seq.{take-append_seam}
use Rattle.url.proofs.InputLemmas.{Passes, All_from_list_all}
use Rattle.httparse.specs.Ascii.{crlf_bytes}
use Rattle.http_header.specs.Token.{token_test}
use Rattle.link_http.specs.declared.header.Header.{Header}
use Rattle.link_http.specs.Asked.{get_line, is_line, range_text, number_before, asked_from}
use Rattle.link_http.specs.Request.{Address, line, field_line, fields_text, is_sent, is_own_name, port_text, range_line, request}
use Rattle.link_http.specs.Sending.{IsClean, is_clean}
use Rattle.link_http.proofs.NumberLemmas.{prefix_at, decimal_digits, decimal_value}
use Rattle.link_http.proofs.RequestLemmas.{field_clean, port_clean, split}

-- ---- one line

pub line_is : (text : List ℕ) → All IsClean text → is_line (line text) ≡ true
line_is [] clean = refl
line_is (b ∷ text) clean = cond-true _ _ _ (All-head IsClean b text clean) ∙ line_is text (All-tail IsClean b text clean)

pub get_line_is : (target : List ℕ) → All IsClean target → is_line (get_line target) ≡ true
get_line_is target clean =
    line_is (codes "GET " ++ target ++ codes " HTTP/1.1")
    (All-append IsClean (codes "GET " ++ target) (codes " HTTP/1.1")
    (All-append IsClean (codes "GET ") target (All_from_list_all is_clean (codes "GET ") refl) clean) (All_from_list_all is_clean (codes " HTTP/1.1") refl))

line_end : (b : ℕ) (text : List ℕ) → is_line (b ∷ text) ≡ true → is_clean b ≡ false → b ∷ text ≡ crlf_bytes
line_end b text is not_ = (bytes_eq-Decides (b ∷ text) crlf_bytes).0 (sym (cond-false _ _ _ not_) ∙ is)

line_on : (b : ℕ) (text : List ℕ) → is_line (b ∷ text) ≡ true → is_clean b ≡ true → is_line text ≡ true
line_on b text is clean = sym (cond-true _ _ _ clean) ∙ is

first_same : (a b : ℕ) (xs ys : List ℕ) → a ∷ xs ≡ b ∷ ys → a ≡ b
first_same a b xs ys e = cc

rest_same : (a b : ℕ) (xs ys : List ℕ) → a ∷ xs ≡ b ∷ ys → xs ≡ ys
rest_same a b xs ys e = cc

-- Of two lines at the front of one text, both are the same.
pub line_same : (a b rest rest' : List ℕ) → is_line a ≡ true → is_line b ≡ true → a ++ rest ≡ b ++ rest' → a ≡ b
line_same [] b rest rest' ia ib e = absurd (cc)
line_same (x ∷ a) [] rest rest' ia ib e = absurd (cc)
line_same (x ∷ a) (y ∷ b) rest rest' ia ib e =
    let same : x ≡ y = first_same _ _ _ _ e in
    elim (cases_Bool (is_clean x)) [
      | inl clean ↦
          let clean' : is_clean y ≡ true = ap is_clean (sym same) ∙ clean in
          let tails : a ≡ b = line_same a b rest rest' (line_on x a ia clean) (line_on y b ib clean') (rest_same _ _ _ _ e) in
          cc
      | inr not_ ↦
          let not_' : is_clean y ≡ false = ap is_clean (sym same) ∙ not_ in
          line_end x a ia not_ ∙ sym (line_end y b ib not_')
    ]

-- A text that begins with a line begins with no other.
pub begins_same : (text first rest own : List ℕ) → is_line first ≡ true → is_line own ≡ true → text ≡ first ++ rest
    → starts_with nat_eq text own ≡ bytes_eq own first
begins_same text first rest own one own_one is =
    let starts = starts_is Decides-eqb text own (starts_with nat_eq text own) refl in
    elim (cases_Bool (bytes_eq own first)) [
      | inl same ↦
          let e : own ≡ first = (bytes_eq-Decides own first).0 same in
          starts.1 rest (is ∙ ap (λ (l : List ℕ). l ++ rest) (sym e)) ∙ sym same
      | inr other ↦
          elim (cases_Bool (starts_with nat_eq text own)) [
            | inl begins ↦
                let e : own ≡ first = line_same own first (drop (length own) text) rest own_one one (sym (starts.0 begins) ∙ is) in
                let t : bytes_eq own first ≡ true = (bytes_eq-Decides own first).1 e in
                absurd (cc)
            | inr not_ ↦ not_ ∙ sym other
          ]
    ]

-- A line that is one has no line's end in it.
pub line_clean : (text : List ℕ) → is_line (line text) ≡ true → All IsClean text
line_clean [] is = All-nil IsClean
line_clean (b ∷ text) is =
    elim (cases_Bool (is_clean b)) [
      | inl clean ↦ All-cons IsClean b text clean (line_clean text (line_on b (line text) is clean))
      | inr not_ ↦
          let size : length (b ∷ line text) ≡ 2 = ap (λ (l : List ℕ). length l) (line_end b (line text) is not_) in
          absurd (omega (arith, size, length-append text crlf_bytes))
    ]

-- ---- the range of a request

abbrev pub begins : List ℕ → Bool
begins text = starts_with nat_eq text (codes "Range: bytes=")

no_end : (b : ℕ) → IsClean b → (b == 10) ≡ false
no_end b clean = grind (arith, nat_tests, clean)

range_skip : (text rest : List ℕ) → All IsClean text → range_text (text ++ rest) ≡ range_text rest
range_skip [] rest clean = refl
range_skip (b ∷ text) rest clean =
    rw (no_end b (All-head IsClean b text clean)) (range_skip text rest (All-tail IsClean b text clean))

past_line : (text rest : List ℕ) → All IsClean text → range_text (line text ++ rest) ≡ range_text (10 ∷ rest)
past_line text rest clean = ap range_text (append_assoc text crlf_bytes rest) ∙ range_skip text (13 ∷ 10 ∷ rest) clean

line_other : (text rest : List ℕ) → All IsClean text → begins rest ≡ false → range_text (line text ++ rest) ≡ range_text rest
line_other text rest clean other = past_line text rest clean ∙ (rw other refl)

line_before : (text rest : List ℕ) → All IsClean text → begins rest ≡ true → range_text (line text ++ rest) ≡ Some (drop 13 rest)
line_before text rest clean is = past_line text rest clean ∙ (rw is refl)

-- ---- the fields

abbrev IsNoColon : ℕ → Type 0
IsNoColon b = (b == 58) ≡ false

colon_end : (b : ℕ) (xs ys : List ℕ) → IsNoColon b → 58 ∷ xs ≡ b ∷ ys → ⊥
colon_end b xs ys none e =
    let same : b ≡ 58 = sym (first_same _ _ _ _ e) in
    let is : (b == 58) ≡ true = eq-eqb b 58 same in
    absurd (cc)

colon_same : (a b xs ys : List ℕ) → All IsNoColon a → All IsNoColon b → a ++ (58 ∷ xs) ≡ b ++ (58 ∷ ys) → a ≡ b
colon_same [] [] xs ys na nb e = refl
colon_same [] (y ∷ b) xs ys na nb e = absurd (colon_end y xs (b ++ (58 ∷ ys)) (All-head IsNoColon y b nb) e)
colon_same (x ∷ a) [] xs ys na nb e = absurd (colon_end x ys (a ++ (58 ∷ xs)) (All-head IsNoColon x a na) (sym e))
colon_same (x ∷ a) (y ∷ b) xs ys na nb e =
    let heads : x ≡ y = first_same _ _ _ _ e in
    let tails : a ≡ b = colon_same a b xs ys (All-tail IsNoColon x a na) (All-tail IsNoColon y b nb) (rest_same _ _ _ _ e) in
    cc

name_byte : (b : ℕ) → Passes token_test b → IsNoColon b
name_byte b passes = grind (arith, nat_tests)

field_split : (h : Header) (rest : List ℕ) → field_line h ++ rest ≡ h.name ++ (58 ∷ (32 ∷ (h.value ++ (crlf_bytes ++ rest))))
field_split h rest = simp append_assoc

-- A field that is sent is no range, for a field of that name is passed over.
field_other : (h : Header) (rest : List ℕ) → is_sent h ≡ true → begins (field_line h ++ rest) ≡ false
field_other h rest sent =
    elim (cases_Bool (begins (field_line h ++ rest))) [
      | inl is ↦
          let both = and_parts _ _ sent in
          let parts = and_parts _ _ both.0 in
          let token = and_parts _ _ parts.0 in
          let name = All-weaker (Passes token_test) IsNoColon name_byte h.name (All_from_list_all token_test h.name (and_parts _ _ token.0).1) in
          let text = field_line h ++ rest in
          let front = (starts_is Decides-eqb text (codes "Range: bytes=") (begins text) refl).0 is in
          let own : h.name ≡ codes "Range" =
          colon_same h.name (codes "Range") _ (codes " bytes=" ++ drop 13 text) name (All-from_all (codes "Range") refl) (sym (field_split h rest) ∙ front) in
          let named : is_own_name h.name ≡ true = ap is_own_name own in
          let unsent : false ≡ true = sym (ap not named) ∙ both.1 in
          absurd (cc)
      | inr not_ ↦ not_
    ]
  where
    All-from_all : (name : List ℕ) → list_all (λ b. not (b == 58)) name ≡ true → All IsNoColon name
    All-from_all name all = All-weaker (Passes (λ b. not (b == 58))) IsNoColon colon_not name (All_from_list_all (λ b. not (b == 58)) name all)
      where
        colon_not : (b : ℕ) → Passes (λ x. not (x == 58)) b → IsNoColon b
        colon_not b passes = grind (arith, nat_tests)

fields_other : (headers : List Header) (rest : List ℕ) → begins rest ≡ false → begins (fields_text headers ++ rest) ≡ false
fields_other [] rest other = other
fields_other (h ∷ headers) rest other =
    elim (cases_Bool (is_sent h)) [
      | inl sent ↦ rw (sent, append_assoc (field_line h) (fields_text headers) rest) (field_other h (fields_text headers ++ rest) sent)
      | inr not_ ↦ rw not_ (fields_other headers rest other)
    ]

fields_pass : (text : List ℕ) (headers : List Header) (rest : List ℕ) → All IsClean text → begins rest ≡ false
    → range_text (line text ++ (fields_text headers ++ rest)) ≡ range_text rest
fields_pass text [] rest clean other = line_other text rest clean other
fields_pass text (h ∷ headers) rest clean other =
    elim (cases_Bool (is_sent h)) [
      | inl sent ↦
          let more = fields_text headers ++ rest in
          let text' = h.name ++ codes ": " ++ h.value in
          rw (sent, append_assoc (field_line h) (fields_text headers) rest)
          (line_other text (field_line h ++ more) clean (field_other h more sent) ∙ fields_pass text' headers rest (field_clean h sent) other)
      | inr not_ ↦ rw not_ (fields_pass text headers rest clean other)
    ]

-- ---- the place that a request asks from

number_read : (n : ℕ) (rest : List ℕ) → n < 2 ^ 64 → number_before (decimal n ++ (45 ∷ rest)) ≡ n
number_read n rest fits =
    rw (prefix_at is_ascii_digit (decimal n) 45 rest (decimal_digits n fits) refl, take-append_seam (decimal n) (45 ∷ rest), decimal_value n fits)
    (omega (arith, fits))

abbrev close : List ℕ
close = line (codes "Connection: close") ++ line []

accept_clean : All IsClean (codes "Accept-Encoding: identity")
accept_clean = All_from_list_all is_clean (codes "Accept-Encoding: identity") refl

range_front : (from : ℕ) (rest : List ℕ)
    → line (codes "Range: bytes=" ++ decimal from ++ codes "-") ++ rest ≡ codes "Range: bytes=" ++ (decimal from ++ (45 ∷ (crlf_bytes ++ rest)))
range_front from rest = simp append_assoc

range_read : (from : ℕ) → from < 2 ^ 64
    → option_map_or number_before (range_text (line (codes "Accept-Encoding: identity") ++ (range_line from ++ close))) 0 ≡ from
range_read from fits =
    elim (cases_Bool (from == 0)) [
      | inl start ↦
          let zero : from ≡ 0 = grind (arith, nat_tests, start) in
          rw start (sym zero)
      | inr further ↦
          let mark = codes "Range: bytes=" in
          let behind = decimal from ++ (45 ∷ (crlf_bytes ++ close)) in
          let front = range_front from close in
          let text = line (mark ++ decimal from ++ codes "-") ++ close in
          let is : begins text ≡ true = (starts_is Decides-eqb text mark (begins text) refl).1 behind front in
          rw further (ap (λ (o : Option (List ℕ)). option_map_or number_before o 0)
          (line_before (codes "Accept-Encoding: identity") text accept_clean is ∙ ap (λ (l : List ℕ). Some (drop 13 l)) front)
          ∙ number_read from (crlf_bytes ++ close) fits)
    ]

pub asked_from_request : (to : Address) (headers : List Header) (from : ℕ) → is_line (get_line to.target) ≡ true → All IsClean to.place.host
    → to.place.port < 2 ^ 64 → from < 2 ^ 64 → asked_from (request to headers from) ≡ from
unfolding request
asked_from_request to headers from one host port fits =
    let first = codes "GET " ++ to.target ++ codes " HTTP/1.1" in
    let second = codes "Host: " ++ to.place.host ++ port_text to.place.port in
    let tail = line (codes "Accept-Encoding: identity") ++ (range_line from ++ close) in
    let rest = line second ++ (fields_text headers ++ tail) in
    let second_clean =
    All-append IsClean (codes "Host: " ++ to.place.host) (port_text to.place.port)
    (All-append IsClean (codes "Host: ") to.place.host (All_from_list_all is_clean (codes "Host: ") refl) host) (port_clean to.place.port port) in
    ap asked_from (split (line first) (line second) (fields_text headers) (line (codes "Accept-Encoding: identity")) (range_line from) (line (codes "Connection: close")) (line []))
    ∙ ap (λ (o : Option (List ℕ)). option_map_or number_before o 0)
    (line_other first rest (line_clean first one) refl ∙ fields_pass second headers tail second_clean refl)
    ∙ range_read from fits

-- a request begins with its line
pub request_begins : (to : Address) (headers : List Header) (from : ℕ) → (rest : List ℕ) × (request to headers from ≡ get_line to.target ++ rest)
unfolding request
request_begins to headers from =
    let second = line (codes "Host: " ++ to.place.host ++ port_text to.place.port) in (
      second ++ (fields_text headers ++ (line (codes "Accept-Encoding: identity") ++ (range_line from ++ close))),
      split (get_line to.target) second (fields_text headers) (line (codes "Accept-Encoding: identity")) (range_line from) (line (codes "Connection: close")) (line []),
    )

-- ---- a place in a request

pub range_here : (text : List ℕ) (i : ℕ) → i < length text → get_or text i 0 ≡ 10 → begins (drop (i + 1) text) ≡ true
    → asked_from (drop i text) ≡ number_before (drop 13 (drop (i + 1) text))
range_here text i within lf starts =
    let next : drop (i + 1) text ≡ drop (suc i) text = ap (λ (n : ℕ). drop n text) (add-one i) in
    let begun : begins (drop (suc i) text) ≡ true = ap begins (sym next) ∙ starts in
    rw (drop-cons text i 0 within, lf, begun, next) refl

-- the byte there is no line's end
pub range_other : (text : List ℕ) (i : ℕ) → i < length text → get_or text i 0 ≢ 10 → asked_from (drop i text) ≡ asked_from (drop (i + 1) text)
range_other text i within other =
    let next : drop (i + 1) text ≡ drop (suc i) text = ap (λ (n : ℕ). drop n text) (add-one i) in
    let none : (get_or text i 0 == 10) ≡ false = ne_eqb _ _ other in
    rw (drop-cons text i 0 within, none, next) refl

-- no range stands behind it
pub range_unmarked : (text : List ℕ) (i : ℕ) → i < length text → begins (drop (i + 1) text) ≡ false
    → asked_from (drop i text) ≡ asked_from (drop (i + 1) text)
range_unmarked text i within not_ =
    let next : drop (i + 1) text ≡ drop (suc i) text = ap (λ (n : ℕ). drop n text) (add-one i) in
    let none : begins (drop (suc i) text) ≡ false = ap begins (sym next) ∙ not_ in
    elim (cases_Bool (get_or text i 0 == 10)) [
      | inl lf ↦ rw (drop-cons text i 0 within, lf, none, next) refl
      | inr other ↦ rw (drop-cons text i 0 within, other, next) refl
    ]

pub range_nowhere : (text : List ℕ) (i : ℕ) → length text ≤ i → asked_from (drop i text) ≡ 0
range_nowhere text i past = rw (drop_all i text past) refl
