-- The text of a request is whole.
use Rattle.std.proofs.Common.{◌≡◌, ◌^◌, cond, ℕ, suc, add-one, ◌+◌, ◌<◌, ◌≤◌, List, [], ◌∷◌, ◌++◌, length, drop, get_or, append-nil, refl, sym, ap, ◌∙◌, subst, arith, append_assoc, length-append, Bool, true, false, Some, None, inl, inr}
use Rattle.std.specs.Prelude.{All, Option, option_map, unwrap_or, codes, decimal, ◌==◌}
use Rattle.std.specs.List.{list_all}
use Rattle.std.specs.Int.{IsInRange}
use Rattle.std.proofs.lemmas.Bool.{cases_Bool, and_parts, and_from, lt-ltb, le-leb, both_ways}
use Rattle.std.proofs.lemmas.List.{drop_all}
use Rattle.std.proofs.Math.Seq.{drop-cons}
use Rattle.std.proofs.lemmas.Bool.Decides.{nat_tests}
use Rattle.std.proofs.lemmas.Fmt.{digits_decimal}
use Rattle.std.proofs.lemmas.Str.Parse.{numerals_by_value, tells_by_index}
use Rattle.std.proofs.lemmas.List.Elements.{All-nil, All-append, All-weaker, All-from_get_or}
use Rattle.httparse.specs.Grammar.{is_value_byte}
use Rattle.http_header.specs.Token.{token_test, is_token_byte}
use Rattle.http_header.specs.FieldValue.{IsFieldValue}
use Rattle.http_header.proofs.TokenLemmas.{IsFieldName-from_test}
use Rattle.http_header.specs.FieldName.{is_field_name, IsFieldName}
use Rattle.url.specs.declared.sets.TheConstants.{OPAQUE_PATH}
use Rattle.url.specs.declared.host.Host.{Host}
use Rattle.url.specs.declared.host.Host.TheVariants.{Domain}
use Rattle.url.specs.Host.{host_text}
use Rattle.url.specs.Parts.{Parts, IsValid, has_host, nonempty_host, query_set, kind_of}
use Rattle.url.proofs.InputLemmas.{Passes, All_from_list_all, list_all_from_All}
use Rattle.url.proofs.TextLemmas.{All_kept, All_part, is_host_byte, own_host_bytes, is_query_byte, query_byte}
use Rattle.url.proofs.ValidLemmas.{path_kept}
use Rattle.link_http.specs.declared.header.Header.{Header}
use Rattle.link_http.specs.Request.{Address, target_of, is_sent, line, field_line, fields_text, sent_text, port_text, range_line, request}
use Rattle.link_http.specs.Sending.{IsWholeText, IsClean, is_clean}
use Rattle.link_http.proofs.LinesLemmas.{Lines, lines_line, lines_end, whole_lines}

-- ---- the parts of a URL

host_byte_clean : (b : ℕ) → Passes is_host_byte b → IsClean b
host_byte_clean b passes = grind (arith, nat_tests)

query_byte_clean : (b : ℕ) → Passes is_query_byte b → IsClean b
query_byte_clean b passes = grind (arith, nat_tests)

own_clean : (o : Option (Host (List ℕ))) (host : List ℕ) → All (Passes is_host_byte) (host_text (unwrap_or o (Domain [])))
    → Some host ≡ option_map host_text o → All IsClean host
own_clean None host all is = absurd (cc)
own_clean (Some h) host all is =
    let same : host ≡ host_text h = cc in
    subst (All IsClean) (sym same) (All-weaker (Passes is_host_byte) IsClean host_byte_clean (host_text h) all)

nonempty_own : (test : Bool) (o : Option (Host (List ℕ))) (host : List ℕ)
    → Some host ≡ option_map host_text (cond test o None) → Some host ≡ option_map host_text o
nonempty_own true o host is = is
nonempty_own false o host is = absurd (cc)

-- the host of a URL
pub host_clean : (url : Parts) (host : List ℕ) → IsValid url → Some host ≡ option_map host_text (nonempty_host url) → All IsClean host
host_clean url host valid is = own_clean url.host host (own_host_bytes url valid.head) (nonempty_own (has_host url) url.host host is)

query_clean : (query : Option (List ℕ)) → All IsClean (unwrap_or query []) → All IsClean (unwrap_or (option_map (λ q. codes "?" ++ q) query) [])
query_clean None clean = All-nil IsClean
query_clean (Some q) clean = All-append IsClean (codes "?") q (All_from_list_all is_clean (codes "?") refl) clean

-- the target of a request for a URL
pub target_clean : (url : Parts) → IsValid url → All IsClean (target_of url)
target_clean url valid =
    All-append IsClean url.path (unwrap_or (option_map (λ q. codes "?" ++ q) url.query) [])
    (All_kept is_clean OPAQUE_PATH refl url.path (path_kept url valid.path)) (query_clean url.query
    (All_part IsClean (query_set (kind_of url)) url.query (λ b kept. query_byte_clean b (query_byte (kind_of url) b kept)) valid.query))

-- ---- the lines

digit_clean : (b : ℕ) → IsInRange 48 57 b → IsClean b
digit_clean b digit = grind (arith, nat_tests)

pub decimal_clean : (n : ℕ) → n < 2 ^ 64 → All IsClean (decimal n)
decimal_clean n fits =
    All-from_get_or IsClean (decimal n) 0 (λ i inside. digit_clean _ (digits_decimal (numerals_by_value _ tells_by_index) n (omega (arith, fits)) i inside))

pub port_clean : (port : ℕ) → port < 2 ^ 64 → All IsClean (port_text port)
port_clean port fits =
    elim (cases_Bool (port == 80)) [
      | inl usual ↦ rw usual (All-nil IsClean)
      | inr other ↦ rw other (All-append IsClean (codes ":") (decimal port) (All_from_list_all is_clean (codes ":") refl) (decimal_clean port fits))
    ]

name_byte_clean : (b : ℕ) → Passes token_test b → IsClean b
name_byte_clean b passes = grind (arith, nat_tests)

value_byte_clean : (b : ℕ) → Passes is_value_byte b → IsClean b
value_byte_clean b passes = grind (arith, nat_tests)

pub field_clean : (h : Header) → is_sent h ≡ true → All IsClean (h.name ++ codes ": " ++ h.value)
field_clean h sent =
    let both = and_parts _ _ sent in
    let parts = and_parts _ _ both.0 in
    let token = and_parts _ _ parts.0 in
    let name = All-weaker (Passes token_test) IsClean name_byte_clean h.name (All_from_list_all token_test h.name (and_parts _ _ token.0).1) in
    let value = All-weaker (Passes is_value_byte) IsClean value_byte_clean h.value (All_from_list_all is_value_byte h.value parts.1) in
    All-append IsClean (h.name ++ codes ": ") h.value
    (All-append IsClean h.name (codes ": ") name (All_from_list_all is_clean (codes ": ") refl)) value

pub fields_lines : (headers : List Header) (rest : List ℕ) → Lines rest → Lines (fields_text headers ++ rest)
fields_lines [] rest lines = lines
fields_lines (h ∷ headers) rest lines =
    elim (cases_Bool (is_sent h)) [
      | inl sent ↦ rw (sent, append_assoc (field_line h) (fields_text headers) rest)
          (lines_line (h.name ++ codes ": " ++ h.value) (fields_text headers ++ rest)
          (omega (arith, length-append (h.name ++ codes ": ") h.value, length-append h.name (codes ": "))) (field_clean h sent) (fields_lines headers rest lines))
      | inr not_ ↦ rw not_ (fields_lines headers rest lines)
    ]

pub range_lines : (from : ℕ) (rest : List ℕ) → from < 2 ^ 64 → Lines rest → Lines (range_line from ++ rest)
range_lines from rest fits lines =
    elim (cases_Bool (from == 0)) [
      | inl start ↦ rw start lines
      | inr further ↦ rw further
          (lines_line (codes "Range: bytes=" ++ decimal from ++ codes "-") rest
          (omega (arith, length-append (codes "Range: bytes=" ++ decimal from) (codes "-")))
          (All-append IsClean (codes "Range: bytes=" ++ decimal from) (codes "-")
          (All-append IsClean (codes "Range: bytes=") (decimal from) (All_from_list_all is_clean (codes "Range: bytes=") refl) (decimal_clean from fits))
          (All_from_list_all is_clean (codes "-") refl)) lines)
    ]

-- the lines behind the one with the host
pub tail_lines : (headers : List Header) (from : ℕ) → from < 2 ^ 64
    → Lines (fields_text headers ++ (line (codes "Accept-Encoding: identity") ++ (range_line from ++ (line (codes "Connection: close") ++ line []))))
tail_lines headers from fits =
    fields_lines headers _
    (lines_line (codes "Accept-Encoding: identity") _ (omega arith) (All_from_list_all is_clean (codes "Accept-Encoding: identity") refl)
    (range_lines from _ fits
    (lines_line (codes "Connection: close") _ (omega arith) (All_from_list_all is_clean (codes "Connection: close") refl) lines_end)))

-- a request, one line behind the other
pub split : (a b c d e f g : List ℕ) → a ++ b ++ c ++ d ++ e ++ f ++ g ≡ a ++ (b ++ (c ++ (d ++ (e ++ (f ++ g)))))
split a b c d e f g = simp append_assoc

pub request_lines : (to : Address) (headers : List Header) (from : ℕ) → All IsClean to.place.host → All IsClean to.target
    → to.place.port < 2 ^ 64 → from < 2 ^ 64 → Lines (request to headers from)
unfolding request
request_lines to headers from host target port fits =
    let first = codes "GET " ++ to.target ++ codes " HTTP/1.1" in
    let second = codes "Host: " ++ to.place.host ++ port_text to.place.port in
    let tail = tail_lines headers from fits in
    let all : Lines (line first ++ (line second ++ (fields_text headers ++ (line (codes "Accept-Encoding: identity") ++ (range_line from ++ (line (codes "Connection: close") ++ line [])))))) =
    lines_line first _ (omega (arith, length-append (codes "GET " ++ to.target) (codes " HTTP/1.1")))
    (All-append IsClean (codes "GET " ++ to.target) (codes " HTTP/1.1")
    (All-append IsClean (codes "GET ") to.target (All_from_list_all is_clean (codes "GET ") refl) target) (All_from_list_all is_clean (codes " HTTP/1.1") refl))
    (lines_line second _ (omega (arith, length-append (codes "Host: " ++ to.place.host) (port_text to.place.port), length-append (codes "Host: ") to.place.host))
    (All-append IsClean (codes "Host: " ++ to.place.host) (port_text to.place.port)
    (All-append IsClean (codes "Host: ") to.place.host (All_from_list_all is_clean (codes "Host: ") refl) host) (port_clean to.place.port port)) tail) in
    subst Lines (sym (split (line first) (line second) (fields_text headers) (line (codes "Accept-Encoding: identity")) (range_line from) (line (codes "Connection: close")) (line []))) all

-- more than its last line
request_long : (to : Address) (headers : List Header) (from : ℕ) → 2 < length (request to headers from)
unfolding request
request_long to headers from =
    let first = codes "GET " ++ to.target ++ codes " HTTP/1.1" in
    let second = line (codes "Host: " ++ to.place.host ++ port_text to.place.port) in
    let rest = second ++ (fields_text headers ++ (line (codes "Accept-Encoding: identity") ++ (range_line from ++ (line (codes "Connection: close") ++ line [])))) in
    let all = ap (λ (t : List ℕ). length t) (split (line first) second (fields_text headers) (line (codes "Accept-Encoding: identity")) (range_line from) (line (codes "Connection: close")) (line [])) in
    omega (arith, all, length-append (line first) rest, length-append first (13 ∷ 10 ∷ []), length-append (codes "GET " ++ to.target) (codes " HTTP/1.1"))

pub request_whole : (to : Address) (headers : List Header) (from : ℕ) → All IsClean to.place.host → All IsClean to.target
    → to.place.port < 2 ^ 64 → from < 2 ^ 64 → IsWholeText (request to headers from)
request_whole to headers from host target port fits =
    whole_lines (request to headers from) (request_lines to headers from host target port fits) (request_long to headers from)

-- ---- the tests of names and values

test_from_name : (bytes : List ℕ) → IsFieldName bytes → is_field_name bytes ≡ true
unfolding is_token_byte
test_from_name bytes is =
    and_from _ _ (and_from _ _ (lt-ltb 0 (length bytes) is.0.0) (list_all_from_All token_test bytes is.0.1)) (le-leb (length bytes) 65535 is.1)

pub no_name : (bytes : List ℕ) → (IsFieldName bytes → ⊥) → false ≡ is_field_name bytes
no_name bytes none = elim (cases_Bool (is_field_name bytes)) [ inl t ↦ absurd (none (IsFieldName-from_test bytes t)) | inr f ↦ sym f ]

pub a_name : (bytes : List ℕ) → ((IsFieldName bytes → ⊥) → ⊥) → true ≡ is_field_name bytes
a_name bytes some =
    elim (cases_Bool (is_field_name bytes)) [ inl t ↦ sym t | inr f ↦ absurd (some (λ is. both_ways _ f (test_from_name bytes is))) ]

pub no_value : (bytes : List ℕ) → (IsFieldValue bytes → ⊥) → false ≡ list_all is_value_byte bytes
no_value bytes none =
    elim (cases_Bool (list_all is_value_byte bytes)) [ inl t ↦ absurd (none (All_from_list_all is_value_byte bytes t)) | inr f ↦ sym f ]

pub a_value : (bytes : List ℕ) → ((IsFieldValue bytes → ⊥) → ⊥) → true ≡ list_all is_value_byte bytes
a_value bytes some =
    elim (cases_Bool (list_all is_value_byte bytes)) [ inl t ↦ sym t | inr f ↦ absurd (some (λ is. both_ways _ f (list_all_from_All is_value_byte bytes is))) ]

-- ---- the fields that are left

fields_cons : (h : Header) (headers : List Header) → fields_text (h ∷ headers) ≡ sent_text h ++ fields_text headers
fields_cons h headers = elim (cases_Bool (is_sent h)) [ inl sent ↦ rw sent refl | inr not_ ↦ rw not_ refl ]

pub fields_step : (headers : List Header) (i : ℕ) (h : Header) → i < length headers → h ≡ get_or headers i h
    → fields_text (drop i headers) ≡ sent_text h ++ fields_text (drop (i + 1) headers)
fields_step headers i h less is =
    ap (λ (l : List Header). fields_text l) (drop-cons headers i h less ∙ ap (λ (x : Header). x ∷ drop (suc i) headers) (sym is))
    ∙ fields_cons h (drop (suc i) headers) ∙ ap (λ (n : ℕ). sent_text h ++ fields_text (drop n headers)) (sym (add-one i))

pub fields_rest : (text before all : List ℕ) (headers : List Header) (i : ℕ) (h : Header) (text' : List ℕ) → i < length headers → h ≡ get_or headers i h
    → text ++ fields_text (drop i headers) ≡ before ++ all → text' ≡ text ++ sent_text h
    → text' ++ fields_text (drop (i + 1) headers) ≡ before ++ all
fields_rest text before all headers i h text' less is so next =
    ap (λ (t : List ℕ). t ++ fields_text (drop (i + 1) headers)) next
    ∙ append_assoc text (sent_text h) (fields_text (drop (i + 1) headers))
    ∙ ap (λ (t : List ℕ). text ++ t) (sym (fields_step headers i h less is)) ∙ so

pub fields_end : (text before all : List ℕ) (headers : List Header) (i : ℕ) → length headers ≤ i
    → text ++ fields_text (drop i headers) ≡ before ++ all → text ≡ before ++ all
fields_end text before all headers i over so =
    let none : drop i headers ≡ [] = drop_all i headers over in
    sym (append-nil text) ∙ ap (λ (l : List Header). text ++ fields_text l) (sym none) ∙ so
