-- The fields of a request, one by one, and what its head asks for.
use Rattle.std.proofs.Common.{◌≡◌, ℕ, ◌+◌, ◌<◌, ◌≤◌, List, length, take, drop, map, get_or, refl, sym, ◌∙◌, ap, add-one, drop-cons}
use Rattle.std.specs.Prelude.{true, false, None, codes}
use Rattle.std.specs.Str.{str_eq_ignore_ascii_case}
use Rattle.std.proofs.lemmas.List.{drop_all}
use Rattle.std.proofs.lemmas.Bool.{cond-true, cond-false}
use Rattle.httparse.specs.Grammar.{RequestHead}
use Rattle.httparse.specs.Spans.{header_bytes, span_bytes, IsRequestAt}
use Rattle.httparse.specs.declared.spans.HeaderSpan.{HeaderSpan}
use Rattle.httparse.specs.declared.spans.RequestSpans.{RequestSpans}
use Rattle.file_server.specs.Request.{Asks, first_range, range_value}

-- the fields at these places of the bytes
abbrev pub fields_at : List ℕ → List HeaderSpan → List (List ℕ × List ℕ)
fields_at bytes headers = map (header_bytes bytes) headers

-- The next field is the one, or it is not.
pub first_range-named : (bytes : List ℕ) (headers : List HeaderSpan) (i : ℕ) (d : HeaderSpan) → i < length headers
    → str_eq_ignore_ascii_case (header_bytes bytes (get_or headers i d)).0 (codes "range") ≡ true
    → first_range (fields_at bytes (drop i headers)) ≡ range_value (header_bytes bytes (get_or headers i d)).1
first_range-named bytes headers i d within is = rw (drop-cons headers i d within) (cond-true _ _ _ is)

pub first_range-other : (bytes : List ℕ) (headers : List HeaderSpan) (i : ℕ) (d : HeaderSpan) → i < length headers
    → str_eq_ignore_ascii_case (header_bytes bytes (get_or headers i d)).0 (codes "range") ≡ false
    → first_range (fields_at bytes (drop i headers)) ≡ first_range (fields_at bytes (drop (i + 1) headers))
first_range-other bytes headers i d within other = rw (add-one, drop-cons headers i d within) (cond-false _ _ _ other)

-- At the end there are none left.
pub first_range-end : (bytes : List ℕ) (headers : List HeaderSpan) (i : ℕ) → length headers ≤ i
    → first_range (fields_at bytes (drop i headers)) ≡ None
first_range-end bytes headers i past = rw (drop_all i headers past) refl

-- A head whose method is GET asks for what its spans cover.
pub asks_at : (bytes : List ℕ) (headers : List HeaderSpan) (spans : RequestSpans) (head : RequestHead)
    → IsRequestAt bytes headers spans head → span_bytes bytes spans.method ≡ codes "GET"
    → Asks head (span_bytes bytes spans.path) (first_range (fields_at bytes (take spans.headers headers)))
asks_at bytes headers spans head at get = record {
  method = sym at.method ∙ get;
  target = at.path;
  range = ap first_range at.fields;
}
