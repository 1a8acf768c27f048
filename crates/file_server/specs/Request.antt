-- What the head of a request asks for (RFC 9110, section 14.1.2).
use Rattle.std.specs.Prelude.{◌≡◌, ℕ, List, [], ◌∷◌, take, drop, map, Option, Some, None, option_map, codes, if◌then◌else◌}
use Rattle.std.specs.Str.{str_eq_ignore_ascii_case}
use Rattle.httparse.specs.Grammar.{RequestHead}
use Rattle.httparse.specs.Spans.{name_and_value}
use Rattle.file_server.specs.Cut.{before, from_first}
use Rattle.file_server.specs.Number.{number}
use Rattle.file_server.specs.declared.byte_range.ByteRange.{ByteRange}

-- a first byte, and what stands from the dash on
abbrev pub range_of : Option ℕ → List ℕ → Option ByteRange
range_of None tail = None
range_of (Some first) [] = None
range_of (Some first) (dash ∷ []) = Some (record { first = first; last = None })
range_of (Some first) (dash ∷ digit ∷ digits) =
    option_map (λ last. record { first = first; last = Some last }) (number (digit ∷ digits))

-- `first-` or `first-last`
abbrev pub range_in : List ℕ → Option ByteRange
range_in text = range_of (number (before 45 text)) (from_first 45 text)

-- the value of a Range field, where it is one range of bytes that begins with its first
abbrev pub range_value : List ℕ → Option ByteRange
range_value value =
    if str_eq_ignore_ascii_case (take 6 value) (codes "bytes=") then range_in (drop 6 value) else None

-- the range of the first field of that name
abbrev pub first_range : List (List ℕ × List ℕ) → Option ByteRange
first_range [] = None
first_range (field ∷ fields) =
    if str_eq_ignore_ascii_case field.0 (codes "range") then range_value field.1 else first_range fields

-- this is asked for by the head of a GET: its target, and its range
pub record Asks (head : RequestHead) (asked : List ℕ) (named : Option ByteRange) : Type 0 where
  pub method : head.method ≡ codes "GET"
  pub target : asked ≡ head.target
  pub range : named ≡ first_range (map name_and_value head.fields)
