-- What the fields of a final head tell.
use Rattle.std.specs.Prelude.{ℕ, Bool, true, false, ◌&&◌, ◌||◌, not, List, [], ◌∷◌, length, take, drop, map, filter, Option, Some, None, nat_lt, nat_eq, ◌==◌, if◌then◌else◌, bytes_eq, codes}
use Rattle.std.specs.List.{before_first, after_first, list_all, list_any}
use Rattle.std.specs.Char.{is_ascii_digit}
use Rattle.std.specs.Str.{str_eq_ignore_ascii_case}
use Rattle.std.specs.Str.Parse.{digits_value}
use Rattle.std.specs.Option.{option_eq}
use Rattle.httparse.specs.Grammar.{ResponseHead}
use Rattle.httparse.specs.Spans.{name_and_value, header_bytes}
use Rattle.httparse.specs.declared.spans.HeaderSpan.{HeaderSpan}
use Rattle.http_reply.specs.Chunked.{capped}
use Rattle.http_reply.specs.declared.range.Range.{Range}
use Rattle.http_reply.specs.declared.range.Range.TheVariants.{Part, Open, Past, Unreadable}

-- names, and values without the spaces and tabs at their ends
abbrev pub Fields : Type 0
Fields = List (List ℕ × List ℕ)

-- the fields of a head
abbrev pub fields_of : ResponseHead → Fields
fields_of head = map name_and_value head.fields

-- the fields at these places of the bytes
abbrev pub fields_at : List ℕ → List HeaderSpan → Fields
fields_at bytes headers = map (header_bytes bytes) headers

-- the values of the fields of a name, in order
unfoldable pub values : List ℕ → Fields → List (List ℕ)
values name fields = map (λ f. f.1) (filter (λ f. str_eq_ignore_ascii_case f.0 name) fields)

-- a decimal number
unfoldable pub number : List ℕ → Option ℕ
number text = if nat_lt 0 (length text) && list_all is_ascii_digit text then Some (capped (digits_value 10 text)) else None

-- one number, however often it stands
abbrev pub one_of : List (Option ℕ) → Option ℕ
one_of [] = None
one_of (n ∷ ns) = if list_all (λ m. option_eq nat_eq m n) ns then n else None

-- one number more, where this one or none was told
abbrev pub agreed : Option ℕ → Option ℕ → Option ℕ
agreed None size = size
agreed (Some n) size = if option_eq nat_eq size (Some n) then Some n else None

-- the Content-Length, if there is just one
abbrev pub length_told : Fields → Option ℕ
length_told fields = one_of (map number (values (codes "content-length") fields))

-- no Content-Length but this number
abbrev pub has_no_length_but : ℕ → Fields → Bool
has_no_length_but n fields = list_all (λ v. option_eq nat_eq (number v) (Some n)) (values (codes "content-length") fields)

-- a field of this name has another value than this one
abbrev pub has_other : List ℕ → List ℕ → Fields → Bool
has_other name value fields = list_any (λ v. not (str_eq_ignore_ascii_case v value)) (values name fields)

-- a coding other than none, or a transfer coding other than chunks
abbrev pub is_encoded : Fields → Bool
is_encoded fields =
    has_other (codes "content-encoding") (codes "identity") fields
    || has_other (codes "transfer-encoding") (codes "chunked") fields

-- in chunks, where nothing is encoded otherwise
abbrev pub is_chunked : Fields → Bool
is_chunked fields = nat_lt 0 (length (values (codes "transfer-encoding") fields))

-- the range of a first byte, a last byte and a total, or of `*` for a total that is not told
abbrev pub range_of : Option ℕ → Option ℕ → Option ℕ → Bool → Range
range_of (Some a) (Some b) (Some n) star = Part a b n
range_of (Some a) (Some b) None true = Open
range_of (Some a) (Some b) None false = Unreadable
range_of (Some a) None n star = Unreadable
range_of None b n star = Unreadable

-- the range of a total alone
abbrev pub past_of : Option ℕ → Range
past_of (Some n) = Past n
past_of None = Unreadable

-- the text is `*`
abbrev pub is_star : List ℕ → Bool
is_star text = bytes_eq text (codes "*")

-- what stands before the first such byte; all, where there is none
abbrev pub before : ℕ → List ℕ → List ℕ
before byte text = before_first (λ b. b == byte) text

-- what stands behind the first such byte
abbrev pub behind_first : ℕ → List ℕ → List ℕ
behind_first byte text = after_first (λ b. b == byte) text

-- `a-b/n`, `a-b/*` or `*/n`
unfoldable pub range_in : List ℕ → Range
range_in text =
    let front = before 47 text in
    let size = behind_first 47 text in
    if is_star front then past_of (number size)
    else range_of (number (before 45 front)) (number (behind_first 45 front)) (number size) (is_star size)

-- the value of a `Content-Range` in bytes (RFC 9110, 14.4)
unfoldable pub range_value : List ℕ → Range
range_value value = if str_eq_ignore_ascii_case (take 6 value) (codes "bytes ") then range_in (drop 6 value) else Unreadable

-- one field, and no other of its name
abbrev pub one_range : List (List ℕ) → Range
one_range (value ∷ []) = range_value value
one_range [] = Unreadable
one_range (value ∷ other ∷ others) = Unreadable

-- what the `Content-Range` of the fields tells
abbrev pub content_range : Fields → Range
content_range fields = one_range (values (codes "content-range") fields)
