-- What a request asks for.
use Rattle.std.specs.Prelude.{ℕ, Bool, false, ◌&&◌, List, [], ◌∷◌, ◌++◌, drop, take, Option, Some, None, nat_eq, ◌==◌, bytes_eq, if◌then◌else◌, codes}
use Rattle.std.specs.List.{prefix_len, starts_with}
use Rattle.std.specs.Option.{option_map_or}
use Rattle.std.specs.Char.{is_ascii_digit}
use Rattle.std.specs.Str.Parse.{digits_value}
use Rattle.httparse.specs.Ascii.{crlf_bytes}
use Rattle.http_reply.specs.Chunked.{capped}
use Rattle.link_http.specs.Request.{line}
use Rattle.link_http.specs.Sending.{is_clean}

-- the first line of a request for a target
abbrev pub get_line : List ℕ → List ℕ
get_line target = line (codes "GET " ++ target ++ codes " HTTP/1.1")

-- one line: no part of a line's end, and then CR LF
abbrev pub is_line : List ℕ → Bool
is_line [] = false
is_line (b ∷ text) = if is_clean b then is_line text else bytes_eq (b ∷ text) crlf_bytes

-- what stands behind the first `Range: bytes=`, 13 bytes, that begins a line, the first line left out
abbrev pub range_text : List ℕ → Option (List ℕ)
range_text [] = None
range_text (b ∷ text) =
    if b == 10 && starts_with nat_eq text (codes "Range: bytes=") then Some (drop 13 text) else range_text text

-- the decimal number at the front, or the greatest that fits
abbrev pub number_before : List ℕ → ℕ
number_before text = capped (digits_value 10 (take (prefix_len is_ascii_digit text) text))

-- the place that a request asks from: the number of its range, or the start
abbrev pub asked_from : List ℕ → ℕ
asked_from text = option_map_or number_before (range_text text) 0
