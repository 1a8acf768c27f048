-- The lines of an archive's bytes, and the bytes with a line more.
use Rattle.std.specs.Prelude.{ℕ, ◌+◌, ◌-◌, Bool, true, not, ◌&&◌, ◌==◌, List, [], ◌∷◌, ◌++◌, length, map, take, drop, filter, position, slice_get, Option, option_map, bytes_eq, if◌then◌else◌}
use Rattle.std.specs.Char.{is_ascii_whitespace}
use Rattle.std.specs.List.{slice_split, prefix_len, suffix_len, list_any}
use Rattle.std.specs.Option.{option_map_or}
use Rattle.std.specs.Str.{is_utf8}

-- the line feed
abbrev pub is_feed : ℕ → Bool
is_feed b = b == 10

-- what stands between line feeds, before the first of them and behind the last
abbrev pub pieces_of : List ℕ → List (List ℕ)
pieces_of bytes = slice_split is_feed bytes

-- a text without the white space of ASCII at its front,
abbrev pub front_trimmed : List ℕ → List ℕ
front_trimmed text = drop (prefix_len is_ascii_whitespace text) text

-- at its end,
abbrev pub end_trimmed : List ℕ → List ℕ
end_trimmed text = take (length text - suffix_len is_ascii_whitespace text) text

-- and at both
abbrev pub trimmed : List ℕ → List ℕ
trimmed text = end_trimmed (front_trimmed text)

-- The text has bytes.
abbrev pub has_bytes : List ℕ → Bool
has_bytes text = not (length text == 0)

-- the lines in these pieces: each piece without white space at its ends, where that leaves any bytes
abbrev pub lines_in : List (List ℕ) → List (List ℕ)
lines_in pieces = filter has_bytes (map trimmed pieces)

-- the lines of an archive
abbrev pub lines_of : List ℕ → List (List ℕ)
lines_of bytes = lines_in (pieces_of bytes)

-- The line is one of these.
abbrev pub is_among : List (List ℕ) → List ℕ → Bool
is_among lines line = list_any (λ other. bytes_eq other line) lines

-- the number of the first piece that is not UTF-8, counted from 1
abbrev pub bad_line : List ℕ → Option ℕ
bad_line bytes = option_map (λ place. place + 1) (position (λ piece. not (is_utf8 piece)) (pieces_of bytes))

-- A line can be added: it has bytes, no line feed, and no white space at its ends.
abbrev pub is_line : List ℕ → Bool
is_line line = has_bytes line && (not (list_any is_feed line) && bytes_eq (trimmed line) line)

-- The last byte, where there is one, is a line feed.
abbrev pub is_ended : List ℕ → Bool
is_ended bytes = option_map_or is_feed (slice_get bytes (length bytes - 1)) true

-- an archive's bytes with a line more: the bytes as they are, a line feed where they are not ended, the line and a line feed
abbrev pub grown : List ℕ → List ℕ → List ℕ
grown bytes line = bytes ++ ((if is_ended bytes then [] else 10 ∷ []) ++ (line ++ 10 ∷ []))
