-- A body in chunks, as a function of all that follows the head.
use Rattle.std.specs.Prelude.{ℕ, zero, suc, min, ◌+◌, ◌-◌, ◌^◌, Bool, ◌&&◌, ◌||◌, not, List, [], ◌∷◌, length, take, drop, Option, Some, None, nat_lt, nat_le, ◌==◌, if◌then◌else◌, bytes_eq}
use Rattle.std.specs.List.{prefix_len, list_all}
use Rattle.std.specs.Char.{is_ascii_hexdigit}
use Rattle.std.specs.Str.Parse.{digits_value}
use Rattle.httparse.specs.Ascii.{line_feed, semicolon, crlf_bytes, carriage_return}
use Rattle.httparse.specs.Grammar.{is_ows, is_extension_byte}
use Rattle.http_reply.specs.declared.stop.Stop.TheVariants.{Last, Cut, Bad, Long}
use Rattle.http_reply.specs.declared.chunk_line.LineRead.{LineRead}
use Rattle.http_reply.specs.declared.chunk_line.LineRead.TheVariants.{Whole, Open, Unreadable}
use Rattle.http_reply.specs.Content.{Content, stopped, behind}

-- no more bytes than these are taken
abbrev pub limit : ℕ
limit = 2 ^ 40

-- a sum that does not fit is the greatest that does
abbrev pub capped : ℕ → ℕ
capped n = min n (2 ^ 64 - 1)

-- CR LF, or an extension and then CR LF
abbrev pub ends_line : List ℕ → Bool
ends_line [] = nat_lt 1 0
ends_line (b ∷ bytes) =
    if b == semicolon
    then (let n = length bytes - 2 in list_all is_extension_byte (take n bytes) && bytes_eq (drop n bytes) crlf_bytes)
    else bytes_eq (b ∷ bytes) crlf_bytes

-- the size that a line tells, if it is readable: up to 16 hexadecimal digits, spaces and tabs, and the line's end
unfoldable pub line_size : List ℕ → Option ℕ
line_size line =
    let digits = prefix_len is_ascii_hexdigit line in
    let after = drop digits line in
    if nat_lt 0 digits && nat_le digits 16 && ends_line (drop (prefix_len is_ows after) after)
    then Some (digits_value 16 (take digits line))
    else None

-- a byte that does not end a line
abbrev pub is_in_line : ℕ → Bool
is_in_line b = not (b == line_feed)

-- a line of this length, by the size that it tells, if it tells one
abbrev pub line_read : ℕ → Option ℕ → LineRead
line_read len None = Unreadable
line_read len (Some size) = Whole size len

-- the line at the front of the bytes, up to its LF
unfoldable pub chunk_line : List ℕ → LineRead
chunk_line bytes =
    let n = prefix_len is_in_line bytes in
    if nat_le 256 n then Unreadable
    else (if nat_lt n (length bytes) then line_read (n + 1) (line_size (take (n + 1) bytes)) else Open)

-- The rest of a body, by the offset in the reply where it begins, and the sum of the sizes told before.
abbrev pub Rest : Type 0
Rest = ℕ → ℕ → List ℕ → Content

-- behind a chunk's data
abbrev pub after_data : Rest → Rest
after_data chunks at sum bytes =
    if bytes_eq (take 2 bytes) crlf_bytes then chunks (at + 2) sum (drop 2 bytes)
    else (if bytes_eq bytes [] || bytes_eq bytes (carriage_return ∷ []) then stopped Cut
    else stopped (Bad at))

-- in a chunk's data, of which so many bytes are left
abbrev pub in_data : Rest → ℕ → Rest
in_data chunks left at sum bytes =
    if nat_lt (length bytes) left then behind bytes (stopped Cut)
    else behind (take left bytes) (after_data chunks (at + left) sum (drop left bytes))

-- at a line
abbrev pub at_line : Rest → LineRead → Rest
at_line chunks Open at sum bytes = stopped Cut
at_line chunks Unreadable at sum bytes = stopped (Bad at)
at_line chunks (Whole size len) at sum bytes =
    if size == 0 then stopped Last
    else (if nat_lt limit (sum + size) then stopped (Long (capped (sum + size)))
    else in_data chunks size (at + len) (sum + size) (drop len bytes))

-- at most so many chunks
unfoldable pub chunks_within : ℕ → Rest
chunks_within zero at sum bytes = stopped Cut
chunks_within (suc count) at sum bytes = at_line (chunks_within count) (chunk_line bytes) at sum bytes

-- each chunk has a byte, so there are no more of them than bytes
unfoldable pub chunks : Rest
chunks at sum bytes = chunks_within (length bytes + 1) at sum bytes
