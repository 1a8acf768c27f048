-- A text cut at so many characters, or bytes, and filled with spaces up to a width.
use Rattle.std.specs.Prelude.{ℕ, ◌-◌, List, ◌++◌, length, take, replicate, Bool, if◌then◌else◌, encode_utf8, flat_map, Option, Some, None}
use Rattle.std.specs.Str.{chars}
use Rattle.name_text.specs.Cut.{byte_cut}
use Rattle.field_text.specs.declared.frame.Frame.{Frame}

-- so many spaces
abbrev pub spaces : ℕ → List ℕ
spaces n = replicate n 32

-- the first so many characters
abbrev pub first_chars : ℕ → List ℕ → List ℕ
first_chars n t = flat_map encode_utf8 (take n (chars t))

-- a text by what cuts it, where that is asked for
abbrev pub cut_by : (ℕ → List ℕ → List ℕ) → Option ℕ → List ℕ → List ℕ
cut_by cut None t = t
cut_by cut (Some n) t = cut n t

-- a text that counts so much, with spaces before it, or behind it, up to a width
abbrev pub widened : Bool → ℕ → ℕ → List ℕ → List ℕ
widened left width count t = if left then t ++ spaces (width - count) else spaces (width - count) ++ t

-- a text with spaces up to a width in characters
abbrev pub widened_chars : Frame → List ℕ → List ℕ
widened_chars frame t = widened frame.left frame.width (length (chars t)) t

-- a text with spaces up to a width in bytes
abbrev pub widened_bytes : Frame → List ℕ → List ℕ
widened_bytes frame t = widened frame.left frame.width (length t) t

-- a text in its frame, counted in characters
abbrev pub framed : Frame → List ℕ → List ℕ
framed frame t = widened_chars frame (cut_by first_chars frame.precision t)

-- a text in its frame, counted in bytes; an incomplete last character is dropped
abbrev pub framed_bytes : Frame → List ℕ → List ℕ
framed_bytes frame t = widened_bytes frame (cut_by byte_cut frame.precision t)
