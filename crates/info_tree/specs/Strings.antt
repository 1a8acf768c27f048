-- The text that a string spells (RFC 8259, section 7).
use Rattle.std.specs.Prelude.{ℕ, ◌+◌, ◌*◌, List, [], ◌∷◌, ◌++◌, Option, Some, None, ◌==◌, if◌then◌else◌, unwrap_or, encode_utf8}
use Rattle.std.specs.Char.{digit_value}
use Rattle.std.specs.Char.Utf16.{is_high_surrogate, is_low_surrogate, surrogate_pair_char, lone_unit_char}
use Rattle.info_tree.specs.Token.{Piece, byte, short, hex}

-- the character that a short escape stands for
abbrev pub short_value : ℕ → ℕ
short_value letter =
    if letter == 98 then 8
    else if letter == 102 then 12
    else if letter == 110 then 10
    else if letter == 114 then 13
    else if letter == 116 then 9
    else letter

-- the unit of UTF-16 that four hexadecimal digits stand for
abbrev pub hex_value : ℕ → ℕ → ℕ → ℕ → ℕ
hex_value a b c d = ((digit_value a * 16 + digit_value b) * 16 + digit_value c) * 16 + digit_value d

-- a unit of UTF-16 without a partner: its character, and U+FFFD for a surrogate
abbrev pub lone : ℕ → List ℕ
lone unit = encode_utf8 (unwrap_or (lone_unit_char unit) 0xFFFD)

-- a high surrogate that waited for its partner in vain
abbrev pub flushed : Option ℕ → List ℕ
flushed None = []
flushed (Some high) = lone high

-- the character of a pair, where a high surrogate waits and its partner comes
abbrev pub joined : Option ℕ → ℕ → Option ℕ
joined None unit = None
joined (Some high) unit = if is_low_surrogate unit then Some (surrogate_pair_char high unit) else None

-- Behind a unit: what it wrote, and then the text of the rest, before which a high surrogate waits for its partner.
abbrev pub after_unit : Option ℕ → Option ℕ → ℕ → (Option ℕ → List ℕ) → List ℕ
after_unit (Some char) waiting unit rest = encode_utf8 char ++ rest None
after_unit None waiting unit rest =
    if is_high_surrogate unit then flushed waiting ++ rest (Some unit) else flushed waiting ++ (lone unit ++ rest None)

-- the text of the pieces, where a high surrogate may wait
abbrev pub text_from : List Piece → Option ℕ → List ℕ
text_from [] waiting = flushed waiting
text_from (byte b ∷ ps) waiting = flushed waiting ++ b ∷ text_from ps None
text_from (short letter ∷ ps) waiting = flushed waiting ++ (encode_utf8 (short_value letter) ++ text_from ps None)
text_from (hex a b c d ∷ ps) waiting = after_unit (joined waiting (hex_value a b c d)) waiting (hex_value a b c d) (text_from ps)

-- the text of a string
unfoldable pub text_of : List Piece → List ℕ
text_of ps = text_from ps None
