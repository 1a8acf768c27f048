-- The bytes that a template's tokens are made of; all of them are ASCII.
use Rattle.std.specs.Prelude.{ℕ, List, [], ◌∷◌, Bool, false, ◌&&◌, ◌||◌, not, ◌==◌, nat_le}
use Rattle.text_base.specs.Spelling.{is_digit}
use Rattle.tpl_lang.specs.declared.scan.Class.{Class}
use Rattle.tpl_lang.specs.declared.scan.Class.TheVariants.{Word, Digit, Flag, Default, DateText, ReplacementText}

-- a letter of ASCII
abbrev pub is_letter : ℕ → Bool
is_letter b = (nat_le 65 b && nat_le b 90) || (nat_le 97 b && nat_le b 122)

-- a byte of a word: letters, digits and `_`
abbrev pub is_word_byte : ℕ → Bool
is_word_byte b = is_digit b || is_letter b || b == 95

-- a flag of a conversion: `#`, `0`, `-`, `+` or a space
abbrev pub is_flag : ℕ → Bool
is_flag b = b == 35 || b == 48 || b == 45 || b == 43 || b == 32

-- the bytes of a run: a default ends at `)`, text of a date format at `,`, `&`, `|`, `)` and `%`, text of a replacement at `|`, `)` and a brace
abbrev pub in_class : Class → ℕ → Bool
in_class Word b = is_word_byte b
in_class Digit b = is_digit b
in_class Flag b = is_flag b
in_class Default b = not (b == 41)
in_class DateText b = not (b == 44 || b == 38 || b == 124 || b == 41 || b == 37)
in_class ReplacementText b = not (b == 124 || b == 41 || b == 123 || b == 125)

-- whether a byte of a word stands first
abbrev pub has_word : List ℕ → Bool
has_word [] = false
has_word (b ∷ bs) = is_word_byte b
