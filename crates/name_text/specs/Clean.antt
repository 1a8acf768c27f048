-- What a text becomes in a file name: what some file system or shell can't keep is dropped or replaced, character by character.
use Rattle.std.specs.Prelude.{ℕ, List, [], ◌∷◌, Bool, true, false, ◌||◌, ◌==◌, nat_lt, if◌then◌else◌, codes}
use Rattle.std.specs.Char.{is_ascii_control, is_whitespace}
use Rattle.std.specs.List.{flat_map, list_any}
use Rattle.std.specs.Str.{chars}
use Rattle.unicode_normalization.specs.Forms.{nfkd}
use Rattle.unicode_normalization.specs.Lookups.{is_combining_mark}
use Rattle.name_text.specs.Marks.{in_name}

-- the marks of ASCII that become an underscore
abbrev pub is_underscored : ℕ → Bool
is_underscored c = list_any (λ mark. c == mark) (codes "\\/|*<>!&'()[]{}$;`^,#")

-- a character in a restricted file name, which is ASCII
unfoldable pub restricted : ℕ → List ℕ
restricted c =
    if is_ascii_control c || c == 63 || c == 34 then []
    else if c == 58 then codes "_-"
    else if is_whitespace c || is_underscored c then codes "_"
    else if nat_lt c 128 then c ∷ []
    else if is_combining_mark c then []
    else codes "_"

-- A cleaned text. A restricted one is taken to NFKD first, so that a letter keeps standing where its accents go.
abbrev pub cleaned : Bool → List ℕ → List ℕ
cleaned false text = flat_map in_name (chars text)
cleaned true text = flat_map restricted (nfkd (chars text))
