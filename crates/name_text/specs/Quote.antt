-- A text as one word of a shell, and in HTML.
use Rattle.std.specs.Prelude.{ℕ, List, [], ◌∷◌, ◌++◌, length, Bool, not, ◌&&◌, ◌||◌, ◌==◌, if◌then◌else◌, codes}
use Rattle.std.specs.Char.{is_ascii_alphanumeric}
use Rattle.std.specs.List.{flat_map, list_any, list_all}
use Rattle.std.specs.Str.{chars}
use Rattle.name_text.specs.Marks.{in_html, in_quotes}

-- a byte that means nothing to a shell
unfoldable pub is_bare : ℕ → Bool
is_bare b = is_ascii_alphanumeric b || list_any (λ mark. b == mark) (codes "_@%+=:,./-")

-- a text that is a word of a shell as it stands
abbrev pub is_bare_word : List ℕ → Bool
is_bare_word text = not (length text == 0) && list_all is_bare text

-- a text as one word of a shell: as it stands, or between single quotes
abbrev pub quoted : List ℕ → List ℕ
quoted text = if is_bare_word text then text else 39 ∷ (flat_map in_quotes (chars text) ++ 39 ∷ [])

-- a text in HTML, also between quotes of an attribute
abbrev pub escaped : List ℕ → List ℕ
escaped text = flat_map in_html (chars text)
