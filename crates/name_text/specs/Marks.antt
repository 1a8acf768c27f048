-- The marks of ASCII that stand for something else, in a file name, in HTML and between quotes of the shell.
use Rattle.std.specs.Prelude.{◌≡◌, ℕ, List, [], ◌++◌, Bool, ◌||◌, ◌==◌, if◌then◌else◌, codes, encode_utf8}
use Rattle.std.specs.Char.{is_ascii_control}
use Rattle.std.specs.List.{flat_map}
use Rattle.std.specs.Str.{IsUtf8, chars}
use Rattle.text_base.specs.Scan.{is_name_special}
use Rattle.name_text.specs.declared.marks.Marks.{Marks}
use Rattle.name_text.specs.declared.marks.Marks.TheVariants.{Name, Html, Quote}

-- the character that looks like one that no file name can keep; any other stands for itself
abbrev pub look_alike : ℕ → ℕ
look_alike c =
    if c == 34 then 0xFF02  -- " ＂
    else if c == 42 then 0xFF0A  -- * ＊
    else if c == 58 then 0xFF1A  -- : ：
    else if c == 60 then 0xFF1C  -- < ＜
    else if c == 62 then 0xFF1E  -- > ＞
    else if c == 63 then 0xFF1F  -- ? ？
    else if c == 124 then 0xFF5C  -- | ｜
    else if c == 47 then 0x29F8  -- / ⧸
    else if c == 92 then 0x29F9  -- \ ⧹
    else c

-- a character in a file name: control characters of ASCII are dropped
unfoldable pub in_name : ℕ → List ℕ
in_name c = if is_ascii_control c then [] else encode_utf8 (look_alike c)

-- a character in HTML
unfoldable pub in_html : ℕ → List ℕ
in_html c =
    if c == 38 then codes "&amp;"
    else if c == 60 then codes "&lt;"
    else if c == 62 then codes "&gt;"
    else if c == 34 then codes "&quot;"
    else if c == 39 then codes "&#39;"
    else encode_utf8 c

-- a character between single quotes of the shell: a quote closes them, stands between double ones, and opens them again
unfoldable pub in_quotes : ℕ → List ℕ
in_quotes c = if c == 39 then codes "'\"'\"'" else encode_utf8 c

-- what a character is written as
abbrev pub written : Marks → ℕ → List ℕ
written Name = in_name
written Html = in_html
written Quote = in_quotes

-- the marks that HTML writes otherwise
abbrev pub is_html_mark : ℕ → Bool
is_html_mark b = b == 38 || b == 60 || b == 62 || b == 34 || b == 39

-- whether a byte ends a run of characters that stand as they are
abbrev pub ends_run : Marks → ℕ → Bool
ends_run Name = is_name_special
ends_run Html = is_html_mark
ends_run Quote = λ b. b == 39

-- a text is a run of characters that are written as themselves, and more
pub record IsRun (marks : Marks) (text run more : List ℕ) : Type 0 where
  pub whole : text ≡ run ++ more
  pub plain : flat_map (written marks) (chars run) ≡ run
  pub text_run : IsUtf8 run
  pub text_more : IsUtf8 more
