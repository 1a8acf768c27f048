-- How a tree is printed as JSON (RFC 8259).
use Rattle.std.specs.Prelude.{ℕ, ◌+◌, ◌-◌, ◌/◌, ◌%◌, List, [], ◌∷◌, ◌++◌, Bool, true, false, ◌==◌, nat_lt, if◌then◌else◌, codes}
use Rattle.std.specs.Str.{chars}
use Rattle.text_base.specs.NumberText.{text_of}
use Rattle.info_tree.specs.Tree.{Tree, null, truth, number, text, list, mapping, Trees, no_trees, a_tree, Pairs, no_pairs, a_pair}
use Rattle.info_tree.specs.declared.style.Style.{Style}

-- a hexadecimal digit in lower case
abbrev pub hex_digit : ℕ → ℕ
hex_digit n = if nat_lt n 10 then 48 + n else 87 + n

-- a unit of UTF-16: a backslash, u and four digits
unfoldable pub unit_escape : ℕ → List ℕ
unit_escape u = 92 ∷ 117 ∷ hex_digit (u / 4096) ∷ hex_digit (u / 256 % 16) ∷ hex_digit (u / 16 % 16) ∷ hex_digit (u % 16) ∷ []

-- a byte of a text: an escape for a quote, a backslash and a control character, else the byte itself
unfoldable pub escaped : ℕ → List ℕ
escaped b =
    if b == 34 then codes "\\\""
    else if b == 92 then codes "\\\\"
    else if b == 8 then codes "\\b"
    else if b == 12 then codes "\\f"
    else if b == 10 then codes "\\n"
    else if b == 13 then codes "\\r"
    else if b == 9 then codes "\\t"
    else if nat_lt b 32 then unit_escape b
    else b ∷ []

-- a character of a text in ASCII: past U+007E its unit of UTF-16, past U+FFFF its two units
unfoldable pub ascii_escaped : ℕ → List ℕ
ascii_escaped c =
    if nat_lt c 127 then escaped c
    else if nat_lt c 65536 then unit_escape c
    else unit_escape (55296 + (c - 65536) / 1024) ++ unit_escape (56320 + (c - 65536) % 1024)

-- one after another
abbrev pub all_by : (ℕ → List ℕ) → List ℕ → List ℕ
all_by f [] = []
all_by f (b ∷ bs) = f b ++ all_by f bs

-- what stands between the quotes of a text
unfoldable pub inside : Bool → List ℕ → List ℕ
inside true t = all_by ascii_escaped (chars t)
inside false t = all_by escaped t

-- a text in its quotes
abbrev pub quoted : Bool → List ℕ → List ℕ
quoted ascii t = 34 ∷ (inside ascii t ++ 34 ∷ [])

-- the line break and the indent one level deeper; none where the style is not pretty
abbrev pub deeper : Bool → List ℕ → List ℕ
deeper true line = line ++ codes "    "
deeper false line = []

-- the line break at the outermost level
abbrev pub first_line : Bool → List ℕ
first_line true = codes "\n"
first_line false = []

-- between two entries, before the line break
abbrev pub comma_text : Bool → List ℕ
comma_text true = codes ","
comma_text false = codes ", "

-- the word of a truth value
abbrev pub truth_text : Bool → List ℕ
truth_text true = codes "true"
truth_text false = codes "false"

-- A tree whose closing bracket begins its line by `line`, and entries each of which begins its line so.
abbrev mutual
  pub printed : Style → List ℕ → Tree → List ℕ
  printed s line null = codes "null"
  printed s line (truth b) = truth_text b
  printed s line (number n) = text_of n
  printed s line (text t) = quoted s.ascii t
  printed s line (list no_trees) = codes "[]"
  printed s line (list (a_tree t ts)) = 91 ∷ (items s (deeper s.pretty line) [] (a_tree t ts) ++ (line ++ 93 ∷ []))
  printed s line (mapping no_pairs) = codes "{}"
  printed s line (mapping (a_pair k t ps)) = 123 ∷ (members s (deeper s.pretty line) [] (a_pair k t ps) ++ (line ++ 125 ∷ []))

  -- the items of a list, each behind the mark and on its line; behind the first the mark is the comma
  pub items : Style → List ℕ → List ℕ → Trees → List ℕ
  items s line mark no_trees = []
  items s line mark (a_tree t ts) = mark ++ (line ++ (printed s line t ++ items s line (comma_text s.pretty) ts))

  -- the pairs of a map, likewise
  pub members : Style → List ℕ → List ℕ → Pairs → List ℕ
  members s line mark no_pairs = []
  members s line mark (a_pair k t ps) =
      mark ++ (line ++ (quoted s.ascii k ++ (codes ": " ++ (printed s line t ++ members s line (comma_text s.pretty) ps))))
