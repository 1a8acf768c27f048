-- The tokens of a JSON text (RFC 8259, section 2), by how each is spelled.
use Rattle.std.specs.Prelude.{◌≡◌, ℕ, ◌<◌, List, [], ◌∷◌, ◌++◌, length, Bool, true, false, ◌||◌, ◌==◌, if◌then◌else◌, codes}
use Rattle.std.specs.Char.{digit_value}
use Rattle.text_base.specs.Scan.{is_json_special}
use Rattle.text_base.specs.Spelling.{number_length}

-- what stands between the quotes of a string: a byte as it is, or an escape
pub data Piece : Type 0 where
  byte : ℕ → Piece
  short : ℕ → Piece
  hex : ℕ → ℕ → ℕ → ℕ → Piece

-- the three words
pub data Word : Type 0 where
  null_word : Word
  true_word : Word
  false_word : Word

-- the six signs, a word, a number by its spelling, or a string by its pieces
pub data Token : Type 0 where
  begin_list : Token
  end_list : Token
  begin_map : Token
  end_map : Token
  comma : Token
  colon : Token
  word : Word → Token
  numeral : List ℕ → Token
  string : List Piece → Token

-- a piece as it is spelled (section 7): an escape is a backslash and a letter, or a backslash, u and four digits
abbrev pub piece_bytes : Piece → List ℕ
piece_bytes (byte b) = b ∷ []
piece_bytes (short letter) = 92 ∷ letter ∷ []
piece_bytes (hex a b c d) = 92 ∷ 117 ∷ a ∷ b ∷ c ∷ d ∷ []

-- pieces as they are spelled, one after another
abbrev pub pieces_bytes : List Piece → List ℕ
pieces_bytes [] = []
pieces_bytes (u ∷ us) = piece_bytes u ++ pieces_bytes us

-- the letters of the short escapes: quote, backslash, slash, b, f, n, r and t
abbrev pub is_escape_letter : ℕ → Bool
is_escape_letter b = b == 34 || b == 92 || b == 47 || b == 98 || b == 102 || b == 110 || b == 114 || b == 116

-- a hexadecimal digit, in either case
abbrev pub IsHexDigit : ℕ → Type 0
IsHexDigit b = digit_value b < 16

-- a piece that may stand in a string
abbrev pub IsPiece : Piece → Type 0
IsPiece (byte b) = is_json_special b ≡ false
IsPiece (short letter) = is_escape_letter letter ≡ true
IsPiece (hex a b c d) = IsHexDigit a × IsHexDigit b × IsHexDigit c × IsHexDigit d

-- all of these may stand in a string
abbrev pub ArePieces : List Piece → Type 0
ArePieces [] = Unit {0}
ArePieces (u ∷ us) = IsPiece u × ArePieces us

-- a word as it is spelled
abbrev pub word_bytes : Word → List ℕ
word_bytes null_word = codes "null"
word_bytes true_word = codes "true"
word_bytes false_word = codes "false"

-- a token as it is spelled
abbrev pub token_bytes : Token → List ℕ
token_bytes begin_list = 91 ∷ []
token_bytes end_list = 93 ∷ []
token_bytes begin_map = 123 ∷ []
token_bytes end_map = 125 ∷ []
token_bytes comma = 44 ∷ []
token_bytes colon = 58 ∷ []
token_bytes (word w) = word_bytes w
token_bytes (numeral spelling) = spelling
token_bytes (string us) = 34 ∷ (pieces_bytes us ++ 34 ∷ [])

-- A token that may stand at the front of these bytes: a string's pieces are right, and a number is the longest one there.
abbrev pub MayBegin : Token → List ℕ → Type 0
MayBegin begin_list bytes = Unit {0}
MayBegin end_list bytes = Unit {0}
MayBegin begin_map bytes = Unit {0}
MayBegin end_map bytes = Unit {0}
MayBegin comma bytes = Unit {0}
MayBegin colon bytes = Unit {0}
MayBegin (word w) bytes = Unit {0}
MayBegin (numeral spelling) bytes = (0 < length spelling) × (number_length bytes ≡ length spelling)
MayBegin (string us) bytes = ArePieces us

-- the bytes begin with this token, and then come the rest
pub record BeginsWith (bytes : List ℕ) (token : Token) (rest : List ℕ) : Type 0 where
  pub spelled : bytes ≡ token_bytes token ++ rest
  pub is_token : MayBegin token bytes

-- white space (section 2): space, tab, line feed, carriage return
abbrev pub is_space : ℕ → Bool
is_space b = b == 32 || b == 9 || b == 10 || b == 13

-- what is left behind white space
abbrev pub after_space : List ℕ → List ℕ
after_space [] = []
after_space (b ∷ bs) = if is_space b then after_space bs else b ∷ bs

-- The text begins with these tokens, white space before each, and then with the rest, which begins with no white space.
abbrev pub Splits : List ℕ → List Token → List ℕ → Type 0
Splits bytes [] rest = rest ≡ after_space bytes
Splits bytes (t ∷ ts) rest = (after : List ℕ) × BeginsWith (after_space bytes) t after × Splits after ts rest
