-- The tokens, frames and states of the program as those of the grammar and the machine.
use Rattle.std.specs.Prelude.{◌≡◌, ℕ, ◌+◌, List, [], ◌∷◌, ◌++◌, length, map, reverse, Option, Some, None, MatchOption, Bool, true, false, ◌==◌, ◌||◌, ◌⊎◌, if◌then◌else◌}
use Rattle.text_base.specs.Number.{number_of}
use Rattle.text_base.specs.declared.num_fault.NumFault.{NumFault}
use Rattle.info_tree.specs.Plain.{plain}
use Rattle.info_tree.specs.Tree.{Tree, null, truth, number}
use Rattle.info_tree.specs.Token.{Token as Plain, Piece, byte, short, hex, begin_list, end_list, begin_map, end_map, comma, colon, numeral, piece_bytes, pieces_bytes, IsHexDigit, IsPiece, ArePieces, BeginsWith}
use Rattle.info_tree.specs.Strings.{text_of, short_value, hex_value}
use Rattle.info_tree.specs.Reading.{IsAccepted, IsRefused}
use Rattle.info_tree.specs.Machine as machine
use Rattle.info_tree.specs.declared.token.Token.{Token}
use Rattle.info_tree.specs.declared.token.Token.TheVariants as token
use Rattle.info_tree.specs.declared.token.TokenFault.{TokenFault}
use Rattle.info_tree.specs.declared.token.TokenFault.TheVariants as fault
use Rattle.info_tree.specs.declared.tree_fault.TreeFault.{TreeFault}
use Rattle.info_tree.specs.declared.tree_fault.TreeFault.TheVariants as tree
use Rattle.info_tree.specs.declared.escape.Escape.{Escape}
use Rattle.info_tree.specs.declared.escape.Escape.TheVariants as escape
use Rattle.info_tree.specs.declared.machine.Frame.{Frame}
use Rattle.info_tree.specs.declared.machine.Frame.TheVariants as frame
use Rattle.info_tree.specs.declared.machine.Next.{Next}
use Rattle.info_tree.specs.declared.machine.Next.TheVariants as next

-- what a token of the program means
abbrev pub plain_mark : Token → machine.Mark
plain_mark token.BeginList = machine.begin_list
plain_mark token.EndList = machine.end_list
plain_mark token.BeginMap = machine.begin_map
plain_mark token.EndMap = machine.end_map
plain_mark token.Comma = machine.comma
plain_mark token.Colon = machine.colon
plain_mark token.Null = machine.scalar null
plain_mark (token.Bool b) = machine.scalar (truth b)
plain_mark (token.Number n) = machine.scalar (number (number_of n))
plain_mark (token.Text s) = machine.chars s

-- the bytes begin with a token that means this and is accepted
pub record Lexes (bytes : List ℕ) (mark : machine.Mark) (rest : List ℕ) : Type 0 where
  pub token : Plain
  pub begins : BeginsWith bytes token rest
  pub means : machine.mark_of token ≡ mark
  pub accepted : IsAccepted token

-- no token begins the bytes
abbrev pub NoneBegins : List ℕ → Type 0
NoneBegins bytes = (t : Plain) (rest : List ℕ) → BeginsWith bytes t rest → ⊥

-- the bytes begin with a number that is refused
pub record Refuses (bytes : List ℕ) (fault : NumFault) : Type 0 where
  pub spelling : List ℕ
  pub rest : List ℕ
  pub begins : BeginsWith bytes (numeral spelling) rest
  pub refused : IsRefused spelling fault

-- the bytes begin with some number
abbrev pub BeginsNumber : List ℕ → Type 0
BeginsNumber bytes = (spelling : List ℕ) × (rest : List ℕ) × BeginsWith bytes (numeral spelling) rest

-- why no token was made: a refused number, or want of memory
abbrev pub IsTokenFault : List ℕ → TokenFault → Type 0
IsTokenFault bytes (fault.Number f) = Refuses bytes f
IsTokenFault bytes fault.OutOfMemory = Unit {0}

-- the token that a byte alone is
abbrev pub sign_at : ℕ → Option Plain
sign_at b =
    if b == 91 then Some begin_list
    else if b == 93 then Some end_list
    else if b == 123 then Some begin_map
    else if b == 125 then Some end_map
    else if b == 44 then Some comma
    else if b == 58 then Some colon
    else None

-- a letter that begins a word
abbrev pub IsLetter : ℕ → Type 0
IsLetter b = (b == 110 || b == 116 || b == 102) ≡ true

-- behind an opening quote: a string with this text, its closing quote, and the rest
pub record IsString (bytes text rest : List ℕ) : Type 0 where
  pub pieces : List Piece
  pub spelled : bytes ≡ pieces_bytes pieces ++ 34 ∷ rest
  pub are_pieces : ArePieces pieces
  pub means : text_of pieces ≡ text

-- behind an opening quote: no string
abbrev pub NoString : List ℕ → Type 0
NoString bytes = (pieces : List Piece) (rest : List ℕ) → ArePieces pieces → bytes ≡ pieces_bytes pieces ++ 34 ∷ rest → ⊥

-- the bytes begin with four hexadecimal digits of this value
pub record IsHexUnit (bytes : List ℕ) (unit : ℕ) (rest : List ℕ) : Type 0 where
  pub a : ℕ
  pub b : ℕ
  pub c : ℕ
  pub d : ℕ
  pub spelled : bytes ≡ a ∷ b ∷ c ∷ d ∷ rest
  pub digits : IsHexDigit a × IsHexDigit b × IsHexDigit c × IsHexDigit d
  pub means : hex_value a b c d ≡ unit

-- a piece that is this escape
abbrev pub IsEscape : Piece → Escape → Type 0
IsEscape (byte b) e = ⊥
IsEscape (short letter) (escape.Char b) = short_value letter ≡ b
IsEscape (short letter) (escape.Unit u) = ⊥
IsEscape (hex a b c d) (escape.Char e) = ⊥
IsEscape (hex a b c d) (escape.Unit u) = hex_value a b c d ≡ u

-- behind a backslash: the rest of this escape
pub record EndsEscape (bytes : List ℕ) (value : Escape) (rest : List ℕ) : Type 0 where
  pub piece : Piece
  pub spelled : 92 ∷ bytes ≡ piece_bytes piece ++ rest
  pub is_piece : IsPiece piece
  pub means : IsEscape piece value

-- behind a backslash: no escape
abbrev pub NoEscape : List ℕ → Type 0
NoEscape bytes = (p : Piece) (rest : List ℕ) → IsPiece p → 92 ∷ bytes ≡ piece_bytes p ++ rest → ⊥

-- an open list or map of the program, as the machine has it
abbrev pub plain_frame : Frame → machine.Frame
plain_frame (frame.List ts) = machine.in_list ts
plain_frame (frame.Map ps k) = machine.in_map ps k

-- innermost first
abbrev pub plain_frames : List Frame → List machine.Frame
plain_frames fs = reverse (map plain_frame fs)

-- what the program waits for, as the machine has it
abbrev pub plain_next : Next → machine.Next
plain_next next.Value = machine.value
plain_next next.ItemOrEnd = machine.item_or_end
plain_next next.KeyOrEnd = machine.key_or_end
plain_next (next.Key ps) = machine.key ps
plain_next (next.Colon ps k) = machine.colon_after ps k
plain_next (next.Done t) = machine.done (plain t)

-- what a step of the program gives is what the machine's step gives
abbrev pub Takes : Option machine.State → List Frame → Option Next → Type 0
Takes s fs o = MatchOption o (s ≡ None) (λ n. s ≡ Some (plain_frames fs, plain_next n))

-- no value is whole
abbrev pub IsUnfinished : List machine.Frame → machine.Next → Type 0
IsUnfinished fs n = (t : Tree) → fs ≡ [] → n ≡ machine.done t → ⊥

-- what is open beside the frames
abbrev pub inner_levels : machine.Next → ℕ
inner_levels machine.value = 0
inner_levels machine.item_or_end = 1
inner_levels machine.key_or_end = 1
inner_levels (machine.key ps) = 1
inner_levels (machine.colon_after ps k) = 1
inner_levels (machine.done t) = 0

-- how many lists and maps are open in a state
abbrev pub state_levels : machine.State → ℕ
state_levels s = length s.0 + inner_levels s.1

-- whether a value may begin in a state
abbrev pub takes_value : machine.Next → Bool
takes_value machine.value = true
takes_value machine.item_or_end = true
takes_value machine.key_or_end = false
takes_value (machine.key ps) = false
takes_value (machine.colon_after ps k) = false
takes_value (machine.done t) = false

-- why there is no next token in a state: the place where the grammar stops, or a number that is refused
abbrev pub IsNoToken : List ℕ → machine.Next → ℕ → TreeFault → Type 0
IsNoToken rest n place (tree.Syntax at) = (at ≡ place) × (NoneBegins rest ⊎ (BeginsNumber rest × (takes_value n ≡ false)))
IsNoToken rest n place (tree.Depth at) = ⊥
IsNoToken rest n place (tree.Number at f) = (at ≡ place) × Refuses rest f × (takes_value n ≡ true)
IsNoToken rest n place (tree.NotUtf8 at) = ⊥
IsNoToken rest n place tree.TooLong = ⊥
IsNoToken rest n place tree.OutOfMemory = Unit {0}
