-- What a text is read as: its tree, or its first fault.
use Rattle.std.specs.Prelude.{◌≡◌, ℕ, ◌+◌, ◌<◌, ◌≤◌, List, [], ◌∷◌, length, None, IsSome, ◌⊎◌, Result, Ok, Err}
use Rattle.std.specs.Str.{IsUtf8, IsValidUpTo}
use Rattle.text_base.specs.Value.{exact_value, number_value}
use Rattle.text_base.specs.declared.num_fault.NumFault.{NumFault}
use Rattle.text_base.specs.declared.num_fault.NumFault.TheVariants.{NotNumber, NumberRange, NumberLong}
use Rattle.info_tree.specs.Tree.{Tree as Plain}
use Rattle.info_tree.specs.Token.{Token, begin_list, end_list, begin_map, end_map, comma, colon, word, numeral, string, BeginsWith, Splits}
use Rattle.info_tree.specs.Levels.{levels, StayWithin}
use Rattle.info_tree.specs.Json.{Reads, SyntaxAt}
use Rattle.info_tree.specs.Plain.{plain}
use Rattle.info_tree.specs.declared.tree.Tree.{Tree}
use Rattle.info_tree.specs.declared.tree_fault.TreeFault.{TreeFault}
use Rattle.info_tree.specs.declared.tree_fault.TreeFault.TheVariants.{Syntax, Depth, Number, NotUtf8, TooLong, OutOfMemory}

-- how many bytes a text may have
abbrev pub most_bytes : ℕ
most_bytes = 67108864

-- how many lists and maps may be open at once
abbrev pub most_levels : ℕ
most_levels = 128

-- a token that is no number, or a number with a value
abbrev pub IsAccepted : Token → Type 0
IsAccepted begin_list = Unit {0}
IsAccepted end_list = Unit {0}
IsAccepted begin_map = Unit {0}
IsAccepted end_map = Unit {0}
IsAccepted comma = Unit {0}
IsAccepted colon = Unit {0}
IsAccepted (word w) = Unit {0}
IsAccepted (numeral s) = IsSome (number_value s)
IsAccepted (string ps) = Unit {0}

-- all of these tokens are accepted
abbrev pub AreAccepted : List Token → Type 0
AreAccepted [] = Unit {0}
AreAccepted (t ∷ ts) = IsAccepted t × AreAccepted ts

-- The bytes are the text of this tree, within all limits.
pub record IsTextOf (bytes : List ℕ) (tree : Plain) : Type 0 where
  pub short : length bytes ≤ most_bytes
  pub reads : Reads bytes tree
  pub shallow : StayWithin most_levels 0 reads.tokens
  pub accepted : AreAccepted reads.tokens

-- why a number is refused: it is too long, or else it has no value
abbrev pub IsRefused : List ℕ → NumFault → Type 0
IsRefused spelling NotNumber = ⊥
IsRefused spelling NumberLong = 64 < length spelling
IsRefused spelling NumberRange = (length spelling ≤ 64) × (exact_value spelling ≡ None)

-- a bracket that opens a list or a map
abbrev pub Opens : Token → Type 0
Opens t = (t ≡ begin_list) ⊎ (t ≡ begin_map)

-- the tokens before a place, and what stands from it on
pub record Before (bytes : List ℕ) (place : ℕ) : Type 0 where
  pub tokens : List Token
  pub rest : List ℕ
  pub split : Splits bytes tokens rest
  pub at : place + length rest ≡ length bytes

-- the bracket at this place opens one level more than may be open
pub record DepthAt (bytes : List ℕ) (place : ℕ) : Type 0 where
  pub before : Before bytes place
  pub full : levels 0 before.tokens ≡ most_levels
  pub bracket : Token
  pub after : List ℕ
  pub begins : BeginsWith before.rest bracket after
  pub opens : Opens bracket

-- the number at this place is refused
pub record NumberAt (bytes : List ℕ) (place : ℕ) (fault : NumFault) : Type 0 where
  pub before : Before bytes place
  pub spelling : List ℕ
  pub after : List ℕ
  pub begins : BeginsWith before.rest (numeral spelling) after
  pub refused : IsRefused spelling fault

-- a fault of the grammar, the depth or a number stands at this place
pub data IsFaulty (bytes : List ℕ) (place : ℕ) : Type 0 where
  by_syntax : SyntaxAt bytes place → IsFaulty bytes place
  by_depth : DepthAt bytes place → IsFaulty bytes place
  by_number : (fault : NumFault) → NumberAt bytes place fault → IsFaulty bytes place

-- a text of bytes that may be read, with no fault before this place
pub record IsFirst (bytes : List ℕ) (place : ℕ) : Type 0 where
  pub short : length bytes ≤ most_bytes
  pub utf8 : IsUtf8 bytes
  pub none_before : (q : ℕ) → q < place → IsFaulty bytes q → ⊥

-- The fault that the bytes have: the length before the encoding, before the least place; at one place the grammar before the rest.
-- Want of memory may come at any time.
abbrev pub Has : List ℕ → TreeFault → Type 0
Has bytes (Syntax at) = IsFirst bytes at × SyntaxAt bytes at
Has bytes (Depth at) = IsFirst bytes at × DepthAt bytes at × (SyntaxAt bytes at → ⊥)
Has bytes (Number at fault) = IsFirst bytes at × NumberAt bytes at fault × (SyntaxAt bytes at → ⊥)
Has bytes (NotUtf8 at) = (length bytes ≤ most_bytes) × IsValidUpTo bytes at
Has bytes TooLong = most_bytes < length bytes
Has bytes OutOfMemory = Unit {0}

-- the answer is this tree, unless memory ran out
abbrev pub IsTree : Plain → Result Tree TreeFault → Type 0
IsTree tree (Ok t) = plain t ≡ tree
IsTree tree (Err e) = e ≡ OutOfMemory

-- the answer is this fault, unless memory ran out
abbrev pub IsFault : TreeFault → Result Tree TreeFault → Type 0
IsFault fault (Ok t) = fault ≡ OutOfMemory
IsFault fault (Err e) = (e ≡ fault) ⊎ (e ≡ OutOfMemory) ⊎ (fault ≡ OutOfMemory)
