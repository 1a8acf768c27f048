-- What is sound of an image of a component: its record, its pieces and its own file.
use Rattle.std.specs.Prelude.{◌≡◌, ℕ, ◌+◌, ◌<◌, ◌^◌, true, List, [], ◌∷◌, ◌++◌, length, Option, Some, None, ⊤, option_and_then}
use Rattle.folder_base.specs.Disk.{Name, Bytes, Image}
use Rattle.keep_store.specs.Promise.{IfStands, PieceSound}
use Rattle.plan_record.specs.Names.{record_of, stem_of}
use Rattle.plan_record.specs.Plan.{plan_text, are_lines}
use Rattle.plan_record.specs.declared.line.Line.{Line}
use Rattle.plan_record.specs.declared.line.Line.TheVariants.{Url, NoUrl}

-- a world: the bytes of a URL's text, or none
abbrev pub Web : Type 0
Web = Bytes → Option Bytes

-- the world's bytes of a piece
abbrev pub known : Web → Line → Option Bytes
known web (Url url) = web url
known web NoUrl = None

-- one after the other, where both are known
abbrev pub both : Option Bytes → Option Bytes → Option Bytes
both a b = option_and_then (λ front. option_and_then (λ back. Some (front ++ back)) b) a

-- the world's bytes of all pieces, joined in order
abbrev pub all_bytes : Web → List Line → Option Bytes
all_bytes web [] = Some []
all_bytes web (line ∷ lines) = both (known web line) (all_bytes web lines)

-- a piece: the name that it has once it is complete, and the world's bytes of its URL
pub record Piece : Type 0 where
  pub stem : Name
  pub all : Option Bytes

-- the pieces from number k on, one for each line
abbrev pub pieces_from : Web → Name → ℕ → List Line → List Piece
pieces_from web component k [] = []
pieces_from web component k (line ∷ lines) = record { stem = stem_of component k; all = known web line } ∷ pieces_from web component (k + 1) lines

-- Each piece agrees with the world's bytes.
abbrev pub EachSound : List Piece → Image → Type 0
EachSound [] image = ⊤
EachSound (piece ∷ pieces) image = PieceSound piece.all piece.stem image × EachSound pieces image

-- lines of which a record can be written
abbrev pub IsPlan : List Line → Type 0
IsPlan lines = (are_lines lines ≡ true) × (length lines < 2 ^ 64)

-- Under a record of this plan the pieces agree with the world's bytes, and the component, where it stands, is all of them joined.
pub record PlanSound (web : Web) (component : Name) (lines : List Line) (image : Image) : Type 0 where
  pub pieces : EachSound (pieces_from web component 0 lines) image
  pub whole : IfStands (image component) (λ bytes. all_bytes web lines ≡ Some bytes)

-- The record of this plan stands.
abbrev pub HasRecord : Name → List Line → Image → Type 0
HasRecord component lines image = image (record_of component) ≡ Some (plan_text lines)

-- So it is under whatever plan's record stands.
abbrev pub ComponentSound : Web → Name → Image → Type 0
ComponentSound web component image = (lines : List Line) → IsPlan lines → HasRecord component lines image → PlanSound web component lines image

-- A plan's record that stands has so many pieces.
abbrev pub HasPieces : Name → ℕ → Image → Type 0
HasPieces component count image = (lines : List Line) → IsPlan lines → HasRecord component lines image → length lines ≡ count
