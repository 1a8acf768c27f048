-- Components, and what is fetched for them.
use Rattle.std.specs.Prelude.{ℕ, List, Bool}

-- a text, by its bytes
abbrev pub Text : Type 0
Text = List ℕ

-- what one request fetches: its URL, and the fields that are sent for it
pub record Piece : Type 0 where
  pub url : Text
  pub headers : List (Text × Text)

-- a file that is put together from pieces, which are those of a list of fragments or the only one
pub record Component : Type 0 where
  pub name : Text
  pub pieces : List Piece
  pub fragments : Bool
