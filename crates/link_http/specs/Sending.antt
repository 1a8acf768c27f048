-- How a request is sent.
use Rattle.std.specs.Prelude.{◌≡◌, ℕ, ◌<◌, Bool, true, not, ◌||◌, ◌==◌, IsTrue, IsFalse, List, [], ◌∷◌, ◌++◌, length, take, Some}
use Rattle.link_http.specs.Request.{Place}
use Rattle.link_http.specs.Wire.{Wire, Connection, AsksNothing, IsServed, ends_request, left}

-- no part of a line's end
abbrev pub is_clean : ℕ → Bool
is_clean b = not (b == 10 || b == 13)

-- The byte is no part of a line's end.
abbrev pub IsClean : ℕ → Type 0
IsClean b = is_clean b ≡ true

-- The text ends with an empty line, and no shorter front of it does.
pub record IsWholeText (text : List ℕ) : Type 0 where
  pub ends : IsTrue (ends_request text)
  pub once : (n : ℕ) → n < length text → IsFalse (ends_request (take n text))

-- a connection over which nothing was sent
abbrev pub fresh : Place → ℕ → Connection
fresh place dial = record { place = place; dial = dial; sent = []; left = [] }

-- so many bytes of the text were sent
pub record Partly (place : Place) (dial : ℕ) (text : List ℕ) (at : ℕ) (old new : Wire) : Type 0 where
  pub line : new.line ≡ Some (record { place = place; dial = dial; sent = take at text; left = [] })
  pub asks : AsksNothing old new

-- the request was asked, and its whole reply is to come
pub record Asked (place : Place) (dial : ℕ) (text : List ℕ) (old new : Wire) : Type 0 where
  pub world : new.world ≡ old.world
  pub dials : new.dials ≡ old.dials
  pub talks : new.talks ≡ old.talks ++ record { place = place; dial = dial; request = text; reply = left new } ∷ []
  pub served : IsTrue old.serves → IsServed old.world place text (left new)
