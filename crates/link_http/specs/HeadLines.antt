-- The lines of a head, as far as they came.
use Rattle.std.specs.Prelude.{◌≡◌, ℕ, ◌≤◌, Bool, true, false, ◌&&◌, ◌||◌, ◌==◌, IsTrue, List, [], ◌∷◌, length, take, drop, if◌then◌else◌}
use Rattle.httparse.specs.Grammar.{HasNoResponse, NeverHasResponse}
use Rattle.link_http.specs.declared.head_lines.LinePlace.{LinePlace}
use Rattle.link_http.specs.declared.head_lines.LinePlace.TheVariants.{Start, Text, Empty}
use Rattle.link_http.specs.declared.head_lines.HeadLines.{HeadLines}

-- behind LF: before any text it stays so, and behind text an empty line begins
abbrev pub next_line : LinePlace → LinePlace
next_line Start = Start
next_line Text = Empty
next_line Empty = Empty

-- CR tells nothing, LF ends a line, and each other byte is text
abbrev pub place_after : LinePlace → ℕ → LinePlace
place_after place b = if b == 13 then place else (if b == 10 then next_line place else Text)

-- the place behind some bytes
abbrev pub lines_after : LinePlace → List ℕ → LinePlace
lines_after place [] = place
lines_after place (b ∷ bytes) = lines_after (place_after place b) bytes

-- the place is in an empty line behind text
abbrev pub is_empty : LinePlace → Bool
is_empty Start = false
is_empty Text = false
is_empty Empty = true

-- this byte ends an empty line behind text
abbrev pub ends_on : LinePlace → ℕ → Bool
ends_on place b = is_empty place && b == 10

-- one of these bytes does
abbrev pub ends_in : LinePlace → List ℕ → Bool
ends_in place [] = false
ends_in place (b ∷ bytes) = ends_on place b || ends_in (place_after place b) bytes

-- the bytes of the head that were looked at, of those that came
abbrev pub seen_of : HeadLines → List ℕ → List ℕ
seen_of lines came = drop lines.at (take lines.seen came)

-- What is known of the bytes that were looked at: where their last line stands, that they have no whole head, and where
-- the lines are over, that no bytes can follow that make one.
pub record Looked (lines : HeadLines) (came : List ℕ) : Type 0 where
  pub at : lines.at ≤ lines.seen
  pub seen : lines.seen ≤ length came
  pub place : lines.place ≡ lines_after Start (seen_of lines came)
  pub none : HasNoResponse (seen_of lines came)
  pub over : IsTrue lines.is_over → NeverHasResponse (seen_of lines came)
