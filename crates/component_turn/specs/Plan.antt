-- What a component's plan says of its pieces, and the names of its family.
use Rattle.std.specs.Prelude.{ℕ, zero, suc, ◌+◌, Bool, ◌||◌, List, [], ◌∷◌, map, Result, Ok, Err, bytes_eq}
use Rattle.folder_base.specs.Disk.{Name, Bytes}
use Rattle.http_reply.specs.declared.piece_fault.PieceFault.{PieceFault}
use Rattle.link_http.specs.Request.{Address, address}
use Rattle.link_http.specs.declared.piece.Piece.{Piece}
use Rattle.plan_record.specs.Names.{is_beside, stem_of}
use Rattle.plan_record.specs.declared.line.Line.{Line}
use Rattle.plan_record.specs.declared.line.Line.TheVariants.{Url, NoUrl}

-- the line of a URL by where it leads: none where it leads nowhere
abbrev pub line_at : Result Address PieceFault → Bytes → Line
line_at (Ok to) url = Url url
line_at (Err fault) url = NoUrl

-- what a plan says of a piece
abbrev pub line_of : Piece → Line
line_of piece = line_at (address piece.url) piece.url

-- what a plan says of these pieces, in their order
abbrev pub lines_of : List Piece → List Line
lines_of pieces = map line_of pieces

-- the names that so many pieces have once they are complete, from number k on
abbrev pub stems_from : Name → ℕ → ℕ → List Name
stems_from component k zero = []
stems_from component k (suc count) = stem_of component k ∷ stems_from component (k + 1) count

-- The name is one of the component's family: its own, or one beside it.
abbrev pub is_of : Name → Name → Bool
is_of component name = bytes_eq component name || is_beside component name
