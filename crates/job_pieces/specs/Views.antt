-- What the program holds of components, as the definitions see it.
use Rattle.std.specs.Prelude.{map}
use Rattle.link_http.specs.declared.piece.Piece.{Piece as HeldPiece}
use Rattle.job_pieces.specs.declared.component.Component.{Component as HeldComponent}
use Rattle.job_pieces.specs.Component.{Piece, Component}

-- a piece, as the definitions see it
abbrev pub plain_piece : HeldPiece → Piece
plain_piece p = record { url = p.url; headers = map (λ h. (h.name, h.value)) p.headers.items }

-- a component, as the definitions see it
abbrev pub plain_component : HeldComponent → Component
plain_component c = record { name = c.name; pieces = map plain_piece c.pieces.items; fragments = c.fragments }
