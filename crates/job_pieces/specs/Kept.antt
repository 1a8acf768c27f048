-- How the URLs of components are kept.
use Rattle.std.specs.Prelude.{◌≡◌, ◌⊎◌, All, None}
use Rattle.url.specs.Parts.{Parts, IsValid}
use Rattle.job_pieces.specs.Component.{Text, Component}
use Rattle.job_pieces.specs.Pieces.{parsed, printed_url}

-- The URL is kept as jobs keep it: printed without its fragment, where it is a URL, and else as it was written.
abbrev pub IsKept : Text → Type 0
IsKept url = (parsed None url ≡ None) ⊎ ((parts : Parts) × (IsValid parts × (url ≡ printed_url parts)))

-- The URLs of a component are kept so.
abbrev pub AreKept : Component → Type 0
AreKept component = All (λ piece. IsKept piece.url) component.pieces
