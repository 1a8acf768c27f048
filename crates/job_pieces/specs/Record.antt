-- The record of a component's plan.
use Rattle.std.specs.Prelude.{List, map, filter_map, Bool, is_ok, if◌then◌else◌, Option, Some, None}
use Rattle.link_http.specs.Request.{address}
use Rattle.plan_record.specs.Plan.{plan_text}
use Rattle.plan_record.specs.declared.line.Line.{Line}
use Rattle.plan_record.specs.declared.line.Line.TheVariants.{Url, NoUrl}
use Rattle.job_pieces.specs.Component.{Text, Piece, Component}

-- the URL leads to a host over HTTP
abbrev pub leads : Text → Bool
leads url = is_ok (address url)

-- the line of a piece: its URL, where that leads over HTTP
abbrev pub line_of : Piece → Line
line_of piece = if leads piece.url then Url piece.url else NoUrl

-- the lines of a component
abbrev pub lines_of : Component → List Line
lines_of component = map line_of component.pieces

-- the text of a component's record
abbrev pub record_text : Component → Text
record_text component = plan_text (lines_of component)

-- the URL of a line
abbrev pub url_of_line : Line → Option Text
url_of_line (Url url) = Some url
url_of_line NoUrl = None

-- the URLs of a component that lead over HTTP, in order
abbrev pub http_urls : Component → List Text
http_urls component = filter_map url_of_line (lines_of component)
