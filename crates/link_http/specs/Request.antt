-- The request for a piece, and where it goes.
use Rattle.std.specs.Prelude.{ℕ, Bool, ◌&&◌, not, List, [], ◌∷◌, ◌++◌, length, filter, Option, Some, None, Result, Ok, Err, option_map, unwrap_or, nat_le, ◌==◌, if◌then◌else◌, bytes_eq, codes, decimal}
use Rattle.std.specs.List.{flat_map, list_any, list_all}
use Rattle.std.specs.Str.{str_eq_ignore_ascii_case}
use Rattle.httparse.specs.Ascii.{crlf_bytes}
use Rattle.httparse.specs.Grammar.{is_value_byte}
use Rattle.http_header.specs.FieldName.{is_field_name}
use Rattle.url.specs.Parts.{Parts, nonempty_host}
use Rattle.url.specs.Parser.{Parsed, parse_url}
use Rattle.url.specs.Host.{host_text}
use Rattle.http_reply.specs.declared.piece_fault.PieceFault.{PieceFault}
use Rattle.http_reply.specs.declared.piece_fault.PieceFault.TheVariants.{Url, Scheme}
use Rattle.link_http.specs.declared.header.Header.{Header}

-- where a connection goes
pub record Place : Type 0 where
  pub host : List ℕ
  pub port : ℕ

-- where a request goes, and its target
pub record Address : Type 0 where
  pub place : Place
  pub target : List ℕ

-- the path, and the query where there is one
abbrev pub target_of : Parts → List ℕ
target_of url = url.path ++ unwrap_or (option_map (λ q. codes "?" ++ q) url.query) []

-- to a host and a port, for what a URL names
abbrev pub to_target : List ℕ → ℕ → Parts → Address
to_target host port url = record { place = record { host = host; port = port }; target = target_of url }

-- an URL with this host, or with none
abbrev pub address_at : Parts → Option (List ℕ) → Result Address PieceFault
address_at url None = Err Url
address_at url (Some host) =
    if not (bytes_eq url.scheme (codes "http")) then Err Scheme
    else Ok (to_target host (unwrap_or url.port 80) url)

-- the address of a URL as it was read
abbrev pub address_of : Parsed Parts → Result Address PieceFault
address_of (Err e) = Err Url
address_of (Ok url) = address_at url (option_map host_text (nonempty_host url))

-- where a URL leads
unfoldable pub address : List ℕ → Result Address PieceFault
address url = if nat_le (length url) 268435456 then address_of (parse_url None url) else Err Url

-- the names of the fields that are sent anyway, or that no request has
abbrev pub own_names : List (List ℕ)
own_names =
    codes "host" ∷ codes "range" ∷ codes "connection" ∷ codes "accept-encoding" ∷ codes "content-length" ∷ codes "transfer-encoding" ∷ []

-- the name of such a field, in any case
abbrev pub is_own_name : List ℕ → Bool
is_own_name name = list_any (λ n. str_eq_ignore_ascii_case name n) own_names

-- a field that is sent
abbrev pub is_sent : Header → Bool
is_sent h =
    is_field_name h.name && list_all is_value_byte h.value
    && not (is_own_name h.name)

-- a line
abbrev pub line : List ℕ → List ℕ
line text = text ++ crlf_bytes

-- a field, as it is sent
abbrev pub field_line : Header → List ℕ
field_line h = line (h.name ++ codes ": " ++ h.value)

-- a field, if it is sent
abbrev pub sent_text : Header → List ℕ
sent_text h = if is_sent h then field_line h else []

-- the fields of a piece that are sent
abbrev pub fields_text : List Header → List ℕ
fields_text headers = flat_map field_line (filter is_sent headers)

-- the port, unless it is the usual one
abbrev pub port_text : ℕ → List ℕ
port_text port = if port == 80 then [] else codes ":" ++ decimal port

-- from a place on, unless that is the start
abbrev pub range_line : ℕ → List ℕ
range_line from = if from == 0 then [] else line (codes "Range: bytes=" ++ decimal from ++ codes "-")

-- the text of a request
unfoldable pub request : Address → List Header → ℕ → List ℕ
request to headers from =
    line (codes "GET " ++ to.target ++ codes " HTTP/1.1")
    ++ line (codes "Host: " ++ to.place.host ++ port_text to.place.port)
    ++ fields_text headers
    ++ line (codes "Accept-Encoding: identity")
    ++ range_line from
    ++ line (codes "Connection: close")
    ++ line []
