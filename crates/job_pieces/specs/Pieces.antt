-- The pieces of a format: what is fetched for it, one after another.
use Rattle.std.specs.Prelude.{ℕ, Bool, true, ◌&&◌, List, [], ◌∷◌, map, filter_map, length, Option, Some, None, is_some, unwrap_or, slice_get, option_map, option_and_then, nat_le, if◌then◌else◌, codes}
use Rattle.std.specs.Option.{option_or, option_map_or}
use Rattle.std.specs.Result.{result_ok}
use Rattle.url.specs.Parts.{Parts, text_before}
use Rattle.url.specs.Parser.{parse_url}
use Rattle.url.specs.declared.slicing.Position.TheVariants.{AfterQuery}
use Rattle.info_tree.specs.Tree.{Tree, null, truth, number, text, list, mapping, tree_list}
use Rattle.info_tree.specs.Scalars.{text_of}
use Rattle.info_tree.specs.Pairs.{member, pair_list}
use Rattle.info_item.specs.Item.{Format}
use Rattle.info_item.specs.Fields.{text_at}
use Rattle.job_pieces.specs.Component.{Text, Piece}

-- the URL that a text is, by itself or from a base; a text of over 268,435,456 bytes is none
unfoldable pub parsed : Option Parts → Text → Option Parts
parsed base written = if nat_le (length written) 268435456 then result_ok (parse_url base written) else None

-- a URL as it is printed, without its fragment
abbrev pub printed_url : Parts → Text
printed_url url = text_before url AfterQuery

-- the URL that a text is kept as: as it is printed, where it is one, and else as it is written
abbrev pub kept_url : Text → Text
kept_url written = option_map_or printed_url (parsed None written) written

-- where a path leads from a base; nowhere, where that is no URL
abbrev pub joined_url : Parts → Text → Option Text
joined_url base path = option_map printed_url (parsed (Some base) path)

-- where a path leads from a base, where both are there
abbrev pub url_of_path : Option Parts → Option Text → Option Text
url_of_path base path = option_and_then (λ from. option_and_then (joined_url from) path) base

-- the URL of a fragment: its text `url`, else where its text `path` leads from the base
abbrev pub fragment_url : Option Parts → Tree → Option Text
fragment_url base fragment =
    option_or (option_map kept_url (text_at fragment (codes "url"))) (url_of_path base (text_at fragment (codes "path")))

-- the base of a format's fragments: its text `fragment_base_url`, where that is a URL
abbrev pub base_url : Tree → Option Parts
base_url format = option_and_then (parsed None) (text_at format (codes "fragment_base_url"))

-- the URLs of fragments; none where one of them has none
abbrev pub fragment_urls : Option Parts → List Tree → Option (List Text)
fragment_urls base [] = Some []
fragment_urls base (fragment ∷ fragments) =
    option_and_then (λ url. option_map (λ urls. url ∷ urls) (fragment_urls base fragments)) (fragment_url base fragment)

-- a list of fragments that can be fetched has 1 to 20,000 of them
abbrev pub is_list_to_fetch : List Tree → Bool
is_list_to_fetch fragments = nat_le 1 (length fragments) && nat_le (length fragments) 20000

-- the items of a list
abbrev pub items_of : Tree → Option (List Tree)
items_of null = None
items_of (truth b) = None
items_of (number n) = None
items_of (text s) = None
items_of (list ts) = Some (tree_list ts)
items_of (mapping ps) = None

-- the fragments of a format, where it has a list of them
abbrev pub fragments_of : Tree → Option (List Tree)
fragments_of format = option_and_then items_of (member format (codes "fragments"))

-- the URLs of a format's fragments, or, where it has no list of them, of the format itself
abbrev pub urls_by : Tree → Option (List Tree) → Option (List Text)
urls_by format (Some fragments) =
    if is_list_to_fetch fragments then fragment_urls (base_url format) fragments else None
urls_by format None = option_map (λ url. kept_url url ∷ []) (text_at format (codes "url"))

-- the pairs whose values are texts
abbrev pub text_pairs : List (Text × Tree) → List (Text × Text)
text_pairs ps = filter_map (λ p. option_map (λ value. (p.0, value)) (text_of p.1)) ps

-- the pairs of a map
abbrev pub pairs_in : Tree → Option (List (Text × Tree))
pairs_in null = None
pairs_in (truth b) = None
pairs_in (number n) = None
pairs_in (text s) = None
pairs_in (list ts) = None
pairs_in (mapping ps) = Some (pair_list ps)

-- the pairs of a format's `http_headers`, where that is a map
abbrev pub header_pairs : Tree → Option (List (Text × Tree))
header_pairs format = option_and_then pairs_in (member format (codes "http_headers"))

-- the fields that are sent for a format: the texts of that map
abbrev pub headers_of : Tree → List (Text × Text)
headers_of format = text_pairs (unwrap_or (header_pairs format) [])

-- a piece of a format
abbrev pub piece_of : Tree → Text → Piece
piece_of format url = record { url = url; headers = headers_of format }

-- the pieces of a format; none where it can't be fetched
unfoldable pub pieces_of : Tree → Option (List Piece)
pieces_of format = option_map (map (piece_of format)) (urls_by format (fragments_of format))

-- the format at a place can be fetched, if one stands there
abbrev pub can_fetch : List Format → ℕ → Bool
can_fetch formats place = option_map_or (λ format. is_some (pieces_of format.tree)) (slice_get formats place) true
