-- What the keys of a format and of an item say.
use Rattle.std.specs.Prelude.{ℕ, List, [], ◌∷◌, ◌++◌, take, codes, Bool, false, not, ◌&&◌, ◌==◌, if◌then◌else◌, length, Option, Some, None, position}
use Rattle.std.specs.Option.{option_map, option_and_then, unwrap_or}
use Rattle.std.specs.List.{list_any}
use Rattle.std.specs.Char.{is_whitespace, is_ascii_control}
use Rattle.std.specs.Fmt.{signed_decimal}
use Rattle.std.specs.Str.{chars, str_to_ascii_lowercase, bytes_eq}
use Rattle.text_base.specs.Number.{Number, whole, decimal}
use Rattle.text_base.specs.Fields.{num_key}
use Rattle.text_base.specs.Spaces.{without_last_spaces}
use Rattle.text_base.specs.declared.fields.NumField.{NumField}
use Rattle.text_base.specs.declared.fields.TextField.{TextField}
use Rattle.text_base.specs.declared.fields.TextField.TheVariants.{Url, Ext, Acodec, Vcodec, Container, Protocol, Language, DynamicRange, FormatId, Format, FormatNote, Resolution}
use Rattle.info_tree.specs.Tree.{Tree, null, truth, number, text, list, mapping}
use Rattle.info_tree.specs.Scalars.{text_of, number_of}
use Rattle.info_tree.specs.Pairs.{member}
use Rattle.info_item.specs.Item.{Format as Form}

-- the text under a key
abbrev pub text_at : Tree → List ℕ → Option (List ℕ)
text_at tree key = option_and_then text_of (member tree key)

-- the number under a key
abbrev pub number_at : Tree → List ℕ → Option Number
number_at tree key = option_and_then number_of (member tree key)

-- a text that is not empty
abbrev pub not_empty : List ℕ → Option (List ℕ)
not_empty [] = None
not_empty (b ∷ bs) = Some (b ∷ bs)

-- the id that a tree is: a text that is not empty, or a whole number as its decimal text
abbrev pub id_of : Tree → Option (List ℕ)
id_of null = None
id_of (truth b) = None
id_of (number (whole z)) = Some (signed_decimal z)
id_of (number (decimal z)) = None
id_of (text s) = not_empty s
id_of (list ts) = None
id_of (mapping ps) = None

-- the text before the first `:`, in ASCII lower case; none without a `:`
abbrev pub scheme_of : List ℕ → Option (List ℕ)
scheme_of url = option_map (λ n. str_to_ascii_lowercase (take n url)) (position (λ b. b == 58) url)

-- what the `url` tells of the protocol, where the key `protocol` is absent
abbrev pub protocol_told : Option Tree → Option (List ℕ) → Option (List ℕ)
protocol_told None url = option_and_then scheme_of url
protocol_told (Some t) url = None

-- the protocol that a format's `url` tells
abbrev pub derived_protocol : Tree → Option (List ℕ)
derived_protocol tree = protocol_told (member tree (codes "protocol")) (text_at tree (codes "url"))

-- the text `protocol`, or what the `url` tells where that key is absent
abbrev pub protocol_by : Option Tree → Option (List ℕ) → Option (List ℕ)
protocol_by None url = option_and_then scheme_of url
protocol_by (Some t) url = text_of t

-- the protocol of a format
abbrev pub protocol_of : Tree → Option (List ℕ)
protocol_of tree = protocol_by (member tree (codes "protocol")) (text_at tree (codes "url"))

-- the extension of a format: the text `ext`, or `unknown_video`
abbrev pub ext_of : Tree → List ℕ
ext_of tree = unwrap_or (text_at tree (codes "ext")) (codes "unknown_video")

-- A stream is missing exactly where its codec is the text `none`.
abbrev pub is_missing : Option (List ℕ) → Bool
is_missing None = false
is_missing (Some codec) = bytes_eq codec (codes "none")

-- whether a format has a video stream
abbrev pub has_video_of : Tree → Bool
has_video_of tree = not (is_missing (text_at tree (codes "vcodec")))

-- whether a format has an audio stream
abbrev pub has_audio_of : Tree → Bool
has_audio_of tree = not (is_missing (text_at tree (codes "acodec")))

-- the number of a field: the number under its key
abbrev pub number_of_field : Tree → NumField → Option Number
number_of_field tree field = number_at tree (num_key field)

-- the id of a format, where the key `format_id` is there
abbrev pub written_id_of : Form → Option (List ℕ)
written_id_of f = option_map (λ _. f.id) (member f.tree (codes "format_id"))

-- The text of a field is the text under its key, with three exceptions: `ext` is never unknown, `protocol` may be told by the
-- `url`, and `format_id` is the id where the key is there.
abbrev pub text_of_field : Form → TextField → Option (List ℕ)
text_of_field f Url = text_at f.tree (codes "url")
text_of_field f Ext = Some (ext_of f.tree)
text_of_field f Acodec = text_at f.tree (codes "acodec")
text_of_field f Vcodec = text_at f.tree (codes "vcodec")
text_of_field f Container = text_at f.tree (codes "container")
text_of_field f Protocol = protocol_of f.tree
text_of_field f Language = text_at f.tree (codes "language")
text_of_field f DynamicRange = text_at f.tree (codes "dynamic_range")
text_of_field f FormatId = written_id_of f
text_of_field f Format = text_at f.tree (codes "format")
text_of_field f FormatNote = text_at f.tree (codes "format_note")
text_of_field f Resolution = text_at f.tree (codes "resolution")

-- whether a text has white space (Unicode's White_Space)
abbrev pub has_space : List ℕ → Bool
has_space bytes = list_any is_whitespace (chars bytes)

-- whether a text has a control character of ASCII
abbrev pub has_controls : List ℕ → Bool
has_controls bytes = list_any is_ascii_control bytes

-- whether a text names a site: it is not empty and has no white space and no control character
abbrev pub is_site_name : List ℕ → Bool
is_site_name name = not (length name == 0) && not (has_space name) && not (has_controls name)

-- the name, where it names a site
abbrev pub site_name : Option (List ℕ) → Option (List ℕ)
site_name None = None
site_name (Some name) = if is_site_name name then Some name else None

-- the first of two names, else `generic`
abbrev pub site_by : Option (List ℕ) → Option (List ℕ) → List ℕ
site_by (Some key) extractor = key
site_by None (Some extractor) = extractor
site_by None None = codes "generic"

-- the site of an item: `extractor_key`, else `extractor`, else `generic`
abbrev pub site_of : Tree → List ℕ
site_of tree = site_by (site_name (text_at tree (codes "extractor_key"))) (site_name (text_at tree (codes "extractor")))

-- an item's line in an archive: its site in ASCII lower case, a space and its id, without spaces at the end
abbrev pub line_of : Tree → List ℕ → List ℕ
line_of tree id = without_last_spaces (str_to_ascii_lowercase (site_of tree) ++ 32 ∷ id)
