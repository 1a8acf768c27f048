-- The view of an item and of the formats that are to be had as one file: the pairs that templates are filled from.
use Rattle.std.specs.Prelude.{◌≡◌, ℕ, List, [], ◌∷◌, ◌++◌, codes, Bool, true, false, if◌then◌else◌, Option, Some, None, is_some, slice_get, filter_map, find, map, pos}
use Rattle.std.specs.Option.{option_map, option_and_then}
use Rattle.std.specs.List.{list_any}
use Rattle.std.specs.Str.{bytes_eq}
use Rattle.text_base.specs.Number.{whole}
use Rattle.text_base.specs.Fields.{num_key, text_key}
use Rattle.text_base.specs.declared.fields.NumField.{NumField}
use Rattle.text_base.specs.declared.fields.NumField.TheVariants.{Width, Height, Fps, Vbr, StretchedRatio, AspectRatio, Abr, Asr, AudioChannels}
use Rattle.text_base.specs.declared.fields.TextField.{TextField}
use Rattle.text_base.specs.declared.fields.TextField.TheVariants.{FormatId, Format as FormatField, Protocol, Resolution, DynamicRange, Vcodec, Acodec}
use Rattle.info_tree.specs.Tree.{Tree, null, truth, number, text, list, mapping, trees_of}
use Rattle.info_tree.specs.Pairs.{put, value_at, pair_list}
use Rattle.info_item.specs.Item.{Item, Format}
use Rattle.info_item.specs.Fields.{has_video_of, has_audio_of, number_of_field, text_of_field}
use Rattle.info_item.specs.Sums.{sum_over}
use Rattle.info_item.specs.declared.sums.Measure.TheVariants.{Rate, Size}
use Rattle.info_item.specs.declared.combo.Combo.{Combo}

-- each pair of the second list put among those of the first
abbrev pub over : List (List ℕ × Tree) → List (List ℕ × Tree) → List (List ℕ × Tree)
over ps [] = ps
over ps (q ∷ qs) = over (put ps q.0 q.1) qs

-- the pairs of a map
abbrev pub map_pairs : Tree → List (List ℕ × Tree)
map_pairs null = []
map_pairs (truth b) = []
map_pairs (number n) = []
map_pairs (text s) = []
map_pairs (list ts) = []
map_pairs (mapping ps) = pair_list ps

-- whether a tree is a map
abbrev pub is_mapping : Tree → Bool
is_mapping null = false
is_mapping (truth b) = false
is_mapping (number n) = false
is_mapping (text s) = false
is_mapping (list ts) = false
is_mapping (mapping ps) = true

-- the keys that several parts share
abbrev pub shared_keys : List (List ℕ)
shared_keys =
    codes "format_id" ∷ codes "format" ∷ codes "protocol" ∷ codes "width" ∷ codes "height" ∷ codes "resolution" ∷ codes "fps" ∷ codes "dynamic_range" ∷ codes "vcodec" ∷ codes "vbr" ∷ codes "stretched_ratio" ∷ codes "aspect_ratio" ∷ codes "acodec" ∷ codes "abr" ∷ codes "asr" ∷ codes "audio_channels" ∷ codes "tbr" ∷ codes "filesize_approx" ∷ codes "filesize" ∷ codes "url" ∷ codes "fragments" ∷ codes "fragment_base_url" ∷ codes "http_headers" ∷ codes "requested_formats" ∷ []

-- whether several parts share a key
abbrev pub is_shared : List ℕ → Bool
is_shared key = list_any (bytes_eq key) shared_keys

-- the pairs of other keys
abbrev pub others : List (List ℕ × Tree) → List (List ℕ × Tree)
others [] = []
others (p ∷ ps) = if is_shared p.0 then others ps else p ∷ others ps

-- a pair put where several parts do not share its key
abbrev pub put_other : List (List ℕ × Tree) → List ℕ → Tree → List (List ℕ × Tree)
put_other ps key t = if is_shared key then ps else put ps key t

-- a pair put where its value is known
abbrev pub put_known : List (List ℕ × Tree) → List ℕ → Option Tree → List (List ℕ × Tree)
put_known ps key None = ps
put_known ps key (Some t) = put ps key t

-- a field of a format that is a number, put where it is known
abbrev pub put_number : Format → NumField → List (List ℕ × Tree) → List (List ℕ × Tree)
put_number f field ps = put_known ps (num_key field) (option_map number (number_of_field f.tree field))

-- and one that is a text
abbrev pub put_text : Format → TextField → List (List ℕ × Tree) → List (List ℕ × Tree)
put_text f field ps = put_known ps (text_key field) (option_map text (text_of_field f field))

-- the texts of a field behind a text, each behind a plus, where all have one
abbrev pub more_texts : TextField → List ℕ → List Format → Option (List ℕ)
more_texts field told [] = Some told
more_texts field told (f ∷ fs) = option_and_then (λ t. more_texts field (told ++ 43 ∷ t) fs) (text_of_field f field)

-- the texts of a field, joined by a plus, where all have one
abbrev pub joined_texts : TextField → List Format → Option (List ℕ)
joined_texts field [] = None
joined_texts field (f ∷ fs) = option_and_then (λ t. more_texts field t fs) (text_of_field f field)

-- joined texts, put where all parts have one
abbrev pub put_joined : List Format → TextField → List (List ℕ × Tree) → List (List ℕ × Tree)
put_joined parts field ps = put_known ps (text_key field) (option_map text (joined_texts field parts))

-- the keys of a part with video
abbrev pub put_video : Option Format → List (List ℕ × Tree) → List (List ℕ × Tree)
put_video None ps = ps
put_video (Some f) ps =
    put_number f AspectRatio (put_number f StretchedRatio (put_number f Vbr (put_text f Vcodec (put_text f DynamicRange
    (put_number f Fps (put_text f Resolution (put_number f Height (put_number f Width ps))))))))

-- the keys of a part with audio
abbrev pub put_audio : Option Format → List (List ℕ × Tree) → List (List ℕ × Tree)
put_audio None ps = ps
put_audio (Some f) ps = put_number f AudioChannels (put_number f Asr (put_number f Abr (put_text f Acodec ps)))

-- What several parts share, in this order: joined texts, the keys of the first part with video and of the first with audio, and sums.
-- What is not known is left out.
unfoldable pub summed : List Format → List (List ℕ × Tree)
summed parts =
    let ids = put_joined parts Protocol (put_joined parts FormatField (put_joined parts FormatId [])) in
    let streams = put_audio (find (λ f. has_audio_of f.tree) parts) (put_video (find (λ f. has_video_of f.tree) parts) ids) in
    put_known (put_known streams (codes "tbr") (option_map number (sum_over Rate parts))) (codes "filesize_approx") (option_map number (sum_over Size parts))

-- the key of the parts' maps
abbrev pub parts_key : List ℕ
parts_key = codes "requested_formats"

-- pairs with the list of the parts' maps
abbrev pub with_parts : List (List ℕ × Tree) → List Tree → List (List ℕ × Tree)
with_parts ps maps = put ps parts_key (list (trees_of maps))

-- what several parts share, and last the list of their maps
abbrev pub merged : List Format → List (List ℕ × Tree)
merged parts = with_parts (summed parts) (map (λ f. f.tree) parts)

-- whether there are several parts
abbrev pub are_several : List Format → Bool
are_several [] = false
are_several (f ∷ []) = false
are_several (f ∷ g ∷ fs) = true

-- what the parts share: nothing, unless there are several
abbrev pub shared_of : List Format → List (List ℕ × Tree)
shared_of parts = if are_several parts then merged parts else []

-- the map of the only part
abbrev pub only_part : List Format → Option Tree
only_part [] = None
only_part (f ∷ []) = Some f.tree
only_part (f ∷ g ∷ fs) = None

-- the item's pairs, with those of the only part over them; where there are several parts, the pairs that they do not share
abbrev pub base_of : Bool → Tree → Option Tree → List (List ℕ × Tree)
base_of several item None = if several then others (map_pairs item) else map_pairs item
base_of several item (Some part) = over (map_pairs item) (map_pairs part)

-- the pairs that go over these: what the parts share, and the extension and the number of the whole
abbrev pub own_of : List Format → List ℕ → ℕ → List (List ℕ × Tree)
own_of parts ext count = put (put (shared_of parts) (codes "ext") (text ext)) (codes "autonumber") (number (whole (pos count)))

-- the formats at these places
abbrev pub parts_of : List Format → List ℕ → List Format
parts_of formats places = filter_map (slice_get formats) places

-- the view of an item, the formats that are to be had as one file, and the item's number
abbrev pub view_of : Item → Combo → ℕ → List (List ℕ × Tree)
view_of item combo count =
    let parts = parts_of item.formats combo.parts.items in over (base_of (are_several parts) item.tree (only_part parts)) (own_of parts combo.ext count)

-- the own pairs of a view whose list of the parts' maps is made when it is asked for
abbrev pub own_with : Option (List Tree) → List (List ℕ × Tree) → List (List ℕ × Tree)
own_with None own = own
own_with (Some maps) own = with_parts own maps

-- the key of that list has its place among the own pairs
abbrev pub HasPlace : Option (List Tree) → List (List ℕ × Tree) → Type 0
HasPlace None own = Unit {0}
HasPlace (Some maps) own = is_some (value_at own parts_key) ≡ true

-- the value of an own pair, which holds the place of that list under its key
abbrev pub own_value : Option (List Tree) → List ℕ → Tree → Tree
own_value None key value = value
own_value (Some maps) key value = if bytes_eq key parts_key then list (trees_of maps) else value

-- what several parts share, with a null in the place of the list
abbrev pub placed_of : List Format → List (List ℕ × Tree)
placed_of parts = if are_several parts then put (summed parts) parts_key null else []

-- the maps of several parts
abbrev pub maps_of : List Format → Option (List Tree)
maps_of parts = if are_several parts then Some (map (λ f. f.tree) parts) else None

-- what is left of the parts' maps once a pair was put under a key
abbrev pub kept_maps : Option (List Tree) → List ℕ → Option (List Tree)
kept_maps maps key = if bytes_eq key parts_key then None else maps

-- the own pairs of a new view
abbrev pub begun_of : List Format → List ℕ → ℕ → List (List ℕ × Tree)
begun_of parts ext count = put (put (placed_of parts) (codes "ext") (text ext)) (codes "autonumber") (number (whole (pos count)))
