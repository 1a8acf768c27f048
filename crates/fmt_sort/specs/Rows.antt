-- Texts that are ranked by their place in a row.
use Rattle.std.specs.Prelude.{ℕ, ◌+◌, List, [], ◌∷◌, ◌++◌, map, length, codes, nat_eq, Bool, true, false, if◌then◌else◌}
use Rattle.std.specs.List.{starts_with}
use Rattle.std.specs.Str.{str_to_ascii_lowercase, bytes_eq}
use Rattle.fmt_sort.specs.declared.row.Row.{Row}
use Rattle.fmt_sort.specs.declared.row.Row.TheVariants.{Protocols, VideoCodecs, AudioCodecs, VideoExts, AudioExts, Ranges}

-- a place of a row: the texts that stand for it
abbrev pub Place : Type 0
Place = List (List ℕ)

-- a place for one text
abbrev pub one : List ℕ → Place
one a = a ∷ []

-- a place for two texts
abbrev pub two : List ℕ → List ℕ → Place
two a b = a ∷ b ∷ []

-- the places of a row from the best on, also where free formats are preferred
abbrev pub places : Row → Bool → List Place
places Protocols free =
    two (codes "https") (codes "ftps") ∷ two (codes "http") (codes "ftp") ∷ two (codes "m3u8_native") (codes "m3u8")
    ∷ one (codes "http_dash_segments") ∷ one (codes "websocket_frag") ∷ two (codes "mms") (codes "rtsp") ∷ two (codes "f4f") (codes "f4m") ∷ []
places VideoCodecs free =
    two (codes "av01") (codes "av1") ∷ two (codes "vp9.2") (codes "vp09.02") ∷ two (codes "vp9") (codes "vp09")
    ∷ (codes "h265" ∷ codes "hevc" ∷ codes "hev1" ∷ codes "hvc1" ∷ codes "x265" ∷ []) ∷ (codes "h264" ∷ codes "avc" ∷ codes "x264" ∷ [])
    ∷ two (codes "vp8") (codes "vp08") ∷ two (codes "h263") (codes "mp4v") ∷ one (codes "theora") ∷ one (codes "other") ∷ []
places AudioCodecs free =
    two (codes "flac") (codes "alac") ∷ two (codes "wav") (codes "aiff") ∷ one (codes "opus") ∷ two (codes "vorbis") (codes "ogg")
    ∷ one (codes "aac") ∷ two (codes "mp4a") (codes "m4a") ∷ one (codes "mp3") ∷ two (codes "ac4") (codes "ac-4")
    ∷ two (codes "eac3") (codes "ec-3") ∷ two (codes "ac3") (codes "ac-3") ∷ one (codes "dts") ∷ one (codes "other") ∷ []
places VideoExts free =
    if free then one (codes "webm") ∷ one (codes "mp4") ∷ one (codes "mov") ∷ one (codes "flv") ∷ one (codes "other") ∷ []
    else one (codes "mp4") ∷ one (codes "mov") ∷ one (codes "webm") ∷ one (codes "flv") ∷ one (codes "other") ∷ []
places AudioExts free =
    if free then one (codes "ogg") ∷ one (codes "opus") ∷ one (codes "webm") ∷ one (codes "mp3") ∷ one (codes "m4a") ∷ one (codes "aac") ∷ one (codes "other") ∷ []
    else one (codes "m4a") ∷ one (codes "aac") ∷ one (codes "mp3") ∷ one (codes "ogg") ∷ one (codes "opus") ∷ one (codes "webm") ∷ one (codes "other") ∷ []
places Ranges free =
    one (codes "dv") ∷ two (codes "hdr12") (codes "12") ∷ two (codes "hdr10+") (codes "10+") ∷ two (codes "hdr10") (codes "10")
    ∷ one (codes "hlg") ∷ one (codes "sdr") ∷ []

-- the texts of a row with the points of their places: a place is counted from the row's end, the last being 1
abbrev pub with_points : List Place → List (List ℕ × ℕ)
with_points [] = []
with_points (place ∷ rest) = map (λ name. (name, length rest + 1)) place ++ with_points rest

-- the points of the first text of a row that passes a test; where none does, those of the last place
abbrev pub first_points : (List ℕ → Bool) → List (List ℕ × ℕ) → ℕ
first_points fits [] = 1
first_points fits (p ∷ ps) = if fits p.0 then p.1 else first_points fits ps

-- whether a text, in ASCII lower case, begins with a name of the row
abbrev pub begins : List ℕ → List ℕ → Bool
begins text name = starts_with nat_eq (str_to_ascii_lowercase text) name

-- whether a text, in ASCII lower case, is a name of the row
abbrev pub is_named : List ℕ → List ℕ → Bool
is_named text name = bytes_eq (str_to_ascii_lowercase text) name

-- whether a text fits a name, as a whole or by its beginning
abbrev pub fits : Bool → List ℕ → List ℕ → Bool
fits whole text name = if whole then is_named text name else begins text name

-- a format's text fits a name of codecs by its beginning, and any other as a whole
abbrev pub is_whole : Row → Bool
is_whole Protocols = true
is_whole VideoCodecs = false
is_whole AudioCodecs = false
is_whole VideoExts = true
is_whole AudioExts = true
is_whole Ranges = true

-- the points of a format's text in a row
abbrev pub points_of : Row → Bool → List ℕ → ℕ
points_of row free text = first_points (fits (is_whole row) text) (with_points (places row free))

-- the points that a limit names: it is compared as a whole
abbrev pub limit_points : Row → Bool → List ℕ → ℕ
limit_points row free text = first_points (fits true text) (with_points (places row free))
