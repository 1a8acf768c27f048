-- The fields that formats are sorted by: their names, and where the value of each comes from.
use Rattle.std.specs.Prelude.{ℕ, List, [], ◌∷◌, codes, find, Option}
use Rattle.std.specs.Str.{bytes_eq}
use Rattle.text_base.specs.declared.fields.NumField.TheVariants as num
use Rattle.fmt_sort.specs.declared.sort_key.SortKey.{SortKey}
use Rattle.fmt_sort.specs.declared.sort_key.SortKey.TheVariants.{HasVideo, HasAudio, Preference, Language, Quality, Source, Protocol, VideoCodec, AudioCodec, VideoExt, AudioExt, DynamicRange, Filesize, FilesizeApprox, Size, Height, Width, Resolution, Fps, Tbr, Vbr, Abr, Asr, Channels, Bitrate, Id}
use Rattle.fmt_sort.specs.declared.kind.Kind.{Kind}
use Rattle.fmt_sort.specs.declared.kind.Kind.TheVariants.{VideoStream, AudioStream, Preferred, Measured, FileSize, Frame, Rate, Listed, FormatId}
use Rattle.fmt_sort.specs.declared.row.Row.TheVariants.{Protocols, VideoCodecs, AudioCodecs, VideoExts, AudioExts, Ranges}

-- the name of a field
abbrev pub name_of : SortKey → List ℕ
name_of HasVideo = codes "hasvid"
name_of HasAudio = codes "hasaud"
name_of Preference = codes "ie_pref"
name_of Language = codes "lang"
name_of Quality = codes "quality"
name_of Source = codes "source"
name_of Protocol = codes "proto"
name_of VideoCodec = codes "vcodec"
name_of AudioCodec = codes "acodec"
name_of VideoExt = codes "vext"
name_of AudioExt = codes "aext"
name_of DynamicRange = codes "hdr"
name_of Filesize = codes "filesize"
name_of FilesizeApprox = codes "fs_approx"
name_of Size = codes "size"
name_of Height = codes "height"
name_of Width = codes "width"
name_of Resolution = codes "res"
name_of Fps = codes "fps"
name_of Tbr = codes "tbr"
name_of Vbr = codes "vbr"
name_of Abr = codes "abr"
name_of Asr = codes "asr"
name_of Channels = codes "channels"
name_of Bitrate = codes "br"
name_of Id = codes "id"

-- what kind of value a field has, and of which keys
abbrev pub kind_of : SortKey → Kind
kind_of HasVideo = VideoStream
kind_of HasAudio = AudioStream
kind_of Preference = Preferred num.Preference
kind_of Language = Preferred num.LanguagePreference
kind_of Quality = Preferred num.Quality
kind_of Source = Preferred num.SourcePreference
kind_of Protocol = Listed Protocols
kind_of VideoCodec = Listed VideoCodecs
kind_of AudioCodec = Listed AudioCodecs
kind_of VideoExt = Listed VideoExts
kind_of AudioExt = Listed AudioExts
kind_of DynamicRange = Listed Ranges
kind_of Filesize = Measured num.Filesize
kind_of FilesizeApprox = Measured num.FilesizeApprox
kind_of Size = FileSize
kind_of Height = Measured num.Height
kind_of Width = Measured num.Width
kind_of Resolution = Frame
kind_of Fps = Measured num.Fps
kind_of Tbr = Measured num.Tbr
kind_of Vbr = Measured num.Vbr
kind_of Abr = Measured num.Abr
kind_of Asr = Measured num.Asr
kind_of Channels = Measured num.AudioChannels
kind_of Bitrate = Rate
kind_of Id = FormatId

-- all fields
abbrev pub all_keys : List SortKey
all_keys =
    HasVideo ∷ HasAudio ∷ Preference ∷ Language ∷ Quality ∷ Source ∷ Protocol ∷ VideoCodec ∷ AudioCodec ∷ VideoExt ∷ AudioExt ∷ DynamicRange
    ∷ Filesize ∷ FilesizeApprox ∷ Size ∷ Height ∷ Width ∷ Resolution ∷ Fps ∷ Tbr ∷ Vbr ∷ Abr ∷ Asr ∷ Channels ∷ Bitrate ∷ Id ∷ []

-- the field of this name
abbrev pub key_named : List ℕ → Option SortKey
key_named name = find (λ k. bytes_eq (name_of k) name) all_keys
