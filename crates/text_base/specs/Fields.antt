-- The keys of an information file that formats are asked for, as their bytes.
use Rattle.std.specs.Prelude.{ℕ, List, codes}
use Rattle.text_base.specs.declared.fields.NumField.{NumField}
use Rattle.text_base.specs.declared.fields.NumField.TheVariants.{Filesize, FilesizeApprox, Width, Height, AspectRatio, Tbr, Abr, Vbr, Asr, Fps, AudioChannels, StretchedRatio, Preference, LanguagePreference, Quality, SourcePreference}
use Rattle.text_base.specs.declared.fields.TextField.{TextField}
use Rattle.text_base.specs.declared.fields.TextField.TheVariants.{Url, Ext, Acodec, Vcodec, Container, Protocol, Language, DynamicRange, FormatId, Format, FormatNote, Resolution}

-- the key of a field of numbers
abbrev pub num_key : NumField → List ℕ
num_key Filesize = codes "filesize"
num_key FilesizeApprox = codes "filesize_approx"
num_key Width = codes "width"
num_key Height = codes "height"
num_key AspectRatio = codes "aspect_ratio"
num_key Tbr = codes "tbr"
num_key Abr = codes "abr"
num_key Vbr = codes "vbr"
num_key Asr = codes "asr"
num_key Fps = codes "fps"
num_key AudioChannels = codes "audio_channels"
num_key StretchedRatio = codes "stretched_ratio"
num_key Preference = codes "preference"
num_key LanguagePreference = codes "language_preference"
num_key Quality = codes "quality"
num_key SourcePreference = codes "source_preference"

-- the key of a field of texts
abbrev pub text_key : TextField → List ℕ
text_key Url = codes "url"
text_key Ext = codes "ext"
text_key Acodec = codes "acodec"
text_key Vcodec = codes "vcodec"
text_key Container = codes "container"
text_key Protocol = codes "protocol"
text_key Language = codes "language"
text_key DynamicRange = codes "dynamic_range"
text_key FormatId = codes "format_id"
text_key Format = codes "format"
text_key FormatNote = codes "format_note"
text_key Resolution = codes "resolution"
