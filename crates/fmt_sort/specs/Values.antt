-- What a format says in a field that it is sorted by.
use Rattle.std.specs.Prelude.{ℕ, List, codes, ℤ, pos, negsuc, Bool, if◌then◌else◌, Option, Some, None}
use Rattle.std.specs.Option.{option_map, option_or, unwrap_or}
use Rattle.std.specs.Int.{int_min}
use Rattle.std.specs.Ordering.{int_eq}
use Rattle.text_base.specs.Number.{whole}
use Rattle.text_base.specs.Arithmetic.{nano_of}
use Rattle.text_base.specs.declared.fields.NumField.{NumField}
use Rattle.text_base.specs.declared.fields.NumField.TheVariants as num
use Rattle.text_base.specs.declared.fields.TextField.TheVariants as text
use Rattle.info_item.specs.Item.{Format}
use Rattle.info_item.specs.Fields.{has_video_of, has_audio_of, number_of_field, text_of_field, ext_of}
use Rattle.fmt_sort.specs.Rows.{points_of, is_named}
use Rattle.fmt_sort.specs.declared.kind.Kind.{Kind}
use Rattle.fmt_sort.specs.declared.kind.Kind.TheVariants.{VideoStream, AudioStream, Preferred, Measured, FileSize, Frame, Rate, Listed, FormatId}
use Rattle.fmt_sort.specs.declared.row.Row.{Row}
use Rattle.fmt_sort.specs.declared.row.Row.TheVariants.{Protocols, VideoCodecs, AudioCodecs, VideoExts, AudioExts, Ranges}

-- a value: unknown, a number by its count of thousand-millionths, or a text
pub data Value : Type 0 where
  unknown : Value
  amount : ℤ → Value
  named : List ℕ → Value

-- a number's count of thousand-millionths, where the number is known
abbrev pub amount_of : Format → NumField → Option ℤ
amount_of f field = option_map nano_of (number_of_field f.tree field)

-- a whole number's count
abbrev pub units : ℤ → ℤ
units n = nano_of (whole n)

-- a number that may be unknown
abbrev pub known : Option ℤ → Value
known None = unknown
known (Some n) = amount n

-- 1 with a stream, else 0
abbrev pub flag : Bool → Value
flag there = amount (units (pos (if there then 1 else 0)))

-- a side of the frame, where it is known and not 0
abbrev pub side : Option ℤ → Option ℤ
side None = None
side (Some n) = if int_eq n (pos 0) then None else Some n

-- the smaller of two sides, or the one that there is
abbrev pub smaller : Option ℤ → Option ℤ → Option ℤ
smaller None b = b
smaller (Some a) None = Some a
smaller (Some a) (Some b) = Some (int_min a b)

-- a codec's text, which is unknown where it is `none`
abbrev pub codec : Option (List ℕ) → Option (List ℕ)
codec None = None
codec (Some name) = if is_named name (codes "none") then None else Some name

-- the text of a format that stands in a row; the extension of a format with video is no audio's, nor the other way round
abbrev pub text_in : Format → Row → Option (List ℕ)
text_in f Protocols = text_of_field f text.Protocol
text_in f VideoCodecs = codec (text_of_field f text.Vcodec)
text_in f AudioCodecs = codec (text_of_field f text.Acodec)
text_in f VideoExts = if has_video_of f.tree then Some (ext_of f.tree) else None
text_in f AudioExts = if has_video_of f.tree then None else Some (ext_of f.tree)
text_in f Ranges = text_of_field f text.DynamicRange

-- the points of a text that may be unknown
abbrev pub points : Row → Bool → Option (List ℕ) → Value
points row free None = unknown
points row free (Some name) = amount (units (pos (points_of row free name)))

-- the value of a format by a field's kind
abbrev pub value_of : Bool → Format → Kind → Value
value_of free f VideoStream = flag (has_video_of f.tree)
value_of free f AudioStream = flag (has_audio_of f.tree)
value_of free f (Preferred field) = amount (unwrap_or (amount_of f field) (units (negsuc 0)))
value_of free f (Measured field) = known (amount_of f field)
value_of free f FileSize = known (option_or (amount_of f num.Filesize) (amount_of f num.FilesizeApprox))
value_of free f Frame = known (smaller (side (amount_of f num.Height)) (side (amount_of f num.Width)))
value_of free f Rate = known (option_or (amount_of f num.Tbr) (option_or (amount_of f num.Vbr) (amount_of f num.Abr)))
value_of free f (Listed row) = points row free (text_in f row)
value_of free f FormatId = named f.id
