-- The text of a value by a conversion, before it is cleaned.
use Rattle.std.specs.Prelude.{ℕ, List, if◌then◌else◌, codes, encode_utf8_all, Option, Some}
use Rattle.std.specs.Option.{option_map}
use Rattle.std.specs.Str.{chars}
use Rattle.unicode_normalization.specs.Forms.{normalize}
use Rattle.info_tree.specs.Printed.{printed, first_line}
use Rattle.info_tree.specs.Tree.{Tree}
use Rattle.name_text.specs.Clean.{cleaned}
use Rattle.name_text.specs.Quote.{quoted, escaped}
use Rattle.name_text.specs.Suffix.{with_suffix}
use Rattle.tpl_lang.specs.declared.conv.Conv.{Conv}
use Rattle.tpl_lang.specs.declared.conv.Flags.{Flags}
use Rattle.tpl_lang.specs.declared.conv.Kind.{Kind}
use Rattle.tpl_lang.specs.declared.conv.Kind.TheVariants.{Integer, Octal, LowerHex, UpperHex, Decimal, Text, Bytes, Json, Html, List as Listed, Quoted, Suffixed, Sanitized, Unicode}
use Rattle.field_text.specs.Frame.{framed, framed_bytes}
use Rattle.field_text.specs.Numbers.{integer_text, decimal_text}
use Rattle.field_text.specs.Plain.{plain_text, number_in, listed}
use Rattle.field_text.specs.declared.listed.Item.TheVariants.{Plain as PlainItem, Quoted as QuotedItem}
use Rattle.field_text.specs.declared.radix.Radix.{Radix}
use Rattle.field_text.specs.declared.radix.Radix.TheVariants as radix
use Rattle.tpl_eval.specs.Layout.{integer_form, decimal_form, text_frame, number_frame, style_of, form_of, factor_of, between}

-- a whole number in a radix; none of a value that is no number
abbrev pub integer : Radix → Conv → Tree → Option (List ℕ)
integer r c value = option_map (λ n. framed (number_frame c) (integer_text (integer_form r c) n)) (number_in value)

-- a number with decimals; none of a value that is no number
abbrev pub decimal : Conv → Tree → Option (List ℕ)
decimal c value = option_map (λ n. framed (number_frame c) (decimal_text (decimal_form c) n)) (number_in value)

-- a number in short; none of a value that is no number
abbrev pub suffixed : Conv → Tree → Option (List ℕ)
suffixed c value = option_map (λ n. framed (text_frame c) (with_suffix n (factor_of c.flags))) (number_in value)

-- one word of a shell, or a word for each value of a list
abbrev pub words : Flags → Tree → List ℕ
words f value = if f.alternate then listed QuotedItem (codes " ") value else quoted (plain_text value)

-- the plain text in a normal form of Unicode
abbrev pub normal : Flags → Tree → List ℕ
normal f value = encode_utf8_all (normalize (form_of f) (chars (plain_text value)))

-- the text of a value by a kind of conversion; none where it is refused
abbrev pub converted_as : Kind → Conv → Tree → Option (List ℕ)
converted_as Integer c value = integer radix.Decimal c value
converted_as Octal c value = integer radix.Octal c value
converted_as LowerHex c value = integer radix.LowerHex c value
converted_as UpperHex c value = integer radix.UpperHex c value
converted_as Decimal c value = decimal c value
converted_as Text c value = Some (framed (text_frame c) (plain_text value))
converted_as Bytes c value = Some (framed_bytes (text_frame c) (plain_text value))
converted_as Json c value = Some (framed (text_frame c) (printed (style_of c.flags) (first_line c.flags.alternate) value))
converted_as Html c value = Some (framed (text_frame c) (escaped (plain_text value)))
converted_as Listed c value = Some (framed (text_frame c) (listed PlainItem (between c.flags) value))
converted_as Quoted c value = Some (framed (text_frame c) (words c.flags value))
converted_as Suffixed c value = suffixed c value
converted_as Sanitized c value = Some (framed (text_frame c) (cleaned c.flags.alternate (plain_text value)))
converted_as Unicode c value = Some (framed (text_frame c) (normal c.flags value))

-- the text of a value by a conversion; none where it is refused
abbrev pub converted : Conv → Tree → Option (List ℕ)
converted c value = converted_as c.kind c value
