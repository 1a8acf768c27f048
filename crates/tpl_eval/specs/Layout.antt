-- How flags, width and precision lay out the text of a value.
use Rattle.std.specs.Prelude.{ℕ, List, not, ◌&&◌, if◌then◌else◌, codes, None}
use Rattle.std.specs.Option.{unwrap_or}
use Rattle.unicode_normalization.specs.Forms.{Form, Nfc, Nfd, Nfkc, Nfkd}
use Rattle.info_tree.specs.declared.style.Style.{Style}
use Rattle.tpl_lang.specs.declared.conv.Conv.{Conv}
use Rattle.tpl_lang.specs.declared.conv.Flags.{Flags}
use Rattle.field_text.specs.declared.frame.Frame.{Frame}
use Rattle.field_text.specs.declared.numbers.DecimalForm.{DecimalForm}
use Rattle.field_text.specs.declared.numbers.IntegerForm.{IntegerForm}
use Rattle.field_text.specs.declared.radix.Radix.{Radix}
use Rattle.field_text.specs.declared.sign.Sign.{Sign}
use Rattle.field_text.specs.declared.sign.Sign.TheVariants.{Minus, Plus, Space}

-- the width, 0 where none is written
abbrev pub width_of : Conv → ℕ
width_of c = unwrap_or c.width 0

-- the precision, or else so much
abbrev pub precision_or : Conv → ℕ → ℕ
precision_or c default = unwrap_or c.precision default

-- what stands before a number that is not negative: a plus wins over a space
abbrev pub sign_of : Flags → Sign
sign_of f = if f.plus then Plus else if f.space then Space else Minus

-- the width up to which zeros fill a number: none where the number stands on the left
abbrev pub zeros_to : Conv → ℕ
zeros_to c = if c.flags.zero && not c.flags.left then width_of c else 0

-- a whole number in a radix: the precision is the least count of digits
abbrev pub integer_form : Radix → Conv → IntegerForm
integer_form r c = record { radix = r; sign = sign_of c.flags; prefixed = c.flags.alternate; least = precision_or c 0; width = zeros_to c }

-- a number with decimals, six where nothing else is written
abbrev pub decimal_form : Conv → DecimalForm
decimal_form c = record { sign = sign_of c.flags; places = precision_or c 6; width = zeros_to c }

-- the room of a text
abbrev pub text_frame : Conv → Frame
text_frame c = record { left = c.flags.left; width = width_of c; precision = c.precision }

-- the room of a number, which is not cut
abbrev pub number_frame : Conv → Frame
number_frame c = record { left = c.flags.left; width = width_of c; precision = None }

-- JSON on one line, or indented; in ASCII, unless a plus is written
abbrev pub style_of : Flags → Style
style_of f = record { pretty = f.alternate; ascii = not f.plus }

-- the normal form of Unicode: a plus asks for a compatibility form, a number sign for a decomposed one
abbrev pub form_of : Flags → Form
form_of f = if f.plus then (if f.alternate then Nfkd else Nfkc) else (if f.alternate then Nfd else Nfc)

-- what the units of a number in short are powers of
abbrev pub factor_of : Flags → ℕ
factor_of f = if f.alternate then 1024 else 1000

-- what stands between the values of a list
abbrev pub between : Flags → List ℕ
between f = if f.alternate then codes "\n" else codes ", "
