-- How much of a text is built at most, where a conversion keeps no more.
use Rattle.std.specs.Prelude.{ℕ, ◌-◌, List, length, min, Option, Some, None}
use Rattle.std.specs.Str.{chars}
use Rattle.name_text.specs.Cut.{byte_cut}
use Rattle.tpl_lang.specs.declared.conv.Conv.{Conv}
use Rattle.tpl_lang.specs.declared.conv.Kind.{Kind}
use Rattle.tpl_lang.specs.declared.conv.Kind.TheVariants.{Integer, Octal, LowerHex, UpperHex, Decimal, Text, Bytes, Json, Html, List as Listed, Quoted, Suffixed, Sanitized, Unicode}
use Rattle.field_text.specs.Frame.{first_chars}
use Rattle.tpl_eval.specs.declared.limit.Limit.{Limit}
use Rattle.tpl_eval.specs.declared.limit.Limit.TheVariants as limit

-- the front of a text that a limit lets stand
abbrev pub limited : Limit → List ℕ → List ℕ
limited limit.Whole t = t
limited (limit.Chars n) t = first_chars n t
limited (limit.Bytes n) t = byte_cut n t

-- a limit less so many characters and bytes
abbrev pub less : Limit → ℕ → ℕ → Limit
less limit.Whole chars bytes = limit.Whole
less (limit.Chars n) chars bytes = limit.Chars (n - chars)
less (limit.Bytes n) chars bytes = limit.Bytes (n - bytes)

-- the limit for what stands behind a text
abbrev pub behind : Limit → List ℕ → Limit
behind l t = less l (length (chars t)) (length t)

-- how many of so many spaces a limit lets stand
abbrev pub spaces_of : Limit → ℕ → ℕ
spaces_of limit.Whole n = n
spaces_of (limit.Chars m) n = min n m
spaces_of (limit.Bytes m) n = min n m

-- how much of a text a kind of conversion keeps at most, where its precision is so much: two keep a front as it is, the others are given the whole
abbrev pub limit_by : Kind → ℕ → Limit
limit_by Integer n = limit.Whole
limit_by Octal n = limit.Whole
limit_by LowerHex n = limit.Whole
limit_by UpperHex n = limit.Whole
limit_by Decimal n = limit.Whole
limit_by Text n = limit.Chars n
limit_by Bytes n = limit.Bytes n
limit_by Json n = limit.Whole
limit_by Html n = limit.Whole
limit_by Listed n = limit.Whole
limit_by Quoted n = limit.Whole
limit_by Suffixed n = limit.Whole
limit_by Sanitized n = limit.Whole
limit_by Unicode n = limit.Whole

-- the same, where a precision is written
abbrev pub limit_in : Kind → Option ℕ → Limit
limit_in kind None = limit.Whole
limit_in kind (Some n) = limit_by kind n

-- how much of a text a conversion keeps at most
abbrev pub limit_of : Conv → Limit
limit_of c = limit_in c.kind c.precision
