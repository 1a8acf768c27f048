-- The bytes of a text, wherever they are kept.
use Rattle.std.specs.Prelude.{ℕ, List}
use Rattle.std.specs.String.{string_bytes}
use Rattle.text_base.specs.declared.kept.Kept.{Kept}
use Rattle.text_base.specs.declared.kept.Kept.TheVariants as kept

-- those that stand in place, or those of the string
abbrev pub kept_bytes : Kept → List ℕ
kept_bytes (kept.Short s) = s.bytes
kept_bytes (kept.Long s) = string_bytes s
