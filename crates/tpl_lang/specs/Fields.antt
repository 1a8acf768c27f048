-- What contracts see of a field.
use Rattle.std.specs.Prelude.{ℕ, List, Option, Bool}
use Rattle.tpl_lang.specs.Exprs.{ExprView}
use Rattle.tpl_lang.specs.declared.conv.Conv.{Conv}
use Rattle.tpl_lang.specs.declared.replacement.ReplacementPart.{ReplacementPart}

-- expressions, the replacement of the value, the default, the conversion, and whether the field is a word, `)` and `s` and nothing else
pub record FieldView : Type 0 where
  pub exprs : List ExprView
  pub replacement : Option (List ReplacementPart)
  pub default : Option (List ℕ)
  pub conv : Conv
  pub is_bare : Bool
