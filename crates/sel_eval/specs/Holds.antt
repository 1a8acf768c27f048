-- Which formats meet a filter.
use Rattle.std.specs.Prelude.{ℕ, List, [], ◌∷◌, Bool, not, ◌||◌, nat_eq, Option, Some, None, if◌then◌else◌}
use Rattle.std.specs.List.{starts_with, ends_with}
use Rattle.std.specs.Ordering.{is_lt, is_le, is_gt, is_ge, is_eq, is_ne}
use Rattle.std.specs.declared.cmp.Ordering.{Ordering}
use Rattle.std.specs.Str.{bytes_eq}
use Rattle.text_base.specs.Arithmetic.{compared}
use Rattle.text_base.specs.Number.{Number}
use Rattle.text_pattern.specs.Patterns.{matches}
use Rattle.info_item.specs.Item.{Format}
use Rattle.info_item.specs.Fields.{number_of_field, text_of_field}
use Rattle.sel_lang.specs.Plain.{PlainFilter, num, text, NumFilter, TextFilter}
use Rattle.sel_lang.specs.declared.filter.NumOp.{NumOp}
use Rattle.sel_lang.specs.declared.filter.NumOp.TheVariants as nums
use Rattle.sel_lang.specs.declared.filter.TextOp.{TextOp}
use Rattle.sel_lang.specs.declared.filter.TextOp.TheVariants as texts

-- whether a number passes that compares so with the value
abbrev pub passes : NumOp → Ordering → Bool
passes nums.Lt order = is_lt order
passes nums.Le order = is_le order
passes nums.Gt order = is_gt order
passes nums.Ge order = is_ge order
passes nums.Eq order = is_eq order
passes nums.Ne order = is_ne order

-- whether a part stands somewhere in a text
abbrev pub contains : List ℕ → List ℕ → Bool
contains [] part = starts_with nat_eq [] part
contains (b ∷ bs) part = starts_with nat_eq (b ∷ bs) part || contains bs part

-- whether a text fits the value, which for `~=` is a pattern
abbrev pub fits : TextOp → List ℕ → List ℕ → Bool
fits texts.Eq value t = bytes_eq t value
fits texts.Prefix value t = starts_with nat_eq t value
fits texts.Suffix value t = ends_with nat_eq t value
fits texts.Contains value t = contains t value
fits texts.Matches value t = matches value t

-- a number that is known is compared; where it is unknown the mark `?` answers
abbrev pub number_holds : NumFilter → Option Number → Bool
number_holds f None = f.unknown
number_holds f (Some n) = passes f.op (compared n f.value)

-- the same of a text, where `!` turns the answer round
abbrev pub text_holds : TextFilter → Option (List ℕ) → Bool
text_holds f None = f.unknown
text_holds f (Some t) = if f.negated then not (fits f.op f.value t) else fits f.op f.value t

-- a format meets a filter
abbrev pub holds : PlainFilter → Format → Bool
holds (num f) format = number_holds f (number_of_field format.tree f.field)
holds (text f) format = text_holds f (text_of_field format f.field)
