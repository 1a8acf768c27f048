-- A sort specification: whether free formats are preferred, and the fields in their order.
use Rattle.std.specs.Prelude.{ℕ, List, map, Bool, Option, if◌then◌else◌}
use Rattle.std.specs.Option.{option_map}
use Rattle.text_base.specs.Number.{Number, number_of}
use Rattle.fmt_sort.specs.declared.given.GivenField.{GivenField}
use Rattle.fmt_sort.specs.declared.given.GivenLimit.{GivenLimit}
use Rattle.fmt_sort.specs.declared.given.GivenLimit.TheVariants.{Number as GivenNumber, Points as GivenPoints}
use Rattle.fmt_sort.specs.declared.limit.Limit.{Limit}
use Rattle.fmt_sort.specs.declared.limit.Limit.TheVariants.{Number as NumberLimit, Points as PointsLimit}
use Rattle.fmt_sort.specs.declared.sort_field.SortField.{SortField}
use Rattle.fmt_sort.specs.declared.sort_key.SortKey.{SortKey}
use Rattle.fmt_sort.specs.declared.sort_spec.SortSpec.{SortSpec}

-- a limit: a number, or the points of a text in the field's row
pub data Bound : Type 0 where
  at_number : Number → Bound
  at_points : ℕ → Bound

-- a field of the order: its name, whether `+` stands, whether `~` stands, and its limit
pub record Wanted : Type 0 where
  pub key : SortKey
  pub reversed : Bool
  pub nearest : Bool
  pub limit : Option Bound

-- a sort specification
pub record Wish : Type 0 where
  pub free : Bool
  pub fields : List Wanted

-- a limit as a piece gives it: a number, or the points of a text, as usual and where free formats are preferred
pub data GivenBound : Type 0 where
  number_given : Number → GivenBound
  points_given : ℕ → ℕ → GivenBound

-- a field as a piece gives it, before it is known whether free formats are preferred
pub record Given : Type 0 where
  pub key : SortKey
  pub reversed : Bool
  pub nearest : Bool
  pub limit : Option GivenBound

-- the limit that this is where free formats are preferred, or where they are not
abbrev pub bound_when : Bool → GivenBound → Bound
bound_when free (number_given n) = at_number n
bound_when free (points_given usual preferred) = at_points (if free then preferred else usual)

-- the field that this is where free formats are preferred, or where they are not
abbrev pub wanted_when : Bool → Given → Wanted
wanted_when free g = record { key = g.key; reversed = g.reversed; nearest = g.nearest; limit = option_map (bound_when free) g.limit }

-- the limit that a value of the program stands for
abbrev pub bound_of : Limit → Bound
bound_of (NumberLimit n) = at_number (number_of n)
bound_of (PointsLimit p) = at_points p

-- the field that a value of the program stands for
abbrev pub wanted_of : SortField → Wanted
wanted_of f = record { key = f.key; reversed = f.is_reversed; nearest = f.is_nearest; limit = option_map bound_of f.limit }

-- the sort specification that a value of the program stands for
abbrev pub wish_of : SortSpec → Wish
wish_of s = record { free = s.free; fields = map wanted_of s.fields.items }

-- the limit that a value of the program gives
abbrev pub given_bound_of : GivenLimit → GivenBound
given_bound_of (GivenNumber n) = number_given (number_of n)
given_bound_of (GivenPoints usual preferred) = points_given usual preferred

-- the field that a value of the program gives
abbrev pub given_of : GivenField → Given
given_of f = record { key = f.key; reversed = f.is_reversed; nearest = f.is_nearest; limit = option_map given_bound_of f.limit }
