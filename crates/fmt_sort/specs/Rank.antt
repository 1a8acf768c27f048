-- The rank of a value under a field: a triple that is compared from the left.
use Rattle.std.specs.Prelude.{ℕ, ℤ, pos, negsuc, ◌-ℤ◌, int_lt, unsigned_abs, List, Bool, true, false, if◌then◌else◌, Option, Some, None}
use Rattle.std.specs.Option.{option_map}
use Rattle.std.specs.declared.cmp.Ordering.{Ordering}
use Rattle.std.specs.declared.cmp.Ordering.TheVariants.{Less, Greater}
use Rattle.std.specs.Ordering.{ordering_then, int_cmp, nat_cmp}
use Rattle.std.specs.Cmp.Lexicographic.{slice_cmp}
use Rattle.text_base.specs.Arithmetic.{nano_of}
use Rattle.fmt_sort.specs.Spec.{Bound, at_number, at_points, Wanted}
use Rattle.fmt_sort.specs.Values.{Value, unknown, amount, named, units}

-- the middle of a rank: a number or a text
pub data Middle : Type 0 where
  number : ℤ → Middle
  text : List ℕ → Middle

-- a rank
pub record Rank : Type 0 where
  pub group : ℤ
  pub middle : Middle
  pub last : ℤ

-- the rank of these numbers
abbrev pub triple : ℤ → ℤ → ℤ → Rank
triple group n last = record { group = group; middle = number n; last = last }

-- a number turned round
abbrev pub minus : ℤ → ℤ
minus n = pos 0 -ℤ n

-- a limit's count of thousand-millionths
abbrev pub limit_amount : Bound → ℤ
limit_amount (at_number n) = nano_of n
limit_amount (at_points p) = units (pos p)

-- the rank of a number: without a limit, nearest to the limit, or up to the limit first, and with `+` the other way round
abbrev pub amount_rank : Bool → Bool → Option ℤ → ℤ → Rank
amount_rank reversed nearest None v = triple (pos 0) (if reversed then minus v else v) (pos 0)
amount_rank reversed true (Some l) v =
    triple (pos 0) (minus (pos (unsigned_abs (v -ℤ l)))) (if reversed then v -ℤ l else l -ℤ v)
amount_rank false false (Some l) v = if int_lt l v then triple (pos 0) (minus v) (pos 0) else triple (pos 0) v (pos 0)
amount_rank true false (Some l) v = if int_lt v l then triple (negsuc 0) v (pos 0) else triple (pos 0) (minus v) (pos 0)

-- the rank of a value: what is unknown comes last, and a text is compared as it is
abbrev pub rank_of : Wanted → Value → Rank
rank_of w unknown = triple (negsuc 9) (pos 0) (pos 0)
rank_of w (named t) = record { group = pos 1; middle = text t; last = pos 0 }
rank_of w (amount v) = amount_rank w.reversed w.nearest (option_map limit_amount w.limit) v

-- how ranks compare: from the left, texts by bytes
abbrev pub middle_cmp : Middle → Middle → Ordering
middle_cmp (number a) (number b) = int_cmp a b
middle_cmp (number a) (text t) = Less
middle_cmp (text s) (number b) = Greater
middle_cmp (text s) (text t) = slice_cmp nat_cmp s t

-- how two ranks compare
abbrev pub rank_cmp : Rank → Rank → Ordering
rank_cmp a b = ordering_then (int_cmp a.group b.group) (ordering_then (middle_cmp a.middle b.middle) (int_cmp a.last b.last))
