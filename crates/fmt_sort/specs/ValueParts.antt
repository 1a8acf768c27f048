-- Values, limits and ranks as the program holds them.
use Rattle.std.specs.Prelude.{◌<◌, ◌^◌, unsigned_abs}
use Rattle.fmt_sort.specs.Rank as rank
use Rattle.fmt_sort.specs.Values as plain
use Rattle.fmt_sort.specs.declared.rank.Middle.{Middle}
use Rattle.fmt_sort.specs.declared.rank.Middle.TheVariants as middle
use Rattle.fmt_sort.specs.declared.rank.Rank.{Rank}
use Rattle.fmt_sort.specs.declared.value.Value.{Value}
use Rattle.fmt_sort.specs.declared.value.Value.TheVariants.{Unknown, Amount, Text}

-- the value that it is
abbrev pub plain_value : Value → plain.Value
plain_value Unknown = plain.unknown
plain_value (Amount n) = plain.amount n
plain_value (Text t) = plain.named t.now

-- a number in it is below 10^28 thousand-millionths
abbrev pub IsSmall : Value → Type 0
IsSmall Unknown = Unit {0}
IsSmall (Amount n) = unsigned_abs n < 10 ^ 28
IsSmall (Text t) = Unit {0}

-- the rank that it is
abbrev pub plain_middle : Middle → rank.Middle
plain_middle (middle.Number n) = rank.number n
plain_middle (middle.Text t) = rank.text t.now

-- a rank with the middle that it is
abbrev pub plain_rank : Rank → rank.Rank
plain_rank r = record { group = r.group; middle = plain_middle r.middle; last = r.last }
