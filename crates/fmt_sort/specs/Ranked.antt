-- Formats with their ranks as the program holds them.
use Rattle.std.specs.Prelude.{◌≡◌, ℕ, List, map, slice_get, Some, All}
use Rattle.std.specs.List.{range_with_len}
use Rattle.info_item.specs.Item.{Format}
use Rattle.fmt_sort.specs.Order.{ranks_of}
use Rattle.fmt_sort.specs.Spec.{Wish}
use Rattle.fmt_sort.specs.ValueParts.{plain_rank}
use Rattle.fmt_sort.specs.declared.order.Ranked.{Ranked}

-- these are the ranks of the format at this place
abbrev pub HasRanks : Wish → List Format → Ranked → Type 0
HasRanks wish formats r = (f : Format) → slice_get formats r.place ≡ Some f → map plain_rank r.ranks.items ≡ ranks_of wish f

-- the first n formats in their order, each with its ranks and its place
pub record AreRanked (wish : Wish) (formats : List Format) (n : ℕ) (ranked : List Ranked) : Type 0 where
  pub ranks : All (HasRanks wish formats) ranked
  pub places : map (λ r. r.place) ranked ≡ range_with_len 0 n
