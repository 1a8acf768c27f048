-- The order of formats by a sort specification.
use Rattle.std.specs.Prelude.{◌≡◌, ℕ, ◌+◌, ◌<◌, List, map, length, slice_get, slice_index, Some, Bool}
use Rattle.std.specs.List.{range_with_len}
use Rattle.std.specs.List.Sorted.{IsPermutation}
use Rattle.std.specs.declared.cmp.Ordering.{Ordering}
use Rattle.std.specs.declared.cmp.Ordering.TheVariants.{Greater}
use Rattle.std.specs.Ordering.{ordering_then, nat_cmp}
use Rattle.std.specs.Cmp.Lexicographic.{slice_cmp}
use Rattle.info_item.specs.Item.{Format}
use Rattle.fmt_sort.specs.Keys.{kind_of}
use Rattle.fmt_sort.specs.Rank as rank
use Rattle.fmt_sort.specs.Spec.{Wanted, Wish}
use Rattle.fmt_sort.specs.Values.{value_of}

-- the rank of a format in one field
abbrev pub rank_in : Bool → Format → Wanted → rank.Rank
rank_in free f w = rank.rank_of w (value_of free f (kind_of w.key))

-- the rank of a format: that in each field
abbrev pub ranks_of : Wish → Format → List rank.Rank
ranks_of wish f = map (rank_in wish.free f) wish.fields

-- how two formats compare: by the first field in which their ranks differ; Greater says that the first is better
abbrev pub compared : Wish → Format → Format → Ordering
compared wish f g = slice_cmp rank.rank_cmp (ranks_of wish f) (ranks_of wish g)

-- The format f at place i is better than g at place j: it compares greater, or they compare equal and i is the later place.
abbrev pub Better : Wish → Format → ℕ → Format → ℕ → Type 0
Better wish f i g j = ordering_then (compared wish f g) (nat_cmp i j) ≡ Greater

-- Places list each format once, from best to worst: each is better than the next.
pub record IsBestFirst (wish : Wish) (formats : List Format) (places : List ℕ) : Type 0 where
  pub each_once : IsPermutation (range_with_len 0 (length formats)) places
  pub better : (k : ℕ) (f g : Format) → k + 1 < length places →
      slice_get formats (slice_index places k) ≡ Some f → slice_get formats (slice_index places (k + 1)) ≡ Some g →
      Better wish f (slice_index places k) g (slice_index places (k + 1))
