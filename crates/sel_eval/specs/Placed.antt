-- Formats with their places, as choices are made from them.
use Rattle.std.specs.Prelude.{ℕ, List, Bool, ◌||◌, refl, Option, slice_get}
use Rattle.std.specs.Coded.{Coded, code_by, coded×, coded_ℕ}
use Rattle.std.specs.Option.{option_map}
use Rattle.std.specs.List.{filter_map, list_any}
use Rattle.info_item.specs.Item.{Format, coded_format}
use Rattle.info_item.specs.Fields.{has_video_of, has_audio_of}

-- a format with its place among the item's formats
pub record Placed : Type 0 where
  pub place : ℕ
  pub format : Format

-- how the logic stores it: as the pair of its parts
abbrev pub coded_placed : Coded Placed
coded_placed =
    code_by (ℕ × Format) (coded× coded_ℕ coded_format) (λ p. (p.place, p.format)) (λ p. record { place = p.0; format = p.1 }) (λ _. refl)

-- it has a video stream
abbrev pub has_video : Placed → Bool
has_video p = has_video_of p.format.tree

-- it has an audio stream
abbrev pub has_audio : Placed → Bool
has_audio p = has_audio_of p.format.tree

-- it has a stream
abbrev pub has_stream : Placed → Bool
has_stream p = has_video p || has_audio p

-- some of them has video
abbrev pub any_video : List Placed → Bool
any_video ps = list_any has_video ps

-- some of them has audio
abbrev pub any_audio : List Placed → Bool
any_audio ps = list_any has_audio ps

-- the format at a place
abbrev pub placed_at : List Format → ℕ → Option Placed
placed_at formats k = option_map (λ f. record { place = k; format = f }) (slice_get formats k)

-- the formats at these places, in the order of the places
abbrev pub at_places : List Format → List ℕ → List Placed
at_places formats places = filter_map (placed_at formats) places
