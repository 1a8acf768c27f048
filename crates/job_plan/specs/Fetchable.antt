-- What is known of the formats of an item.
use Rattle.std.specs.Prelude.{◌≡◌, ℕ, List, Bool, length, slice_get, Some}
use Rattle.info_item.specs.Item.{Format}
use Rattle.job_pieces.specs.Pieces.{can_fetch}
use Rattle.job_plan.specs.declared.fetchable.Fetchable.{Fetchable}

-- each answer about one of the formats is right
pub record Told (formats : List Format) (f : Fetchable) : Type 0 where
  pub formats_are : f.formats.now ≡ formats
  pub count : length f.answers.items ≡ length formats
  pub right : (place : ℕ) (can : Bool) → slice_get f.answers.items place ≡ Some (Some can) → can ≡ can_fetch formats place
