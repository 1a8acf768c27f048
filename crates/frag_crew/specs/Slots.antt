-- A lane with its piece's end, and what a worker does to it.
use Rattle.std.specs.Prelude.{◌≡◌, ℕ, ◌<◌, ◌≤◌, List, length, Bool, true, false, Some}
use Rattle.std.specs.List.{slice_get}
use Rattle.folder_base.specs.declared.folder.Folder.{Ghosts}
use Rattle.keep_store.specs.Seen.{lane_seen}
use Rattle.keep_store.specs.declared.lane.Lane.{Lane}
use Rattle.link_http.specs.declared.piece.Piece.{Piece}
use Rattle.link_http.specs.Wire.{Wire}
use Rattle.piece_turn.specs.Lane.{IsAsOpened}
use Rattle.piece_turn.specs.Turn.{has_failed, TakesTurn}
use Rattle.piece_turn.specs.declared.piece_end.PieceEnd.{PieceEnd}
use Rattle.piece_turn.specs.declared.piece_end.PieceEnd.TheVariants.{Done, NotBegun}
use Rattle.frag_crew.specs.declared.slot.Slot.{Slot}

-- how a piece stands that no worker has begun: a complete one is done with no try
abbrev pub end_before : Bool → PieceEnd
end_before true = Done 0
end_before false = NotBegun

module _ {F : Type 0} {folder : Ghosts F} where
  -- a lane before the crew
  abbrev pub slot_before : Lane F folder → Slot F folder
  slot_before lane = record { lane = lane; end = end_before (lane_seen lane).complete }

  -- whether the slot's piece failed
  abbrev pub slot_failed : Slot F folder → Bool
  slot_failed slot = has_failed slot.end

  -- what a worker asks of a slot: there is a piece of its number, and the lane is as it was opened
  abbrev pub MayFetch : List Piece → ℕ → ℕ → Slot F folder → Type 0
  MayFetch pieces retries k slot = (k < length pieces) × (retries ≤ 1000) × IsAsOpened (lane_seen slot.lane)

  -- what a worker does to a slot: the turn of the piece of its number, over the worker's dialer
  abbrev pub FetchesPiece : {D : Type 0} → (D → Wire) → List Piece → ℕ → ℕ → Slot F folder → D → Slot F folder → D → Type 0
  FetchesPiece wire pieces retries k old dialer new dialer' =
      (piece : Piece) × (slice_get pieces k ≡ Some piece) × TakesTurn piece retries (lane_seen old.lane) (lane_seen new.lane) new.end (wire dialer) (wire dialer')
