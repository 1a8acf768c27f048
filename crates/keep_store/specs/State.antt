-- What a lane knows of its piece, and what it is over a folder.
use Rattle.std.specs.Prelude.{◌≡◌, ℕ, ◌+◌, ◌-◌, ◌%◌, ◌^◌, ◌<◌, ◌≤◌, true, IsTrue, length, Some, None, string_bytes, option_map}
use Rattle.std.specs.String.{string_capacity}
use Rattle.folder_base.specs.Disk.{content}
use Rattle.folder_base.specs.Story.{World}
use Rattle.keep_store.specs.Lane.{Seen, IsLaneFolder, current_name}
use Rattle.keep_store.specs.declared.lane_state.LaneState.{LaneState}

-- a lane of this state over a folder
abbrev pub seen : World → LaneState → Seen
seen world state = record {
  world = world;
  number = state.number;
  stem = state.stem;
  size = state.size;
  promised = state.promised;
  complete = state.complete;
  fault = state.fault;
}

-- The names have room, and what is promised is there.
pub record Holds (world : World) (state : LaneState) : Type 0 where
  pub room : length state.stem + 22 ≤ string_capacity state.current
  pub next_room : length state.stem + 22 ≤ string_capacity state.next
  pub folder : IsTrue world.tells → IsLaneFolder state.stem world
  pub promised : state.promised ≤ state.size
  pub small : state.size < 2 ^ 64
  pub whole : state.complete ≡ true → state.promised ≡ state.size

-- The file of a lane without a fault stands under its current name, with as many bytes as the lane has.
pub record IsReady (world : World) (state : LaneState) : Type 0 where
  pub name : string_bytes state.current ≡ current_name (seen world state)
  pub stands : IsTrue world.tells → option_map (λ file. length (content file)) (world.story.now.live (current_name (seen world state))) ≡ Some state.size

-- Each multiple of 1,048,576 bytes is promised: so fewer than that are not.
abbrev pub IsNear : ℕ → ℕ → Type 0
IsNear size promised = size - size % 1048576 ≤ promised

-- what holds of each lane
pub record IsLane (world : World) (state : LaneState) : Type 0 where
  pub holds : Holds world state
  pub ready : state.fault ≡ None → IsReady world state
  pub near : state.fault ≡ None → IsNear state.size state.promised

-- the same lane of the same piece
pub record IsSameLane (old new : LaneState) : Type 0 where
  pub number : new.number ≡ old.number
  pub stem : new.stem ≡ old.stem
  pub complete : new.complete ≡ old.complete
  pub fault : new.fault ≡ old.fault
