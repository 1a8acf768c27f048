-- What a crew did to its lanes.
use Rattle.std.specs.Prelude.{◌≡◌, ℕ, ◌<◌, ◌≤◌, ◌⊎◌, List, length, IsTrue, Some, None, All}
use Rattle.std.specs.List.{slice_get}
use Rattle.folder_base.specs.declared.folder.Folder.{Ghosts}
use Rattle.folder_base.specs.Disk.{Bytes}
use Rattle.http_reply.specs.declared.piece_fault.PieceFault.TheVariants.{OutOfMemory}
use Rattle.keep_store.specs.Seen.{lane_seen}
use Rattle.keep_store.specs.declared.lane.Lane.{Lane}
use Rattle.link_http.specs.declared.piece.Piece.{Piece}
use Rattle.link_http.specs.Request.{Address}
use Rattle.link_http.specs.Try.{IsThere}
use Rattle.link_http.specs.Wire.{Wire}
use Rattle.claim_crew.specs.Claimed.{sum_of, sum_below, joined_all, AllLastFail}
use Rattle.piece_turn.specs.Lane.{IsAsOpened, IsSamePiece}
use Rattle.piece_turn.specs.Turn.{is_done, has_failed}
use Rattle.piece_turn.specs.declared.piece_end.PieceEnd.{PieceEnd}
use Rattle.piece_turn.specs.declared.piece_end.PieceEnd.TheVariants.{Failed}
use Rattle.frag_crew.specs.Asked.{Asked, numbers_of, AllWork, HadTurn}
use Rattle.frag_crew.specs.Slots.{end_before}

module _ {F : Type 0} {folder : Ghosts F} where
  -- Lane k is that of piece k, as it was opened.
  abbrev pub AreReady : List (Lane F folder) → Type 0
  AreReady lanes = (k : ℕ) (lane : Lane F folder) → slice_get lanes k ≡ Some lane → ((lane_seen lane).number ≡ k) × IsAsOpened (lane_seen lane)

  -- Each lane came back at its own place, as the same piece's.
  abbrev pub AreHome : List (Lane F folder) → List (Lane F folder) → Type 0
  AreHome lanes back = (k : ℕ) (old new : Lane F folder) → slice_get lanes k ≡ Some old → slice_get back k ≡ Some new → IsSamePiece (lane_seen old) (lane_seen new)

  -- A piece is done exactly where its lane is complete.
  abbrev pub AreDoneWhole : List (Lane F folder) → List PieceEnd → Type 0
  AreDoneWhole back ends = (k : ℕ) (lane : Lane F folder) (end : PieceEnd) → slice_get back k ≡ Some lane → slice_get ends k ≡ Some end → is_done end ≡ (lane_seen lane).complete

  -- From place `count` on each lane is as it was, and its piece's end is that of a piece which was not begun.
  abbrev pub AreLeft : ℕ → List (Lane F folder) → List (Lane F folder) → List PieceEnd → Type 0
  AreLeft count lanes back ends = (k : ℕ) (lane : Lane F folder) → count ≤ k → slice_get lanes k ≡ Some lane
      → (slice_get back k ≡ Some lane) × (slice_get ends k ≡ Some (end_before (lane_seen lane).complete))

  -- Lane k's folder is steady and tells, and its piece is there for each of these dialers, which tell.
  pub record IsInReach {D : Type 0} (wire : D → Wire) (piece : Piece) (lane : Lane F folder) (ds : List D) : Type 0 where
    pub steady : IsTrue (lane_seen lane).world.steady
    pub tells : IsTrue (lane_seen lane).world.tells
    pub there : (w : ℕ) (d : D) → slice_get ds w ≡ Some d → IsTrue (wire d).tells × (to : Address) × (bytes : Bytes) × IsThere (wire d) piece.url to (lane_seen lane).promised None bytes

-- Each piece below `count` is done or failed; and where there are others, one below failed.
pub record AreBegunBelow (count : ℕ) (ends : List PieceEnd) : Type 0 where
  pub within : count ≤ length ends
  pub begun : (k : ℕ) (end : PieceEnd) → k < count → slice_get ends k ≡ Some end → IsTrue (is_done end) ⊎ IsTrue (has_failed end)
  pub all : (count ≡ length ends) ⊎ ((k : ℕ) × (end : PieceEnd) × (k < count) × (slice_get ends k ≡ Some end) × IsTrue (has_failed end))

-- What a crew did. The pieces below `count` were begun, each by one worker, once: `once`, for every f, says that the numbers of the
-- workers' turns differ and are those below `count`. Who had a piece fail begins no other. A piece that is in reach is done, or memory was refused.
pub record Fetched {F D : Type 0} {folder : Ghosts F} (wire : D → Wire) (pieces : List Piece) (retries : ℕ) (lanes back : List (Lane F folder)) (ends : List PieceEnd) (ds es : List D) : Type 0 where
  pub count : ℕ
  pub many : (length back ≡ length lanes) × (length ends ≡ length lanes)
  pub begun : AreBegunBelow count ends
  pub left : AreLeft count lanes back ends
  pub home : AreHome lanes back
  pub done : AreDoneWhole back ends
  pub asked : List (List Asked)
  pub once : (f : ℕ → ℕ) → sum_of f (joined_all (numbers_of asked)) ≡ sum_below f count
  pub last : AllLastFail has_failed ends (numbers_of asked)
  pub works : AllWork wire asked ds es
  pub turns : All (HadTurn wire pieces retries lanes back ends ds es) (joined_all asked)
  pub turn : (k : ℕ) → k < count → (i : ℕ) × (a : Asked) × (slice_get (joined_all asked) i ≡ Some a) × (a.number ≡ k) × HadTurn wire pieces retries lanes back ends ds es a
  pub whole : (k : ℕ) (piece : Piece) (lane : Lane F folder) (end : PieceEnd) → k < count → slice_get pieces k ≡ Some piece → slice_get lanes k ≡ Some lane → slice_get ends k ≡ Some end
      → IsInReach wire piece lane ds → IsTrue (is_done end) ⊎ (end ≡ Failed 1 OutOfMemory)
