-- What was asked for a component's pieces.
use Rattle.std.specs.Prelude.{◌≡◌, ◌⊎◌, ℕ, ◌<◌, Bool, false, IsTrue, List, Option, Some, None, All}
use Rattle.std.specs.List.{slice_get}
use Rattle.folder_base.specs.Disk.{Bytes}
use Rattle.http_reply.specs.declared.piece_fault.PieceFault.{PieceFault}
use Rattle.http_reply.specs.declared.piece_fault.PieceFault.TheVariants.{CutShort, OutOfMemory}
use Rattle.link_http.specs.Request.{Address, address}
use Rattle.link_http.specs.Try.{OfAddress, IsThere}
use Rattle.link_http.specs.Wire.{Wire}
use Rattle.link_http.specs.declared.piece.Piece.{Piece}
use Rattle.piece_turn.specs.Ends.{HasCause}
use Rattle.piece_turn.specs.Try.{Try, AreTruthful}
use Rattle.piece_turn.specs.Turn.{Ends, StartFrom, BeginsAt, EachBehind, Tell, is_done, has_failed}
use Rattle.piece_turn.specs.declared.piece_end.PieceEnd.{PieceEnd}
use Rattle.piece_turn.specs.declared.piece_end.PieceEnd.TheVariants.{Failed}
use Rattle.claim_crew.specs.Claimed.{sum_of, sum_below, joined_all, AllLastFail}
use Rattle.frag_crew.specs.Asked.{Asked, numbers_of, Lasts, AllWork}
use Rattle.frag_crew.specs.Crew.{AreBegunBelow}
use Rattle.component_store.specs.Component.{Web, known}
use Rattle.plan_record.specs.declared.line.Line.{Line}

-- Each of these dialers tells.
abbrev pub AllTell : {D : Type 0} → (D → Wire) → List D → Type 0
AllTell {D} wire es = (w : ℕ) (e : D) → slice_get es w ≡ Some e → IsTrue (wire e).tells

-- The replies to these turns are truthful of what the world has under the line of each turn's piece.
abbrev pub AreTold : Web → List Line → List Asked → Type 0
AreTold web lines turns = All (λ (a : Asked). (line : Line) → slice_get lines a.number ≡ Some line → AreTruthful (known web line) a.tries) turns

-- The piece is there for each of these dialers, which tell, from this place on.
abbrev pub IsReached : {D : Type 0} → (D → Wire) → Piece → ℕ → List D → Type 0
IsReached {D} wire piece from ds = (w : ℕ) (d : D) → slice_get ds w ≡ Some d → IsTrue (wire d).tells × (to : Address) × (bytes : Bytes) × IsThere (wire d) piece.url to from None bytes

-- By a piece's number `At` tells how it was found, complete or not and with how many bytes promised, and `After` how many are promised of it now; where it is
-- `Telling`, what came is known.
module _ {D : Type 0} (wire : D → Wire) (At : ℕ → Bool → ℕ → Type 0) (After : ℕ → ℕ → Type 0) (Telling : ℕ → Type 0) (pieces : List Piece) (retries : ℕ) (ends : List PieceEnd) (ds es : List D) where
  -- A piece's turn as it is told. Where it was found complete nothing was asked; else its first try asked from exactly what was promised, and each later one
  -- from behind what had come. A piece that failed has a cause, and one that was cut short promises what came.
  pub record PieceTurned (a : Asked) : Type 0 where
    pub piece : Piece
    pub end : PieceEnd
    pub piece_at : slice_get pieces a.number ≡ Some piece
    pub end_at : slice_get ends a.number ≡ Some end
    pub complete : Bool
    pub promised : ℕ
    pub found : At a.number complete promised
    pub ends_by : Ends retries complete a.tries end
    pub first : BeginsAt promised a.tries
    pub starts : StartFrom promised a.tries
    pub address_is : All (λ (t : Try). OfAddress (address piece.url) t.gave) a.tries
    pub worker : ℕ
    pub from : D
    pub to : D
    pub from_at : slice_get ds worker ≡ Some from
    pub to_at : slice_get es worker ≡ Some to
    pub before : Wire
    pub after : Wire
    pub until : Lasts (wire from) before
    pub since : Lasts after (wire to)
    pub tell : IsTrue after.tells → Tell piece a.tries before after
    pub behind : IsTrue after.tells → Telling a.number → EachBehind a.tries
    pub cause : (n : ℕ) (cause : PieceFault) → end ≡ Failed n cause → HasCause piece retries a.tries n cause before after
    pub cut : IsTrue after.tells → (n got : ℕ) (told : Option ℕ) → end ≡ Failed n (CutShort got told) → After a.number got

  -- What was asked, worker by worker: the pieces below `count` had their turn, each once (`once`, for every f, says that the numbers of the turns differ and are
  -- those below `count`); who had a piece fail began no other.
  pub record AskedAll : Type 0 where
    pub count : ℕ
    pub begun : AreBegunBelow count ends
    pub asked : List (List Asked)
    pub once : (f : ℕ → ℕ) → sum_of f (joined_all (numbers_of asked)) ≡ sum_below f count
    pub last : AllLastFail has_failed ends (numbers_of asked)
    pub works : AllWork wire asked ds es
    pub turns : All PieceTurned (joined_all asked)
    pub turn : (k : ℕ) → k < count → (i : ℕ) × (a : Asked) × (slice_get (joined_all asked) i ≡ Some a) × (a.number ≡ k) × PieceTurned a

  -- Of these pieces, each that was begun is done where what is left of it is in reach, or memory was refused.
  abbrev pub AreDoneInReach : ℕ → Type 0
  AreDoneInReach count = (k : ℕ) (piece : Piece) (end : PieceEnd) → k < count → slice_get pieces k ≡ Some piece → slice_get ends k ≡ Some end
      → ((promised : ℕ) → At k false promised → IsReached wire piece promised ds) → IsTrue (is_done end) ⊎ (end ≡ Failed 1 OutOfMemory)
