-- What a crew asked: the turns of its workers.
use Rattle.std.specs.Prelude.{◌≡◌, ℕ, IsTrue, List, [], ◌∷◌, ◌++◌, map, Some}
use Rattle.std.specs.List.{slice_get, flat_map}
use Rattle.folder_base.specs.declared.folder.Folder.{Ghosts}
use Rattle.keep_store.specs.Seen.{lane_seen}
use Rattle.keep_store.specs.declared.lane.Lane.{Lane}
use Rattle.link_http.specs.declared.piece.Piece.{Piece}
use Rattle.link_http.specs.Try.{IsPaired}
use Rattle.link_http.specs.Wire.{Wire}
use Rattle.piece_turn.specs.declared.piece_end.PieceEnd.{PieceEnd}
use Rattle.piece_turn.specs.Try.{Try}
use Rattle.piece_turn.specs.Turn.{StaysDialer, TakesTurn}

-- a piece's turn as it is told: the number of the piece, and its tries
pub record Asked : Type 0 where
  pub number : ℕ
  pub tries : List Try

-- the tries of these turns, in order
abbrev pub tries_of : List Asked → List Try
tries_of turns = flat_map (λ (a : Asked). a.tries) turns

-- the numbers of the pieces, worker by worker
abbrev pub numbers_of : List (List Asked) → List (List ℕ)
numbers_of asked = map (λ (turns : List Asked). map (λ (a : Asked). a.number) turns) asked

-- What a dialer keeps while a crew uses it.
pub record Lasts (old new : Wire) : Type 0 where
  pub tells : IsTrue new.tells → IsTrue old.tells
  pub goes_on : IsTrue old.tells → IsTrue new.tells
  pub steady : IsTrue old.steady → IsTrue new.steady
  pub serves : IsTrue old.serves → IsTrue new.serves
  pub world : IsTrue new.tells → new.world ≡ old.world

-- What a dialer tells of a worker's turns: their dials and talks stand behind the earlier ones.
pub record TellsTurns (turns : List Asked) (old new : Wire) : Type 0 where
  pub world : new.world ≡ old.world
  pub dials : new.dials ≡ old.dials ++ flat_map (λ (t : Try). t.dials) (tries_of turns)
  pub talks : new.talks ≡ old.talks ++ flat_map (λ (t : Try). t.talks) (tries_of turns)
  pub paired : IsPaired old → IsPaired new

-- One worker's turns, in order, over its dialer.
pub record Works (turns : List Asked) (old new : Wire) : Type 0 where
  pub dialer : StaysDialer (tries_of turns) old new
  pub tell : IsTrue new.tells → TellsTurns turns old new

-- each worker its turns
abbrev pub AllWork : {D : Type 0} → (D → Wire) → List (List Asked) → List D → List D → Type 0
AllWork wire [] [] [] = Unit {0}
AllWork wire (turns ∷ asked) (d ∷ ds) (e ∷ es) = Works turns (wire d) (wire e) × AllWork wire asked ds es
AllWork wire _ _ _ = ⊥

-- The piece of this number had its turn, with these tries: over the lane of its place, by a worker whose dialer was `first` before
-- the crew and `last` after it.
pub record HadTurn {F D : Type 0} {folder : Ghosts F} (wire : D → Wire) (pieces : List Piece) (retries : ℕ) (lanes back : List (Lane F folder)) (ends : List PieceEnd) (ds es : List D) (a : Asked) : Type 0 where
  pub piece : Piece
  pub old : Lane F folder
  pub new : Lane F folder
  pub end : PieceEnd
  pub piece_at : slice_get pieces a.number ≡ Some piece
  pub old_at : slice_get lanes a.number ≡ Some old
  pub new_at : slice_get back a.number ≡ Some new
  pub end_at : slice_get ends a.number ≡ Some end
  pub worker : ℕ
  pub first : D
  pub last : D
  pub first_at : slice_get ds worker ≡ Some first
  pub last_at : slice_get es worker ≡ Some last
  pub before : Wire
  pub after : Wire
  pub until : Lasts (wire first) before
  pub since : Lasts after (wire last)
  pub turn : TakesTurn piece retries (lane_seen old) (lane_seen new) end before after
  pub tries_are : turn.tries ≡ a.tries
