-- A piece's turn: its tries, one after the other, and how they end.
use Rattle.std.specs.Prelude.{◌≡◌, ◌⊎◌, ℕ, ◌+◌, ◌-◌, ◌^◌, ◌≤◌, min, Bool, true, false, IsTrue, List, [], ◌∷◌, ◌++◌, length, Option, None, Result, Ok, Err, All, count_by}
use Rattle.std.specs.List.{flat_map}
use Rattle.text_base.specs.declared.faults.FolderCall.{FolderCall}
use Rattle.folder_base.specs.Disk.{Bytes}
use Rattle.folder_base.specs.declared.store_fault.StoreFault.TheVariants as store
use Rattle.http_reply.specs.Verdict.{Verdict, IsVerdict}
use Rattle.http_reply.specs.declared.piece_fault.PieceFault.{PieceFault}
use Rattle.http_reply.specs.declared.piece_fault.PieceFault.TheVariants.{CutShort, Folder, OutOfMemory}
use Rattle.keep_store.specs.Lane.{Seen, Has, IsRefusal}
use Rattle.link_http.specs.declared.piece.Piece.{Piece}
use Rattle.link_http.specs.Request.{Address, address}
use Rattle.link_http.specs.Taking.{names_call, is_judged}
use Rattle.link_http.specs.Try.{OfAddress, IsThere, IsPaired}
use Rattle.link_http.specs.Wire.{Wire, Talk}
use Rattle.piece_turn.specs.declared.piece_end.PieceEnd.{PieceEnd}
use Rattle.piece_turn.specs.declared.piece_end.PieceEnd.TheVariants.{Done, Failed, NotBegun}
use Rattle.piece_turn.specs.Lane.{IsSamePiece, KeepsLane, StaysSound}
use Rattle.piece_turn.specs.Try.{Try, answer, calls_for_another, Asks, Knows, AreTruthful}

-- how a piece ends whose last try, of so many, came to this
abbrev pub end_of : ℕ → Result (Unit {0}) PieceFault → PieceEnd
end_of tries (Ok done) = Done tries
end_of tries (Err cause) = Failed tries cause

-- whether the piece is fetched
abbrev pub is_done : PieceEnd → Bool
is_done (Done tries) = true
is_done (Failed tries cause) = false
is_done NotBegun = false

-- whether the piece failed
abbrev pub has_failed : PieceEnd → Bool
has_failed (Done tries) = false
has_failed (Failed tries cause) = true
has_failed NotBegun = false

-- The tries ended the piece: each but the last called for another; and the last did not, or was the last that is allowed.
pub record EndsBy (retries : ℕ) (tries : List Try) (end : PieceEnd) : Type 0 where
  pub earlier : List Try
  pub last : Try
  pub tries_are : tries ≡ earlier ++ last ∷ []
  pub retried : All (λ (t : Try). IsTrue (calls_for_another (answer t))) earlier
  pub few : length earlier ≤ retries
  pub end_is : end ≡ end_of (length earlier + 1) (answer last)
  pub all_used : IsTrue (calls_for_another (answer last)) → length earlier ≡ retries

-- A complete piece is done with no try, another one by its tries.
abbrev pub Ends : ℕ → Bool → List Try → PieceEnd → Type 0
Ends retries true tries end = (tries ≡ []) × (end ≡ Done 0)
Ends retries false tries end = EndsBy retries tries end

-- each try asks from what the lane promises by then: none from before the promise at the start, or before an earlier one's place
abbrev pub StartFrom : ℕ → List Try → Type 0
StartFrom promised [] = Unit {0}
StartFrom promised (t ∷ tries) = (promised ≤ t.from) × StartFrom t.from tries

-- the first of them asks from exactly there
abbrev pub BeginsAt : ℕ → List Try → Type 0
BeginsAt promised [] = Unit {0}
BeginsAt promised (t ∷ tries) = t.from ≡ promised

-- the try asks from behind all that the reply to the one before gave, where no call failed there: no byte that came is asked for again
abbrev pub AsksBehind : Try → Try → Type 0
AsksBehind before t = (talk : Talk) (verdict : Verdict) → before.talks ≡ talk ∷ [] → IsVerdict before.from before.known talk.reply verdict
    → IsTrue (is_judged before.gave) → t.from ≡ before.from + length verdict.bytes

-- the first of these tries does so
abbrev pub NextBehind : Try → List Try → Type 0
NextBehind before [] = Unit {0}
NextBehind before (t ∷ tries) = AsksBehind before t

-- each try but the first does so
abbrev pub EachBehind : List Try → Type 0
EachBehind [] = Unit {0}
EachBehind (t ∷ tries) = NextBehind t tries × EachBehind tries

-- each try knows the total that the tries before it learnt, beginning with this
abbrev pub KnowInTurn : Option ℕ → List Try → Type 0
KnowInTurn known [] = Unit {0}
KnowInTurn known (t ∷ tries) = (t.known ≡ known) × (later : Option ℕ) × Knows t later × KnowInTurn later tries

-- how many of the tries ended in a call of the dialer that failed
abbrev pub failed_calls : List Try → ℕ
failed_calls tries = count_by (λ (t : Try). names_call t.gave) tries

-- What the dialer tells of the tries: their dials and talks stand behind the earlier ones, each is asked for this piece, and
-- each knows what the ones before it learnt.
pub record Tell (piece : Piece) (tries : List Try) (old new : Wire) : Type 0 where
  pub world : new.world ≡ old.world
  pub dials : new.dials ≡ old.dials ++ flat_map (λ (t : Try). t.dials) tries
  pub talks : new.talks ≡ old.talks ++ flat_map (λ (t : Try). t.talks) tries
  pub paired : IsPaired old → IsPaired new
  pub asked : All (Asks piece) tries
  pub knows : KnowInTurn None tries

-- What is so of a dialer, told or not: its count rose by each of its calls that failed, or stands at its type's end.
pub record StaysDialer (tries : List Try) (old new : Wire) : Type 0 where
  pub counted : min (old.faults + failed_calls tries) (2 ^ 64 - 1) ≤ new.faults
  pub still : failed_calls tries ≡ 0 → new.faults ≡ old.faults
  pub steady : IsTrue old.steady → IsTrue new.steady
  pub serves : IsTrue old.serves → IsTrue new.serves
  pub tells : IsTrue new.tells → IsTrue old.tells
  pub goes_on : IsTrue old.tells → IsTrue new.tells

-- What a piece's turn does: its tries, how they end it, and what they leave of the dialer and the lane. `sound` supposes truthful
-- replies; `whole` that all is there and nothing refused but memory.
pub record TakesTurn (piece : Piece) (retries : ℕ) (old new : Seen) (end : PieceEnd) (d e : Wire) : Type 0 where
  pub tries : List Try
  pub ends : Ends retries old.complete tries end
  pub done : is_done end ≡ new.complete
  pub starts : StartFrom old.promised tries
  pub first : BeginsAt old.promised tries
  pub address_is : All (λ (t : Try). OfAddress (address piece.url) t.gave) tries
  pub dialer : StaysDialer tries d e
  pub tell : IsTrue e.tells → Tell piece tries d e
  pub lane : IsSamePiece old new
  pub keeps : IsTrue new.world.tells → KeepsLane old new
  pub sound : IsTrue e.tells → IsTrue new.world.tells → (all : Option Bytes) → AreTruthful all tries → StaysSound all old new
  pub behind : IsTrue e.tells → IsTrue new.world.tells → (had : Bytes) → Has old had → EachBehind tries
  pub cut : IsTrue e.tells → IsTrue new.world.tells → (had : Bytes) → Has old had → (n got : ℕ) (told : Option ℕ)
      → end ≡ Failed n (CutShort got told) → new.promised ≡ got
  pub refused : (n : ℕ) (call : FolderCall) → end ≡ Failed n (Folder call) → IsRefusal old.world new.world (store.Folder call)
  pub whole : IsTrue e.tells → IsTrue new.world.tells → IsTrue old.world.steady → (to : Address) (bytes : Bytes)
      → IsThere d piece.url to old.promised None bytes → IsTrue (is_done end) ⊎ (end ≡ Failed 1 OutOfMemory)
