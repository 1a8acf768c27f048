-- What one try does to the lane, the dialer and the total that is known.
use Rattle.std.specs.Prelude.{◌≡◌, ◌≢◌, ℕ, ◌+◌, IsTrue, [], ◌∷◌, ◌++◌, length, Option, Some, None, Result, Ok, Err, OnOk, IfErr, MatchBool}
use Rattle.folder_base.specs.Disk.{Bytes}
use Rattle.folder_base.specs.declared.store_fault.StoreFault.{StoreFault}
use Rattle.http_reply.specs.Verdict.{Verdict, IsVerdict}
use Rattle.http_reply.specs.declared.piece_fault.PieceFault.{PieceFault}
use Rattle.http_reply.specs.declared.piece_fault.PieceFault.TheVariants.{CutShort, OutOfMemory}
use Rattle.keep_store.specs.Calls.{Checkpoints, EndsPiece}
use Rattle.keep_store.specs.Lane.{Seen, Took}
use Rattle.keep_store.specs.Promise.{AreFirst}
use Rattle.link_http.specs.declared.fetched.Fetched.{Fetched}
use Rattle.link_http.specs.declared.piece.Piece.{Piece}
use Rattle.link_http.specs.Request.{Address, address}
use Rattle.link_http.specs.Taking.{names_call, is_judged}
use Rattle.link_http.specs.Try.{OfAddress, IsThere, IsPaired}
use Rattle.link_http.specs.Wire.{Wire, Talk, Counts}
use Rattle.piece_turn.specs.Try.{Try, is_url_fault, Asks, Knows, AreTruthful}

-- what a piece's tries work on
pub record At : Type 0 where
  pub lane : Seen
  pub wire : Wire
  pub known : Option ℕ

-- How a try was ended: what was fetched whole was finished, what came in part was promised, and for a bad URL nothing was done.
pub record EndsTry (gave : Result Fetched PieceFault) (kept : Result (Unit {0}) StoreFault) (mid new : Seen) : Type 0 where
  pub whole : OnOk gave (EndsPiece mid new kept)
  pub part : IfErr gave (λ fault. MatchBool (is_url_fault fault) ((new ≡ mid) × (kept ≡ Ok tt)) (Checkpoints mid new kept))

-- What the dialer tells of one try.
pub record TellsTry (piece : Piece) (t : Try) (old new : Wire) (known : Option ℕ) : Type 0 where
  pub world : new.world ≡ old.world
  pub dials : new.dials ≡ old.dials ++ t.dials
  pub talks : new.talks ≡ old.talks ++ t.talks
  pub paired : IsPaired old → IsPaired new
  pub asked : Asks piece t
  pub knows : Knows t known

-- A truthful reply gave the world's bytes from the place on, and all of them where the try answered a total.
pub record GaveTruth (all : Option Bytes) (had : Bytes) (gave : Result Fetched PieceFault) (old mid : Seen) : Type 0 where
  pub bytes : Bytes
  pub took : Took old bytes mid
  pub first : AreFirst all (had ++ bytes)
  pub whole : OnOk gave (all ≡ Some (had ++ bytes))

-- One try of a piece, from one state to the next.
pub record Tried (piece : Piece) (t : Try) (old new : At) : Type 0 where
  pub from : t.from ≡ old.lane.promised
  pub known : t.known ≡ old.known
  pub address_is : OfAddress (address piece.url) t.gave
  pub counts : Counts old.wire new.wire (names_call t.gave)
  pub tell : IsTrue new.wire.tells → TellsTry piece t old.wire new.wire new.known
  pub mid : Seen
  pub took : (bytes : Bytes) × Took old.lane bytes mid
  pub ended : EndsTry t.gave t.kept mid new.lane
  pub truth : IsTrue new.wire.tells → (all : Option Bytes) (had : Bytes) → AreTruthful all (t ∷ []) → length had ≡ t.from
      → AreFirst all had → GaveTruth all had t.gave old.lane mid
  pub judged : IsTrue new.wire.tells → IsTrue (is_judged t.gave) → (talk : Talk) (verdict : Verdict) → t.talks ≡ talk ∷ []
      → IsVerdict t.from t.known talk.reply verdict → Took old.lane verdict.bytes mid
  pub cut : IsTrue new.wire.tells → (got : ℕ) (told : Option ℕ) → t.gave ≡ Err (CutShort got told)
      → (bytes : Bytes) × Took old.lane bytes mid × (got ≡ t.from + length bytes)
  pub whole : IsTrue new.wire.tells → (to : Address) (bytes : Bytes) → IsThere old.wire piece.url to t.from t.known bytes
      → old.lane.fault ≡ None → IsTrue old.lane.world.steady → IsTrue old.lane.world.tells → t.gave ≢ Err OutOfMemory
      → t.gave ≡ Ok (record { total = length bytes })
