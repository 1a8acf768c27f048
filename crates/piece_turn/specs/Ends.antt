-- Where the cause of a piece that failed comes from.
use Rattle.std.specs.Prelude.{◌≡◌, ◌⊎◌, ℕ, ◌+◌, IsTrue, List, [], ◌∷◌, ◌++◌, false, Err}
use Rattle.text_base.specs.Causes.{Rose}
use Rattle.http_reply.specs.Faults.{is_call, is_cause, origin, of_taking}
use Rattle.http_reply.specs.Verdict.{Verdict, IsVerdict}
use Rattle.http_reply.specs.declared.piece_fault.PieceFault.{PieceFault}
use Rattle.keep_store.specs.Lane.{Seen}
use Rattle.link_http.specs.declared.piece.Piece.{Piece}
use Rattle.link_http.specs.Request.{address}
use Rattle.link_http.specs.Wire.{Wire, Talk}
use Rattle.piece_turn.specs.declared.piece_end.PieceEnd.{PieceEnd}
use Rattle.piece_turn.specs.declared.piece_end.PieceEnd.TheVariants.{Failed}
use Rattle.piece_turn.specs.Try.{Try, is_url_fault}
use Rattle.piece_turn.specs.Turn.{TakesTurn}

-- The cause is the verdict on the reply to the last of these tries.
pub record IsLastVerdict (cause : PieceFault) (tries : List Try) : Type 0 where
  pub earlier : List Try
  pub last : Try
  pub tries_are : tries ≡ earlier ++ last ∷ []
  pub talk : Talk
  pub talked : last.talks ≡ talk ∷ []
  pub verdict : Verdict
  pub is : IsVerdict last.from last.known talk.reply verdict
  pub end_is : verdict.end ≡ Err cause

-- A URL's fault is that of the piece's URL, and comes with one try; a fault of a call or of a reply comes with the last try that is
-- allowed: the dialer's count rose, or the fault is the verdict.
pub record HasCause (piece : Piece) (retries : ℕ) (tries : List Try) (n : ℕ) (cause : PieceFault) (old new : Wire) : Type 0 where
  pub url : IsTrue (is_url_fault cause) → (address piece.url ≡ Err cause) × (n ≡ 1)
  pub call : IsTrue (is_call cause) → (n ≡ retries + 1) × Rose old.faults new.faults
  pub reply : IsTrue (is_cause cause) → (n ≡ retries + 1) × (IsTrue new.tells → IsLastVerdict cause tries)

-- A piece that failed has a cause,
abbrev pub EachHasCause : Type 0
EachHasCause = (piece : Piece) (retries : ℕ) (old new : Seen) (end : PieceEnd) (d e : Wire) (turn : TakesTurn piece retries old new end d e)
    (n : ℕ) (cause : PieceFault) → end ≡ Failed n cause → HasCause piece retries turn.tries n cause d e

-- and one whose URL leads nowhere fails for it with one try, unless memory is refused or the folder fails.
abbrev pub BadUrlsFail : Type 0
BadUrlsFail = (piece : Piece) (retries : ℕ) (old new : Seen) (end : PieceEnd) (d e : Wire) → TakesTurn piece retries old new end d e
    → old.complete ≡ false → (fault : PieceFault) → address piece.url ≡ Err fault
    → (end ≡ Failed 1 fault) ⊎ ((cause : PieceFault) × (end ≡ Failed 1 cause) × (origin cause ≡ of_taking))
