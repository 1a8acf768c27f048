-- How a body goes from the dialer to the taker.
use Rattle.std.specs.Prelude.{◌≡◌, ℕ, ◌+◌, ◌-◌, ◌*◌, ◌<◌, if◌then◌else◌, nat_le, List, [], ◌++◌, length, take, drop, IsTrue, Bool, true, false, Option, Some, None, Result, Ok, Err, ⊤, ◌≤◌}
use Rattle.http_reply.specs.declared.chunks.Chunks.{Chunks}
use Rattle.http_reply.specs.Chunked.{limit}
use Rattle.http_reply.specs.Content.{Content, behind}
use Rattle.http_reply.specs.Machine.{content_of, room}
use Rattle.link_http.specs.declared.share.Share.{Share}
use Rattle.link_http.specs.declared.share.Share.TheVariants.{After, Upto}
use Rattle.link_http.specs.declared.body_end.BodyEnd.{BodyEnd}
use Rattle.link_http.specs.declared.body_end.BodyEnd.TheVariants.{Full, Stopped}
use Rattle.link_http.specs.declared.body_fault.BodyFault.{BodyFault}
use Rattle.link_http.specs.declared.body_fault.BodyFault.TheVariants.{Recv, Store}
use Rattle.folder_base.specs.declared.store_fault.StoreFault.{StoreFault}
use Rattle.http_reply.specs.declared.stop.Stop.TheVariants.{Cut}
use Rattle.folder_base.specs.Took.{TookSome}
use Rattle.link_http.specs.Wire.{Wire, left, Held, AsksNothing}

-- what is taken of a body, and how it ends
pub record Poured : Type 0 where
  pub bytes : List ℕ
  pub end : BodyEnd

-- the bytes behind the first ones, or the first ones alone
abbrev pub share_bytes : Share → List ℕ → List ℕ
share_bytes (After skip passed) bytes = drop skip bytes
share_bytes (Upto left passed) bytes = take left bytes

-- a body that has the whole share ends there
abbrev pub share_end : Share → Content → BodyEnd
share_end (After skip passed) content = Stopped content.stop (passed + length content.bytes)
share_end (Upto left passed) content = if nat_le left (length content.bytes) then Full else Stopped content.stop (passed + length content.bytes)

-- what is taken of a content for a share, and how that ends
abbrev pub poured : Share → Content → Poured
poured share content = record { bytes = share_bytes share content.bytes; end = share_end share content }

-- something of the share is still to come
abbrev pub IsWanting : Share → Type 0
IsWanting (After skip passed) = ⊤
IsWanting (Upto left passed) = 0 < left

-- the taker has room for the share, of a body of which so much was passed
abbrev pub HasRoom : Share → ℕ → ℕ → Type 0
HasRoom (After skip passed) now spare = (passed ≡ now) × (limit ≤ spare + passed + skip)
HasRoom (Upto left passed) now spare = (passed ≡ now) × (left ≤ spare)

-- how many bytes of the body were passed
abbrev pub passed_of : Share → ℕ
passed_of (After skip passed) = passed
passed_of (Upto left passed) = passed

-- these bytes first
abbrev pub onto : List ℕ → Poured → Poured
onto bytes rest = record { bytes = bytes ++ rest.bytes; end = rest.end }

-- what is to come, from here on
abbrev pub ahead : Share → Chunks → Held → Wire → Poured
ahead share chunks held wire = poured share (content_of chunks (held.bytes ++ left wire))

-- so much may still be read
abbrev pub work : Chunks → Held → ℕ
work chunks held = (room chunks + 1) * (held.room + 1) - length held.bytes

-- no more bytes were passed than a piece may have
abbrev pub EndFits : BodyEnd → Type 0
EndFits Full = ⊤
EndFits (Stopped stop passed) = passed ≤ limit

-- the same, where there is an end
abbrev pub SomeFits : Result (Option BodyEnd) BodyFault → Type 0
SomeFits (Ok None) = ⊤
SomeFits (Ok (Some end)) = EndFits end
SomeFits (Err fault) = ⊤

-- whether the answer is a failed call of the dialer
abbrev pub is_unheard : {A : Type 0} → Result A BodyFault → Bool
is_unheard (Ok a) = false
is_unheard (Err Recv) = true
is_unheard (Err (Store fault)) = false

-- the place in a body: what is left of the share, the reader, the bytes at hand
pub record At : Type 0 where
  pub share : Share
  pub chunks : Chunks
  pub held : Held
  pub wire : Wire

-- what is to come, from a place in a body on
abbrev pub to_come : At → Poured
to_come at = ahead at.share at.chunks at.held at.wire

-- Of a piece at the front these bytes are taken, and then the rest of the share, or it is full.
abbrev pub Cuts : Option Share → Share → List ℕ → List ℕ → Content → Type 0
Cuts (Some rest) share bytes piece c = poured share (behind piece c) ≡ onto bytes (poured rest c)
Cuts None share bytes piece c = poured share (behind piece c) ≡ record { bytes = bytes; end = Full }

-- more came, or the reply has ended
abbrev pub Reads : ℕ → Result (Option BodyEnd) BodyFault → List ℕ → List ℕ → Wire → Wire → Type 0
Reads passed (Ok None) before after old new =
    (length before < length after) × (IsTrue new.tells → after ++ left new ≡ before ++ left old)
Reads passed (Ok (Some end)) before after old new =
    (end ≡ Stopped Cut passed) × (IsTrue new.tells → left old ≡ [])
Reads passed (Err fault) before after old new = fault ≡ Recv

-- One turn of the loop, or some: the taker took xs, and what came before is these and what is to come now.
module _ {T : Type 0} (took : T → List ℕ → T → Type 0) (may_refuse : T → List ℕ → StoreFault → Type 0) where
  -- not at the end yet
  pub record Goes (old : At) (t : T) (new : At) (u : T) : Type 0 where
    pub bytes : List ℕ
    pub taken : took t bytes u
    pub rest : IsTrue new.wire.tells → to_come old ≡ onto bytes (to_come new)
    pub asks : IsTrue new.wire.tells → AsksNothing old.wire new.wire

  -- at the end
  pub record Ends (end : BodyEnd) (old : At) (t : T) (wire : Wire) (u : T) : Type 0 where
    pub bytes : List ℕ
    pub taken : took t bytes u
    pub whole : IsTrue wire.tells → to_come old ≡ record { bytes = bytes; end = end }
    pub asks : IsTrue wire.tells → AsksNothing old.wire wire

  -- what a fault says of the taker and of the piece that it was given last
  abbrev pub RefusedBy : BodyFault → T → List ℕ → Type 0
  RefusedBy Recv between piece = piece ≡ []
  RefusedBy (Store fault) between piece = may_refuse between piece fault

  -- a call failed: the bytes are a front of what was to come, and a piece that was refused stands next
  pub record Fails (fault : BodyFault) (old : At) (t : T) (wire : Wire) (u : T) : Type 0 where
    pub bytes : List ℕ
    pub between : T
    pub piece : List ℕ
    pub taken : took t bytes between
    pub some : TookSome took between piece u
    pub why : RefusedBy fault between piece
    pub front : IsTrue wire.tells → (more : List ℕ) × ((to_come old).bytes ≡ bytes ++ (piece ++ more))
    pub asks : IsTrue wire.tells → AsksNothing old.wire wire

  -- one turn by its answer: not at the end, at the end, or a call failed
  abbrev pub Turns : Result (Option BodyEnd) BodyFault → At → T → At → T → Type 0
  Turns (Ok None) old t new u = Goes old t new u
  Turns (Ok (Some end)) old t new u = Ends end old t new.wire u
  Turns (Err fault) old t new u = Fails fault old t new.wire u

  -- The piece at the front of what comes was handed over, whatever comes behind it.
  abbrev pub Hands : Result (Option BodyEnd) BodyFault → List ℕ → Share → T → Share → T → Type 0
  Hands (Ok None) piece old t new u =
      (xs : List ℕ) × took t xs u × ((c : Content) → poured old (behind piece c) ≡ onto xs (poured new c))
  Hands (Ok (Some end)) piece old t new u =
      (xs : List ℕ) × took t xs u × ((c : Content) → poured old (behind piece c) ≡ record { bytes = xs; end = end })
  Hands (Err fault) piece old t new u =
      (xs : List ℕ) × TookSome took t xs u × RefusedBy fault t xs
      × ((c : Content) → (more : List ℕ) × ((poured old (behind piece c)).bytes ≡ xs ++ more))

  -- the whole body by its answer: its end, or a call failed
  abbrev pub Pours : Result BodyEnd BodyFault → At → T → Wire → T → Type 0
  Pours (Ok end) old t wire u = Ends end old t wire u
  Pours (Err fault) old t wire u = Fails fault old t wire u
