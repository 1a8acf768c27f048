-- What a dialer is and was.
use Rattle.std.specs.Prelude.{◌≡◌, ℕ, ◌<◌, ◌≤◌, Bool, true, false, IsTrue, IsFalse, List, [], ◌∷◌, ◌++◌, length, take, drop, Option, Some, Result, Ok, Err, OnOk, ⊤, unwrap_or, option_map, ◌⊎◌, nat_eq}
use Rattle.std.specs.List.{ends_with}
use Rattle.text_base.specs.Causes.{Rose}
use Rattle.text_base.specs.declared.faults.FolderFault.{FolderFault}
use Rattle.text_base.specs.declared.faults.FolderFault.TheVariants.{Failed, OutOfMemory}
use Rattle.http_reply.specs.Truth.{IsHonest}
use Rattle.link_http.specs.declared.header.Header.{Header}
use Rattle.link_http.specs.Request.{Address, Place, address, request}

-- a finite map from URLs to bytes
abbrev pub World : Type 0
World = List ℕ → Option (List ℕ)

-- a request that was asked, over the connection of a dial, and the whole reply that this connection held
pub record Talk : Type 0 where
  pub place : Place
  pub dial : ℕ
  pub request : List ℕ
  pub reply : List ℕ

-- a connection: the number of its dial, from 0, what was sent over it since its last request, and what of the reply is
-- still to come
pub record Connection : Type 0 where
  pub place : Place
  pub dial : ℕ
  pub sent : List ℕ
  pub left : List ℕ

-- What a dialer is and was. It tells or it does not; it counts its failed calls; it may be steady, which is
-- that no call of it will fail, and it may serve, which is that each request for a resource of its world,
-- from no more than its length on, will get a whole honest reply.
pub record Wire : Type 0 where
  pub tells : Bool
  pub faults : ℕ
  pub steady : Bool
  pub serves : Bool
  pub world : World
  pub dials : List Place
  pub talks : List Talk
  pub line : Option Connection

-- what of the reply is still to come
abbrev pub left : Wire → List ℕ
left w = unwrap_or (option_map (λ c. c.left) w.line) []

-- whether the answer is that the call failed
abbrev pub has_failed : {T : Type 0} → Result T FolderFault → Bool
has_failed (Ok a) = false
has_failed (Err Failed) = true
has_failed (Err OutOfMemory) = false

-- What each call keeps, told or not: the count never falls, it rose where the answer is that a call failed, and it stands still after
-- each other answer. What a dialer tells of its later calls stays; one that tells goes on telling, and no other begins to.
pub record Counts (old new : Wire) (failed : Bool) : Type 0 where
  pub never_falls : old.faults ≤ new.faults
  pub rises : IsTrue failed → Rose old.faults new.faults
  pub still : IsFalse failed → new.faults ≡ old.faults
  pub steady : IsTrue old.steady → IsTrue new.steady
  pub no_fault : IsTrue old.steady → IsFalse failed
  pub serves : IsTrue old.serves → IsTrue new.serves
  pub tells : IsTrue new.tells → IsTrue old.tells
  pub goes_on : IsTrue old.tells → IsTrue new.tells

-- nothing was asked
pub record AsksNothing (old new : Wire) : Type 0 where
  pub world : new.world ≡ old.world
  pub dials : new.dials ≡ old.dials
  pub talks : new.talks ≡ old.talks

-- a dial is told whatever it answers, but where memory was refused it may not be
pub record Dials (host : List ℕ) (port : ℕ) (old new : Wire) (result : Result ⊤ FolderFault) : Type 0 where
  pub world : new.world ≡ old.world
  pub dials : (new.dials ≡ old.dials ++ record { host = host; port = port } ∷ []) ⊎ ((result ≡ Err OutOfMemory) × (new.dials ≡ old.dials))
  pub talks : new.talks ≡ old.talks
  pub opened : OnOk result (new.line ≡ Some (record { place = record { host = host; port = port }; dial = length old.dials; sent = []; left = [] }))

-- the text ends with an empty line
abbrev pub ends_request : List ℕ → Bool
ends_request text = ends_with nat_eq text (13 ∷ 10 ∷ 13 ∷ 10 ∷ [])

-- a request for a resource of the world got a whole honest reply
abbrev pub IsServed : World → Place → List ℕ → List ℕ → Type 0
IsServed world place text reply =
    (url target : List ℕ) (headers : List Header) (from : ℕ) (bytes : List ℕ)
    → address url ≡ Ok (record { place = place; target = target })
    → text ≡ request (record { place = place; target = target }) headers from
    → world url ≡ Some bytes → from ≤ length bytes → IsHonest bytes from reply

-- the connection after bytes were sent: with the last byte of a request it is asked, and its whole reply is to come
abbrev pub SendsOn : Bool → List ℕ → Connection → Connection → Wire → Wire → Type 0
SendsOn true text before after old new =
    (after.sent ≡ []) × (new.talks ≡ old.talks ++ record { place = before.place; dial = before.dial; request = text; reply = after.left } ∷ [])
    × (IsTrue old.serves → IsServed old.world before.place text after.left)
SendsOn false text before after old new =
    (after.sent ≡ text) × (after.left ≡ before.left) × (new.talks ≡ old.talks)

-- these bytes were taken
pub record Sends (bytes : List ℕ) (old new : Wire) : Type 0 where
  pub world : new.world ≡ old.world
  pub dials : new.dials ≡ old.dials
  pub before : Connection
  pub after : Connection
  pub was : old.line ≡ Some before
  pub is : new.line ≡ Some after
  pub place : after.place ≡ before.place
  pub dial : after.dial ≡ before.dial
  pub asks : SendsOn (ends_request (before.sent ++ bytes)) (before.sent ++ bytes) before after old new

-- n bytes of the reply came, to the front of the buffer
pub record Hears (size n : ℕ) (buffer : List ℕ) (old new : Wire) : Type 0 where
  pub came : take n buffer ≡ take n (left old)
  pub fits : n ≤ length (left old)
  pub rest : left new ≡ drop n (left old)
  pub ended : n ≡ 0 → 0 < size → left old ≡ []

-- the bytes at hand, of so many that there is room for
pub record Held : Type 0 where
  pub bytes : List ℕ
  pub room : ℕ

-- more of the reply is at hand, or it has ended
pub record Fills (more : Bool) (before after : List ℕ) (old new : Wire) : Type 0 where
  pub same : after ++ left new ≡ before ++ left old
  pub ended : IsFalse more → left old ≡ []
