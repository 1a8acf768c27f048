-- What one try does.
use Rattle.std.specs.Prelude.{◌≡◌, ◌≢◌, ℕ, ◌≤◌, ◌⊎◌, Bool, false, IsTrue, IsFalse, All, List, slice_get, ◌<◌, [], ◌∷◌, ◌++◌, length, map, Option, Some, None, Result, Ok, Err}
use Rattle.std.specs.Option.{option_or}
use Rattle.folder_base.specs.declared.store_fault.StoreFault.{StoreFault}
use Rattle.link_http.specs.Wire.{Wire, Talk, IsServed, AsksNothing}
use Rattle.http_reply.specs.declared.piece_fault.PieceFault.{PieceFault}
use Rattle.http_reply.specs.declared.piece_fault.PieceFault.TheVariants.{Dial, Send, Url, Scheme, OutOfMemory}
use Rattle.link_http.specs.declared.fetched.Fetched.{Fetched}
use Rattle.link_http.specs.Taking.{Broke}
use Rattle.http_reply.specs.Faults.{is_broken}
use Rattle.http_reply.specs.Verdict.{Verdict, IsVerdict}
use Rattle.link_http.specs.Request.{Address, Place, address, request}
use Rattle.link_http.specs.declared.header.Header.{Header}
use Rattle.http_reply.specs.Chunked.{limit}

-- at most one dial, to the place, and one where a request was asked
abbrev pub DialsOnce : Place → List (List ℕ) → Wire → Wire → Type 0
DialsOnce place replies old new = (new.dials ≡ old.dials ++ place ∷ []) ⊎ ((replies ≡ []) × (new.dials ≡ old.dials))

-- at most one request, which is this text, over the connection of the dial of this number; the replies to what was asked
pub record Asks (place : Place) (dial : ℕ) (text : List ℕ) (old new : Wire) (replies : List (List ℕ)) : Type 0 where
  pub world : new.world ≡ old.world
  pub talks : new.talks ≡ old.talks ++ map (λ reply. record { place = place; dial = dial; request = text; reply = reply }) replies
  pub once : (replies ≡ []) ⊎ ((reply : List ℕ) × (replies ≡ reply ∷ []))
  pub served : IsTrue old.serves → All (IsServed old.world place text) replies

module _ {T : Type 0} (took : T → List ℕ → T → Type 0) (may_refuse : T → List ℕ → StoreFault → Type 0) where
  -- No call failed: the answer, the bytes and what is known are the verdict's.
  pub record Answers (from : ℕ) (known : Option ℕ) (reply : List ℕ) (end : Result ℕ PieceFault) (t : T) (known' : Option ℕ) (u : T) : Type 0 where
    pub verdict : Verdict
    pub is : IsVerdict from known reply verdict
    pub end_is : end ≡ verdict.end
    pub taken : took t verdict.bytes u
    pub known_is : known' ≡ option_or known verdict.told

  -- A call failed: the bytes are a front of the verdict's, and a piece that was refused stands next.
  pub record Breaks (fault : PieceFault) (from : ℕ) (known : Option ℕ) (reply : List ℕ) (t : T) (known' : Option ℕ) (u : T) : Type 0 where
    pub broke : Broke took may_refuse fault t u
    pub front : (verdict : Verdict) → IsVerdict from known reply verdict → (more : List ℕ) × (verdict.bytes ≡ broke.bytes ++ (broke.piece ++ more))
    pub known_is : (verdict : Verdict) → IsVerdict from known reply verdict → (known' ≡ known) ⊎ (known' ≡ option_or known verdict.told)

  -- The try, by its answer and by the reply to its request, if that was asked. A dial or a send fails only
  -- before that, and nothing is received before it.
  abbrev pub Tries : ℕ → Option ℕ → List (List ℕ) → Result Fetched PieceFault → T → Option ℕ → T → Type 0
  Tries from known (reply ∷ replies) (Ok fetched) t known' u = Answers from known reply (Ok fetched.total) t known' u
  Tries from known (reply ∷ replies) (Err fault) t known' u =
      (fault ≢ Dial) × (fault ≢ Send)
      × (IsFalse (is_broken fault) → Answers from known reply (Err fault) t known' u)
      × (IsTrue (is_broken fault) → Breaks fault from known reply t known' u)
  Tries from known [] (Ok fetched) t known' u = ⊥
  Tries from known [] (Err fault) t known' u =
      ((fault ≡ Dial) ⊎ ((fault ≡ Send) ⊎ (fault ≡ OutOfMemory))) × took t [] u × (known' ≡ known)

  -- over a connection that stands, of the dial of this number
  abbrev pub Talks : Place → ℕ → List ℕ → ℕ → Wire → Option ℕ → Result Fetched PieceFault → T → Wire → Option ℕ → T → Type 0
  Talks place dial text from old known result t new known' u =
      (replies : List (List ℕ)) × Asks place dial text old new replies × Tries from known replies result t known' u

  -- over the connection of the next dial
  abbrev pub DialsAndTalks : Place → List ℕ → ℕ → Wire → Option ℕ → Result Fetched PieceFault → T → Wire → Option ℕ → T → Type 0
  DialsAndTalks place text from old known result t new known' u =
      (talks : Talks place (length old.dials) text from old known result t new known' u) × DialsOnce place talks.0 old new

  -- by where the URL leads
  abbrev pub Fetches : Result Address PieceFault → List Header → ℕ → Wire → Option ℕ → Result Fetched PieceFault → T → Wire → Option ℕ → T → Type 0
  Fetches (Err fault) headers from old known result t new known' u =
      ((result ≡ Err fault) ⊎ (result ≡ Err OutOfMemory)) × AsksNothing old new × took t [] u × (known' ≡ known)
  Fetches (Ok to) headers from old known result t new known' u =
      DialsAndTalks to.place (request to headers from) from old known result t new known' u

-- Url and Scheme come exactly where the URL leads nowhere, unless memory is refused
abbrev pub OfAddress : Result Address PieceFault → Result Fetched PieceFault → Type 0
OfAddress (Err fault) result = (result ≡ Err fault) ⊎ (result ≡ Err OutOfMemory)
OfAddress (Ok to) result = (result ≢ Err Url) × (result ≢ Err Scheme)

-- Each request follows a dial to its own place, and a later request follows a later dial: no two talks have one dial.
pub record IsPaired (wire : Wire) : Type 0 where
  pub place : (i : ℕ) (talk : Talk) → slice_get wire.talks i ≡ Some talk → slice_get wire.dials talk.dial ≡ Some talk.place
  pub rising : (i j : ℕ) (a b : Talk) → i < j → slice_get wire.talks i ≡ Some a → slice_get wire.talks j ≡ Some b → a.dial < b.dial

-- What a resource of the world needs to be fetched: it is of these bytes, not too long, from no more than its length on,
-- and no other total is known.
pub record IsThere (old : Wire) (url : List ℕ) (to : Address) (from : ℕ) (known : Option ℕ) (bytes : List ℕ) : Type 0 where
  pub steady : IsTrue old.steady
  pub serves : IsTrue old.serves
  pub leads : address url ≡ Ok to
  pub there : old.world url ≡ Some bytes
  pub fits : length bytes ≤ limit
  pub within : from ≤ length bytes
  pub known_is : (known ≡ None) ⊎ (known ≡ Some (length bytes))
