-- One try to fetch a lane's piece: what it asked, what it came to, and whether another may mend it.
use Rattle.std.specs.Prelude.{◌≡◌, ◌⊎◌, ℕ, Bool, true, false, IsTrue, List, [], ◌∷◌, Option, Result, Ok, Err, All}
use Rattle.std.specs.Option.{option_or}
use Rattle.folder_base.specs.Disk.{Bytes}
use Rattle.folder_base.specs.declared.store_fault.StoreFault.{StoreFault}
use Rattle.http_reply.specs.declared.piece_fault.PieceFault.{PieceFault}
use Rattle.http_reply.specs.declared.piece_fault.PieceFault.TheVariants.{Dial, Send, Folder, OutOfMemory}
use Rattle.http_reply.specs.Faults.{Origin, of_asking, of_hearing, of_taking, of_url, of_reply, origin}
use Rattle.http_reply.specs.Truth.{IsTruthful}
use Rattle.http_reply.specs.Verdict.{Verdict, IsVerdict}
use Rattle.link_http.specs.declared.fetched.Fetched.{Fetched}
use Rattle.link_http.specs.declared.header.Header.{Header}
use Rattle.link_http.specs.declared.piece.Piece.{Piece}
use Rattle.link_http.specs.Request.{Address, Place, address, request}
use Rattle.link_http.specs.Taking.{of_store, is_judged, as_end}
use Rattle.link_http.specs.Wire.{Talk}

-- One try: the place in the piece that it asked from, the total that earlier replies had told, the places that it dialed and
-- the requests that it asked with their replies (one at most of each), what the reply gave, and what the lane answered as the
-- try ended.
pub record Try : Type 0 where
  pub from : ℕ
  pub known : Option ℕ
  pub dials : List Place
  pub talks : List Talk
  pub gave : Result Fetched PieceFault
  pub kept : Result (Unit {0}) StoreFault

-- whether another try may come to something else: a call of the dialer or a reply may, the URL, the folder and the memory may not
abbrev pub may_differ : Origin → Bool
may_differ of_asking = true
may_differ of_hearing = true
may_differ of_reply = true
may_differ of_taking = false
may_differ of_url = false

-- whether a piece whose try failed so is tried again, where a try is left
abbrev pub is_retried : PieceFault → Bool
is_retried fault = may_differ (origin fault)

-- whether it comes from the URL, and so is known before anything is asked
abbrev pub comes_from_url : Origin → Bool
comes_from_url of_asking = false
comes_from_url of_hearing = false
comes_from_url of_taking = false
comes_from_url of_url = true
comes_from_url of_reply = false

-- whether the fault is the URL's
abbrev pub is_url_fault : PieceFault → Bool
is_url_fault fault = comes_from_url (origin fault)

-- A fault of the folder that the lane does not answer itself counts as want of memory.
abbrev pub unless_folder : PieceFault → PieceFault
unless_folder (Folder call) = OutOfMemory
unless_folder fault = fault

-- what a try comes to: what the lane refused, if it refused, and else what the reply gave
abbrev pub answer_of : Result Fetched PieceFault → Result (Unit {0}) StoreFault → Result (Unit {0}) PieceFault
answer_of gave (Err fault) = Err (of_store fault)
answer_of (Ok fetched) (Ok done) = Ok tt
answer_of (Err fault) (Ok done) = Err (unless_folder fault)

-- the answer of a try
abbrev pub answer : Try → Result (Unit {0}) PieceFault
answer t = answer_of t.gave t.kept

-- whether an answer calls for another try
abbrev pub calls_for_another : Result (Unit {0}) PieceFault → Bool
calls_for_another (Ok done) = false
calls_for_another (Err fault) = is_retried fault

-- The try dialed its piece's place and asked for the piece from its place on; and what the reply gave, if no call failed, is the
-- verdict on it.
pub record AskedOnce (to : Address) (headers : List Header) (t : Try) : Type 0 where
  pub talk : Talk
  pub talks : t.talks ≡ talk ∷ []
  pub dials : t.dials ≡ to.place ∷ []
  pub place : talk.place ≡ to.place
  pub request_is : talk.request ≡ request to headers t.from
  pub judged : IsTrue (is_judged t.gave) → (verdict : Verdict) × IsVerdict t.from t.known talk.reply verdict × (verdict.end ≡ as_end t.gave)

-- No request was asked: a call failed before, or memory was refused.
pub record AskedNothing (to : Address) (t : Try) : Type 0 where
  pub talks : t.talks ≡ []
  pub dials : (t.dials ≡ []) ⊎ (t.dials ≡ to.place ∷ [])
  pub why : (t.gave ≡ Err Dial) ⊎ ((t.gave ≡ Err Send) ⊎ (t.gave ≡ Err OutOfMemory))

-- what a try asked, by where the URL leads: nothing at all where it leads nowhere
abbrev pub AsksAt : Result Address PieceFault → List Header → Try → Type 0
AsksAt (Err fault) headers t = (t.dials ≡ []) × (t.talks ≡ [])
AsksAt (Ok to) headers t = AskedOnce to headers t ⊎ AskedNothing to t

-- what a try of this piece asked
abbrev pub Asks : Piece → Try → Type 0
Asks piece t = AsksAt (address piece.url) piece.headers.items t

-- What is known after a try: where nothing was asked, what was known before; where no call failed, that, or the total that the verdict on its reply told, if none was
-- known; where a call failed behind the request, one or the other.
pub record Knows (t : Try) (known : Option ℕ) : Type 0 where
  pub unasked : t.talks ≡ [] → known ≡ t.known
  pub judged : IsTrue (is_judged t.gave) → (talk : Talk) (verdict : Verdict) → t.talks ≡ talk ∷ [] → IsVerdict t.from t.known talk.reply verdict → known ≡ option_or t.known verdict.told
  pub asked : (talk : Talk) (verdict : Verdict) → t.talks ≡ talk ∷ [] → IsVerdict t.from t.known talk.reply verdict → (known ≡ t.known) ⊎ (known ≡ option_or t.known verdict.told)

-- The replies of these tries are truthful of these bytes.
abbrev pub AreTruthful : Option Bytes → List Try → Type 0
AreTruthful all tries = All (λ (t : Try). All (λ (talk : Talk). IsTruthful all t.from talk.reply) t.talks) tries
