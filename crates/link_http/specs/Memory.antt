-- What a dialer in memory tells.
use Rattle.std.specs.Prelude.{◌≡◌, ℕ, Bool, true, false, ◌&&◌, ◌==◌, IsTrue, List, [], ◌∷◌, ◌++◌, map, drop, Option, Some, None, option_map, Result, Ok, Err, nat_eq, bytes_eq, if◌then◌else◌}
use Rattle.std.specs.List.{find, filter, starts_with}
use Rattle.std.specs.Str.{is_utf8}
use Rattle.link_http.specs.declared.page.Page.{Page}
use Rattle.link_http.specs.declared.resource.Resource.{Resource}
use Rattle.link_http.specs.declared.turn.Turn.{Turn}
use Rattle.link_http.specs.declared.mem_line.MemLine.{MemLine}
use Rattle.link_http.specs.declared.mem_talk.MemTalk.{MemTalk}
use Rattle.link_http.specs.declared.mem_dial.MemDial.{MemDial}
use Rattle.http_reply.specs.declared.piece_fault.PieceFault.{PieceFault}
use Rattle.link_http.specs.Request.{Address, Place, address}
use Rattle.link_http.specs.Wire.{World, Wire, Talk, Connection, IsServed}
use Rattle.link_http.specs.Asked.{get_line, asked_from}
use Rattle.link_http.specs.Turns.{turn_at, plans_whole_replies}
use Rattle.link_http.specs.Replies.{reply_of}

-- two URLs have one address
abbrev pub lead_alike : Result Address PieceFault → Result Address PieceFault → Bool
lead_alike (Ok a) (Ok b) = bytes_eq a.place.host b.place.host && a.place.port == b.place.port && bytes_eq a.target b.target
lead_alike (Ok a) (Err e) = false
lead_alike (Err e) b = false

-- the world of some pages: an URL has the bytes of the first page that has its address
abbrev pub world_of : List Page → World
world_of [] url = None
world_of (page ∷ pages) url = if lead_alike (address page.url) (address url) then Some page.bytes.items else world_of pages url

-- the place that was dialed
abbrev pub place_of : MemDial → Place
place_of dial = record { host = dial.host; port = dial.port }

-- the resource of an address
abbrev pub leads_to : Result Address PieceFault → Resource → Bool
leads_to (Ok to) r = bytes_eq r.dial.host to.place.host && r.dial.port == to.place.port && bytes_eq r.line.items (get_line to.target)
leads_to (Err e) r = false

-- the bytes of the first resource of an address
abbrev pub world_at : List Resource → World
world_at resources url = option_map (λ r. r.bytes.items) (find (leads_to (address url)) resources)

-- a request at a place asks for a resource: it begins with its line
abbrev pub asks_for : Place → List ℕ → Resource → Bool
asks_for place text r = bytes_eq r.dial.host place.host && r.dial.port == place.port && starts_with nat_eq text r.line.items

-- the bytes of the first resource that is asked
abbrev pub asked_bytes : List Resource → Place → List ℕ → Option (List ℕ)
asked_bytes resources place text = option_map (λ r. r.bytes.items) (find (asks_for place text) resources)

-- the resource of a page: none where its URL leads nowhere
abbrev pub IsPlaced : Result Address PieceFault → List ℕ → Option Resource → Type 0
IsPlaced (Ok to) bytes (Some r) = (place_of r.dial ≡ to.place) × (r.line.items ≡ get_line to.target) × (r.bytes.items ≡ bytes)
IsPlaced (Ok to) bytes None = ⊥
IsPlaced (Err e) bytes (Some r) = ⊥
IsPlaced (Err e) bytes None = Unit {0}

-- a talk as a wire tells it
abbrev pub talk_of : MemTalk → Talk
talk_of talk = record { place = place_of talk.dial; dial = talk.turn; request = talk.request.items; reply = talk.reply.items }

-- a connection as a wire tells it
abbrev pub connection_of : MemLine → Connection
connection_of line = record { place = place_of line.dial; dial = line.turn; sent = line.sent.items; left = drop line.at line.reply.items }

-- a dialer in memory, by its parts
abbrev pub wire_by : Bool → Bool → World → ℕ → List MemDial → List MemTalk → Option MemLine → Wire
wire_by steady serves world faults dials talks line = record {
  tells = true;
  faults = faults;
  steady = steady;
  serves = serves;
  world = world;
  dials = map place_of dials;
  talks = map talk_of talks;
  line = option_map connection_of line;
}

-- the texts of the requests that were asked, those that are UTF-8
abbrev pub asked_texts : List Talk → List (List ℕ)
asked_texts talks = filter is_utf8 (map (λ t. t.request) talks)

-- the reply to a text over a connection
abbrev pub reply_at : List Turn → List Resource → MemLine → List ℕ → List ℕ
reply_at script resources old text = reply_of (turn_at script old.turn) (asked_bytes resources (place_of old.dial) text) (asked_from text)

-- What a dialer in memory and its connection did with a text: it was asked, and has the reply that its turn gives, or it
-- goes on. Where each turn gives whole replies, the request was served.
abbrev pub SendsText : Bool → List Turn → List Resource → List ℕ → MemLine → MemLine → List MemTalk → List MemTalk → Type 0
SendsText true script resources text old new talks talks' =
    (new.sent.items ≡ []) × (map talk_of talks'
    ≡ map talk_of talks ++ record { place = place_of old.dial; dial = old.turn; request = text; reply = drop new.at new.reply.items } ∷ [])
    × (drop new.at new.reply.items ≡ reply_at script resources old text)
    × (IsTrue (plans_whole_replies script) → IsServed (world_at resources) (place_of old.dial) text (drop new.at new.reply.items))
SendsText false script resources text old new talks talks' =
    (new.sent.items ≡ text) × (drop new.at new.reply.items ≡ drop old.at old.reply.items) × (map talk_of talks' ≡ map talk_of talks)
