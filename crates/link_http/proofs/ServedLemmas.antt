-- A dialer in memory serves its world.
use Rattle.std.proofs.Common.{◌≡◌, ◌^◌, ℕ, zero, suc, ◌<◌, ◌≤◌, List, [], ◌∷◌, ◌++◌, length, get_or, refl, sym, ap, ◌∙◌, subst, arith, true, inl, inr, Ok, Bor}
use Rattle.std.specs.Prelude.{Bool, ◌&&◌, ◌==◌, IsTrue, All, bytes_eq, Option, Some, None, Result, option_map, unwrap_or}
use Rattle.std.specs.List.{find}
use Rattle.std.proofs.lemmas.Bool.{cases_Bool, and_parts}
use Rattle.std.proofs.lemmas.Slice.Eq.{bytes_eq-Decides}
use Rattle.std.proofs.lemmas.Bool.Decides.{Decides-eqb}
use Rattle.url.proofs.InputLemmas.{All_from_list_all}
use Rattle.http_reply.specs.declared.piece_fault.PieceFault.{PieceFault}
use Rattle.http_reply.specs.Truth.{IsHonest}
use Rattle.link_http.specs.declared.mem_line.MemLine.{MemLine}
use Rattle.link_http.specs.declared.resource.Resource.{Resource}
use Rattle.link_http.specs.declared.turn.Turn.{Turn}
use Rattle.link_http.specs.declared.turn.Turn.TheVariants.{Honest, Whole, Cut, Status, Raw, DialFails, SendFails, RecvFails}
use Rattle.link_http.specs.Asked.{get_line, is_line, asked_from}
use Rattle.link_http.specs.Replies.{reply_of}
use Rattle.link_http.specs.Turns.{is_whole, plans_whole_replies, turn_at}
use Rattle.link_http.specs.Request.{Address}
use Rattle.link_http.specs.Sending.{IsClean, is_clean}
use Rattle.link_http.specs.Wire.{IsServed}
use Rattle.link_http.specs.Memory.{place_of, leads_to, world_at, asks_for, asked_bytes, reply_at}
use Rattle.link_http.proofs.HonestHeadLemmas.{whole_honest, reply_honest}
use Rattle.link_http.proofs.AskedLemmas.{begins_same, asked_from_request, request_begins}

-- ---- the turn

whole_at : (script : List Turn) (n : ℕ) → plans_whole_replies script ≡ true → is_whole (get_or script n Honest) ≡ true
whole_at [] n all = refl
whole_at (turn ∷ script) zero all = (and_parts _ _ all).0
whole_at (turn ∷ script) (suc n) all = whole_at script n (and_parts _ _ all).1

turn_whole : (script : List Turn) (n : ℕ) → plans_whole_replies script ≡ true → is_whole (turn_at script n) ≡ true
turn_whole script n all = whole_at script n all

turn_honest : (turn : Turn) (bytes : List ℕ) (from : ℕ) → is_whole turn ≡ true → from ≤ length bytes → length bytes < 2 ^ 64
    → IsHonest bytes from (reply_of turn (Some bytes) from)
turn_honest Honest bytes from is within fits = reply_honest bytes from within fits
turn_honest Whole bytes from is within fits = whole_honest bytes from fits
turn_honest (Cut n) bytes from is within fits = absurd (cc)
turn_honest (Status code) bytes from is within fits = absurd (cc)
turn_honest (Raw reply) bytes from is within fits = absurd (cc)
turn_honest DialFails bytes from is within fits = reply_honest bytes from within fits
turn_honest SendFails bytes from is within fits = reply_honest bytes from within fits
turn_honest (RecvFails n) bytes from is within fits = reply_honest bytes from within fits

-- what a turn that may be lent is, or the one instead
pub lent_or : (turn : Option (Bor Turn)) (instead : Bor Turn) → (unwrap_or turn instead).now ≡ unwrap_or (option_map (λ (t : Bor Turn). t.now) turn) instead.now
lent_or (Some turn) instead = refl
lent_or None instead = refl

-- ---- the resource

-- what is known of the resource that an URL of the world has
record Found (to : Address) (bytes : List ℕ) : Type 0 where
  line : is_line (get_line to.target) ≡ true
  host : All IsClean to.place.host
  port : to.place.port < 2 ^ 64
  small : length bytes < 2 ^ 64

found_one : (to : Address) (r : Resource) (bytes : List ℕ) → leads_to (Ok to) r ≡ true → r.bytes.items ≡ bytes → Found to bytes
found_one to r bytes leads is =
    let both = and_parts _ _ leads in
    let places = and_parts _ _ both.0 in
    let host : r.dial.host ≡ to.place.host = (bytes_eq-Decides r.dial.host to.place.host).0 places.0 in
    let port : r.dial.port ≡ to.place.port = (Decides-eqb r.dial.port to.place.port).0 places.1 in
    let line : r.line.items ≡ get_line to.target = (bytes_eq-Decides r.line.items (get_line to.target)).0 both.1 in
    record {
      line = subst (λ (l : List ℕ). is_line l ≡ true) line r.one_line;
      host = subst (All IsClean) host (All_from_list_all is_clean r.dial.host r.host);
      port = omega (arith, port, r.dial.fits);
      small = subst (λ (l : List ℕ). length l < 2 ^ 64) is (omega (arith, r.bytes.ok.0, r.bytes.ok.1, r.bytes.small));
    }

found : (resources : List Resource) (to : Address) (bytes : List ℕ)
    → option_map (λ (r : Resource). r.bytes.items) (find (leads_to (Ok to)) resources) ≡ Some bytes → Found to bytes
found [] to bytes there = absurd (cc)
found (r ∷ resources) to bytes there =
    elim (cases_Bool (leads_to (Ok to) r)) [
      | inl leads ↦ let same : Some r.bytes.items ≡ Some bytes = rw leads at there in found_one to r bytes leads (cc)
      | inr not_ ↦ found resources to bytes (rw not_ at there)
    ]

-- A request at the address asks for just what leads there.
asks_leads : (to : Address) (text rest : List ℕ) (r : Resource) → is_line (get_line to.target) ≡ true → text ≡ get_line to.target ++ rest
    → asks_for to.place text r ≡ leads_to (Ok to) r
asks_leads to text rest r one is =
    ap (λ (b : Bool). bytes_eq r.dial.host to.place.host && r.dial.port == to.place.port && b) (begins_same text (get_line to.target) rest r.line.items one r.one_line is)

asked_there : (resources : List Resource) (to : Address) (text rest : List ℕ) → is_line (get_line to.target) ≡ true → text ≡ get_line to.target ++ rest
    → asked_bytes resources to.place text ≡ option_map (λ (r : Resource). r.bytes.items) (find (leads_to (Ok to)) resources)
asked_there resources to text rest one is =
    ap (λ (test : Resource → Bool). option_map (λ (r : Resource). r.bytes.items) (find test resources)) (λ i. λ (r : Resource). asks_leads to text rest r one is i)

-- ---- the reply

-- Where each turn gives whole replies, each request is served.
pub served : (script : List Turn) (resources : List Resource) (old : MemLine) (text : List ℕ) → IsTrue (plans_whole_replies script)
    → IsServed (world_at resources) (place_of old.dial) text (reply_at script resources old text)
served script resources old text all url target headers from bytes leads is there within =
    let place = place_of old.dial in
    let to : Address = record { place = place; target = target } in
    let there' : option_map (λ (r : Resource). r.bytes.items) (find (leads_to (Ok to)) resources) ≡ Some bytes =
    ap (λ (a : Result Address PieceFault). option_map (λ (r : Resource). r.bytes.items) (find (leads_to a) resources)) (sym leads) ∙ there in
    let f = found resources to bytes there' in
    let begins = request_begins to headers from in
    let asked : asked_bytes resources place text ≡ Some bytes = asked_there resources to text begins.0 f.line (is ∙ begins.1) ∙ there' in
    let fits : from < 2 ^ 64 = omega (arith, within, f.small) in
    let place_is : asked_from text ≡ from = ap asked_from is ∙ asked_from_request to headers from f.line f.host f.port fits in
    subst (λ (o : Option (List ℕ)). IsHonest bytes from (reply_of (turn_at script old.turn) o (asked_from text))) (sym asked)
    (subst (λ (n : ℕ). IsHonest bytes from (reply_of (turn_at script old.turn) (Some bytes) n)) (sym place_is)
    (turn_honest (turn_at script old.turn) bytes from (turn_whole script old.turn all) within f.small))
