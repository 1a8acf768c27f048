-- The world of a dialer in memory, and what of it is asked.
use Rattle.std.proofs.Common.{◌≡◌, ℕ, ◌+◌, ◌<◌, ◌≤◌, List, [], ◌∷◌, ◌++◌, length, drop, get_or, refl, sym, ap, ◌∙◌, add-one, drop-cons, true, false, inl, inr, Ok, Err}
use Rattle.std.specs.Prelude.{Bool, ◌&&◌, ◌==◌, bytes_eq, codes, Option, Some, None, Result}
use Rattle.std.specs.Option.{option_or}
use Rattle.std.proofs.lemmas.Bool.{cases_Bool}
use Rattle.std.proofs.lemmas.List.{drop_all, append_cancel_right}
use Rattle.std.proofs.lemmas.Slice.Eq.{bytes_eq-Decides}
use Rattle.httparse.specs.Ascii.{crlf_bytes}
use Rattle.http_reply.specs.declared.piece_fault.PieceFault.{PieceFault}
use Rattle.link_http.specs.declared.page.Page.{Page}
use Rattle.link_http.specs.declared.resource.Resource.{Resource}
use Rattle.link_http.specs.Asked.{get_line}
use Rattle.link_http.specs.Request.{Address, Place, address}
use Rattle.link_http.specs.Memory.{lead_alike, leads_to, world_at, world_of, asks_for, asked_bytes, IsPlaced}

-- ---- the first resource that is asked

pub asked_here : (resources : List Resource) (place : Place) (text : List ℕ) (i : ℕ) (r : Resource) → i < length resources
    → r ≡ get_or resources i r → asks_for place text r ≡ true → asked_bytes (drop i resources) place text ≡ Some r.bytes.items
asked_here resources place text i r within is asks = rw (drop-cons resources i r within, sym is, asks) refl

pub asked_further : (resources : List Resource) (place : Place) (text : List ℕ) (i : ℕ) (r : Resource) → i < length resources
    → r ≡ get_or resources i r → asks_for place text r ≡ false
    → asked_bytes (drop i resources) place text ≡ asked_bytes (drop (i + 1) resources) place text
asked_further resources place text i r within is not_ = rw (add-one, drop-cons resources i r within, sym is, not_) refl

pub asked_nowhere : (resources : List Resource) (place : Place) (text : List ℕ) (i : ℕ) → length resources ≤ i
    → asked_bytes (drop i resources) place text ≡ None
asked_nowhere resources place text i past = rw (drop_all i resources past) refl

-- ---- the resources of pages

get_same : (a b : List ℕ) → bytes_eq (get_line a) (get_line b) ≡ bytes_eq a b
get_same a b =
    let lines = bytes_eq-Decides (get_line a) (get_line b) in
    let texts = bytes_eq-Decides a b in
    elim (cases_Bool (bytes_eq a b)) [
      | inl same ↦ lines.1 (ap get_line (texts.0 same)) ∙ sym same
      | inr other ↦
          elim (cases_Bool (bytes_eq (get_line a) (get_line b))) [
            | inl is ↦
                let behind : a ++ codes " HTTP/1.1" ++ crlf_bytes ≡ b ++ codes " HTTP/1.1" ++ crlf_bytes = ap (drop 4) (lines.0 is) in
                let whole : a ≡ b = append_cancel_right a b (codes " HTTP/1.1") (append_cancel_right _ _ crlf_bytes behind) in
                let t : bytes_eq a b ≡ true = texts.1 whole in
                absurd (cc)
            | inr not_ ↦ not_ ∙ sym other
          ]
    ]

leads_same : (a b : Result Address PieceFault) (bytes : List ℕ) (r : Resource) → IsPlaced a bytes (Some r) → leads_to b r ≡ lead_alike a b
leads_same (Ok x) (Ok y) bytes r placed =
    let host : r.dial.host ≡ x.place.host = ap (λ (p : Place). p.host) placed.0 in
    let port : r.dial.port ≡ x.place.port = ap (λ (p : Place). p.port) placed.0 in
    rw (host, port, placed.1) (ap (λ (b : Bool). bytes_eq x.place.host y.place.host && x.place.port == y.place.port && b) (get_same x.target y.target))
leads_same (Ok x) (Err e) bytes r placed = refl
leads_same (Err e) b bytes r placed = absurd placed

leads_nowhere : (a b : Result Address PieceFault) (bytes : List ℕ) → IsPlaced a bytes None → lead_alike a b ≡ false
leads_nowhere (Ok x) b bytes placed = absurd placed
leads_nowhere (Err e) (Ok y) bytes placed = refl
leads_nowhere (Err e) (Err f) bytes placed = refl

bytes_same : (a : Result Address PieceFault) (bytes : List ℕ) (r : Resource) → IsPlaced a bytes (Some r) → r.bytes.items ≡ bytes
bytes_same (Ok x) bytes r placed = placed.2
bytes_same (Err e) bytes r placed = absurd placed

at_push : (resources : List Resource) (r : Resource) (url : List ℕ)
    → world_at (resources ++ r ∷ []) url ≡ option_or (world_at resources url) (world_at (r ∷ []) url)
at_push [] r url = refl
at_push (s ∷ resources) r url =
    elim (cases_Bool (leads_to (address url) s)) [
      | inl is ↦ rw is refl
      | inr not_ ↦ rw not_ (at_push resources r url)
    ]

of_push : (pages : List Page) (page : Page) (url : List ℕ)
    → world_of (pages ++ page ∷ []) url ≡ option_or (world_of pages url) (world_of (page ∷ []) url)
of_push [] page url = refl
of_push (p ∷ pages) page url =
    elim (cases_Bool (lead_alike (address p.url) (address url))) [
      | inl is ↦ rw is refl
      | inr not_ ↦ rw not_ (of_push pages page url)
    ]

one_same : (page : Page) (r : Resource) (url : List ℕ) → IsPlaced (address page.url) page.bytes.items (Some r)
    → world_at (r ∷ []) url ≡ world_of (page ∷ []) url
one_same page r url placed =
    let same = leads_same (address page.url) (address url) page.bytes.items r placed in
    elim (cases_Bool (lead_alike (address page.url) (address url))) [
      | inl is ↦ rw (same, is) (ap Some (bytes_same (address page.url) page.bytes.items r placed))
      | inr not_ ↦ rw (same, not_) refl
    ]

or_none : (o : Option (List ℕ)) → option_or o None ≡ o
or_none (Some x) = refl
or_none None = refl

-- A page more, and its resource.
pub world_more : (resources : List Resource) (pages : List Page) (page : Page) (r : Resource)
    → ((url : List ℕ) → world_at resources url ≡ world_of pages url) → IsPlaced (address page.url) page.bytes.items (Some r)
    → (url : List ℕ) → world_at (resources ++ r ∷ []) url ≡ world_of (pages ++ page ∷ []) url
world_more resources pages page r so placed url =
    at_push resources r url ∙ ap (λ (o : Option (List ℕ)). option_or o (world_at (r ∷ []) url)) (so url)
    ∙ ap (λ (o : Option (List ℕ)). option_or (world_of pages url) o) (one_same page r url placed) ∙ sym (of_push pages page url)

-- A page more, whose URL leads nowhere.
pub world_still : (resources : List Resource) (pages : List Page) (page : Page)
    → ((url : List ℕ) → world_at resources url ≡ world_of pages url) → IsPlaced (address page.url) page.bytes.items None
    → (url : List ℕ) → world_at resources url ≡ world_of (pages ++ page ∷ []) url
world_still resources pages page so placed url =
    so url ∙ sym (or_none (world_of pages url))
    ∙ ap (λ (o : Option (List ℕ)). option_or (world_of pages url) o)
    (let none = leads_nowhere (address page.url) (address url) page.bytes.items placed in rw none refl)
    ∙ sym (of_push pages page url)

lead_nowhere : (a b : Result Address PieceFault) (e : PieceFault) → b ≡ Err e → lead_alike a b ≡ false
lead_nowhere (Ok x) (Ok y) e is = absurd (cc)
lead_nowhere (Ok x) (Err f) e is = refl
lead_nowhere (Err f) b e is = refl

nothing_there : (pages : List Page) (url : List ℕ) (e : PieceFault) → address url ≡ Err e → world_of pages url ≡ None
nothing_there [] url e is = refl
nothing_there (page ∷ pages) url e is =
    rw (lead_nowhere (address page.url) (address url) e is) (nothing_there pages url e is)

leads_by : (a : Result Address PieceFault) (pages : List Page) (url bytes : List ℕ) → address url ≡ a → world_of pages url ≡ Some bytes
    → (to : Address) × (address url ≡ Ok to)
leads_by (Ok to) pages url bytes is there = (to, is)
leads_by (Err e) pages url bytes is there = let none : world_of pages url ≡ None = nothing_there pages url e is in absurd (cc)

-- An URL of the world leads somewhere.
pub world_leads : (pages : List Page) (url bytes : List ℕ) → world_of pages url ≡ Some bytes → (to : Address) × (address url ≡ Ok to)
world_leads pages url bytes there = leads_by (address url) pages url bytes refl there
