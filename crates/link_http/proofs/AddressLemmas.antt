-- Where a URL leads.
use Rattle.std.proofs.Common.{◌≡◌, ℕ, ◌<◌, ◌≤◌, ◌⊎◌, List, length, refl, ap, Err, inl, inr}
use Rattle.std.specs.Prelude.{None}
use Rattle.std.proofs.lemmas.Bool.{lt-leb, le-leb}
use Rattle.url.specs.declared.error.ParseError.{ParseError}
use Rattle.url.specs.Parts.{Parts}
use Rattle.url.specs.Parser.{Parsed, parse_url, IsOutOfRoom}
use Rattle.http_reply.specs.declared.piece_fault.PieceFault.{PieceFault}
use Rattle.http_reply.specs.declared.piece_fault.PieceFault.TheVariants.{Url, OutOfMemory}
use Rattle.link_http.specs.Request.{address, address_of}

pub address_long : (text : List ℕ) → 268435456 < length text → address text ≡ Err Url
unfolding address
address_long text long = let over = lt-leb (length text) 268435456 long in rw over refl

pub address_read : (text : List ℕ) (parsed : Parsed Parts) → length text ≤ 268435456 → parse_url None text ≡ parsed → address text ≡ address_of parsed
unfolding address
address_read text parsed fits is = let within = le-leb (length text) 268435456 fits in rw within (ap address_of is)

pub address_refused : (text : List ℕ) (error : ParseError) (fault : PieceFault) → length text ≤ 268435456
    → (parse_url None text ≡ Err error) ⊎ IsOutOfRoom error
    → (fault ≡ OutOfMemory) ⊎ ((fault ≡ Url) × (IsOutOfRoom error → ⊥))
    → (fault ≡ OutOfMemory) ⊎ ((fault ≡ Url) × (address text ≡ Err Url))
address_refused text error fault fits gives (inl memory) = inl memory
address_refused text error fault fits (inl is) (inr said) = inr (said.0, address_read text (Err error) fits is)
address_refused text error fault fits (inr room) (inr said) = absurd (said.1 room)
