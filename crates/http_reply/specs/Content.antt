-- What the body of a reply contains, and how it stops.
use Rattle.std.specs.Prelude.{ℕ, List, [], ◌++◌, take, length, if◌then◌else◌, nat_le}
use Rattle.http_reply.specs.declared.stop.Stop.{Stop}
use Rattle.http_reply.specs.declared.stop.Stop.TheVariants.{Last, Cut}

-- the bytes of a body, and how it stops
pub record Content : Type 0 where
  pub bytes : List ℕ
  pub stop : Stop

-- no bytes
abbrev pub stopped : Stop → Content
stopped stop = record { bytes = []; stop = stop }

-- these bytes, and then the content
abbrev pub behind : List ℕ → Content → Content
behind bytes content = record { bytes = bytes ++ content.bytes; stop = content.stop }

-- a body of n bytes, at the front of what follows the head
abbrev pub sized : ℕ → List ℕ → Content
sized n rest = record { bytes = take n rest; stop = if nat_le n (length rest) then Last else Cut }
