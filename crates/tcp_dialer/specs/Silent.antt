-- A dialer that tells nothing.
use Rattle.std.specs.Prelude.{ℕ, Bool, false, [], None, Some, if◌then◌else◌}
use Rattle.link_http.specs.Wire.{Wire}

-- only its count is told, and whether a connection stands
abbrev pub silent : ℕ → Bool → Wire
silent faults stands = record {
  tells = false;
  faults = faults;
  steady = false;
  serves = false;
  world = λ url. None;
  dials = [];
  talks = [];
  line = if stands then Some (record { place = record { host = []; port = 0 }; dial = 0; sent = []; left = [] }) else None;
}
