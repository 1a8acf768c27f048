-- A dialer in memory, as a dialer and by its plan.
use Rattle.std.specs.Prelude.{◌≡◌, ◌≢◌, ℕ, ◌+◌, List, length, Option, option_map, unwrap_or, Result, Ok, Err, OnOk, is_err, ⊤}
use Rattle.text_base.specs.declared.faults.Failed.{Failed}
use Rattle.text_base.specs.declared.faults.FolderFault.{FolderFault}
use Rattle.text_base.specs.declared.faults.FolderFault.TheVariants.{OutOfMemory}
use Rattle.http_reply.specs.Chunked.{capped}
use Rattle.link_http.specs.declared.dialer_mem.DialerMem.{DialerMem}
use Rattle.link_http.specs.declared.turn.Turn.{Turn}
use Rattle.link_http.specs.Memory.{wire_by, world_at}
use Rattle.link_http.specs.Turns.{turn_at, plans_no_fault, plans_whole_replies, fails_dial, fails_send, fails_recv}
use Rattle.link_http.specs.Wire.{Wire, has_failed}

-- what a dialer in memory tells
abbrev pub wire_of : DialerMem → Wire
wire_of d =
    wire_by (plans_no_fault d.script.items) (plans_whole_replies d.script.items) (world_at d.resources.items) d.faults d.dials.items d.talks.items d.line

-- its script
abbrev pub script_of : DialerMem → List Turn
script_of d = d.script.items

-- the turn of the connection that stands: that of the number of its dial
abbrev pub turn_of : DialerMem → Turn
turn_of d = turn_at d.script.items (unwrap_or (option_map (λ line. line.turn) d.line) 0)

-- how many calls of `send` the connection that stands had
abbrev pub sends_of : DialerMem → ℕ
sends_of d = unwrap_or (option_map (λ line. line.sends) d.line) 0

-- how many calls of `recv` it had
abbrev pub receives_of : DialerMem → ℕ
receives_of d = unwrap_or (option_map (λ line. line.receives) d.line) 0

-- A dial takes the turn of its number, and fails just where this is planned, but where memory is refused. Its connection
-- had no calls.
pub record DialsByPlan (old new : DialerMem) (result : Result ⊤ FolderFault) : Type 0 where
  pub script : script_of new ≡ script_of old
  pub planned : result ≢ Err OutOfMemory → has_failed result ≡ fails_dial (turn_at (script_of old) (length (wire_of old).dials))
  pub turn : OnOk result (turn_of new ≡ turn_at (script_of old) (length (wire_of old).dials))
  pub calls : OnOk result ((sends_of new ≡ 0) × (receives_of new ≡ 0))

-- A `send` fails just where its turn plans it, but where memory is refused, and is counted.
pub record SendsByPlan (old new : DialerMem) (result : Result ℕ FolderFault) : Type 0 where
  pub script : script_of new ≡ script_of old
  pub planned : result ≢ Err OutOfMemory → has_failed result ≡ fails_send (turn_of old) (sends_of old)
  pub turn : turn_of new ≡ turn_of old
  pub sends : sends_of new ≡ capped (sends_of old + 1)
  pub receives : receives_of new ≡ receives_of old

-- A `recv` fails just where its turn plans it, and is counted.
pub record HearsByPlan (old new : DialerMem) (result : Result ℕ Failed) : Type 0 where
  pub script : script_of new ≡ script_of old
  pub planned : is_err result ≡ fails_recv (turn_of old) (receives_of old)
  pub turn : turn_of new ≡ turn_of old
  pub sends : sends_of new ≡ sends_of old
  pub receives : receives_of new ≡ capped (receives_of old + 1)
