use Rattle.std.proofs.Common.{◌≡◌, ◌≤◌, ◌+◌, ◌-◌, length, ◌++◌}
use Rattle.std.specs.Prelude.{IsSome, IsTrue, false, if◌then◌else◌}
use Rattle.http_reply.specs.Heads.{heads_room, fields_room, Heads, HeadsEnd}
use Rattle.link_http.specs.HeadLines.{Looked}
use Rattle.link_http.specs.Wire.{Counts, AsksNothing, left}
use Rattle.link_http.proofs.reply_heads.read_heads.Given as goal

abbrev pub invariant-heads : goal.invariant-heads
invariant-heads g l =
    let wire = g.D.Dialer.wire in
    let reply = left (wire l.fn.dialer) in
    record {
      connected : IsSome (wire l.dialer).line;
      within : l.at ≤ length l.window.bytes;
      fits : length l.window.bytes ≤ heads_room;
      room : l.window.room ≡ l.fn.window.room;
      looked : Looked l.lines l.window.bytes;
      counts : Counts (wire l.fn.dialer) (wire l.dialer) false;
      asks : IsTrue (wire l.dialer).tells → AsksNothing (wire l.fn.dialer) (wire l.dialer);
      came : IsTrue (wire l.dialer).tells → l.window.bytes ++ left (wire l.dialer) ≡ reply;
      over : IsTrue (wire l.dialer).tells → IsTrue l.ended → l.window.bytes ≡ reply;
      heads : IsTrue (wire l.dialer).tells → (ending : HeadsEnd) → Heads reply l.at ending → Heads reply 0 ending;
    }

abbrev pub decreases-heads : goal.decreases-heads
decreases-heads g l = (heads_room - length l.window.bytes) + (heads_room - l.at) + (if l.ended then 0 else 1) + (fields_room - length l.headers.items)
