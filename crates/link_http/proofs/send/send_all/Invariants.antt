use Rattle.std.proofs.Common.{◌≡◌, ◌≤◌, ◌<◌, ◌-◌, length}
use Rattle.std.specs.Prelude.{ℕ, false, IsSome, IsTrue, Some}
use Rattle.link_http.specs.Request.{Place}
use Rattle.link_http.specs.Wire.{Counts}
use Rattle.link_http.specs.Sending.{fresh, Partly, Asked}
use Rattle.link_http.proofs.send.send_all.Given as goal

abbrev pub invariant-loop-at : goal.invariant-loop-at
invariant-loop-at g l =
    let wire = g.D.Dialer.wire in
    record {
      connected : IsSome (wire l.dialer).line;
      within : l.at ≤ length l.text;
      counts : Counts (wire l.fn.dialer) (wire l.dialer) false;
      partly : IsTrue (wire l.dialer).tells → (place : Place) (dial : ℕ) → (wire l.fn.dialer).line ≡ Some (fresh place dial)
          → l.at < length l.text → Partly place dial l.text l.at (wire l.fn.dialer) (wire l.dialer);
      asked : IsTrue (wire l.dialer).tells → (place : Place) (dial : ℕ) → (wire l.fn.dialer).line ≡ Some (fresh place dial)
          → length l.text ≤ l.at → Asked place dial l.text (wire l.fn.dialer) (wire l.dialer);
    }

abbrev pub decreases-loop-at : goal.decreases-loop-at
decreases-loop-at g l = length l.text - l.at
