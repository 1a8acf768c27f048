use Rattle.std.proofs.Common.{◌≡◌, ◌≤◌, ◌-◌, length}
use Rattle.std.specs.Prelude.{true}
use Rattle.std.specs.Io.KnownBytes.{Consumes}
use Rattle.ytdl_core.proofs.reading.read_open.Given as goal

abbrev pub invariant-reads : goal.invariant-reads
invariant-reads g l = record {
  is_open : g.I.InfoSource.is_open l.info ≡ true;
  bytes : Consumes (g.I.InfoSource.left l.fn.info) (g.I.InfoSource.left l.info) l.bytes.items;
  most : length l.bytes.items ≤ 67108865;
  steady : g.I.InfoSource.is_steady l.fn.info ≡ true → g.I.InfoSource.is_steady l.info ≡ true;
  kept : g.I.InfoSource.faults l.info ≡ g.I.InfoSource.faults l.fn.info;
  room : length l.buffer ≡ 65536;
}

abbrev pub decreases-reads : goal.decreases-reads
decreases-reads g l = 67108865 - length l.bytes.items
