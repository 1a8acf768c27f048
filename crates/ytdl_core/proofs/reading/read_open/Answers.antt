use Rattle.std.proofs.Common.{◌<◌, length, length-take, arith}
use Rattle.ytdl_core.proofs.ReadingLemmas.{read_to_end, read_to_limit}
use Rattle.ytdl_core.proofs.reading.read_open.Goals as goal

pub returns-then-count-eq0-clause-bytes : goal.returns-then-count-eq0-clause-bytes
returns-then-count-eq0-clause-bytes g c =
    let same = c.read.auto.buf in
    let least = c.min-room.ensures in
    let room : 0 < length c.read.new.buf = omega (arith, length-take c.min-room.result c.reads.buffer, c.len-in-reads.ensures) in
    read_to_end 67108865 (g.I.InfoSource.left c.args.info.now) (g.I.InfoSource.left c.reads.info) (g.I.InfoSource.left c.read.new.self)
    c.reads.bytes.items c.read.new.buf c.in-Ok.count c.reads.invariant.most c.reads.invariant.bytes
    c.in-Ok.ensures.bytes.0 c.in-Ok.ensures.bytes.1 c.if-count-eq0.true room

pub returns-clause-bytes : goal.returns-clause-bytes
returns-clause-bytes g c =
    read_to_limit 67108865 (g.I.InfoSource.left c.args.info.now) (g.I.InfoSource.left c.reads.info) c.reads.bytes.items (omega arith) c.reads.invariant.bytes
