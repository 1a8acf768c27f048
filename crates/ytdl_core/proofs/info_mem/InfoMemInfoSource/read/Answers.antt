use Rattle.std.proofs.Common.{◌≡◌}
use Rattle.ytdl_core.proofs.MemoryLemmas.{read_step}
use Rattle.ytdl_core.proofs.info_mem.InfoMemInfoSource.read.Goals as goal

pub returns-clause-bytes : goal.returns-clause-bytes
returns-clause-bytes c =
    let source = c.args.self.now in
    let n = c.min-count.result in
    let is : c.deref.result.now ≡ source.bytes.items = c.deref.ensures.value in
    read_step source.bytes.items c.args.buf.now c.copy_from_slice.new.self source.at n source.inside
    (rw is at c.min-count.ensures) (rw is at c.copy_from_slice.ensures.after)
