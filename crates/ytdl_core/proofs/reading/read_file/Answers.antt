use Rattle.ytdl_core.proofs.ReadingLemmas.{opened_file}
use Rattle.ytdl_core.proofs.reading.read_file.Goals as goal

pub returns-in-Ok-clause-bytes : goal.returns-in-Ok-clause-bytes
returns-in-Ok-clause-bytes g c =
    opened_file c.read_open.result (g.I.InfoSource.file c.args.info.now) (g.I.InfoSource.left c.open.new.self)
    (g.I.InfoSource.left c.read_open.new.info) c.in-Ok.ensures.left c.read_open.ensures.bytes
