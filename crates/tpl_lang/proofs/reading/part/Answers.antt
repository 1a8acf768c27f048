use Rattle.tpl_lang.proofs.CutLemmas.{plain_boundary}
use Rattle.tpl_lang.proofs.reading.part.Goals as goal

pub split_at-requires : goal.split_at-requires
split_at-requires c = rw c.plain_len.ensures (plain_boundary c.args.text.now)
