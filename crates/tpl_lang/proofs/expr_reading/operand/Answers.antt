use Rattle.tpl_lang.proofs.CutLemmas.{number_boundary}
use Rattle.tpl_lang.proofs.expr_reading.operand.Goals as goal

pub split_at-requires : goal.split_at-requires
split_at-requires c = rw c.number_len-len.ensures (number_boundary c.args.text.now c.utf8.text)
