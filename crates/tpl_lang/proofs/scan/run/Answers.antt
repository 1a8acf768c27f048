use Rattle.tpl_lang.proofs.CutLemmas.{class_boundary}
use Rattle.tpl_lang.proofs.scan.run.Goals as goal

pub split_at-requires : goal.split_at-requires
split_at-requires c = rw c.run_len.ensures.len (class_boundary c.args.class c.args.text.now c.utf8.text)
