use Rattle.std.proofs.Common.{sym, drop, ◌∙◌}
use Rattle.text_base.specs.Spelling.{is_digit}
use Rattle.read_base.proofs.StepLemmas.{run_all}
use Rattle.tpl_lang.proofs.CutLemmas.{align_boundary}
use Rattle.tpl_lang.proofs.field_reading.aligned.Goals as goal

pub split_at-requires : goal.split_at-requires
split_at-requires c = align_boundary c.args.text.now c.in-Some.align c.utf8.text (sym c.align_of.ensures ∙ c.in-Some.is)

pub count_of-width-requires-clause-digits : goal.count_of-width-requires-clause-digits
count_of-width-requires-clause-digits c = rw (c.run.ensures.front, c.split_at.ensures.back) (run_all is_digit (drop 1 c.args.text.now))
