use Rattle.text_base.specs.Spelling.{is_digit}
use Rattle.read_base.proofs.StepLemmas.{run_all}
use Rattle.tpl_lang.proofs.field_reading.short.Goals as goal

pub count_of-requires-clause-digits : goal.count_of-requires-clause-digits
count_of-requires-clause-digits c = rw c.run.ensures.front (run_all is_digit c.args.text.now)
