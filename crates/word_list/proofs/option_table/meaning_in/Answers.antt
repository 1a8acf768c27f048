use Rattle.word_list.proofs.TableLemmas.{meaning_plain}
use Rattle.word_list.proofs.option_table.meaning_in.Goals as goal

pub returns-in-Some : goal.returns-in-Some
returns-in-Some c = rw (meaning_plain c.args.rows.now c.args.name.now, ← c.in-Some.ensures)

pub returns-in-None : goal.returns-in-None
returns-in-None c = rw (meaning_plain c.args.rows.now c.args.name.now, ← c.in-None.ensures)
