use Rattle.word_list.specs.OptionTable.{table, meaning_of}
use Rattle.word_list.proofs.option_table.meaning_of.Goals as goal

pub returns : goal.returns
unfolding table meaning_of
returns c = c.meaning_in.ensures
