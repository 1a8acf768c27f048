use Rattle.std.proofs.Common.{◌∙◌}
use Rattle.word_list.proofs.TableLemmas.{named_plain}
use Rattle.word_list.proofs.entries.is_one_of.Goals as goal

pub returns : goal.returns
returns c = c.has_name.ensures ∙ named_plain c.args.text.now c.args.names.now
