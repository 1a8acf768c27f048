use Rattle.text_base.proofs.GrammarLemmas.{number_at_front, longest_front}
use Rattle.text_base.proofs.num_laws.longest_number_at_front.Goals as goal

pub returns-clause-is_number : goal.returns-clause-is_number
returns-clause-is_number c = number_at_front c.args._bytes.now

pub returns-clause-is_longest : goal.returns-clause-is_longest
returns-clause-is_longest c = longest_front c.args._bytes.now
