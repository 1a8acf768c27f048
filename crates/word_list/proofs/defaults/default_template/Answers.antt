use Rattle.word_list.proofs.DefaultLemmas.{usual_name, restricted_name}
use Rattle.word_list.proofs.defaults.default_template.Goals as goal

pub known_template-requires : goal.known_template-requires
known_template-requires c = restricted_name

pub known_template-requires-else-restricted : goal.known_template-requires-else-restricted
known_template-requires-else-restricted c = usual_name

pub returns-then-restricted : goal.returns-then-restricted
returns-then-restricted c = rw c.if-restricted.true c.known_template.ensures

pub returns-else-restricted : goal.returns-else-restricted
returns-else-restricted c = rw c.if-restricted.false c.known_template-else-restricted.ensures
