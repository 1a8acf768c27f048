use Rattle.std.proofs.Common.{rules}
use Rattle.tpl_eval.proofs.LimitLemmas.{limited-spaces, behind-spaces}
use Rattle.tpl_eval.proofs.limit.push_spaces.Goals as goal

pub returns-clause-text : goal.returns-clause-text
returns-clause-text c = rw (limited-spaces c.args.limit c.args.count) (search rules)

pub returns-clause-left : goal.returns-clause-left
returns-clause-left c = rw (behind-spaces c.args.limit c.args.count) (search rules)
