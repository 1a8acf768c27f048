use Rattle.std.proofs.Common.{sym, ◌∙◌}
use Rattle.job_names.proofs.NamingLemmas.{tail_not, tail_there}
use Rattle.job_names.proofs.naming.split_at_tail.Goals as goal

pub returns-in_default : goal.returns-in_default
returns-in_default c = tail_not c.args.name.now c.args.tail.now c.in_default.ensures.cases

pub returns-then-begins_a_name : goal.returns-then-begins_a_name
returns-then-begins_a_name c =
    let h = c.in-Some.ensures.cases in
    tail_there c.args.name.now c.args.tail.now c.in-Some.stem.now h.0 h.1.0 h.1.1 h.2 h.3 (sym c.begins_a_name.ensures ∙ c.if-begins_a_name.true)
