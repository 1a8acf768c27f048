use Rattle.std.proofs.Common.{arith}
use Rattle.std.proofs.lemmas.Str.{len_utf8_ascii}
use Rattle.job_names.proofs.NamingLemmas.{longer_behind, longer_whole}
use Rattle.job_names.proofs.family.is_longer.Goals as goal

pub returns-in-Some : goal.returns-in-Some
returns-in-Some c =
    let h = c.in-Some.ensures.cases in
    longer_behind c.args.most c.args.name.now c.in-Some.last.now h.0 h.1 (omega (arith, h.2.1.ends, len_utf8_ascii 47 (omega arith))) (omega (arith, h.7))
    (h.2.1.byte (omega arith)) h.2.0 h.4

pub returns-in-None : goal.returns-in-None
returns-in-None c = longer_whole c.args.most c.args.name.now c.in-None.ensures.cases
