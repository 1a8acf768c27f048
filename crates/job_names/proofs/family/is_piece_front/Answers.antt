use Rattle.std.proofs.Common.{◌∙◌}
use Rattle.job_names.proofs.NamingLemmas.{front_begins}
use Rattle.job_names.proofs.family.is_piece_front.Goals as goal

pub returns : goal.returns
returns c = c.starts_with.ensures.value ∙ front_begins c.args.place c.args.name.now c.requires
