use Rattle.std.proofs.Common.{◌∙◌}
use Rattle.job_names.specs.Family.{is_piece_of}
use Rattle.job_names.specs.Index.{least, has_exact}
use Rattle.job_names.proofs.IndexLemmas.{first_of_two}
use Rattle.job_names.proofs.index.NameIndex.name_at.Goals as goal

pub returns : goal.returns
returns c = λ log is.
    c.least.ensures ∙ (λ i. least (c.exact_at.ensures log is i) (c.piece_at.ensures log is i))
    ∙ first_of_two (has_exact c.args.name.now) (λ names. is_piece_of names.components c.args.name.now) log is.ascending
