use Rattle.job_pieces.specs.Views.{plain_component}
use Rattle.job_pieces.proofs.RecordLemmas.{one_plan, lines_small}
use Rattle.job_pieces.proofs.laws.one_plan.Goals as goal

pub returns : goal.returns
returns c = λ kept also same.
    one_plan (plain_component c.args._one.now) (plain_component c.args._other.now) (lines_small c.args._one.now) (lines_small c.args._other.now) kept also same
