use Rattle.job_pieces.specs.Views.{plain_component}
use Rattle.job_pieces.proofs.RecordLemmas.{lines_kept}
use Rattle.job_pieces.proofs.laws.urls_make_lines.Goals as goal

pub returns : goal.returns
returns c = λ kept. lines_kept (plain_component c.args._component.now).pieces kept
