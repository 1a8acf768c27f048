use Rattle.job_turn.proofs.steps.publish.Goals as goal

pub returns : goal.returns
returns g c = record { stays = c.publish.ensures.kept; refused = c.publish.ensures.refused; calm = c.publish.ensures.calm; steady = c.publish.ensures.steady; moved = c.publish.ensures.done; moments = c.publish.ensures.any_moment }
