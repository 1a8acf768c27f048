use Rattle.folder_steps.proofs.NewFileLemmas.{publishes, replaced_ok}
use Rattle.folder_steps.proofs.RefusalLemmas.{blames_of}
use Rattle.folder_steps.proofs.replacing.publish_new.Goals as goal

pub returns-clause-moments : goal.returns-clause-moments
returns-clause-moments g c t = publishes c.args.spare.now c.args.to.now (c.publish.ensures.any_moment t)

pub returns-clause-done : goal.returns-clause-done
returns-clause-done g c t start bytes had = replaced_ok c.args.spare.now c.args.to.now bytes start _ _ c.publish.result had (c.publish.ensures.done t)

pub returns-clause-blames : goal.returns-clause-blames
returns-clause-blames g c = blames_of _ _ c.publish.result c.publish.ensures.refused c.publish.ensures.calm c.publish.ensures.steady c.requires.stands
