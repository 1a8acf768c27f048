use Rattle.folder_steps.proofs.RefusalLemmas.{later}
use Rattle.archive_store.proofs.AddingLemmas.{put_after}
use Rattle.archive_store.proofs.growing.put_in_place.Goals as goal

pub returns-clause-moments : goal.returns-clause-moments
returns-clause-moments g c t =
    put_after c.args.spare.now c.args.name.now c.args.bytes.now (c.drop_name.ensures.moments (c.replace.ensures.kept.tells t)) (c.replace.ensures.moments t)

pub returns-clause-blames : goal.returns-clause-blames
returns-clause-blames g c = later _ c.replace.result c.drop_name.ensures.kept c.in_ok-drop_name.ensures.blames.calm c.replace.ensures.blames
