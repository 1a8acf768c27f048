use Rattle.std.proofs.Common.{◌≡◌, ◌∙◌, ap, sym, subst, None, option_map}
use Rattle.std.proofs.lemmas.Result.{IfOk-weaker}
use Rattle.folder_base.specs.Disk.{Names, May, content}
use Rattle.folder_base.specs.Content.{content_tale}
use Rattle.folder_base.specs.Log.{stood}
use Rattle.folder_base.specs.Memory.{world_of, fresh}
use Rattle.folder_base.specs.Plan.{plans_none}
use Rattle.folder_base.specs.Story.{World}
use Rattle.folder_base.specs.declared.memory.FolderMem.{FolderMem}
use Rattle.folder_base.proofs.Stopping.{stopped_may}
use Rattle.folder_base.proofs.memory.FolderMem.after_stop.Goals as goal

pub returns-clause-may : goal.returns-clause-may
returns-clause-may c =
    let now = (content_tale c.args.self.now.content).story.now in
    IfOk-weaker c.new-2.result (λ (folder : FolderMem). world_of folder ≡ fresh (plans_none c.new.result.items None) (stood (λ _. None) c.in_ok-files.files.items))
    (λ folder. May now (λ name. option_map content ((world_of folder).story.now.live name)))
    (λ folder is. subst (λ (names : Names). May now (λ name. option_map content (names name)))
    (sym (ap (λ (w : World). w.story.now.live) is ∙ c.in_ok-files.ensures)) (stopped_may c.args.kept c.args.fill now))
    c.new-2.ensures.told
