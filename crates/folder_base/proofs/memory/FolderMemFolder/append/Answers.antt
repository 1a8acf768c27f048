use Rattle.std.proofs.Common.{sym, ap, subst, take, length, IsSome}
use Rattle.folder_base.specs.Content.{content_tale}
use Rattle.folder_base.specs.Disk.{appended}
use Rattle.folder_base.specs.Story.{Story, DoesSome}
use Rattle.folder_base.specs.declared.memory.FolderMem.{FolderMem}
use Rattle.folder_base.proofs.Stepping.{did_some}
use Rattle.folder_base.proofs.memory.FolderMemFolder.append.Goals as goal

pub returns-clause-told : goal.returns-clause-told
returns-clause-told c _ =
    let name = c.args.name.now in
    let bytes = c.args.bytes.now in
    let Did : Story → Story → Type 0 = λ old new. DoesSome (IsSome (old.now.live name)) (λ count. appended name (take count bytes)) (length bytes) old new c.answer.result in
    let old_is = ap (λ (f : FolderMem). (content_tale f.content).story) c.is_planned.ensures.same in
    let new_is = ap (λ (f : FolderMem). (content_tale f.content).story) c.answer.ensures.same in
    subst (λ (s : Story). Did (content_tale c.args.self.now.content).story s) (sym new_is)
    (subst (λ (s : Story). Did s (content_tale c.append-done.new.self).story) old_is
    (did_some name bytes (content_tale c.is_planned.new.self.content).story (content_tale c.append-done.new.self).story c.append-done.result c.answer.result _ _ _ _ c.append-done.ensures.steps.done c.answer.ensures.counts))
