use Rattle.std.proofs.Common.{◌≡◌, ◌∙◌, sym, ap, subst, false, Ok, Err}
use Rattle.std.specs.Prelude.{Result, OnOk, is_err}
use Rattle.text_base.specs.declared.faults.OutOfMemory.{OutOfMemory}
use Rattle.folder_base.specs.Content.{content_tale}
use Rattle.folder_base.specs.Disk.{Names}
use Rattle.folder_base.specs.Names.{Lists}
use Rattle.folder_base.specs.Tale.{Tale}
use Rattle.folder_base.specs.declared.memory.FolderMem.{FolderMem}
use Rattle.folder_base.proofs.Contents.{line_live}
use Rattle.folder_base.proofs.memory.FolderMemFolder.names.Goals as goal

where_ok : (P : Type 0) (r : Result (Unit {0}) OutOfMemory) → is_err r ≡ false → OnOk r P → P
where_ok P (Ok x) e h = h
where_ok P (Err x) e h = absurd (cc)

pub returns-in-Ok-clause-told : goal.returns-in-Ok-clause-told
returns-in-Ok-clause-told c _ =
    let merged = where_ok _ c.merge.result (sym c.is_err.ensures.value ∙ c.if-is_err.false) c.merge.ensures.merged in
    let live = line_live c.merge.new.self merged.empty ∙ ap (λ (t : Tale). t.story.now.live) c.merge.ensures.same ∙ ap (λ (f : FolderMem). (content_tale f.content).story.now.live) c.is_planned.ensures.same in
    subst (λ (names : Names). Lists c.args.prefix.now names c.in-Ok.names.items) live c.in-Ok.ensures
