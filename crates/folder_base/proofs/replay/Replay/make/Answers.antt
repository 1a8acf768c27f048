use Rattle.std.proofs.Common.{◌∙◌, [], ◌∷◌, sym, refl, subst, Some, None}
use Rattle.folder_base.specs.Disk.{Name, File, still, put, named, freed, longer, shorter, firm}
use Rattle.folder_base.specs.Files.{names_of, changed_name}
use Rattle.folder_base.specs.Log.{does}
use Rattle.folder_base.specs.Stored.{file_of}
use Rattle.folder_base.specs.Undo.{IsReplayed}
use Rattle.folder_base.specs.declared.replay.Replay.{Replay}
use Rattle.folder_base.specs.declared.step.Step.{Step}
use Rattle.folder_base.proofs.Undoing.{changed_replayed}
use Rattle.folder_base.proofs.replay.Replay.make.Goals as goal

pub returns-in_ok-put-in-Created : goal.returns-in_ok-put-in-Created
returns-in_ok-put-in-Created c = λ disk h.
    let new = c.put.new.self in
    let at = c.as_str.result.now in
    let put_so : (name : Name) (file : File) → Type 0 = λ name file. IsReplayed (named (name ∷ []) (put disk.live name (Some file)) (freed disk.live name) (λ spots. put (freed disk.live name spots) name (Some (still name))) disk) new in
    subst (λ (s : Step). IsReplayed (does s disk) new) (sym c.in-Created.is)
    (subst (λ (file : File). put_so c.in-Created.name file) c.empty.ensures (subst (λ (name : Name). put_so name (file_of c.empty.result)) c.as_str.ensures (c.in_ok-put-in-Created.ensures (λ spots. put (freed disk.live at spots) at (Some (still at))) disk h)))

pub returns-in_ok-put-in-Removed : goal.returns-in_ok-put-in-Removed
returns-in_ok-put-in-Removed c = λ disk h.
    let new = c.put-in-Removed.new.self in
    let put_so : (name : Name) → Type 0 = λ name. IsReplayed (named (name ∷ []) (put disk.live name None) (freed disk.live name) (λ spots. put (freed disk.live name spots) name None) disk) new in
    let at = c.as_str-in-Removed.result.now in
    subst (λ (s : Step). IsReplayed (does s disk) new) (sym c.in-Removed.is)
    (subst put_so c.as_str-in-Removed.ensures (c.in_ok-put-in-Removed.ensures (λ spots. put (freed disk.live at spots) at None) disk h))

pub returns-in_ok-extend_file-in-Appended : goal.returns-in_ok-extend_file-in-Appended
returns-in_ok-extend_file-in-Appended c = λ disk h.
    let new : Replay = record { files = c.extend_file.new.files; undos = c.args.self.now.undos; listed = c.args.self.now.listed } in
    subst (λ (s : Step). IsReplayed (does s disk) new) (sym c.in-Appended.is)
    (changed_replayed disk c.args.self.now new c.in-Appended.name (longer c.in-Appended.bytes.items)
    (c.in_ok-extend_file-in-Appended.ensures.names ∙ (λ i. changed_name (c.as_str-in-Appended.ensures i) (longer (c.deref.ensures.value i)) (names_of c.args.self.now.files))) refl refl h)

pub returns-in-Cut : goal.returns-in-Cut
returns-in-Cut c = λ disk h.
    let new : Replay = record { files = c.cut_file.new.files; undos = c.args.self.now.undos; listed = c.args.self.now.listed } in
    subst (λ (s : Step). IsReplayed (does s disk) new) (sym c.in-Cut.is)
    (changed_replayed disk c.args.self.now new c.in-Cut.name (shorter c.in-Cut.len)
    (c.cut_file.ensures.names ∙ (λ i. changed_name (c.as_str-in-Cut.ensures i) (shorter c.in-Cut.len) (names_of c.args.self.now.files))) refl refl h)

pub returns-in-Synced : goal.returns-in-Synced
returns-in-Synced c = λ disk h.
    let new : Replay = record { files = c.sync_file.new.files; undos = c.args.self.now.undos; listed = c.args.self.now.listed } in
    subst (λ (s : Step). IsReplayed (does s disk) new) (sym c.in-Synced.is)
    (changed_replayed disk c.args.self.now new c.in-Synced.name firm
    (c.sync_file.ensures.names ∙ (λ i. changed_name (c.as_str-in-Synced.ensures i) firm (names_of c.args.self.now.files))) refl refl h)
