use Rattle.std.proofs.Common.{IsTrue, refl, sym, subst}
use Rattle.std.specs.Prelude.{IsSome}
use Rattle.text_base.specs.declared.faults.FolderCall.TheVariants.{Sync, Rename}
use Rattle.folder_base.specs.Disk.{Disk}
use Rattle.folder_base.specs.declared.store_fault.StoreFault.{StoreFault}
use Rattle.keep_store.specs.Lane.{IsRefusal}
use Rattle.keep_store.specs.TookLaws.{refusal_later}
use Rattle.keep_store.proofs.Appending.{stays_by}
use Rattle.keep_store.proofs.Refusals.{refusal_by, did_whole, stands_synced}
use Rattle.keep_store.proofs.Moved.{after_sync, after_rename}
use Rattle.keep_store.proofs.moving.move_synced.Goals as goal

pub returns-in-Err-clause-moved : goal.returns-in-Err-clause-moved
returns-in-Err-clause-moved g c t = after_sync _ _ _ _ (c.sync.ensures.told t)

pub returns-in-Ok-rename-clause-moved : goal.returns-in-Ok-rename-clause-moved
returns-in-Ok-rename-clause-moved g c t = after_rename _ _ _ _ (c.in-Ok.ensures.told (c.rename.ensures.cause.tells t)).done (c.rename.ensures.told t)

pub returns-in-Err-rename-clause-moved : goal.returns-in-Err-rename-clause-moved
returns-in-Err-rename-clause-moved g c t = after_rename _ _ _ _ (c.in-Ok.ensures.told (c.rename.ensures.cause.tells t)).done (c.rename.ensures.told t)

pub returns-in-Err-clause-refused : goal.returns-in-Err-clause-refused
returns-in-Err-clause-refused g c =
    let old = g.F.Folder.world c.args.folder.now in
    let new = g.F.Folder.world c.sync.new.self in
    subst (λ (f : StoreFault). IsRefusal old new f) (sym c.store_fault.ensures)
    (refusal_by old new Sync c.in-Err.fault c.sync.result c.in-Err.is c.requires.stands c.sync.ensures.cause (did_whole Sync old new c.sync.result (c.args.from.now, refl) c.sync.ensures.told))

pub returns-in-Err-rename-clause-refused : goal.returns-in-Err-rename-clause-refused
returns-in-Err-rename-clause-refused g c =
    let old = g.F.Folder.world c.args.folder.now in
    let mid = g.F.Folder.world c.sync.new.self in
    let new = g.F.Folder.world c.rename.new.self in
    let stood = λ (t : IsTrue mid.tells). subst (λ (d : Disk). IsSome (d.live c.args.from.now)) (sym (c.in-Ok.ensures.told t).done.now) (stands_synced c.args.from.now old.story.now (c.requires.stands (c.sync.ensures.cause.tells t))) in
    refusal_later (stays_by c.sync.ensures.cause) (subst (λ (f : StoreFault). IsRefusal mid new f) (sym c.store_fault-in-Err-rename.ensures)
    (refusal_by mid new Rename c.in-Err-rename.fault c.rename.result c.in-Err-rename.is stood c.rename.ensures.cause (did_whole Rename mid new c.rename.result (c.args.from.now, c.args.to.now, refl) c.rename.ensures.told)))
