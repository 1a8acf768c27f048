use Rattle.std.proofs.Common.{◌∙◌, refl, sym, ap, subst}
use Rattle.std.specs.Prelude.{Err}
use Rattle.text_base.specs.declared.faults.FolderCall.TheVariants.{Sync, Rename, Settle}
use Rattle.folder_base.specs.Disk.{renamed}
use Rattle.folder_base.specs.declared.store_fault.StoreFault.{StoreFault}
use Rattle.keep_store.specs.Publish.{MayRefuse, IsCalm, store_fault}
use Rattle.keep_store.specs.TookLaws.{stays_both, refuse_later}
use Rattle.keep_store.proofs.Appending.{stays_by}
use Rattle.keep_store.proofs.Refusals.{may_refuse, did_whole, calm_ok, calm_by, calm_later}
use Rattle.keep_store.proofs.Published.{after_sync, after_rename, after_settle}
use Rattle.keep_store.proofs.publishing.publish.Goals as goal

pub returns-in-Err-clause-any_moment : goal.returns-in-Err-clause-any_moment
returns-in-Err-clause-any_moment g c t = after_sync _ _ _ _ (c.sync.ensures.told t)

pub returns-in-Err-rename-clause-any_moment : goal.returns-in-Err-rename-clause-any_moment
returns-in-Err-rename-clause-any_moment g c t =
    let t1 = c.rename.ensures.cause.tells t in
    let first = c.in-Ok.ensures.told t1 in
    after_rename _ _ _ _ first.was_proper first.done.now (after_sync _ _ _ _ (c.sync.ensures.told t1)) (c.rename.ensures.told t)

pub returns-in-Ok-settle-clause-any_moment : goal.returns-in-Ok-settle-clause-any_moment
returns-in-Ok-settle-clause-any_moment g c t =
    let t2 = c.settle.ensures.cause.tells t in
    let t1 = c.rename.ensures.cause.tells t2 in
    let first = c.in-Ok.ensures.told t1 in
    let second = c.in-Ok-rename.ensures.told t2 in
    after_settle _ _ _ _ first.was_proper (second.done.now ∙ ap (renamed c.args.from.now c.args.to.now) first.done.now)
    (after_rename _ _ _ _ first.was_proper first.done.now (after_sync _ _ _ _ (c.sync.ensures.told t1)) (c.rename.ensures.told t2)) (c.settle.ensures.told t)

pub returns-in-Err-settle-clause-any_moment : goal.returns-in-Err-settle-clause-any_moment
returns-in-Err-settle-clause-any_moment g c t =
    let t2 = c.settle.ensures.cause.tells t in
    let t1 = c.rename.ensures.cause.tells t2 in
    let first = c.in-Ok.ensures.told t1 in
    let second = c.in-Ok-rename.ensures.told t2 in
    after_settle _ _ _ _ first.was_proper (second.done.now ∙ ap (renamed c.args.from.now c.args.to.now) first.done.now)
    (after_rename _ _ _ _ first.was_proper first.done.now (after_sync _ _ _ _ (c.sync.ensures.told t1)) (c.rename.ensures.told t2)) (c.settle.ensures.told t)

pub returns-in-Err-clause-refused : goal.returns-in-Err-clause-refused
returns-in-Err-clause-refused g c =
    let old = g.F.Folder.world c.args.folder.now in
    let new = g.F.Folder.world c.sync.new.self in
    subst (λ (f : StoreFault). MayRefuse old new f) (sym c.store_fault.ensures)
    (may_refuse old new Sync c.in-Err.fault c.sync.result c.in-Err.is c.sync.ensures.cause (did_whole Sync old new c.sync.result (c.args.from.now, refl) c.sync.ensures.told))

pub returns-in-Err-rename-clause-refused : goal.returns-in-Err-rename-clause-refused
returns-in-Err-rename-clause-refused g c =
    let mid = g.F.Folder.world c.sync.new.self in
    let new = g.F.Folder.world c.rename.new.self in
    refuse_later _ _ _ _ (stays_by c.sync.ensures.cause) (subst (λ (f : StoreFault). MayRefuse mid new f) (sym c.store_fault-in-Err-rename.ensures)
    (may_refuse mid new Rename c.in-Err-rename.fault c.rename.result c.in-Err-rename.is c.rename.ensures.cause (did_whole Rename mid new c.rename.result (c.args.from.now, c.args.to.now, refl) c.rename.ensures.told)))

pub returns-in-Err-settle-clause-refused : goal.returns-in-Err-settle-clause-refused
returns-in-Err-settle-clause-refused g c =
    let mid = g.F.Folder.world c.rename.new.self in
    let new = g.F.Folder.world c.settle.new.self in
    refuse_later _ _ _ _ (stays_both (stays_by c.sync.ensures.cause) (stays_by c.rename.ensures.cause)) (subst (λ (f : StoreFault). MayRefuse mid new f) (sym c.store_fault-in-Err-settle.ensures)
    (may_refuse mid new Settle c.in-Err-settle.fault c.settle.result c.in-Err-settle.is c.settle.ensures.cause (did_whole Settle mid new c.settle.result refl c.settle.ensures.told)))

pub returns-in-Err-clause-calm : goal.returns-in-Err-clause-calm
returns-in-Err-clause-calm g c =
    let old = g.F.Folder.world c.args.folder.now in
    let new = g.F.Folder.world c.sync.new.self in
    subst (λ (f : StoreFault). IsCalm {T = Unit {0}} old new (Err f)) (sym c.store_fault.ensures) (calm_by (Unit {0}) old new Sync c.in-Err.fault c.sync.result c.in-Err.is c.sync.ensures.cause)

pub returns-in-Err-rename-clause-calm : goal.returns-in-Err-rename-clause-calm
returns-in-Err-rename-clause-calm g c =
    let old = g.F.Folder.world c.args.folder.now in
    let mid = g.F.Folder.world c.sync.new.self in
    let new = g.F.Folder.world c.rename.new.self in
    subst (λ (f : StoreFault). IsCalm {T = Unit {0}} old new (Err f)) (sym c.store_fault-in-Err-rename.ensures)
    (calm_later {T = Unit {0}} old mid new (Err (store_fault Rename c.in-Err-rename.fault)) (calm_ok c.in-Ok.ensures.cause)
    (calm_by (Unit {0}) mid new Rename c.in-Err-rename.fault c.rename.result c.in-Err-rename.is c.rename.ensures.cause))

pub returns-in-Ok-settle-clause-calm : goal.returns-in-Ok-settle-clause-calm
returns-in-Ok-settle-clause-calm g c = calm_ok c.in-Ok-settle.ensures.cause ∙ calm_ok c.in-Ok-rename.ensures.cause ∙ calm_ok c.in-Ok.ensures.cause

pub returns-in-Err-settle-clause-calm : goal.returns-in-Err-settle-clause-calm
returns-in-Err-settle-clause-calm g c =
    let old = g.F.Folder.world c.args.folder.now in
    let mid = g.F.Folder.world c.rename.new.self in
    let new = g.F.Folder.world c.settle.new.self in
    subst (λ (f : StoreFault). IsCalm {T = Unit {0}} old new (Err f)) (sym c.store_fault-in-Err-settle.ensures)
    (calm_later {T = Unit {0}} old mid new (Err (store_fault Settle c.in-Err-settle.fault)) (calm_ok c.in-Ok-rename.ensures.cause ∙ calm_ok c.in-Ok.ensures.cause)
    (calm_by (Unit {0}) mid new Settle c.in-Err-settle.fault c.settle.result c.in-Err-settle.is c.settle.ensures.cause))
