use Rattle.std.proofs.Common.{ℕ, IsTrue, refl, sym, subst}
use Rattle.std.specs.Prelude.{Option}
use Rattle.text_base.specs.declared.faults.FolderCall.TheVariants.{Create, Cut}
use Rattle.folder_base.specs.declared.store_fault.StoreFault.{StoreFault}
use Rattle.keep_store.specs.Lane.{IsRefusal}
use Rattle.keep_store.specs.Opening.{CanBegin}
use Rattle.keep_store.proofs.Refusals.{refusal_by, did_whole}
use Rattle.keep_store.proofs.resuming.begin_at.Goals as goal

pub returns-in-Err-clause-refused : goal.returns-in-Err-clause-refused
returns-in-Err-clause-refused g c =
    let old = g.F.Folder.world c.args.folder.now in
    let new = g.F.Folder.world c.cut.new.self in
    let can = λ (t : IsTrue old.tells). subst (λ (p : Option ℕ). CanBegin c.args.current.now p old.story.now.live) c.in-Some.is (c.requires.can t) in
    subst (λ (f : StoreFault). IsRefusal old new f) (sym c.store_fault.ensures)
    (refusal_by old new Cut c.in-Err.fault c.cut.result c.in-Err.is can c.cut.ensures.cause (did_whole Cut old new c.cut.result (c.args.current.now, c.in-Some.len, refl) c.cut.ensures.told))

pub returns-in-Err-create-clause-refused : goal.returns-in-Err-create-clause-refused
returns-in-Err-create-clause-refused g c =
    let old = g.F.Folder.world c.args.folder.now in
    let new = g.F.Folder.world c.create.new.self in
    let can = λ (t : IsTrue old.tells). subst (λ (p : Option ℕ). CanBegin c.args.current.now p old.story.now.live) c.in-None.is (c.requires.can t) in
    subst (λ (f : StoreFault). IsRefusal old new f) (sym c.store_fault-in-Err-create.ensures)
    (refusal_by old new Create c.in-Err-create.fault c.create.result c.in-Err-create.is can c.create.ensures.cause (did_whole Create old new c.create.result (c.args.current.now, refl) c.create.ensures.told))
