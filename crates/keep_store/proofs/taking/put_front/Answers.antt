use Rattle.std.proofs.Common.{inl, ◌+◌, arith, length, refl, sym, subst}
use Rattle.std.proofs.lemmas.List.{take_all}
use Rattle.folder_base.specs.declared.store_fault.StoreFault.{StoreFault}
use Rattle.folder_base.specs.Disk.{Bytes, appended}
use Rattle.folder_base.specs.Story.{Next}
use Rattle.keep_store.specs.Lane.{IsRefusal}
use Rattle.text_base.specs.declared.faults.FolderCall.TheVariants.{Append}
use Rattle.keep_store.proofs.Appending.{stays_by}
use Rattle.keep_store.proofs.Refusals.{refusal_by, did_append}
use Rattle.keep_store.proofs.Appended.{own_current, is_standing, took_more, took_some, ready_more}
use Rattle.keep_store.proofs.taking.put_front.Goals as goal

pub append-requires : goal.append-requires
append-requires g c = own_current _ _ _ c.as_str.ensures.value c.requires.holds c.requires.is_ready c.requires.without_fault c.requires.part (omega (arith, c.requires.room))

pub returns-in-Ok-clause-taken : goal.returns-in-Ok-clause-taken
returns-in-Ok-clause-taken g c =
    let front = c.args.front.now in
    took_more (g.F.Folder.world c.args.folder.now) c.args.state.now _ c.as_str.ensures.value c.requires.holds c.requires.is_ready c.requires.without_fault c.requires.part (omega (arith, c.requires.room))
    (g.F.Folder.world c.append.new.self) c.args.state.now.fault (c.args.state.now.size + length front) front (λ held is. inl is) (stays_by c.in-Ok.ensures.cause) (λ is. refl)
    (λ t. subst (λ (b : Bytes). Next (appended c.as_str.result.now b) (g.F.Folder.world c.args.folder.now).story (g.F.Folder.world c.append.new.self).story) (take_all (length front) front (omega arith)) (c.in-Ok.ensures.told t).done)

pub returns-in-Ok-clause-is_ready : goal.returns-in-Ok-clause-is_ready
returns-in-Ok-clause-is_ready g c =
    let front = c.args.front.now in
    ready_more (g.F.Folder.world c.args.folder.now) c.args.state.now _ c.as_str.ensures.value c.requires.holds c.requires.is_ready c.requires.without_fault c.requires.part (omega (arith, c.requires.room))
    (g.F.Folder.world c.append.new.self) (c.args.state.now.size + length front) front (stays_by c.in-Ok.ensures.cause) refl
    (λ t. subst (λ (b : Bytes). Next (appended c.as_str.result.now b) (g.F.Folder.world c.args.folder.now).story (g.F.Folder.world c.append.new.self).story) (take_all (length front) front (omega arith)) (c.in-Ok.ensures.told t).done)

pub returns-in-Err-clause-part_taken : goal.returns-in-Err-clause-part_taken
returns-in-Err-clause-part_taken g c =
    let old = g.F.Folder.world c.args.folder.now in
    let standing = is_standing old c.args.state.now _ c.as_str.ensures.value c.requires.holds c.requires.is_ready c.requires.without_fault c.requires.part (omega (arith, c.requires.room)) in
    took_some old c.args.state.now _ c.as_str.ensures.value c.requires.holds c.requires.is_ready c.requires.without_fault c.requires.part (omega (arith, c.requires.room))
    (g.F.Folder.world c.append.new.self) c.store_fault.result
    (subst (λ (f : StoreFault). IsRefusal old (g.F.Folder.world c.append.new.self) f) (sym c.store_fault.ensures) (refusal_by old (g.F.Folder.world c.append.new.self) Append c.in-Err.fault c.append.result c.in-Err.is standing c.append.ensures.cause
    (did_append old (g.F.Folder.world c.append.new.self) c.as_str.result.now c.args.front.now c.append.result c.append.ensures.told)))
    (stays_by c.append.ensures.cause) c.args.front.now c.append.result c.append.ensures.told
