use Rattle.std.proofs.Common.{◌≡◌, ◌∙◌, ap, sym, subst, refl, inl, ℕ, arith, IsTrue}
use Rattle.std.specs.Prelude.{string_bytes, IsSome, OnOk}
use Rattle.std.proofs.lemmas.Result.{on_ok_weaker}
use Rattle.folder_base.specs.Disk.{Name, Disk, Names, synced, renamed, settled as settled_disk}
use Rattle.folder_base.specs.Story.{Through}
use Rattle.folder_base.proofs.Moments.{weaker, joined}
use Rattle.folder_steps.specs.Follow.{Always}
use Rattle.folder_steps.proofs.ImageLemmas.{ends, settled_only}
use Rattle.keep_store.specs.Publish.{IsBeforeOrMoved}
use Rattle.plan_record.specs.Names.{stem_of}
use Rattle.component_store.specs.Assemble.{IsAssembled, IsAssembling, IsPutTogether}
use Rattle.component_store.proofs.AssembleLemmas.{one_moments, one_done, one_all, as_before}
use Rattle.folder_steps.proofs.RefusalLemmas.{blames_of, later, own}
use Rattle.component_store.proofs.assembling.assemble_one.Goals as goal

pub returns-in_default-clause-moments : goal.returns-in_default-clause-moments
returns-in_default-clause-moments g c t = as_before (string_bytes c.args.target.now.name) c.args.target.now.count (g.F.Folder.world c.args.folder.now).story

pub returns-in_err-settle-clause-moments : goal.returns-in_err-settle-clause-moments
returns-in_err-settle-clause-moments g c t =
    weaker (c.settle.ensures.moments t) (λ image may. inl (record { before = image; possible = may; each = λ n differs. refl }))

pub returns-clause-moments : goal.returns-clause-moments
returns-clause-moments g c t =
    let C = string_bytes c.args.target.now.name in
    let old = (g.F.Folder.world c.args.folder.now).story in
    let mid = (g.F.Folder.world c.settle.new.folder).story in
    let new = (g.F.Folder.world c.publish.new.folder).story in
    let t1 = c.publish.ensures.kept.tells t in
    let settled = c.in_ok-settle.ensures.done t1 in
    let is_stem = c.as_str-3.ensures.value ∙ c.write_stem.ensures.bytes ∙ ap (λ (n : Name). stem_of n 0) c.as_str-2.ensures.value in
    subst (λ (k : ℕ). Through old new (IsAssembling C k old.now)) (sym c.requires.one)
    (joined (weaker (c.settle.ensures.moments t1) (λ image may. inl (record { before = image; possible = may; each = λ n differs. refl })))
    (weaker (subst (λ (n : Name). Through mid new (IsBeforeOrMoved c.as_str-3.result.now n mid.now)) c.as_str-4.ensures.value (c.publish.ensures.any_moment t))
    (one_moments C old.now mid.now (ends (c.settle.ensures.moments t1)) (ap (λ (d : Disk). d.live) settled) (settled_only (g.F.Folder.world c.args.folder.now).story.now (g.F.Folder.world c.settle.new.folder).story.now settled) is_stem)))

pub returns-clause-done : goal.returns-clause-done
returns-clause-done g c t =
    let C = string_bytes c.args.target.now.name in
    let old = (g.F.Folder.world c.args.folder.now).story.now in
    let mid = (g.F.Folder.world c.settle.new.folder).story.now in
    let new = (g.F.Folder.world c.publish.new.folder).story.now in
    let t1 = c.publish.ensures.kept.tells t in
    let settled = c.in_ok-settle.ensures.done t1 in
    let same = ap (λ (d : Disk). d.live) settled in
    let is_stem = c.as_str-3.ensures.value ∙ c.write_stem.ensures.bytes ∙ ap (λ (n : Name). stem_of n 0) c.as_str-2.ensures.value in
    let stands : IsSome (mid.live c.as_str-3.result.now) = subst (λ (n : Name). IsSome (mid.live n)) (sym is_stem) (subst (λ (l : Names). IsSome (l (stem_of C 0))) (sym same) (c.requires.complete (c.settle.ensures.kept.tells t1) 0 (omega (arith, c.requires.one)))) in
    subst (λ (k : ℕ). OnOk c.publish.result (IsPutTogether C k old new)) (sym c.requires.one)
    (on_ok_weaker c.publish.result (λ made. one_done C old mid (ends (c.settle.ensures.moments t1)) same (settled_only (g.F.Folder.world c.args.folder.now).story.now (g.F.Folder.world c.settle.new.folder).story.now settled) is_stem stands new made)
    (subst (λ (n : Name). OnOk c.publish.result (new ≡ settled_disk (renamed c.as_str-3.result.now n (synced c.as_str-3.result.now mid)))) c.as_str-4.ensures.value (c.publish.ensures.done t)))

pub returns-clause-in_all : goal.returns-clause-in_all
returns-clause-in_all g c t =
    let C = string_bytes c.args.target.now.name in
    let old = (g.F.Folder.world c.args.folder.now).story.now in
    let mid = (g.F.Folder.world c.settle.new.folder).story.now in
    let new = (g.F.Folder.world c.publish.new.folder).story.now in
    let t1 = c.publish.ensures.kept.tells t in
    let settled = c.in_ok-settle.ensures.done t1 in
    let same = ap (λ (d : Disk). d.live) settled in
    let is_stem = c.as_str-3.ensures.value ∙ c.write_stem.ensures.bytes ∙ ap (λ (n : Name). stem_of n 0) c.as_str-2.ensures.value in
    let stands : IsSome (mid.live c.as_str-3.result.now) = subst (λ (n : Name). IsSome (mid.live n)) (sym is_stem) (subst (λ (l : Names). IsSome (l (stem_of C 0))) (sym same) (c.requires.complete (c.settle.ensures.kept.tells t1) 0 (omega (arith, c.requires.one)))) in
    subst (λ (k : ℕ). OnOk c.publish.result (Always (IsAssembled C k old) new)) (sym c.requires.one)
    (on_ok_weaker c.publish.result (λ made. one_all C old mid (ends (c.settle.ensures.moments t1)) same (settled_only (g.F.Folder.world c.args.folder.now).story.now (g.F.Folder.world c.settle.new.folder).story.now settled) is_stem stands new made)
    (subst (λ (n : Name). OnOk c.publish.result (new ≡ settled_disk (renamed c.as_str-3.result.now n (synced c.as_str-3.result.now mid)))) c.as_str-4.ensures.value (c.publish.ensures.done t)))

pub returns-clause-blames : goal.returns-clause-blames
returns-clause-blames g c =
    let mid = g.F.Folder.world c.settle.new.folder in
    let C = string_bytes c.args.target.now.name in
    let is_stem = c.as_str-3.ensures.value ∙ c.write_stem.ensures.bytes ∙ ap (λ (n : Name). stem_of n 0) c.as_str-2.ensures.value in
    let stands = λ (t1 : IsTrue mid.tells). subst (λ (n : Name). IsSome (mid.story.now.live n)) (sym is_stem)
    (subst (λ (l : Names). IsSome (l (stem_of C 0))) (sym (ap (λ (d : Disk). d.live) (c.in_ok-settle.ensures.done t1))) (c.requires.complete (c.settle.ensures.kept.tells t1) 0 (omega (arith, c.requires.one)))) in
    own c.publish.result (later _ c.publish.result c.settle.ensures.kept c.in_ok-settle.ensures.blames.calm (blames_of mid _ c.publish.result c.publish.ensures.refused c.publish.ensures.calm c.publish.ensures.steady stands))
