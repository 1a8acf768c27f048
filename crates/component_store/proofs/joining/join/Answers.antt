use Rattle.std.proofs.Common.{◌∙◌, ap, sym, subst, inl, []}
use Rattle.std.specs.Prelude.{string_bytes, IsSome}
use Rattle.folder_base.specs.Disk.{Name}
use Rattle.folder_base.specs.Story.{Through}
use Rattle.folder_base.proofs.Moments.{weaker}
use Rattle.folder_steps.specs.Make.{IsLoose}
use Rattle.folder_steps.proofs.NewFileLemmas.{new_stands, new_beside}
use Rattle.plan_record.specs.Names.{joined_of, stem_of}
use Rattle.component_store.proofs.FamilyLemmas.{joined_stem}
use Rattle.component_store.proofs.JoinLemmas.{none_joined, complete_same, publishes_joined, is_joined}
use Rattle.std.proofs.lemmas.Result.{err_from_is_err_and}
use Rattle.keep_store.specs.TookLaws.{stays_both}
use Rattle.folder_steps.proofs.RefusalLemmas.{later, err_later}
use Rattle.component_store.proofs.joining.join.Goals as goal

pub make-requires-clause-free : goal.make-requires-clause-free
make-requires-clause-free g c t =
    ap (g.F.Folder.world c.args.folder.now).story.now.live (c.as_str.ensures.value ∙ c.args.target.now.joined_is) ∙ c.requires.free t

pub pour_all-requires-clause-complete : goal.pour_all-requires-clause-complete
pour_all-requires-clause-complete g c t =
    let C = string_bytes c.args.target.now.name in
    let made = none_joined C _ _ (c.as_str.ensures.value ∙ c.args.target.now.joined_is) (c.in_ok-make.ensures.made t) in
    complete_same C c.args.target.now.count (g.F.Folder.world c.args.folder.now).story.now.live (g.F.Folder.world c.make.new.folder).story.now.live (λ k. new_beside (joined_of C) (stem_of C k) [] _ _ (joined_stem C k) made) (c.requires.complete (c.make.ensures.kept.tells t))

pub pour_all-requires-clause-stands : goal.pour_all-requires-clause-stands
pour_all-requires-clause-stands g c t =
    let C = string_bytes c.args.target.now.name in
    new_stands (joined_of C) [] _ _ (none_joined C _ _ (c.as_str.ensures.value ∙ c.args.target.now.joined_is) (c.in_ok-make.ensures.made t))

pub publish_new-requires-clause-stands : goal.publish_new-requires-clause-stands
publish_new-requires-clause-stands g c t =
    subst (λ (n : Name). IsSome ((g.F.Folder.world c.pour_all.new.folder).story.now.live n)) (sym (c.as_str-2.ensures.value ∙ c.args.target.now.joined_is)) (c.pour_all.ensures.stands t)

pub returns-in_err-make-clause-moments : goal.returns-in_err-make-clause-moments
returns-in_err-make-clause-moments g c t =
    let old = (g.F.Folder.world c.args.folder.now).story in
    weaker (subst (λ (n : Name). Through old (g.F.Folder.world c.make.new.folder).story (IsLoose n old.now)) (c.as_str.ensures.value ∙ c.args.target.now.joined_is) (c.make.ensures.moments t)) (λ image h. inl h)

pub returns-in_err-pour_all-clause-moments : goal.returns-in_err-pour_all-clause-moments
returns-in_err-pour_all-clause-moments g c t =
    let C = string_bytes c.args.target.now.name in
    let old = (g.F.Folder.world c.args.folder.now).story in
    let t1 = c.pour_all.ensures.kept.tells t in
    let is_joined_name = c.as_str.ensures.value ∙ c.args.target.now.joined_is in
    weaker (c.pour_all.ensures.loose t old (none_joined C _ _ is_joined_name (c.in_ok-make.ensures.made t1))
    (subst (λ (n : Name). Through old (g.F.Folder.world c.make.new.folder).story (IsLoose n old.now)) is_joined_name (c.make.ensures.moments t1))) (λ image h. inl h)

pub returns-clause-moments : goal.returns-clause-moments
returns-clause-moments g c t =
    let C = string_bytes c.args.target.now.name in
    let old = (g.F.Folder.world c.args.folder.now).story in
    let t2 = c.publish_new.ensures.kept.tells t in
    let t1 = c.pour_all.ensures.kept.tells t2 in
    let is_joined_name = c.as_str.ensures.value ∙ c.args.target.now.joined_is in
    let made = none_joined C _ _ is_joined_name (c.in_ok-make.ensures.made t1) in
    let run = c.pour_all.ensures.loose t2 old made (subst (λ (n : Name). Through old (g.F.Folder.world c.make.new.folder).story (IsLoose n old.now)) is_joined_name (c.make.ensures.moments t1)) in
    publishes_joined C c.args.target.now.count (c.as_str-2.ensures.value ∙ c.args.target.now.joined_is) c.as_str-3.ensures.value (c.in_ok-pour_all.ensures.poured t2 old.now made) run (c.publish_new.ensures.moments t)

pub returns-clause-done : goal.returns-clause-done
returns-clause-done g c t =
    let C = string_bytes c.args.target.now.name in
    let t2 = c.publish_new.ensures.kept.tells t in
    let t1 = c.pour_all.ensures.kept.tells t2 in
    let made = none_joined C _ _ (c.as_str.ensures.value ∙ c.args.target.now.joined_is) (c.in_ok-make.ensures.made t1) in
    is_joined C c.args.target.now.count (g.F.Folder.world c.args.folder.now).story.now (g.F.Folder.world c.pour_all.new.folder).story.now (g.F.Folder.world c.publish_new.new.folder).story.now c.publish_new.result (c.as_str-2.ensures.value ∙ c.args.target.now.joined_is) c.as_str-3.ensures.value (c.in_ok-pour_all.ensures.poured t2 _ made) (c.publish_new.ensures.done t)

pub returns-in_err-pour_all-clause-blames : goal.returns-in_err-pour_all-clause-blames
returns-in_err-pour_all-clause-blames g c =
    let p = err_from_is_err_and c.from_residual-in_err-pour_all.result c.from_residual-in_err-pour_all.ensures.1 in
    rw (p.1, p.2) (err_later c.make.ensures.kept c.in_ok-make.ensures.blames.calm c.in_err-pour_all.ensures.blames)

pub returns-clause-blames : goal.returns-clause-blames
returns-clause-blames g c = later _ c.publish_new.result (stays_both c.make.ensures.kept c.pour_all.ensures.kept) (c.in_ok-pour_all.ensures.blames.calm ∙ c.in_ok-make.ensures.blames.calm) c.publish_new.ensures.blames
