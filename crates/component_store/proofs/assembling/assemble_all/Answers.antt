use Rattle.std.proofs.Common.{◌∙◌, ap, inr}
use Rattle.std.specs.Prelude.{string_bytes, None}
use Rattle.std.proofs.lemmas.Result.{on_ok_weaker}
use Rattle.folder_base.specs.Disk.{Name, Disk}
use Rattle.folder_base.proofs.Images.{put_here, put_there}
use Rattle.folder_base.proofs.Moments.{weaker, joined}
use Rattle.folder_steps.proofs.ImageLemmas.{ends, settled_only}
use Rattle.plan_record.specs.Names.{joined_of, stem_of}
use Rattle.component_store.proofs.FamilyLemmas.{joined_stem}
use Rattle.component_store.proofs.JoinLemmas.{complete_same}
use Rattle.component_store.proofs.BeginLemmas.{ok_anyway}
use Rattle.component_store.proofs.AssembleLemmas.{as_before, dropping_joined, joining_before, joined_all, assembled_thin, all_names, not_one, stems_left, joined_dropped, joined_thin}
use Rattle.std.proofs.lemmas.Result.{err_from_is_err_and}
use Rattle.keep_store.specs.TookLaws.{stays_both}
use Rattle.folder_steps.proofs.RefusalLemmas.{later, own, err_later_own}
use Rattle.component_store.proofs.assembling.assemble_all.Goals as goal

pub returns-in_default-clause-moments : goal.returns-in_default-clause-moments
returns-in_default-clause-moments g c t = as_before (string_bytes c.args.target.now.name) c.args.target.now.count (g.F.Folder.world c.args.folder.now).story

pub join-requires-clause-complete : goal.join-requires-clause-complete
join-requires-clause-complete g c t =
    let C = string_bytes c.args.target.now.name in
    let t1 = c.settle.ensures.kept.tells t in
    let dropped = joined_dropped C (g.F.Folder.world c.drop_name.new.folder).story.now.live (g.F.Folder.world c.args.folder.now).story.now.live (c.as_str-2.ensures.value ∙ c.args.target.now.joined_is) (c.in_ok-drop_name.ensures.gone t1) in
    complete_same C c.args.target.now.count (g.F.Folder.world c.args.folder.now).story.now.live (g.F.Folder.world c.settle.new.folder).story.now.live (λ k. ap (λ (d : Disk). d.live (stem_of C k)) (c.in_ok-settle.ensures.done t) ∙ dropped (stem_of C k) ∙ put_there (g.F.Folder.world c.args.folder.now).story.now.live (joined_of C) (stem_of C k) None (joined_stem C k)) (c.requires.complete (c.drop_name.ensures.kept.tells t1))

pub join-requires-clause-free : goal.join-requires-clause-free
join-requires-clause-free g c t =
    let C = string_bytes c.args.target.now.name in
    let t1 = c.settle.ensures.kept.tells t in
    let dropped = joined_dropped C (g.F.Folder.world c.drop_name.new.folder).story.now.live (g.F.Folder.world c.args.folder.now).story.now.live (c.as_str-2.ensures.value ∙ c.args.target.now.joined_is) (c.in_ok-drop_name.ensures.gone t1) in
    ap (λ (d : Disk). d.live (joined_of C)) (c.in_ok-settle.ensures.done t) ∙ dropped (joined_of C) ∙ put_here (g.F.Folder.world c.args.folder.now).story.now.live (joined_of C) None

pub drop_pieces-requires-clause-complete : goal.drop_pieces-requires-clause-complete
drop_pieces-requires-clause-complete g c t =
    let C = string_bytes c.args.target.now.name in
    let t2 = c.join.ensures.kept.tells t in
    let t1 = c.settle.ensures.kept.tells t2 in
    let dropped = joined_dropped C (g.F.Folder.world c.drop_name.new.folder).story.now.live (g.F.Folder.world c.args.folder.now).story.now.live (c.as_str-2.ensures.value ∙ c.args.target.now.joined_is) (c.in_ok-drop_name.ensures.gone t1) in
    complete_same C c.args.target.now.count (g.F.Folder.world c.args.folder.now).story.now.live (g.F.Folder.world c.join.new.folder).story.now.live (λ k. stems_left C c.args.target.now.count (g.F.Folder.world c.settle.new.folder).story.now (g.F.Folder.world c.join.new.folder).story.now (c.in_ok-join.ensures.done t) k
    ∙ ap (λ (d : Disk). d.live (stem_of C k)) (c.in_ok-settle.ensures.done t2) ∙ dropped (stem_of C k) ∙ put_there (g.F.Folder.world c.args.folder.now).story.now.live (joined_of C) (stem_of C k) None (joined_stem C k)) (c.requires.complete (c.drop_name.ensures.kept.tells t1))

pub returns-in_err-drop_name-clause-moments : goal.returns-in_err-drop_name-clause-moments
returns-in_err-drop_name-clause-moments g c t =
    let C = string_bytes c.args.target.now.name in
    weaker (joined_thin C (c.as_str-2.ensures.value ∙ c.args.target.now.joined_is) (c.drop_name.ensures.moments t)) (dropping_joined C c.args.target.now.count (g.F.Folder.world c.args.folder.now).story.now)

pub returns-in_err-settle-clause-moments : goal.returns-in_err-settle-clause-moments
returns-in_err-settle-clause-moments g c t =
    let C = string_bytes c.args.target.now.name in
    let first = joined_thin C (c.as_str-2.ensures.value ∙ c.args.target.now.joined_is) (c.drop_name.ensures.moments (c.settle.ensures.kept.tells t)) in
    weaker (joined first (weaker (c.settle.ensures.moments t) (λ image h. ends first image h))) (dropping_joined C c.args.target.now.count (g.F.Folder.world c.args.folder.now).story.now)

pub returns-in_err-join-clause-moments : goal.returns-in_err-join-clause-moments
returns-in_err-join-clause-moments g c t =
    let C = string_bytes c.args.target.now.name in
    let count = c.args.target.now.count in
    let is_joined = c.as_str-2.ensures.value ∙ c.args.target.now.joined_is in
    let t2 = c.join.ensures.kept.tells t in
    let t1 = c.settle.ensures.kept.tells t2 in
    let drop = joined_thin C is_joined (c.drop_name.ensures.moments t1) in
    let first = joined drop (weaker (c.settle.ensures.moments t2) (λ image h. ends drop image h)) in
    let settled = c.in_ok-settle.ensures.done t2 in
    let dropped = joined_dropped C (g.F.Folder.world c.drop_name.new.folder).story.now.live (g.F.Folder.world c.args.folder.now).story.now.live is_joined (c.in_ok-drop_name.ensures.gone t1) in
    joined (weaker first (dropping_joined C count (g.F.Folder.world c.args.folder.now).story.now))
    (weaker (c.join.ensures.moments t) (joining_before C count (g.F.Folder.world c.args.folder.now).story.now (g.F.Folder.world c.settle.new.folder).story.now (ends first) (λ n. ap (λ (d : Disk). d.live n) settled ∙ dropped n) (settled_only (g.F.Folder.world c.drop_name.new.folder).story.now (g.F.Folder.world c.settle.new.folder).story.now settled)))

pub returns-clause-moments : goal.returns-clause-moments
returns-clause-moments g c t =
    let C = string_bytes c.args.target.now.name in
    let count = c.args.target.now.count in
    let is_joined = c.as_str-2.ensures.value ∙ c.args.target.now.joined_is in
    let t3 = c.drop_pieces.ensures.kept.tells t in
    let t2 = c.join.ensures.kept.tells t3 in
    let t1 = c.settle.ensures.kept.tells t2 in
    let drop = joined_thin C is_joined (c.drop_name.ensures.moments t1) in
    let first = joined drop (weaker (c.settle.ensures.moments t2) (λ image h. ends drop image h)) in
    let settled = c.in_ok-settle.ensures.done t2 in
    let dropped = joined_dropped C (g.F.Folder.world c.drop_name.new.folder).story.now.live (g.F.Folder.world c.args.folder.now).story.now.live is_joined (c.in_ok-drop_name.ensures.gone t1) in
    let live = λ (n : Name). ap (λ (d : Disk). d.live n) settled ∙ dropped n in
    joined (joined (weaker first (dropping_joined C count (g.F.Folder.world c.args.folder.now).story.now))
    (weaker (c.join.ensures.moments t3) (joining_before C count (g.F.Folder.world c.args.folder.now).story.now (g.F.Folder.world c.settle.new.folder).story.now (ends first) live (settled_only (g.F.Folder.world c.drop_name.new.folder).story.now (g.F.Folder.world c.settle.new.folder).story.now settled))))
    (weaker (c.drop_pieces.ensures.moments t) (λ image h. inr (assembled_thin C count (g.F.Folder.world c.args.folder.now).story.now (g.F.Folder.world c.join.new.folder).story.now (joined_all C count (g.F.Folder.world c.args.folder.now).story.now (g.F.Folder.world c.settle.new.folder).story.now (ends first) live (settled_only (g.F.Folder.world c.drop_name.new.folder).story.now (g.F.Folder.world c.settle.new.folder).story.now settled) (g.F.Folder.world c.join.new.folder).story.now (c.in_ok-join.ensures.done t3)) image h)))

pub returns-clause-done : goal.returns-clause-done
returns-clause-done g c t =
    let C = string_bytes c.args.target.now.name in
    let count = c.args.target.now.count in
    let t3 = c.drop_pieces.ensures.kept.tells t in
    let t2 = c.join.ensures.kept.tells t3 in
    let t1 = c.settle.ensures.kept.tells t2 in
    let dropped = joined_dropped C (g.F.Folder.world c.drop_name.new.folder).story.now.live (g.F.Folder.world c.args.folder.now).story.now.live (c.as_str-2.ensures.value ∙ c.args.target.now.joined_is) (c.in_ok-drop_name.ensures.gone t1) in
    on_ok_weaker c.drop_pieces.result
    (λ gone. all_names C count (g.F.Folder.world c.args.folder.now).story.now (g.F.Folder.world c.settle.new.folder).story.now (g.F.Folder.world c.join.new.folder).story.now (g.F.Folder.world c.drop_pieces.new.folder).story.now (not_one count c.requires.not_one) (λ n. ap (λ (d : Disk). d.live n) (c.in_ok-settle.ensures.done t2) ∙ dropped n) (c.in_ok-join.ensures.done t3) gone)
    (c.drop_pieces.ensures.gone t)

pub returns-clause-in_all : goal.returns-clause-in_all
returns-clause-in_all g c t =
    let C = string_bytes c.args.target.now.name in
    let count = c.args.target.now.count in
    let is_joined = c.as_str-2.ensures.value ∙ c.args.target.now.joined_is in
    let t3 = c.drop_pieces.ensures.kept.tells t in
    let t2 = c.join.ensures.kept.tells t3 in
    let t1 = c.settle.ensures.kept.tells t2 in
    let drop = joined_thin C is_joined (c.drop_name.ensures.moments t1) in
    let first = joined drop (weaker (c.settle.ensures.moments t2) (λ image h. ends drop image h)) in
    let settled = c.in_ok-settle.ensures.done t2 in
    let dropped = joined_dropped C (g.F.Folder.world c.drop_name.new.folder).story.now.live (g.F.Folder.world c.args.folder.now).story.now.live is_joined (c.in_ok-drop_name.ensures.gone t1) in
    ok_anyway c.drop_pieces.result (λ image h. assembled_thin C count (g.F.Folder.world c.args.folder.now).story.now (g.F.Folder.world c.join.new.folder).story.now
    (joined_all C count (g.F.Folder.world c.args.folder.now).story.now (g.F.Folder.world c.settle.new.folder).story.now (ends first) (λ n. ap (λ (d : Disk). d.live n) settled ∙ dropped n) (settled_only (g.F.Folder.world c.drop_name.new.folder).story.now (g.F.Folder.world c.settle.new.folder).story.now settled) (g.F.Folder.world c.join.new.folder).story.now (c.in_ok-join.ensures.done t3)) image (ends (c.drop_pieces.ensures.moments t) image h))

pub returns-in_err-settle-clause-blames : goal.returns-in_err-settle-clause-blames
returns-in_err-settle-clause-blames g c =
    let p = err_from_is_err_and c.from_residual-in_err-settle.result c.from_residual-in_err-settle.ensures.1 in
    rw (p.1, p.2) (err_later_own c.drop_name.ensures.kept c.in_ok-drop_name.ensures.blames.calm c.in_err-settle.ensures.blames)

pub returns-in_err-join-clause-blames : goal.returns-in_err-join-clause-blames
returns-in_err-join-clause-blames g c =
    let p = err_from_is_err_and c.from_residual-in_err-join.result c.from_residual-in_err-join.ensures.1 in
    rw (p.1, p.2) (err_later_own (stays_both c.drop_name.ensures.kept c.settle.ensures.kept) (c.in_ok-settle.ensures.blames.calm ∙ c.in_ok-drop_name.ensures.blames.calm) c.in_err-join.ensures.blames)

pub returns-clause-blames : goal.returns-clause-blames
returns-clause-blames g c = own c.drop_pieces.result (later _ c.drop_pieces.result (stays_both (stays_both c.drop_name.ensures.kept c.settle.ensures.kept) c.join.ensures.kept) (c.in_ok-join.ensures.blames.calm ∙ c.in_ok-settle.ensures.blames.calm ∙ c.in_ok-drop_name.ensures.blames.calm) c.drop_pieces.ensures.blames)
