use Rattle.std.proofs.Common.{◌∙◌, refl, true}
use Rattle.std.specs.Prelude.{string_bytes}
use Rattle.std.proofs.lemmas.Result.{on_ok_weaker}
use Rattle.component_store.specs.Tidy.{is_cleared}
use Rattle.folder_steps.proofs.RemovalLemmas.{unchanged}
use Rattle.component_store.proofs.ClearLemmas.{spare_step, pieces_step, joined_step, self_step, record_step, all_gone}
use Rattle.component_store.proofs.LastLemmas.{under_still, under_behind}
use Rattle.std.proofs.lemmas.Result.{err_from_is_err_and}
use Rattle.keep_store.specs.TookLaws.{stays_both}
use Rattle.folder_steps.proofs.RefusalLemmas.{later, own, own_err_later, err_later_own}
use Rattle.component_store.proofs.clearing.clear.Goals as goal

pub returns-in_err-drop_name-clause-moments : goal.returns-in_err-drop_name-clause-moments
returns-in_err-drop_name-clause-moments g c t =
    let C = string_bytes c.args.target.now.name in
    let left = c.args.left in
    let t0 = t in
    let run0 = spare_step C left.component left.its_record (unchanged (is_cleared C left.component left.its_record) refl) (c.as_str.ensures.value ∙ c.args.target.now.spare_is) (c.drop_name.ensures.moments t0) in
    run0

pub returns-in_err-sweep-clause-moments : goal.returns-in_err-sweep-clause-moments
returns-in_err-sweep-clause-moments g c t =
    let C = string_bytes c.args.target.now.name in
    let left = c.args.left in
    let t1 = t in
    let t0 = c.sweep.ensures.kept.tells t1 in
    let run0 = spare_step C left.component left.its_record (unchanged (is_cleared C left.component left.its_record) refl) (c.as_str.ensures.value ∙ c.args.target.now.spare_is) (c.drop_name.ensures.moments t0) in
    let run1 = pieces_step C left.component left.its_record run0 (c.as_str-2.ensures.value ∙ c.args.target.now.pieces_is) (c.sweep.ensures.moments t1) in
    run1

pub returns-in_err-drop_name-2-clause-moments : goal.returns-in_err-drop_name-2-clause-moments
returns-in_err-drop_name-2-clause-moments g c t =
    let C = string_bytes c.args.target.now.name in
    let left = c.args.left in
    let t2 = t in
    let t1 = c.drop_name-2.ensures.kept.tells t2 in
    let t0 = c.sweep.ensures.kept.tells t1 in
    let run0 = spare_step C left.component left.its_record (unchanged (is_cleared C left.component left.its_record) refl) (c.as_str.ensures.value ∙ c.args.target.now.spare_is) (c.drop_name.ensures.moments t0) in
    let run1 = pieces_step C left.component left.its_record run0 (c.as_str-2.ensures.value ∙ c.args.target.now.pieces_is) (c.sweep.ensures.moments t1) in
    let run2 = joined_step C left.component left.its_record run1 (c.as_str-3.ensures.value ∙ c.args.target.now.joined_is) (c.drop_name-2.ensures.moments t2) in
    run2

pub returns-in_err-drop_unless-clause-moments : goal.returns-in_err-drop_unless-clause-moments
returns-in_err-drop_unless-clause-moments g c t =
    let C = string_bytes c.args.target.now.name in
    let left = c.args.left in
    let t3 = t in
    let t2 = c.drop_unless.ensures.kept.tells t3 in
    let t1 = c.drop_name-2.ensures.kept.tells t2 in
    let t0 = c.sweep.ensures.kept.tells t1 in
    let run0 = spare_step C left.component left.its_record (unchanged (is_cleared C left.component left.its_record) refl) (c.as_str.ensures.value ∙ c.args.target.now.spare_is) (c.drop_name.ensures.moments t0) in
    let run1 = pieces_step C left.component left.its_record run0 (c.as_str-2.ensures.value ∙ c.args.target.now.pieces_is) (c.sweep.ensures.moments t1) in
    let run2 = joined_step C left.component left.its_record run1 (c.as_str-3.ensures.value ∙ c.args.target.now.joined_is) (c.drop_name-2.ensures.moments t2) in
    let run3 = self_step C left.component left.its_record run2 (c.as_str-4.ensures.value) (c.drop_unless.ensures.moments t3) in
    run3

pub returns-clause-moments : goal.returns-clause-moments
returns-clause-moments g c t =
    let C = string_bytes c.args.target.now.name in
    let left = c.args.left in
    let t4 = t in
    let t3 = c.drop_record.ensures.kept.tells t4 in
    let t2 = c.drop_unless.ensures.kept.tells t3 in
    let t1 = c.drop_name-2.ensures.kept.tells t2 in
    let t0 = c.sweep.ensures.kept.tells t1 in
    let run0 = spare_step C left.component left.its_record (unchanged (is_cleared C left.component left.its_record) refl) (c.as_str.ensures.value ∙ c.args.target.now.spare_is) (c.drop_name.ensures.moments t0) in
    let run1 = pieces_step C left.component left.its_record run0 (c.as_str-2.ensures.value ∙ c.args.target.now.pieces_is) (c.sweep.ensures.moments t1) in
    let run2 = joined_step C left.component left.its_record run1 (c.as_str-3.ensures.value ∙ c.args.target.now.joined_is) (c.drop_name-2.ensures.moments t2) in
    let run3 = self_step C left.component left.its_record run2 (c.as_str-4.ensures.value) (c.drop_unless.ensures.moments t3) in
    let run4 = record_step C left.component left.its_record run3 (c.as_str-5.ensures.value ∙ c.args.target.now.record_is) (c.drop_record.ensures.moments t4) in
    run4

pub returns-clause-gone : goal.returns-clause-gone
returns-clause-gone g c t =
    let C = string_bytes c.args.target.now.name in
    let left = c.args.left in
    let t3 = c.drop_record.ensures.kept.tells t in
    let t2 = c.drop_unless.ensures.kept.tells t3 in
    let t1 = c.drop_name-2.ensures.kept.tells t2 in
    let t0 = c.sweep.ensures.kept.tells t1 in
    on_ok_weaker c.drop_record.result
    (λ gone. all_gone C left.component left.its_record (g.F.Folder.world c.args.folder.now).story.now.live (g.F.Folder.world c.drop_name.new.folder).story.now.live (g.F.Folder.world c.sweep.new.folder).story.now.live (g.F.Folder.world c.drop_name-2.new.folder).story.now.live (g.F.Folder.world c.drop_unless.new.folder).story.now.live (g.F.Folder.world c.drop_record.new.folder).story.now.live (c.as_str.ensures.value ∙ c.args.target.now.spare_is) (c.as_str-2.ensures.value ∙ c.args.target.now.pieces_is) (c.as_str-3.ensures.value ∙ c.args.target.now.joined_is) (c.as_str-4.ensures.value) (c.as_str-5.ensures.value ∙ c.args.target.now.record_is)
    (c.in_ok-drop_name.ensures.gone t0) (c.in_ok-sweep.ensures.gone t1) (c.in_ok-drop_name-2.ensures.gone t2) (c.in_ok-drop_unless.ensures.gone t3) gone)
    (c.drop_record.ensures.gone t)

pub returns-in_err-sweep-clause-blames : goal.returns-in_err-sweep-clause-blames
returns-in_err-sweep-clause-blames g c =
    let p = err_from_is_err_and c.from_residual-in_err-sweep.result c.from_residual-in_err-sweep.ensures.1 in
    rw (p.1, p.2) (own_err_later c.drop_name.ensures.kept c.in_ok-drop_name.ensures.blames.calm c.in_err-sweep.ensures.blames)

pub returns-in_err-drop_name-2-clause-blames : goal.returns-in_err-drop_name-2-clause-blames
returns-in_err-drop_name-2-clause-blames g c =
    let p = err_from_is_err_and c.from_residual-in_err-drop_name-2.result c.from_residual-in_err-drop_name-2.ensures.1 in
    rw (p.1, p.2) (err_later_own (stays_both c.drop_name.ensures.kept c.sweep.ensures.kept) (c.in_ok-sweep.ensures.blames.calm ∙ c.in_ok-drop_name.ensures.blames.calm) c.in_err-drop_name-2.ensures.blames)

pub returns-in_err-drop_unless-clause-blames : goal.returns-in_err-drop_unless-clause-blames
returns-in_err-drop_unless-clause-blames g c =
    let p = err_from_is_err_and c.from_residual-in_err-drop_unless.result c.from_residual-in_err-drop_unless.ensures.1 in
    rw (p.1, p.2) (err_later_own (stays_both (stays_both c.drop_name.ensures.kept c.sweep.ensures.kept) c.drop_name-2.ensures.kept) (c.in_ok-drop_name-2.ensures.blames.calm ∙ c.in_ok-sweep.ensures.blames.calm ∙ c.in_ok-drop_name.ensures.blames.calm) c.in_err-drop_unless.ensures.blames)

pub returns-clause-blames : goal.returns-clause-blames
returns-clause-blames g c = own c.drop_record.result (later _ c.drop_record.result (stays_both (stays_both (stays_both c.drop_name.ensures.kept c.sweep.ensures.kept) c.drop_name-2.ensures.kept) c.drop_unless.ensures.kept) (c.in_ok-drop_unless.ensures.blames.calm ∙ c.in_ok-drop_name-2.ensures.blames.calm ∙ c.in_ok-sweep.ensures.blames.calm ∙ c.in_ok-drop_name.ensures.blames.calm) c.drop_record.ensures.blames)

pub returns-in_err-drop_name-clause-last : goal.returns-in_err-drop_name-clause-last
returns-in_err-drop_name-clause-last g c t always =
    let C = string_bytes c.args.target.now.name in
    let left = c.args.left in
    let t0 = t in
    let run0 = spare_step C left.component true (unchanged (is_cleared C left.component true) refl) (c.as_str.ensures.value ∙ c.args.target.now.spare_is) (c.drop_name.ensures.moments t0) in
    under_still C left.component always run0

pub returns-in_err-sweep-clause-last : goal.returns-in_err-sweep-clause-last
returns-in_err-sweep-clause-last g c t always =
    let C = string_bytes c.args.target.now.name in
    let left = c.args.left in
    let t1 = t in
    let t0 = c.sweep.ensures.kept.tells t1 in
    let run0 = spare_step C left.component true (unchanged (is_cleared C left.component true) refl) (c.as_str.ensures.value ∙ c.args.target.now.spare_is) (c.drop_name.ensures.moments t0) in
    let run1 = pieces_step C left.component true run0 (c.as_str-2.ensures.value ∙ c.args.target.now.pieces_is) (c.sweep.ensures.moments t1) in
    under_still C left.component always run1

pub returns-in_err-drop_name-2-clause-last : goal.returns-in_err-drop_name-2-clause-last
returns-in_err-drop_name-2-clause-last g c t always =
    let C = string_bytes c.args.target.now.name in
    let left = c.args.left in
    let t2 = t in
    let t1 = c.drop_name-2.ensures.kept.tells t2 in
    let t0 = c.sweep.ensures.kept.tells t1 in
    let run0 = spare_step C left.component true (unchanged (is_cleared C left.component true) refl) (c.as_str.ensures.value ∙ c.args.target.now.spare_is) (c.drop_name.ensures.moments t0) in
    let run1 = pieces_step C left.component true run0 (c.as_str-2.ensures.value ∙ c.args.target.now.pieces_is) (c.sweep.ensures.moments t1) in
    let run2 = joined_step C left.component true run1 (c.as_str-3.ensures.value ∙ c.args.target.now.joined_is) (c.drop_name-2.ensures.moments t2) in
    under_still C left.component always run2

pub returns-in_err-drop_unless-clause-last : goal.returns-in_err-drop_unless-clause-last
returns-in_err-drop_unless-clause-last g c t always =
    let C = string_bytes c.args.target.now.name in
    let left = c.args.left in
    let t3 = t in
    let t2 = c.drop_unless.ensures.kept.tells t3 in
    let t1 = c.drop_name-2.ensures.kept.tells t2 in
    let t0 = c.sweep.ensures.kept.tells t1 in
    let run0 = spare_step C left.component true (unchanged (is_cleared C left.component true) refl) (c.as_str.ensures.value ∙ c.args.target.now.spare_is) (c.drop_name.ensures.moments t0) in
    let run1 = pieces_step C left.component true run0 (c.as_str-2.ensures.value ∙ c.args.target.now.pieces_is) (c.sweep.ensures.moments t1) in
    let run2 = joined_step C left.component true run1 (c.as_str-3.ensures.value ∙ c.args.target.now.joined_is) (c.drop_name-2.ensures.moments t2) in
    let run3 = self_step C left.component true run2 (c.as_str-4.ensures.value) (c.drop_unless.ensures.moments t3) in
    under_still C left.component always run3

pub returns-clause-last : goal.returns-clause-last
returns-clause-last g c t always =
    let C = string_bytes c.args.target.now.name in
    let left = c.args.left in
    let t3 = c.drop_record.ensures.kept.tells t in
    let t2 = c.drop_unless.ensures.kept.tells t3 in
    let t1 = c.drop_name-2.ensures.kept.tells t2 in
    let t0 = c.sweep.ensures.kept.tells t1 in
    let run0 = spare_step C left.component true (unchanged (is_cleared C left.component true) refl) (c.as_str.ensures.value ∙ c.args.target.now.spare_is) (c.drop_name.ensures.moments t0) in
    let run1 = pieces_step C left.component true run0 (c.as_str-2.ensures.value ∙ c.args.target.now.pieces_is) (c.sweep.ensures.moments t1) in
    let run2 = joined_step C left.component true run1 (c.as_str-3.ensures.value ∙ c.args.target.now.joined_is) (c.drop_name-2.ensures.moments t2) in
    let run3 = self_step C left.component true run2 (c.as_str-4.ensures.value) (c.drop_unless.ensures.moments t3) in
    let live = (g.F.Folder.world c.drop_unless.new.folder).story.now.live in
    under_behind C left.component _ always run3
    (all_gone C left.component true (g.F.Folder.world c.args.folder.now).story.now.live (g.F.Folder.world c.drop_name.new.folder).story.now.live (g.F.Folder.world c.sweep.new.folder).story.now.live (g.F.Folder.world c.drop_name-2.new.folder).story.now.live live live
    (c.as_str.ensures.value ∙ c.args.target.now.spare_is) (c.as_str-2.ensures.value ∙ c.args.target.now.pieces_is) (c.as_str-3.ensures.value ∙ c.args.target.now.joined_is) (c.as_str-4.ensures.value) (c.as_str-5.ensures.value ∙ c.args.target.now.record_is)
    (c.in_ok-drop_name.ensures.gone t0) (c.in_ok-sweep.ensures.gone t1) (c.in_ok-drop_name-2.ensures.gone t2) (c.in_ok-drop_unless.ensures.gone t3) (λ n. refl))
    (c.drop_record.ensures.behind t)
