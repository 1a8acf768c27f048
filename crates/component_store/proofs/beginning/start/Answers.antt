use Rattle.std.proofs.Common.{◌∙◌, ap, Bool, false}
use Rattle.std.specs.Prelude.{string_bytes, None, if◌then◌else◌}
use Rattle.folder_base.specs.Disk.{Disk}
use Rattle.folder_base.proofs.Moments.{joined, weaker}
use Rattle.folder_steps.proofs.ImageLemmas.{ends, settled_only}
use Rattle.component_store.proofs.BeginLemmas.{begun_step, clear_only, begun_done}
use Rattle.component_store.proofs.LastLemmas.{under_goes, under_started}
use Rattle.std.proofs.lemmas.Result.{err_from_is_err_and}
use Rattle.keep_store.specs.TookLaws.{stays_both}
use Rattle.folder_steps.proofs.RefusalLemmas.{later, own, err_later_own}
use Rattle.component_store.proofs.beginning.start.Goals as goal

pub returns-in_err-clear-clause-moments : goal.returns-in_err-clear-clause-moments
returns-in_err-clear-clause-moments g c t = weaker (c.clear.ensures.moments t) (λ image h. clear_only (string_bytes c.args.target.now.name) c.args.target.now.is_final c.args.plan.now (g.F.Folder.world c.args.folder.now).story.now image h)

pub returns-in_err-settle-clause-moments : goal.returns-in_err-settle-clause-moments
returns-in_err-settle-clause-moments g c t =
    let first = c.clear.ensures.moments (c.settle.ensures.kept.tells t) in
    weaker (joined first (weaker (c.settle.ensures.moments t) (λ image h. ends first image h)))
    (λ image h. clear_only (string_bytes c.args.target.now.name) c.args.target.now.is_final c.args.plan.now (g.F.Folder.world c.args.folder.now).story.now image h)

pub returns-clause-moments : goal.returns-clause-moments
returns-clause-moments g c t =
    let C = string_bytes c.args.target.now.name in
    let final = c.args.target.now.is_final in
    let start = (g.F.Folder.world c.args.folder.now).story in
    let t2 = c.replace.ensures.kept.tells t in
    let t1 = c.settle.ensures.kept.tells t2 in
    let cleared = c.clear.ensures.moments t1 in
    let first = joined cleared (weaker (c.settle.ensures.moments t2) (λ image h. ends cleared image h)) in
    let settled = c.in_ok-settle.ensures.done t2 in
    let spare = c.as_str.ensures.value ∙ c.args.target.now.spare_is in
    let rec = c.as_str-2.ensures.value ∙ c.args.target.now.record_is in
    joined (weaker first (λ image h. clear_only C final c.args.plan.now start.now image h))
    (weaker (c.replace.ensures.moments t) (λ image h. begun_step C final c.args.plan.now start.now (g.F.Folder.world c.settle.new.folder).story.now (ends first)
    (λ n. ap (λ (d : Disk). d.live n) settled ∙ c.in_ok-clear.ensures.gone t1 n) (settled_only (g.F.Folder.world c.clear.new.folder).story.now (g.F.Folder.world c.settle.new.folder).story.now settled) spare rec c.as_bytes.ensures.value image h))

pub returns-clause-done : goal.returns-clause-done
returns-clause-done g c t =
    let t2 = c.replace.ensures.kept.tells t in
    let t1 = c.settle.ensures.kept.tells t2 in
    let settled = c.in_ok-settle.ensures.done t2 in
    let spare = c.as_str.ensures.value ∙ c.args.target.now.spare_is in
    let rec = c.as_str-2.ensures.value ∙ c.args.target.now.record_is in
    begun_done (string_bytes c.args.target.now.name) c.args.target.now.is_final c.args.plan.now (g.F.Folder.world c.args.folder.now).story.now (g.F.Folder.world c.settle.new.folder).story.now (g.F.Folder.world c.replace.new.folder).story.now c.replace.result
    (λ n. ap (λ (d : Disk). d.live n) settled ∙ c.in_ok-clear.ensures.gone t1 n) spare rec c.as_bytes.ensures.value (c.replace.ensures.done t)

pub returns-in_err-settle-clause-blames : goal.returns-in_err-settle-clause-blames
returns-in_err-settle-clause-blames g c =
    let p = err_from_is_err_and c.from_residual-in_err-settle.result c.from_residual-in_err-settle.ensures.1 in
    rw (p.1, p.2) (err_later_own c.clear.ensures.kept c.in_ok-clear.ensures.blames.calm c.in_err-settle.ensures.blames)

pub returns-clause-blames : goal.returns-clause-blames
returns-clause-blames g c = own c.replace.result (later _ c.replace.result (stays_both c.clear.ensures.kept c.settle.ensures.kept) (c.in_ok-settle.ensures.blames.calm ∙ c.in_ok-clear.ensures.blames.calm) c.replace.ensures.blames)

pub returns-in_err-clear-clause-last : goal.returns-in_err-clear-clause-last
returns-in_err-clear-clause-last g c t always = c.clear.ensures.last t always

pub returns-in_err-settle-clause-last : goal.returns-in_err-settle-clause-last
returns-in_err-settle-clause-last g c t always =
    let first = c.clear.ensures.last (c.settle.ensures.kept.tells t) always in
    joined first (weaker (c.settle.ensures.moments t) (λ image h. ends first image h))

pub returns-clause-last : goal.returns-clause-last
returns-clause-last g c t always =
    let C = string_bytes c.args.target.now.name in
    let final = c.args.target.now.is_final in
    let old = (g.F.Folder.world c.args.folder.now).story.now in
    let t2 = c.replace.ensures.kept.tells t in
    let t1 = c.settle.ensures.kept.tells t2 in
    let cleared = c.clear.ensures.last t1 always in
    let first = joined cleared (weaker (c.settle.ensures.moments t2) (λ image h. ends cleared image h)) in
    let settled = c.in_ok-settle.ensures.done t2 in
    under_started C final _ first
    (λ n mine. ap (λ (d : Disk). d.live n) settled ∙ c.in_ok-clear.ensures.gone t1 n ∙ ap (λ (b : Bool). if b then None else old.live n) (under_goes C final false n mine))
    (settled_only (g.F.Folder.world c.clear.new.folder).story.now (g.F.Folder.world c.settle.new.folder).story.now settled)
    (c.as_str.ensures.value ∙ c.args.target.now.spare_is) (c.as_str-2.ensures.value ∙ c.args.target.now.record_is) (c.replace.ensures.moments t)
