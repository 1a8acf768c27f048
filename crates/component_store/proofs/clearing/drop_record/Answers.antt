use Rattle.std.proofs.Common.{◌∙◌, ap, sym, inl, Bool}
use Rattle.std.specs.Prelude.{None, bytes_eq, not, ◌&&◌, if◌then◌else◌}
use Rattle.folder_base.specs.Disk.{Disk}
use Rattle.folder_base.proofs.Moments.{begun, joined, weaker}
use Rattle.folder_steps.proofs.RemovalLemmas.{as_it_was, thin_runs}
use Rattle.component_store.proofs.LastLemmas.{behind_settled}
use Rattle.std.proofs.lemmas.Result.{err_from_is_err_and}
use Rattle.folder_steps.proofs.RefusalLemmas.{err_later}
use Rattle.component_store.proofs.clearing.drop_record.Goals as goal

pub returns-then-stays-clause-behind : goal.returns-then-stays-clause-behind
returns-then-stays-clause-behind g c t = begun _ _ (λ image h. inl h)

pub returns-in_err-settle-clause-moments : goal.returns-in_err-settle-clause-moments
returns-in_err-settle-clause-moments g c t = weaker (c.settle.ensures.moments t) (λ image h. as_it_was _ image h)

pub returns-in_err-settle-clause-behind : goal.returns-in_err-settle-clause-behind
returns-in_err-settle-clause-behind g c t = weaker (c.settle.ensures.moments t) (λ image h. inl h)

pub returns-in_err-drop_name-clause-moments : goal.returns-in_err-drop_name-clause-moments
returns-in_err-drop_name-clause-moments g c t =
    thin_runs (bytes_eq c.args.name.now) (λ n. not c.args.stays && bytes_eq c.args.name.now n) (λ n h. ap (λ (v : Bool). not v && bytes_eq c.args.name.now n) c.if-stays.false ∙ h)
    (weaker (c.settle.ensures.moments (c.drop_name.ensures.kept.tells t)) (λ image h. as_it_was _ image h)) (c.drop_name.ensures.moments t)

pub returns-in_err-drop_name-clause-behind : goal.returns-in_err-drop_name-clause-behind
returns-in_err-drop_name-clause-behind g c t =
    let t1 = c.drop_name.ensures.kept.tells t in
    joined (weaker (c.settle.ensures.moments t1) (λ image h. inl h))
    (weaker (c.drop_name.ensures.moments t) (λ image h. behind_settled c.args.name.now (g.F.Folder.world c.args.folder.now).story.now (g.F.Folder.world c.settle.new.folder).story.now (c.in_ok-settle.ensures.done t1) image h))

pub returns-in_err-drop_name-clause-blames : goal.returns-in_err-drop_name-clause-blames
returns-in_err-drop_name-clause-blames g c =
    let p = err_from_is_err_and c.from_residual-in_err-drop_name.result c.from_residual-in_err-drop_name.ensures.1 in
    rw (p.1, p.2) (err_later c.settle.ensures.kept c.in_ok-settle.ensures.blames.calm c.in_err-drop_name.ensures.blames)

pub returns-clause-moments : goal.returns-clause-moments
returns-clause-moments g c t =
    thin_runs (bytes_eq c.args.name.now) (λ n. not c.args.stays && bytes_eq c.args.name.now n) (λ n h. ap (λ (v : Bool). not v && bytes_eq c.args.name.now n) c.if-stays.false ∙ h)
    (weaker (c.settle.ensures.moments (c.drop_name.ensures.kept.tells t)) (λ image h. as_it_was _ image h)) (c.drop_name.ensures.moments t)

pub returns-clause-behind : goal.returns-clause-behind
returns-clause-behind g c t =
    let t1 = c.drop_name.ensures.kept.tells t in
    joined (weaker (c.settle.ensures.moments t1) (λ image h. inl h))
    (weaker (c.drop_name.ensures.moments t) (λ image h. behind_settled c.args.name.now (g.F.Folder.world c.args.folder.now).story.now (g.F.Folder.world c.settle.new.folder).story.now (c.in_ok-settle.ensures.done t1) image h))

pub returns-clause-gone : goal.returns-clause-gone
returns-clause-gone g c t n =
    let name = c.args.name.now in
    let old = (g.F.Folder.world c.args.folder.now).story.now in
    c.in_ok-drop_name.ensures.gone t n
    ∙ ap (λ (d : Disk). if bytes_eq name n then None else d.live n) (c.in_ok-settle.ensures.done (c.drop_name.ensures.kept.tells t))
    ∙ ap (λ (v : Bool). if not v && bytes_eq name n then None else old.live n) (sym c.if-stays.false)
