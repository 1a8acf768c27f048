use Rattle.std.proofs.Common.{◌∙◌, ap, sym, subst, arith, List}
use Rattle.std.specs.Prelude.{bytes_eq, IsTrue, IsSome}
use Rattle.std.proofs.lemmas.Result.{err_from_is_err_and}
use Rattle.folder_base.specs.Disk.{Name, begins}
use Rattle.folder_base.specs.Names.{Lists}
use Rattle.folder_base.specs.Story.{Story}
use Rattle.keep_store.specs.TookLaws.{stays_both}
use Rattle.keep_store.proofs.Finding.{item_is}
use Rattle.folder_steps.proofs.RemovalLemmas.{unchanged, thin_runs, only_that, left_first, left_behind, stand_first, stand_behind, item_begins, kept_elsewhere}
use Rattle.folder_steps.proofs.RefusalLemmas.{names_calm, names_refused, err_later_own}
use Rattle.folder_steps.proofs.dropping.sweep.Goals as goal

pub returns-in-Err-clause-moments : goal.returns-in-Err-clause-moments
returns-in-Err-clause-moments g c t = unchanged _ (c.names.ensures.same.story t)

pub loop-name-init : goal.loop-name-init
loop-name-init g c =
    let lists = λ (t : IsTrue (g.F.Folder.world c.names.new.self).tells). subst (λ (l : List Name). Lists c.args.prefix.now (g.F.Folder.world c.args.folder.now).story.now.live l) (sym c.deref-name-items.ensures.value) (c.in-Ok.ensures.told t) in
    record {
      kept = record { tells = c.names.ensures.cause.tells; still_tells = c.names.ensures.cause.still_tells; steady = c.names.ensures.cause.steady; faults = c.names.ensures.cause.faults; refusals = omega (arith, c.names.ensures.cause.refusals); part = c.names.ensures.same.part; out = c.names.ensures.same.out };
      calm = names_calm c.in-Ok.ensures.cause;
      moments = λ t. unchanged _ (c.names.ensures.same.story t);
      left = λ t. left_first c.args.prefix.now _ _ _ (lists t) (λ n. ap (λ (s : Story). s.now.live n) (c.names.ensures.same.story t));
      stand = λ t. stand_first c.args.prefix.now _ _ _ (lists t) (λ n. ap (λ (s : Story). s.now.live n) (c.names.ensures.same.story t));
      elsewhere = λ t n b. ap (λ (s : Story). s.now.live n) (c.names.ensures.same.story t);
    }

pub drop_standing-requires-clause-stands : goal.drop_standing-requires-clause-stands
drop_standing-requires-clause-stands g c t =
    let item = item_is c.deref-name-items.result.now c.loop-name.name-index c.name-item.result c.as_str.result.now (omega arith) c.name-item.is c.as_str.ensures in
    subst (λ (n : Name). IsSome ((g.F.Folder.world c.loop-name.folder).story.now.live n)) (item c.as_str.result.now) (c.loop-name.invariant.stand t c.loop-name.name-index c.as_str.result.now (omega arith) (omega arith))

pub returns-in_err-drop_standing-clause-moments : goal.returns-in_err-drop_standing-clause-moments
returns-in_err-drop_standing-clause-moments g c t =
    let t1 = c.drop_standing.ensures.kept.tells t in
    let t0 = c.names.ensures.cause.still_tells (c.loop-name.invariant.kept.tells t1) in
    let lists = subst (λ (l : List Name). Lists c.args.prefix.now (g.F.Folder.world c.args.folder.now).story.now.live l) (sym c.deref-name-items.ensures.value) (c.in-Ok.ensures.told t0) in
    let item = item_is c.deref-name-items.result.now c.loop-name.name-index c.name-item.result c.as_str.result.now (omega arith) c.name-item.is c.as_str.ensures in
    let may = item_begins c.args.prefix.now c.as_str.result.now _ c.deref-name-items.result.now c.loop-name.name-index lists (omega arith) item in
    thin_runs (bytes_eq c.as_str.result.now) (begins c.args.prefix.now) (only_that (begins c.args.prefix.now) c.as_str.result.now may) (c.loop-name.invariant.moments t1) (c.drop_standing.ensures.moments t)

pub loop-name-preserved : goal.loop-name-preserved
loop-name-preserved g c =
    let item = item_is c.deref-name-items.result.now c.loop-name.name-index c.name-item.result c.as_str.result.now (omega arith) c.name-item.is c.as_str.ensures in
    let lists = λ (t1 : IsTrue (g.F.Folder.world c.loop-name.folder).tells).
    subst (λ (l : List Name). Lists c.args.prefix.now (g.F.Folder.world c.args.folder.now).story.now.live l) (sym c.deref-name-items.ensures.value) (c.in-Ok.ensures.told (c.names.ensures.cause.still_tells (c.loop-name.invariant.kept.tells t1))) in
    let may = λ (t1 : IsTrue (g.F.Folder.world c.loop-name.folder).tells).
    item_begins c.args.prefix.now c.as_str.result.now _ c.deref-name-items.result.now c.loop-name.name-index (lists t1) (omega arith) item in
    record {
      kept = stays_both c.loop-name.invariant.kept c.drop_standing.ensures.kept;
      calm = c.in_ok-drop_standing.ensures.blames.calm ∙ c.loop-name.invariant.calm;
      moments = λ t. let t1 = c.drop_standing.ensures.kept.tells t in
          thin_runs (bytes_eq c.as_str.result.now) (begins c.args.prefix.now) (only_that (begins c.args.prefix.now) c.as_str.result.now (may t1)) (c.loop-name.invariant.moments t1) (c.drop_standing.ensures.moments t);
      left = λ t. let t1 = c.drop_standing.ensures.kept.tells t in
          left_behind c.args.prefix.now c.as_str.result.now c.deref-name-items.result.now c.loop-name.name-index _ _ item (c.in_ok-drop_standing.ensures.gone t) (c.loop-name.invariant.left t1);
      stand = λ t. let t1 = c.drop_standing.ensures.kept.tells t in
          stand_behind c.as_str.result.now c.deref-name-items.result.now c.loop-name.name-index _ _ item (lists t1).ordered (c.in_ok-drop_standing.ensures.gone t) (c.loop-name.invariant.stand t1);
      elsewhere = λ t n b. let t1 = c.drop_standing.ensures.kept.tells t in
          kept_elsewhere (begins c.args.prefix.now) c.as_str.result.now (may t1) _ _ (c.in_ok-drop_standing.ensures.gone t) n b ∙ c.loop-name.invariant.elsewhere t1 n b;
    }

pub returns-in_err-drop_standing-clause-blames : goal.returns-in_err-drop_standing-clause-blames
returns-in_err-drop_standing-clause-blames g c =
    let p = err_from_is_err_and c.from_residual.result c.from_residual.ensures.1 in
    rw (p.1, p.2) (err_later_own c.loop-name.invariant.kept c.loop-name.invariant.calm c.in_err-drop_standing.ensures.blames)

pub returns-in-Err-clause-blames : goal.returns-in-Err-clause-blames
returns-in-Err-clause-blames g c =
    names_refused _ (g.F.Folder.world c.args.folder.now) (g.F.Folder.world c.names.new.self) c.in-Err.fault c.names.result c.in-Err.is c.names.ensures.cause c.names.ensures.same _ c.store_fault.ensures
