use Rattle.std.proofs.Common.{inl, refl, subst, arith}
use Rattle.std.specs.Prelude.{IsSome}
use Rattle.folder_base.specs.Disk.{Name}
use Rattle.std.proofs.lemmas.Result.{err_from_is_err_and}
use Rattle.keep_store.specs.TookLaws.{stays_both, refusal_later}
use Rattle.keep_store.proofs.Finding.{item_is}
use Rattle.keep_store.proofs.Removing.{secures_after, secures_none, removes_after, left_after, first_left, others_after}
use Rattle.keep_store.proofs.opening.remove_others.Goals as goal

pub loop-name-init : goal.loop-name-init
loop-name-init g c = record {
  kept = record { tells = λ h. h; still_tells = λ h. h; steady = λ h. h; faults = omega arith; refusals = omega arith; part = refl; out = refl };
  removed = λ t. record { gone = λ k name before inside at other. absurd (omega arith); only = λ name. inl refl };
  left = λ t. first_left _ c.args.names.now (c.requires.stand t);
  others = λ t name not. refl;
  secured = λ t. secures_none c.args.current.now _;
}

pub remove_other-requires-clause-stands : goal.remove_other-requires-clause-stands
remove_other-requires-clause-stands g c t =
    let item = item_is c.args.names.now c.loop-name.name-index c.name-item.result c.as_str.result.now (omega arith) c.name-item.is c.as_str.ensures in
    subst (λ (n : Name). IsSome ((g.F.Folder.world c.loop-name.folder).story.now.live n)) (item c.as_str.result.now) (c.loop-name.invariant.left t c.loop-name.name-index c.as_str.result.now (omega arith) (omega arith))

pub loop-name-preserved : goal.loop-name-preserved
loop-name-preserved g c =
    let item = item_is c.args.names.now c.loop-name.name-index c.name-item.result c.as_str.result.now (omega arith) c.name-item.is c.as_str.ensures in
    record {
      kept = stays_both c.loop-name.invariant.kept c.remove_other.ensures.kept;
      removed = λ t. removes_after c.args.prefix.now c.args.current.now c.args.names.now c.loop-name.name-index c.as_str.result.now _ _ _ (omega arith) item (c.in_ok-remove_other.ensures.left t) (c.remove_other.ensures.told t)
          (c.loop-name.invariant.removed (c.remove_other.ensures.kept.tells t));
      left = λ t. left_after c.args.prefix.now c.args.current.now c.args.names.now c.loop-name.name-index c.as_str.result.now _ _ (omega arith) item
          (c.requires.stand (c.loop-name.invariant.kept.tells (c.remove_other.ensures.kept.tells t))).ordered (c.remove_other.ensures.told t) (c.loop-name.invariant.left (c.remove_other.ensures.kept.tells t));
      others = λ t. others_after c.args.prefix.now c.args.current.now c.as_str.result.now (g.F.Folder.world c.args.folder.now).story (g.F.Folder.world c.loop-name.folder).story (g.F.Folder.world c.remove_other.new.folder).story (c.remove_other.ensures.told t) (c.loop-name.invariant.others (c.remove_other.ensures.kept.tells t));
      secured = λ t. secures_after c.args.prefix.now c.args.current.now c.as_str.result.now _ _ _ (c.remove_other.ensures.told t) (c.loop-name.invariant.secured (c.remove_other.ensures.kept.tells t));
    }

pub returns-in_err-remove_other-clause-secured : goal.returns-in_err-remove_other-clause-secured
returns-in_err-remove_other-clause-secured g c t =
    secures_after c.args.prefix.now c.args.current.now c.as_str.result.now _ _ _ (c.remove_other.ensures.told t) (c.loop-name.invariant.secured (c.remove_other.ensures.kept.tells t))

pub returns-in_err-remove_other-clause-others : goal.returns-in_err-remove_other-clause-others
returns-in_err-remove_other-clause-others g c t =
    others_after c.args.prefix.now c.args.current.now c.as_str.result.now (g.F.Folder.world c.args.folder.now).story (g.F.Folder.world c.loop-name.folder).story (g.F.Folder.world c.remove_other.new.folder).story (c.remove_other.ensures.told t) (c.loop-name.invariant.others (c.remove_other.ensures.kept.tells t))

pub returns-in_err-remove_other-clause-refused : goal.returns-in_err-remove_other-clause-refused
returns-in_err-remove_other-clause-refused g c =
    let p = err_from_is_err_and c.from_residual.result c.from_residual.ensures.1 in
    rw (p.1, p.2) (refusal_later c.loop-name.invariant.kept c.in_err-remove_other.ensures.refused)
