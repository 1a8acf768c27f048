use Rattle.std.proofs.Common.{◌∙◌, List, [], refl, arith, sym, subst}
use Rattle.std.proofs.lemmas.List.{drop_all}
use Rattle.std.specs.Prelude.{Ok, Err}
use Rattle.folder_base.specs.Disk.{Name}
use Rattle.folder_base.specs.declared.store_fault.StoreFault.{StoreFault}
use Rattle.folder_steps.proofs.RefusalLemmas.{own_err_later}
use Rattle.keep_store.specs.TookLaws.{stays_both}
use Rattle.component_turn.proofs.CrewLemmas.{endures_stays}
use Rattle.job_turn.specs.Clearing.{Clears, is_tidied_of}
use Rattle.job_turn.specs.declared.end.FaultAt.TheVariants.{Component}
use Rattle.job_turn.specs.declared.end.TurnFault.{TurnFault}
use Rattle.job_turn.proofs.ClearLemmas.{clears_none, tidies_from, tidies_stop, here_at}
use Rattle.job_turn.proofs.clearing.tidy_all.Goals as goal

pub tidy_one-requires : goal.tidy_one-requires
tidy_one-requires g c t =
    let kept = endures_stays c.loop-number.invariant.kept in
    kept.whole t (c.requires.whole (kept.tells t))

pub returns-in-Err-clause-cleared : goal.returns-in-Err-clause-cleared
returns-in-Err-clause-cleared g c =
    c.loop-number.invariant.rest (g.F.Folder.world c.tidy_one.new.folder) (Err c.fault_at.result)
    (tidies_stop {E = StoreFault} c.args.is_final c.args.keep c.args.components.now c.loop-number.number c.as_str.result.now c.in-Err.fault c.fault_at.result
    (here_at c.args.components.now c.loop-number.number c.index-components-number.result c.as_str.result.now (omega arith) c.index-components-number.is c.as_str.ensures)
    c.in-Err.ensures.cleared)

pub returns-in-Err-clause-answers : goal.returns-in-Err-clause-answers
returns-in-Err-clause-answers g c = record {
  place = Component c.loop-number.number;
  done = Err c.in-Err.fault;
  told = λ i. Err (c.fault_at.ensures i);
  blames = own_err_later c.loop-number.invariant.kept c.loop-number.invariant.calm c.in-Err.ensures.blames;
}

pub loop-number-preserved : goal.loop-number-preserved
loop-number-preserved g c = record {
  kept = stays_both c.loop-number.invariant.kept c.in_default.ensures.cleared.stays;
  calm = c.in_default.ensures.blames.calm ∙ c.loop-number.invariant.calm;
  rest = λ world result clears. c.loop-number.invariant.rest world result
      (tidies_from {E = StoreFault} c.args.is_final c.args.keep c.args.components.now c.loop-number.number c.as_str.result.now result c.requires.apart
      (here_at c.args.components.now c.loop-number.number c.index-components-number.result c.as_str.result.now (omega arith) c.index-components-number.is c.as_str.ensures)
      c.in_default.ensures.cleared clears);
}

pub returns-clause-cleared : goal.returns-clause-cleared
returns-clause-cleared g c =
    let world = g.F.Folder.world c.loop-number.folder in
    c.loop-number.invariant.rest world (Ok tt)
    (subst (λ (names : List Name). Clears {E = TurnFault} (is_tidied_of c.args.is_final c.args.keep world.story.now.live names) world world (Ok tt)) (sym (drop_all c.loop-number.number c.args.components.now (omega arith)))
    (clears_none {E = TurnFault} (is_tidied_of c.args.is_final c.args.keep world.story.now.live []) world (λ n. refl)))

pub returns-clause-answers : goal.returns-clause-answers
returns-clause-answers g c = record { place = Component 0; done = Ok tt; told = refl; blames = record { cause = tt; calm = c.loop-number.invariant.calm } }
