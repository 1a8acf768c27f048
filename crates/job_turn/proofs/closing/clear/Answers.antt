use Rattle.std.proofs.Common.{◌==◌, ◌∙◌, ℕ, Bool, List, ap, subst}
use Rattle.std.specs.Prelude.{Err, Result}
use Rattle.folder_base.proofs.Disjoint.{so_left}
use Rattle.folder_base.specs.Disk.{Name}
use Rattle.folder_base.specs.declared.store_fault.StoreFault.{StoreFault}
use Rattle.folder_steps.specs.Blames.{Blames}
use Rattle.folder_steps.proofs.RefusalLemmas.{own_err, own_later}
use Rattle.component_turn.proofs.CrewLemmas.{endures_stays}
use Rattle.tool_chain.specs.Jobs.{is_output_of}
use Rattle.job_turn.specs.Clearing.{Clears, is_tidied_of}
use Rattle.job_turn.specs.Making.{steps_in, goes_behind}
use Rattle.job_turn.specs.declared.end.FaultAt.TheVariants.{Final}
use Rattle.job_turn.proofs.ClearLemmas.{clears_stop}
use Rattle.job_turn.proofs.BehindLemmas.{clears_behind}
use Rattle.job_turn.proofs.closing.clear.Goals as goal

pub tidy_all-requires-clause-whole : goal.tidy_all-requires-clause-whole
tidy_all-requires-clause-whole g c t =
    let dropped = endures_stays c.drop_outputs.ensures.cleared.stays in
    dropped.whole t (c.requires.whole (dropped.tells t))

pub returns-in-Err : goal.returns-in-Err
returns-in-Err g c =
    let old = g.F.Folder.world c.args.folder.now in
    let new = g.F.Folder.world c.drop_outputs.new.folder in
    record {
      clears = clears_stop {E = StoreFault} (is_output_of (steps_in c.args.frame.now)) (goes_behind c.args.frame.now old) c.in-Err.fault c.fault_at.result (λ n goes. so_left _ _ goes)
          (subst (λ (r : Result (Unit {0}) StoreFault). Clears (is_output_of (steps_in c.args.frame.now)) old new r) c.in-Err.is c.drop_outputs.ensures.cleared);
      answers = record {
        place = Final;
        done = Err c.in-Err.fault;
        told = λ i. Err (c.fault_at.ensures i);
        blames = own_err (subst (λ (r : Result (Unit {0}) StoreFault). Blames old new r) c.in-Err.is c.drop_outputs.ensures.blames);
      };
    }

pub returns : goal.returns
returns g c =
    let mid = g.F.Folder.world c.drop_outputs.new.folder in
    let new = g.F.Folder.world c.tidy_all.new.folder in
    let frame = c.args.frame.now in
    let first = c.in_default.ensures in
    let rest = c.tidy_all.ensures in
    record {
      clears = clears_behind {E = StoreFault} frame c.tidy_all.result c.requires.fit first.cleared
          (subst (λ (b : Bool). Clears (is_tidied_of b frame.keep mid.story.now.live frame.components.items) mid new c.tidy_all.result) (c.is_empty-is_final.ensures ∙ ap (λ (n : ℕ). n == 0) frame.steps.ok.0)
          (subst (λ (names : List Name). Clears (is_tidied_of c.is_empty-is_final.result frame.keep mid.story.now.live names) mid new c.tidy_all.result) c.deref.ensures.value rest.cleared));
      answers = record {
        place = rest.answers.place;
        done = rest.answers.done;
        told = rest.answers.told;
        blames = own_later new rest.answers.done first.cleared.stays first.blames.calm rest.answers.blames;
      };
    }
