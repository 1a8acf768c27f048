use Rattle.std.proofs.Common.{◌≡◌, List, refl, subst}
use Rattle.std.specs.Prelude.{Ok, Err}
use Rattle.folder_base.specs.Disk.{Name}
use Rattle.component_turn.proofs.CrewLemmas.{endures_stays}
use Rattle.job_turn.specs.Clearing.{some_recorded}
use Rattle.job_turn.proofs.turn.clear_recorded.Goals as goal

pub clear-requires-clause-whole : goal.clear-requires-clause-whole
clear-requires-clause-whole g c t =
    let looked = endures_stays c.some_recorded.ensures.looked.stays in
    looked.whole t (c.requires.whole (looked.tells t))

pub returns-in-Ok-true : goal.returns-in-Ok-true
returns-in-Ok-true g c = record {
  mid = g.F.Folder.world c.some_recorded.new.folder;
  recorded = Ok c.in-Ok-true.field-0;
  asks = record { looked = c.in-Ok-true.ensures.looked; right = λ t. subst (λ (names : List Name). c.in-Ok-true.field-0 ≡ some_recorded (g.F.Folder.world c.args.folder.now).story.now.live names) c.deref.ensures.value (c.in-Ok-true.ensures.told t); blames = c.in-Ok-true.ensures.blames };
  cleared = rw c.in-Ok-true.field-0-test (c.clear.result, c.clear.ensures, c.stood_answer.ensures);
}

pub returns-in-Ok-false : goal.returns-in-Ok-false
returns-in-Ok-false g c = record {
  mid = g.F.Folder.world c.some_recorded.new.folder;
  recorded = Ok c.in-Ok-false.field-0;
  asks = record { looked = c.in-Ok-false.ensures.looked; right = λ t. subst (λ (names : List Name). c.in-Ok-false.field-0 ≡ some_recorded (g.F.Folder.world c.args.folder.now).story.now.live names) c.deref.ensures.value (c.in-Ok-false.ensures.told t); blames = c.in-Ok-false.ensures.blames };
  cleared = rw c.in-Ok-false.field-0-test (refl, refl);
}

pub returns-in-Err : goal.returns-in-Err
returns-in-Err g c = record {
  mid = g.F.Folder.world c.some_recorded.new.folder;
  recorded = Err c.in-Err.fault;
  asks = record { looked = c.in-Err.ensures.looked; right = c.in-Err.ensures.told; blames = c.in-Err.ensures.blames };
  cleared = (λ i. Err (c.fault_at.ensures i), refl);
}
