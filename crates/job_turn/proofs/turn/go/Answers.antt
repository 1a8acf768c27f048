use Rattle.std.proofs.Common.{◌∙◌, List, map, inl, inr, refl, ap}
use Rattle.std.specs.Prelude.{Ok, Err, is_some}
use Rattle.folder_base.specs.Disk.{Name}
use Rattle.folder_steps.proofs.RefusalLemmas.{own}
use Rattle.job_pieces.specs.declared.component.Component.{Component}
use Rattle.job_turn.proofs.turn.go.Goals as goal

pub returns-in_default-clause-goes : goal.returns-in_default-clause-goes
returns-in_default-clause-goes g c = inr (record { refused = refl; bench_same = refl; same = refl; unasked = refl })

pub returns-in-Ok-true-clause-goes : goal.returns-in-Ok-true-clause-goes
returns-in-Ok-true-clause-goes g c = inl (record {
  frame = record { final_name = c.args.job.final_name; components = c.in-Ok.components; steps = c.args.job.steps; execs = c.args.job.execs; keep = c.args.settings.keep };
  frame_is = record {
    final_name = refl;
    components = c.in-Ok.ensures ∙ ap (λ (components : List Component). map (λ component. component.name) components) c.deref.ensures.value;
    steps = refl;
    execs = refl;
    keep = refl;
  };
  mid = g.F.Folder.world c.is_there.new.folder;
  stands = Ok c.in-Ok-true.field-0;
  asks = record {
    looked = c.in-Ok-true.ensures.looked;
    right = λ t. c.in-Ok-true.ensures.told t ∙ ap (λ (name : Name). is_some ((g.F.Folder.world c.args.folder.now).story.now.live name)) c.as_str.ensures;
    blames = own (Ok c.in-Ok-true.field-0) c.in-Ok-true.ensures.blames;
  };
  behind = rw c.in-Ok-true.field-0-test (c.clear_recorded.ensures, refl, refl);
})

pub returns-in-Ok-false-clause-goes : goal.returns-in-Ok-false-clause-goes
returns-in-Ok-false-clause-goes g c = inl (record {
  frame = record { final_name = c.args.job.final_name; components = c.in-Ok.components; steps = c.args.job.steps; execs = c.args.job.execs; keep = c.args.settings.keep };
  frame_is = record {
    final_name = refl;
    components = c.in-Ok.ensures ∙ ap (λ (components : List Component). map (λ component. component.name) components) c.deref.ensures.value;
    steps = refl;
    execs = refl;
    keep = refl;
  };
  mid = g.F.Folder.world c.is_there.new.folder;
  stands = Ok c.in-Ok-false.field-0;
  asks = record {
    looked = c.in-Ok-false.ensures.looked;
    right = λ t. c.in-Ok-false.ensures.told t ∙ ap (λ (name : Name). is_some ((g.F.Folder.world c.args.folder.now).story.now.live name)) c.as_str.ensures;
    blames = own (Ok c.in-Ok-false.field-0) c.in-Ok-false.ensures.blames;
  };
  behind = rw c.in-Ok-false.field-0-test (c.make.result, c.make.ensures.works, c.turn_answer.ensures);
})

pub returns-in-Err-clause-goes : goal.returns-in-Err-clause-goes
returns-in-Err-clause-goes g c = inl (record {
  frame = record { final_name = c.args.job.final_name; components = c.in-Ok.components; steps = c.args.job.steps; execs = c.args.job.execs; keep = c.args.settings.keep };
  frame_is = record {
    final_name = refl;
    components = c.in-Ok.ensures ∙ ap (λ (components : List Component). map (λ component. component.name) components) c.deref.ensures.value;
    steps = refl;
    execs = refl;
    keep = refl;
  };
  mid = g.F.Folder.world c.is_there.new.folder;
  stands = Err c.in-Err.fault;
  asks = record { looked = c.in-Err.ensures.looked; right = c.in-Err.ensures.told; blames = own (Err c.in-Err.fault) c.in-Err.ensures.blames };
  behind = (λ i. Err (c.fault_at.ensures i), refl, refl, refl);
})
