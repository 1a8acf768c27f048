use Rattle.std.proofs.Common.{inl, inr}
use Rattle.tool_chain.proofs.MemoryLemmas.{no_steady_fault}
use Rattle.tool_chain.proofs.act.end_of.Goals as goal

pub returns-then-not-inputs-clause-ended : goal.returns-then-not-inputs-clause-ended
returns-then-not-inputs-clause-ended g c = inl c.failed.ensures

pub returns-in-Ok-clause-ended : goal.returns-in-Ok-clause-ended
returns-in-Ok-clause-ended g c = inr (record {
  are_read = c.if-not-inputs.false;
  calm = c.in-Ok.ensures.blames.calm;
  starts = c.in-Ok.ensures.starts;
  left = c.in-Ok.ensures.left;
  made = c.in-Ok.ensures.made;
  ends = c.in-Ok.ensures.ends;
})

pub returns-in-Ok-clause-steady : goal.returns-in-Ok-clause-steady
returns-in-Ok-clause-steady g c s t is = record {
  are_read = is;
  calm = c.in-Ok.ensures.blames.calm;
  starts = c.in-Ok.ensures.starts;
  left = c.in-Ok.ensures.left;
  made = c.in-Ok.ensures.made;
  ends = c.in-Ok.ensures.ends;
}

pub returns-in-Err-Folder-clause-ended : goal.returns-in-Err-Folder-clause-ended
returns-in-Err-Folder-clause-ended g c = inl c.failed-in-Err-Folder.ensures

pub returns-in-Err-Folder-clause-steady : goal.returns-in-Err-Folder-clause-steady
returns-in-Err-Folder-clause-steady g c s t is = absurd (no_steady_fault (rw c.in-Err-Folder.field-0-is at c.in-Err-Folder.ensures.blames.cause) s t)

pub returns-in-Err-OutOfMemory-clause-fed : goal.returns-in-Err-OutOfMemory-clause-fed
returns-in-Err-OutOfMemory-clause-fed g c =
    let is = rw c.in-Err-OutOfMemory.field-0-is at c.in-Err-OutOfMemory.ensures in
    (c.if-not-inputs.false, is.blames.calm)
