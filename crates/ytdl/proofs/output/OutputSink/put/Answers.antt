use Rattle.std.proofs.Common.{◌-◌, length, drop, arith, length-drop}
use Rattle.std.proofs.lemmas.List.{take_all}
use Rattle.ytdl.proofs.OutputLemmas.{took_more, took_no_more, took_front}
use Rattle.ytdl.proofs.output.OutputSink.put.Goals as goal
use Rattle.ytdl.proofs.output.OutputSink.put.Goals.{in-Ok, in-Err, else-loop-test, then-loop-test+else-is_empty+in-Ok-eq0, then-loop-test+else-is_empty+in-Err-2}

pub loop-preserved : goal.loop-preserved
loop-preserved g c = record {
  front = elim c.match-write.branch [
    | in-Ok w ↦ rw (w.rest-is, take_all (length c.loop.rest.now - w.in-Ok.n) (drop w.in-Ok.n c.loop.rest.now) (omega (arith, length-drop w.in-Ok.n c.loop.rest.now)))
        (took_more _ _ _ _ _ w.in-Ok.n c.loop.invariant.front w.in-Ok.ensures.bytes)
    | in-Err w ↦ rw w.rest-is (took_no_more _ _ _ _ _ c.loop.invariant.front w.in-Err.ensures.bytes)
  ];
  faults = c.loop.invariant.faults;
}

pub returns-clause-front : goal.returns-clause-front
returns-clause-front g c = elim c.loop-test.branch [
  | else-loop-test w ↦ rw w.self-is (took_front _ _ _ _ c.loop.invariant.front)
  | then-loop-test+else-is_empty+in-Ok-eq0 w ↦
      rw w.self-is (took_front _ _ _ _ (took_more _ _ _ _ _ w.in-Ok-eq0.field-0 c.loop.invariant.front w.in-Ok-eq0.ensures-1.bytes))
  | then-loop-test+else-is_empty+in-Err-2 w ↦
      rw w.self-is (took_front _ _ _ _ (took_no_more _ _ _ _ _ c.loop.invariant.front w.in-Err.ensures.bytes))
]
