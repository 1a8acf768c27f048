use Rattle.std.proofs.lemmas.Result.{on_ok_weaker, MatchResult-weaker}
use Rattle.keep_store.proofs.Runs.{and_none, took_all_some}
use Rattle.keep_store.proofs.taking.put_to_mark.Goals as goal

pub returns-then-state-eq0-clause-taken : goal.returns-then-state-eq0-clause-taken
returns-then-state-eq0-clause-taken g c = on_ok_weaker c.promise_all.result (λ two. and_none c.in_ok-put_front.ensures.taken two) c.promise_all.ensures.taken

pub returns-then-state-eq0-clause-part_taken : goal.returns-then-state-eq0-clause-part_taken
returns-then-state-eq0-clause-part_taken g c = MatchResult-weaker c.promise_all.result c.promise_all.ensures.part_taken (λ x is. is) (λ fault two. took_all_some (and_none c.in_ok-put_front.ensures.taken two))
