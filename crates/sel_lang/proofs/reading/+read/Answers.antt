use Rattle.std.proofs.Common.{rules, ◌≡◌, ◌++◌, ◌∷◌, [], length, map}
use Rattle.std.proofs.lemmas.Result.{err_from_is_err_and}
use Rattle.std.proofs.lemmas.List.{map_push}
use Rattle.read_base.proofs.LoopLemmas.{goes_on, ends, is_done, is_over}
use Rattle.sel_lang.specs.View.{plain}
use Rattle.sel_lang.specs.Reading.{is_next, behind, operand_at, mark_of}
use Rattle.sel_lang.proofs.reading.+read.Goals.{others-else-loop-test, others-then-loop-test+in_default}
use Rattle.sel_lang.proofs.reading.+read.Goals as goal

pub others-returns-in_err-one : goal.others-returns-in_err-one
others-returns-in_err-one t c =
    let p = err_from_is_err_and c.from_residual.result c.from_residual.ensures.1 in
    rw (p.1, p.2) (ends (is_next (mark_of c.args.joint)) (behind (operand_at c.args.joint c.args.groups)) c.in_err-one.field-0.0 (map plain c.loop.all.items) (length c.args.text.now) c.loop.counter c.loop.rest.now _ c.loop-test.true
    (rw (← c.mark.ensures.value) c.in-Some.ensures.some.0) (rw (← c.in-Some.ensures.some.1) c.in_err-one.ensures) c.loop.invariant.0)

pub others-loop-preserved : goal.others-loop-preserved
others-loop-preserved t c =
    let e : map plain c.push.new.self.items ≡ map plain c.loop.all.items ++ plain c.in_ok-one.one ∷ [] = rw c.in_ok-push.ensures.items (map_push _ c.loop.all.items c.in_ok-one.one) in (
      rw e (goes_on (is_next (mark_of c.args.joint)) (behind (operand_at c.args.joint c.args.groups)) (map plain c.loop.all.items) (length c.args.text.now) c.loop.counter c.loop.rest.now (plain c.in_ok-one.one) c.in_ok-one.left.now _ c.loop-test.true
          (rw (← c.mark.ensures.value) c.in-Some.ensures.some.0) (rw (← c.in-Some.ensures.some.1) c.in_ok-one.ensures) c.loop.invariant.0),
      search rules,
    )

pub others-returns : goal.others-returns
others-returns t c = elim c.loop-test.branch [
  | others-else-loop-test w ↦ is_done (is_next (mark_of c.args.joint)) (behind (operand_at c.args.joint c.args.groups)) (map plain c.loop.all.items) (length c.args.text.now) c.loop.counter c.loop.rest.now _ w.loop-test.false c.loop.invariant.0
  | others-then-loop-test+in_default w ↦ is_over (is_next (mark_of c.args.joint)) (behind (operand_at c.args.joint c.args.groups)) (map plain c.loop.all.items) (length c.args.text.now) c.loop.counter c.loop.rest.now _ (rw (← w.mark.ensures.value) w.in_default.ensures.none) c.loop.invariant.0
]

pub others-next-requires-text-text : goal.others-next-requires-text-text
others-next-requires-text-text t c κs = c.loop.invariant.1

pub others-fact_in-rest : goal.others-fact_in-rest
others-fact_in-rest t c = c.loop.invariant.1
