use Rattle.std.proofs.Common.{rules, ◌≡◌, ◌++◌, ◌∷◌, [], length, sym, ◌∙◌}
use Rattle.std.proofs.lemmas.Result.{err_from_is_err_and}
use Rattle.read_base.proofs.LoopLemmas.{goes_on, ends, is_done, is_over}
use Rattle.tpl_lang.proofs.listed.all_of.Goals.{else-loop-test, then-loop-test+then-not-begins}
use Rattle.tpl_lang.proofs.listed.all_of.Goals as goal

pub returns-in_err-one : goal.returns-in_err-one
returns-in_err-one g c =
    let p = err_from_is_err_and c.from_residual.result c.from_residual.ensures.1 in
    rw (p.1, p.2) (ends g.T.Listed.test g.T.Listed.item c.in_err-one.field-0.0 c.loop.all.items (length c.args.text.now) c.loop.counter c.loop.rest.now _ c.loop-test.true (sym c.begins.ensures ∙ c.if-not-begins.false) c.in_err-one.ensures c.loop.invariant.1)

pub loop-preserved : goal.loop-preserved
loop-preserved g c =
    let e : c.push.new.self.items ≡ c.loop.all.items ++ c.in_ok-one.one ∷ [] = c.in_ok-push.ensures.items in (
      search rules,
      rw e (goes_on g.T.Listed.test g.T.Listed.item c.loop.all.items (length c.args.text.now) c.loop.counter c.loop.rest.now c.in_ok-one.one c.in_ok-one.after.now _ c.loop-test.true
          (sym c.begins.ensures ∙ c.if-not-begins.false) c.in_ok-one.ensures c.loop.invariant.1),
    )

pub returns : goal.returns
returns g c = elim c.loop-test.branch [
  | else-loop-test w ↦ is_done g.T.Listed.test g.T.Listed.item c.loop.all.items (length c.args.text.now) c.loop.counter c.loop.rest.now _ w.loop-test.false c.loop.invariant.1
  | then-loop-test+then-not-begins w ↦ is_over g.T.Listed.test g.T.Listed.item c.loop.all.items (length c.args.text.now) c.loop.counter c.loop.rest.now _ (sym w.begins.ensures ∙ w.if-not-begins.true) c.loop.invariant.1
]
