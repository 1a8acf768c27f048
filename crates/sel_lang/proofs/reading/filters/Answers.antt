use Rattle.std.proofs.Common.{rules, ◌≡◌, ◌++◌, ◌∷◌, [], length, map}
use Rattle.std.proofs.lemmas.List.{map_push}
use Rattle.std.proofs.lemmas.Result.{err_from_is_err_and}
use Rattle.read_base.proofs.LoopLemmas.{goes_on, ends, is_done, is_over}
use Rattle.sel_lang.specs.Plain.{plain_filter}
use Rattle.sel_lang.specs.Filters.{filter_at}
use Rattle.sel_lang.specs.Reading.{is_next, behind}
use Rattle.sel_lang.proofs.reading.filters.Goals.{else-loop-test, then-loop-test+in_default}
use Rattle.sel_lang.proofs.reading.filters.Goals as goal

pub returns-in_err-one : goal.returns-in_err-one
returns-in_err-one c =
    let p = err_from_is_err_and c.from_residual.result c.from_residual.ensures.1 in
    rw (p.1, p.2) (ends (is_next 91) (behind filter_at) c.in_err-one.field-0.0 (map plain_filter c.loop.all.items) (length c.args.text.now) c.loop.counter c.loop.rest.now _ c.loop-test.true
    c.in-Some.ensures.some.0 (rw (← c.in-Some.ensures.some.1) c.in_err-one.ensures) c.loop.invariant.0)

pub loop-preserved : goal.loop-preserved
loop-preserved c =
    let e : map plain_filter c.push.new.self.items ≡ map plain_filter c.loop.all.items ++ plain_filter c.in_ok-one.one ∷ [] = rw c.in_ok-push.ensures.items (map_push _ c.loop.all.items c.in_ok-one.one) in (
      rw e (goes_on (is_next 91) (behind filter_at) (map plain_filter c.loop.all.items) (length c.args.text.now) c.loop.counter c.loop.rest.now (plain_filter c.in_ok-one.one) c.in_ok-one.left.now _ c.loop-test.true
          c.in-Some.ensures.some.0 (rw (← c.in-Some.ensures.some.1) c.in_ok-one.ensures) c.loop.invariant.0),
      search rules,
    )

pub returns : goal.returns
returns c = elim c.loop-test.branch [
  | else-loop-test w ↦ is_done (is_next 91) (behind filter_at) (map plain_filter c.loop.all.items) (length c.args.text.now) c.loop.counter c.loop.rest.now _ w.loop-test.false c.loop.invariant.0
  | then-loop-test+in_default w ↦ is_over (is_next 91) (behind filter_at) (map plain_filter c.loop.all.items) (length c.args.text.now) c.loop.counter c.loop.rest.now _ w.in_default.ensures.none c.loop.invariant.0
]
