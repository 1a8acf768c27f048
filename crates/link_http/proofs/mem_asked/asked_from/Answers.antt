use Rattle.std.proofs.Common.{◌≡◌, List, ℕ, sym, ap, ◌∙◌, drop, ◌+◌, false}
use Rattle.std.specs.Prelude.{nat_eq, codes}
use Rattle.std.specs.List.{starts_with}
use Rattle.link_http.proofs.AskedLemmas.{begins, range_other, range_unmarked, range_nowhere}
use Rattle.link_http.proofs.mem_asked.asked_from.Goals as goal
use Rattle.link_http.proofs.mem_asked.asked_from.Goals.{else-byte-eq10-via-then-byte-eq10+else-starts_with, else-byte-eq10-via-else-byte-eq10}

pub loop-i-preserved : goal.loop-i-preserved
loop-i-preserved c =
    let text = c.args.request.now in
    let i = c.loop-i.i in
    c.loop-i.invariant ∙ elim c.else-byte-eq10.branch [
      | else-byte-eq10-via-then-byte-eq10+else-starts_with w ↦
          let none : begins (drop (i + 1) text) ≡ false =
          ap (λ (rest : List ℕ). starts_with nat_eq rest (codes "Range: bytes=")) (sym c.split_at.ensures.back)
          ∙ ap (λ (mark : List ℕ). starts_with nat_eq c.split_at.result.1.now mark) (sym c.as_slice-mark.ensures) ∙ sym w.starts_with.ensures.value ∙ w.if-starts_with.false in
          range_unmarked text i c.loop-i-test.true none
      | else-byte-eq10-via-else-byte-eq10 w ↦ range_other text i c.loop-i-test.true w.if-byte-eq10.false
    ]

pub returns : goal.returns
returns c = sym (c.loop-i.invariant ∙ range_nowhere c.args.request.now c.loop-i.i c.loop-i-test.false)
