use Rattle.std.proofs.Common.{◌≡◌, ◌∙◌, false, true, append_assoc}
use Rattle.std.specs.Prelude.{◌==◌, nat_lt}
use Rattle.std.proofs.lemmas.Bool.{lt-ltb, le-ltb, ne_eqb}
use Rattle.link_http.proofs.HonestHeadLemmas.{part_formed, past_formed}
use Rattle.link_http.proofs.mem_reply.honest_head.Goals as goal

pub returns-then-from-eq0 : goal.returns-then-from-eq0
returns-then-from-eq0 c = c.in_ok-format.ensures.ok ∙ rw c.if-from-eq0.true (simp append_assoc)

pub returns-then-from-total : goal.returns-then-from-total
returns-then-from-total c =
    let further : (c.args.from == 0) ≡ false = ne_eqb c.args.from 0 c.if-from-eq0.false in
    let less : nat_lt c.args.from c.args.total ≡ true = lt-ltb c.args.from c.args.total c.if-from-total.true in
    c.in_ok-format-2.ensures.ok ∙ rw (further, less) (part_formed c.args.from c.args.total)

pub returns : goal.returns
returns c =
    let further : (c.args.from == 0) ≡ false = ne_eqb c.args.from 0 c.if-from-eq0.false in
    let past : nat_lt c.args.from c.args.total ≡ false = le-ltb c.args.from c.args.total c.if-from-total.false in
    c.in_ok-format-3.ensures.ok ∙ rw (further, past) (past_formed c.args.total)
