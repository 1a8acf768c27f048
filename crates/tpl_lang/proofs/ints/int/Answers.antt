use Rattle.std.proofs.Common.{◌≡◌, ℕ, drop, Ok, sym, ap, ◌∙◌}
use Rattle.tpl_lang.specs.Ints.{minus_length, int_length}
use Rattle.tpl_lang.proofs.CutLemmas.{minus_boundary, int_boundary}
use Rattle.tpl_lang.proofs.ints.int.Goals as goal

pub split_at-requires : goal.split_at-requires
split_at-requires c = rw c.minus_len-minus.ensures (minus_boundary c.args.text.now c.utf8.text)

pub split_at-requires-2 : goal.split_at-requires-2
split_at-requires-2 c =
    let t = c.args.text.now in
    let e : int_length (drop (minus_length t) t) ≡ Ok c.in_ok-len.len =
    ap (λ (k : ℕ). int_length (drop k t)) (sym c.minus_len-minus.ensures) ∙ ap int_length (sym c.split_at.ensures.back) ∙ c.in_ok-len.ensures.count in
    rw c.minus_len-minus.ensures (int_boundary t c.in_ok-len.len c.utf8.text e)
