use Rattle.std.proofs.Common.{◌≡◌, ◌∷◌, sym, ◌∙◌}
use Rattle.info_tree.proofs.OneToken.{tails}
use Rattle.info_tree.proofs.escape.hex_unit.Goals as goal

pub returns-in_err-b-clause-none : goal.returns-in_err-b-clause-none
returns-in_err-b-clause-none c =
    let first = c.in_ok-a.ensures.some in
    rw c.from_residual-in_err-b.ensures (λ x y z w rest e f g h k. c.in_err-b.ensures.none y (z ∷ w ∷ rest) (tails first.0 x c.in_ok-a.text.now (y ∷ z ∷ w ∷ rest) (sym first.1 ∙ e)) g)

pub returns-in_err-c-clause-none : goal.returns-in_err-c-clause-none
returns-in_err-c-clause-none c =
    let first = c.in_ok-a.ensures.some in
    let second = c.in_ok-b.ensures.some in
    rw c.from_residual-in_err-c.ensures (λ x y z w rest e f g h k.
    let behind : c.in_ok-a.text.now ≡ y ∷ z ∷ w ∷ rest = tails first.0 x c.in_ok-a.text.now (y ∷ z ∷ w ∷ rest) (sym first.1 ∙ e) in
    c.in_err-c.ensures.none z (w ∷ rest) (tails second.0 y c.in_ok-b.text.now (z ∷ w ∷ rest) (sym second.1 ∙ behind)) h)

pub returns-in_err-d-clause-none : goal.returns-in_err-d-clause-none
returns-in_err-d-clause-none c =
    let first = c.in_ok-a.ensures.some in
    let second = c.in_ok-b.ensures.some in
    let third = c.in_ok-c.ensures.some in
    rw c.from_residual-in_err-d.ensures (λ x y z w rest e f g h k.
    let behind : c.in_ok-a.text.now ≡ y ∷ z ∷ w ∷ rest = tails first.0 x c.in_ok-a.text.now (y ∷ z ∷ w ∷ rest) (sym first.1 ∙ e) in
    let later : c.in_ok-b.text.now ≡ z ∷ w ∷ rest = tails second.0 y c.in_ok-b.text.now (z ∷ w ∷ rest) (sym second.1 ∙ behind) in
    c.in_err-d.ensures.none w rest (tails third.0 z c.in_ok-c.text.now (w ∷ rest) (sym third.1 ∙ later)) k)
