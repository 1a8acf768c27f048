use Rattle.std.proofs.Common.{◌≡◌, take, sym, ◌∙◌, arith}
use Rattle.std.proofs.lemmas.Grind.{common_steps}
use Rattle.std.proofs.lemmas.Result.{IfOk-weaker}
use Rattle.name_text.proofs.CutLemmas.{cut_is}
use Rattle.name_text.proofs.front.byte_cut.Goals as goal

pub returns : goal.returns
returns c =
    let text = c.args.text.now in
    let end = c.floor_char_boundary.result in
    let front : c.range.result.now ≡ take end text = grind (arith, common_steps) in
    let cut = cut_is text c.args.bytes end c.floor_char_boundary.ensures.bound c.floor_char_boundary.ensures.boundary c.floor_char_boundary.ensures.nearest in
    IfOk-weaker c.new.result _ _ (λ t e. e ∙ front ∙ sym cut) c.new.ensures
