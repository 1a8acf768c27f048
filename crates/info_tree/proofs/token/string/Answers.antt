use Rattle.std.proofs.Common.{◌∷◌, ap, ◌∙◌}
use Rattle.info_tree.proofs.Quoted.{plain_whole}
use Rattle.info_tree.proofs.token.string.Goals as goal

pub returns-in_ok-new-in-Some-clause-string : goal.returns-in_ok-new-in-Some-clause-string
returns-in_ok-new-in-Some-clause-string c =
    plain_whole c.args.text.now c.in_ok-new-in-Some.field-0 c.split_plain.result.0.now c.split_plain.result.1.now c.in-Some.after.now
    c.split_plain.ensures.whole c.split_plain.ensures.plain
    (c.in-Some.ensures.some ∙ ap (λ b. b ∷ c.in-Some.after.now) c.if-byte-eq34.true) c.in_ok-new-in-Some.ensures
