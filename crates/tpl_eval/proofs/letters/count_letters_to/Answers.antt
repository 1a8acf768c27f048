use Rattle.std.proofs.Common.{◌∙◌}
use Rattle.std.specs.Str.{chars}
use Rattle.std.proofs.lemmas.List.{length-take}
use Rattle.std.proofs.lemmas.Iterator.{YieldsList-from_chars, YieldsList-from_take}
use Rattle.std.proofs.lemmas.Iterator.Consumers.{count_from_yields_List}
use Rattle.tpl_eval.proofs.letters.count_letters_to.Goals as goal

pub returns-clause-value : goal.returns-clause-value
returns-clause-value c =
    count_from_yields_List c.take.result c.count.result c.count.ensures.ran
    (YieldsList-from_take c.args.most (YieldsList-from_chars c.args.text.now c.utf8.text (cc)) (cc))
    ∙ length-take c.args.most (chars c.args.text.now)
