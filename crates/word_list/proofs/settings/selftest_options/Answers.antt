use Rattle.std.proofs.Common.{ap, ◌∙◌, true}
use Rattle.std.specs.Prelude.{Some}
use Rattle.word_list.specs.Options.{Options, options_of}
use Rattle.word_list.proofs.settings.selftest_options.Goals as goal

pub returns : goal.returns
returns c =
    ap (λ (o : Options). record o { quiet = true; workers = 4; selftest = Some c.args.count })
    (c.in_ok-options.ensures ∙ ap options_of c.in_ok-new.ensures)
