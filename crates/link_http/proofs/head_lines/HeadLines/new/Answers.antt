use Rattle.std.proofs.Common.{refl, false}
use Rattle.link_http.specs.declared.head_lines.LinePlace.TheVariants.{Start}
use Rattle.link_http.proofs.HeadLineLemmas.{looked_new}
use Rattle.link_http.proofs.head_lines.HeadLines.new.Goals as goal

pub returns-clause-looked : goal.returns-clause-looked
returns-clause-looked c = λ came within.
    looked_new (record { at = c.args.at; seen = c.args.at; place = Start; is_over = false }) came refl refl refl within
