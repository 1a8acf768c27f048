use Rattle.std.proofs.Common.{lit<}
use Rattle.std.specs.Prelude.{Some, None}
use Rattle.std.proofs.lemmas.Str.Pattern.{split_once_first}
use Rattle.word_list.specs.OptionRows.{texts_in}
use Rattle.word_list.proofs.EntryLemmas.{rule_with, rule_without}
use Rattle.word_list.proofs.entries.ExtRuleEntry.read.Goals as goal

pub returns-in-Some : goal.returns-in-Some
returns-in-Some c =
    let (inside, front, back) = split_once_first 62 c.args.text.now (Some (c.in-Some.from, c.in-Some.to)) c.in-Some.ensures.cases (lit< tt) in
    rw (rule_with (texts_in c.args.names.now) c.args.text.now c.in-Some.from.now c.in-Some.to.now inside front back) c.rule.ensures

pub returns-in-None : goal.returns-in-None
returns-in-None c =
    let none = split_once_first 62 c.args.text.now None c.in-None.ensures.cases (lit< tt) in
    rw (rule_without (texts_in c.args.names.now) c.args.text.now none) c.rule-in-None.ensures
