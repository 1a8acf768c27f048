use Rattle.std.proofs.Common.{◌∙◌, lit<}
use Rattle.std.specs.Prelude.{Some, None}
use Rattle.std.proofs.lemmas.Str.Pattern.{split_once_first}
use Rattle.word_list.proofs.FormLemmas.{long_with_value, long_without}
use Rattle.word_list.proofs.form.long_form.Goals as goal

pub returns-in-Some : goal.returns-in-Some
returns-in-Some c =
    let (inside, front, back) = split_once_first 61 c.args.word.now (Some (c.in-Some.name, c.in-Some.value)) c.in-Some.ensures.cases (lit< tt) in
    c.formed.ensures ∙ long_with_value c.args.word.now c.in-Some.name.now c.in-Some.value.now inside front back

pub returns-in-None : goal.returns-in-None
returns-in-None c =
    let none = split_once_first 61 c.args.word.now None c.in-None.ensures.cases (lit< tt) in
    c.formed-in-None.ensures ∙ long_without c.args.word.now none
