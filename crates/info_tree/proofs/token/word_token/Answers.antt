use Rattle.info_tree.specs.Token.{null_word, true_word, false_word}
use Rattle.info_tree.proofs.Lexing.{lexed_word, none_word}
use Rattle.info_tree.proofs.token.word_token.Goals as goal

pub returns-in-Some-clause-token : goal.returns-in-Some-clause-token
returns-in-Some-clause-token c = lexed_word c.args.text.now c.in-Some.rest.now null_word c.in-Some.ensures.some

pub returns-in-Some-behind_word-clause-token : goal.returns-in-Some-behind_word-clause-token
returns-in-Some-behind_word-clause-token c = lexed_word c.args.text.now c.in-Some-behind_word.rest.now true_word c.in-Some-behind_word.ensures.some

pub returns-in-Some-behind_word-2-clause-token : goal.returns-in-Some-behind_word-2-clause-token
returns-in-Some-behind_word-2-clause-token c = lexed_word c.args.text.now c.in-Some-behind_word-2.rest.now false_word c.in-Some-behind_word-2.ensures.some

pub returns-clause-none : goal.returns-clause-none
returns-clause-none c =
    none_word c.args.text.now c.requires c.in_default.ensures.none c.in_default-behind_word.ensures.none c.in_default-behind_word-2.ensures.none
