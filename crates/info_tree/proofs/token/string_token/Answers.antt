use Rattle.info_tree.proofs.Lexing.{lexed_string, none_string}
use Rattle.info_tree.proofs.token.string_token.Goals as goal

pub returns-in-Some-clause-token : goal.returns-in-Some-clause-token
returns-in-Some-clause-token c =
    lexed_string c.args.text.now c.args.after.now c.in-Some.string c.in-Some.rest.now c.requires (rw c.in-Some.is at c.in_ok-read.ensures.string)

pub returns-in-None-clause-none : goal.returns-in-None-clause-none
returns-in-None-clause-none c = none_string c.args.text.now c.args.after.now c.requires (rw c.in-None.is at c.in_ok-read.ensures.none)
