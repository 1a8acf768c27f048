use Rattle.info_tree.specs.Lexed.{plain_mark}
use Rattle.info_tree.proofs.Lexing.{none_ascii, lexed_mark}
use Rattle.info_tree.proofs.token.first_token.Goals as goal

pub returns-in_default-clause-none : goal.returns-in_default-clause-none
returns-in_default-clause-none c = none_ascii c.args.text.now c.in_default.ensures.none

pub returns-in-Some-sign-clause-token : goal.returns-in-Some-sign-clause-token
returns-in-Some-sign-clause-token c =
    lexed_mark c.args.text.now c.in-Some.after.now c.in-Some.byte (plain_mark c.in-Some-sign.token) c.in-Some.ensures.some c.in-Some-sign.ensures
