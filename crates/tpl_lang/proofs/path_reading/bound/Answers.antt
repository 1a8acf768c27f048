use Rattle.tpl_lang.proofs.IntLemmas.{int_is}
use Rattle.tpl_lang.proofs.path_reading.bound.Goals as goal

pub int_value-requires-clause-digits : goal.int_value-requires-clause-digits
int_value-requires-clause-digits c = (int_is c.args.text.now (c.in_ok-spelling.spelling.now, c.in_ok-spelling.rest.now) c.in_ok-spelling.ensures).digits

pub int_value-requires-clause-some : goal.int_value-requires-clause-some
int_value-requires-clause-some c = (int_is c.args.text.now (c.in_ok-spelling.spelling.now, c.in_ok-spelling.rest.now) c.in_ok-spelling.ensures).some

pub int_value-requires-clause-few : goal.int_value-requires-clause-few
int_value-requires-clause-few c = (int_is c.args.text.now (c.in_ok-spelling.spelling.now, c.in_ok-spelling.rest.now) c.in_ok-spelling.ensures).few
