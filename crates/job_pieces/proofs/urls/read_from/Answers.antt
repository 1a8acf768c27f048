use Rattle.std.proofs.Common.{sym, Some}
use Rattle.job_pieces.proofs.UrlLemmas.{parsed_long, parsed_is}
use Rattle.job_pieces.proofs.urls.read_from.Goals as goal

pub returns-then-text-gt-LONGEST : goal.returns-then-text-gt-LONGEST
returns-then-text-gt-LONGEST c = sym (parsed_long (Some c.args.base.now) c.args.text.now c.if-text-gt-LONGEST.true)

pub returns : goal.returns
returns c = parsed_is (Some c.args.base.now) c.args.text.now c.found.result c.if-text-gt-LONGEST.false (c.found.ensures _ c.join.ensures)
