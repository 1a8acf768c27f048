use Rattle.std.proofs.Common.{sym, None}
use Rattle.job_pieces.proofs.UrlLemmas.{parsed_long, parsed_is}
use Rattle.job_pieces.proofs.urls.read_url.Goals as goal

pub returns-then-text-gt-LONGEST : goal.returns-then-text-gt-LONGEST
returns-then-text-gt-LONGEST c = sym (parsed_long None c.args.text.now c.if-text-gt-LONGEST.true)

pub returns : goal.returns
returns c = parsed_is None c.args.text.now c.found.result c.if-text-gt-LONGEST.false (c.found.ensures _ c.parse.ensures)
