use Rattle.text_base.proofs.SpaceLemmas.{first_spaces_trimmed}
use Rattle.text_base.proofs.spaces.without_first_spaces.Goals as goal

pub returns : goal.returns
returns c = first_spaces_trimmed c.args.text.now c.trim_start_matches.result.now c.trim_start_matches.ensures.matches
