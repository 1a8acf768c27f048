use Rattle.text_base.proofs.SpaceLemmas.{last_spaces_trimmed}
use Rattle.text_base.proofs.spaces.without_last_spaces.Goals as goal

pub returns : goal.returns
returns c = last_spaces_trimmed c.args.text.now c.trim_end_matches.result.now c.trim_end_matches.ensures.matches
