use Rattle.std.proofs.Common.{◌<◌, get_or, arith, rules}
use Rattle.std.proofs.lemmas.Str.{IsCharBoundary-after_ascii}
use Rattle.info_tree.proofs.ascii.split_ascii.Goals as goal

pub range_from-requires : goal.range_from-requires
range_from-requires c = λ h.
    let small : get_or c.args.text.now 0 0 < 128 = search rules in
    IsCharBoundary-after_ascii c.args.text.now 0 c.utf8.text (omega (arith, c.in-len1-up.len_at_least, c.as_bytes.ensures.len)) small
