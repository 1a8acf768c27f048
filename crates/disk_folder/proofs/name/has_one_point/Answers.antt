use Rattle.std.proofs.Common.{lit<, rules}
use Rattle.std.specs.Prelude.{bytes_eq, codes}
use Rattle.std.proofs.lemmas.Iterator.Search.{any_from_yields_List}
use Rattle.std.proofs.lemmas.Iterator.Splits.{YieldsList-from_str_split}
use Rattle.disk_folder.proofs.name.has_one_point.Goals as goal

pub returns : goal.returns
returns c =
    any_from_yields_List (λ piece. bytes_eq piece (codes ".")) _ _ c.any.result c.any.ensures.ran
    (YieldsList-from_str_split 47 c.args.name.now (lit< tt) c.split.ensures.text c.split.ensures.has_more c.split.ensures.pattern)
    (λ x b q h. search (rules, h))
