use Rattle.std.proofs.Common.{◌≡◌, [], drop}
use Rattle.info_tree.specs.Pairs.{member}
use Rattle.tpl_eval.specs.Path as spec
use Rattle.tpl_eval.proofs.braces.at_braces.Given as goal

-- what is picked, with what the words that are left pick, is all
abbrev pub invariant-loop-word : goal.invariant-loop-word
invariant-loop-word g l =
    spec.picked (member (g.V.Values.tree l.values)) l.picked (drop l.word-index l.word-items) ≡ spec.picked (member (g.V.Values.tree l.values)) [] l.word-items
