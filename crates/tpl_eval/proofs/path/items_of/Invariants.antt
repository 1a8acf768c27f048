use Rattle.std.proofs.Common.{◌≡◌, take, map}
use Rattle.info_tree.specs.Plain.{plain}
use Rattle.tpl_eval.proofs.path.items_of.Given as goal

-- the items before this place
abbrev pub invariant-loop-place : goal.invariant-loop-place
invariant-loop-place l = map (λ t. plain t.now) l.items.items ≡ take l.place l.list
