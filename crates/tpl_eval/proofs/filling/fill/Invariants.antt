use Rattle.std.proofs.Common.{◌≡◌, [], drop}
use Rattle.std.specs.String.{string_bytes}
use Rattle.tpl_eval.proofs.FillLemmas.{filled}
use Rattle.tpl_eval.proofs.filling.fill.Given as goal

-- the text so far, with the texts of the parts that are left, is the whole
abbrev pub invariant-loop-part : goal.invariant-loop-part
invariant-loop-part g l =
    filled (g.V.Values.tree l.values) l.marks.na l.clean (string_bytes l.out) (drop l.part-index l.part-items) ≡ filled (g.V.Values.tree l.values) l.marks.na l.clean [] l.part-items
