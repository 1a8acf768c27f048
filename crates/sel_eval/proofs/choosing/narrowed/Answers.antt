use Rattle.std.proofs.Common.{◌≡◌, ap, ◌∙◌, rules, arith}
use Rattle.sel_lang.specs.Plain.{narrow, plain_filter}
use Rattle.sel_lang.specs.View.{plain}
use Rattle.sel_lang.specs.declared.sel.Sel.{the_lemmas}
use Rattle.sel_eval.specs.Den.{meeting}
use Rattle.sel_eval.specs.Parts.{IsSamePart}
use Rattle.sel_eval.proofs.DenLemmas.{plain_narrow, narrow_same}
use Rattle.sel_eval.proofs.choosing.narrowed.Goals as goal

pub loop-sel-preserved : goal.loop-sel-preserved
loop-sel-preserved c =
    let x = plain c.in-Narrow.inner.value in
    let f = plain_filter c.in-Narrow.filter in
    let is : plain c.loop-sel.sel.now ≡ narrow x f = ap plain c.in-Narrow.is ∙ plain_narrow c.in-Narrow.inner c.in-Narrow.filter in
    let left : c.in_ok-left.left.items ≡ meeting f c.loop-sel.left.items = c.in_ok-left.ensures ∙ ap (meeting f) c.deref.ensures.value in
    let so_far = rw is at c.loop-sel.invariant.same in
    let more : IsSamePart x c.in_ok-left.left.items (plain c.args.sel.now) c.args.formats.items =
    rw left (narrow_same x (plain c.args.sel.now) f c.loop-sel.left.items c.args.formats.items so_far) in
    record {
      same = rw c.deref-sel.ensures more;
      within = first_of (search rules, search (rules, the_lemmas), omega arith);
    }
