use Rattle.std.proofs.Common.{◌≡◌, ◌+◌, ◌++◌, [], take, sym, ap, subst, ◌∙◌}
use Rattle.std.specs.List.{flat_map}
use Rattle.std.specs.Str.{IsUtf8}
use Rattle.std.specs.String.{string_bytes}
use Rattle.std.proofs.lemmas.Str.{IsUtf8-append, IsUtf8-nil}
use Rattle.tpl_eval.specs.Field.{replacement_part}
use Rattle.tpl_eval.specs.Limit.{limited, behind}
use Rattle.tpl_eval.proofs.LimitLemmas.{appended, left_behind, limited_none, behind_none, part_more}
use Rattle.tpl_eval.proofs.replacement.around.Goals as goal

pub loop-part-init : goal.loop-part-init
loop-part-init c = record {
  out = c.new-out.ensures.bytes ∙ sym (limited_none c.args.limit);
  left = sym (behind_none c.args.limit);
  utf8 = IsUtf8-nil;
}

pub loop-part-preserved : goal.loop-part-preserved
loop-part-preserved c =
    let parts = c.parts-part-items.result.now in
    let so_far = flat_map (replacement_part c.args.text.now) (take c.loop-part.part-index parts) in
    let next = replacement_part c.args.text.now c.part-item.result in
    let more : flat_map (replacement_part c.args.text.now) (take (c.loop-part.part-index + 1) parts) ≡ so_far ++ next =
    part_more (replacement_part c.args.text.now) parts c.loop-part.part-index c.part-item.result c.loop-part-test.true c.part-item.is in
    record {
      out = appended c.args.limit c.loop-part.left so_far next [] (string_bytes c.loop-part.out) (string_bytes c.push_part.new.out)
          c.loop-part.invariant.utf8 c.in_ok-left.ensures.utf8 c.loop-part.invariant.out c.loop-part.invariant.left c.in_ok-left.ensures.text
          ∙ ap (limited c.args.limit) (sym more);
      left = left_behind c.args.limit c.loop-part.left c.in_ok-left.left so_far next c.loop-part.invariant.utf8 c.loop-part.invariant.left c.in_ok-left.ensures.left
          ∙ ap (behind c.args.limit) (sym more);
      utf8 = subst IsUtf8 (sym more) (IsUtf8-append so_far next c.loop-part.invariant.utf8 c.in_ok-left.ensures.utf8);
    }
