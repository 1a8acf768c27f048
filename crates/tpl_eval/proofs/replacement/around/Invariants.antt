use Rattle.std.proofs.Common.{◌≡◌, take}
use Rattle.std.specs.List.{flat_map}
use Rattle.std.specs.Str.{IsUtf8}
use Rattle.std.specs.String.{string_bytes}
use Rattle.tpl_eval.specs.Field as spec
use Rattle.tpl_eval.specs.Limit.{limited, behind}
use Rattle.tpl_eval.proofs.replacement.around.Given as goal

-- what the limit lets stand of the parts so far stands in the text, and what is left of it is for those that follow
abbrev pub invariant-loop-part : goal.invariant-loop-part
invariant-loop-part l = record {
  out : string_bytes l.out ≡ limited l.fn.limit (flat_map (spec.replacement_part l.text) (take l.part-index l.part-items));
  left : l.left ≡ behind l.fn.limit (flat_map (spec.replacement_part l.text) (take l.part-index l.part-items));
  utf8 : IsUtf8 (flat_map (spec.replacement_part l.text) (take l.part-index l.part-items));
}
