use Rattle.std.proofs.Common.{◌≡◌, ◌++◌, take}
use Rattle.std.specs.List.{join_by}
use Rattle.std.specs.String.{string_bytes}
use Rattle.field_text.specs.Plain as spec
use Rattle.field_text.proofs.listed.push_list.Given as goal

-- the values so far are appended
abbrev pub invariant-loop-place : goal.invariant-loop-place
invariant-loop-place l = string_bytes l.out ≡ string_bytes l.fn.out ++ join_by (spec.item_text l.item) l.between (take l.place l.list)
