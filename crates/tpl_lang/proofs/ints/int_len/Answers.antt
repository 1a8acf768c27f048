use Rattle.std.proofs.Common.{arith}
use Rattle.tpl_lang.specs.declared.scan.Class.TheVariants.{Digit}
use Rattle.tpl_lang.proofs.CutLemmas.{class_boundary, digits_boundary}
use Rattle.tpl_lang.proofs.ints.int_len.Goals as goal

pub split_at-requires : goal.split_at-requires
split_at-requires c = digits_boundary c.args.digits.now 18 c.utf8.digits (omega (arith, c.run_len-len.ensures.len))

pub split_at-requires-2 : goal.split_at-requires-2
split_at-requires-2 c = rw c.run_len-len.ensures.len (class_boundary Digit c.args.digits.now c.utf8.digits)
