use Rattle.std.proofs.Common.{arith, ◌<◌, ◌^◌}
use Rattle.text_base.proofs.SizeLemmas.{power_fits}
use Rattle.text_base.proofs.size.raised.Goals as goal

pub pow-requires : goal.pow-requires
pow-requires c = let l : c.args.base < 2 ^ 16 = omega arith in rw c.from.ensures (power_fits c.args.base c.args.power l c.requires)
