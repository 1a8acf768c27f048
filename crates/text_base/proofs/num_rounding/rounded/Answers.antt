use Rattle.std.proofs.Common.{◌≡◌, Bool, true, false, cond, refl}
use Rattle.text_base.proofs.DecimalLemmas.{exact_tenths}
use Rattle.text_base.proofs.RoundingLemmas.{rounded_by_tenths}
use Rattle.text_base.proofs.num_rounding.rounded.Goals as goal
use mir.Val.{bool_byte}

byte_is : (b : Bool) → bool_byte b ≡ cond b 1 0
byte_is true = refl
byte_is false = refl

pub returns : goal.returns
returns c n d a =
    let e = exact_tenths n d c.args.tenths a.divides a.count c.requires in
    rw c.from.ensures (rw (byte_is c.rounds_up.result) (rw c.rounds_up.ensures (rounded_by_tenths n d c.args.tenths c.args.is_cut a.divides e a.cut)))
