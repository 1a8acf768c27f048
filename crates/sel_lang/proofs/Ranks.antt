-- How tightly joints bind.
use Rattle.std.proofs.Common.{ℕ}
use Rattle.sel_lang.specs.declared.joint.Joint.{Joint}
use Rattle.sel_lang.specs.declared.joint.Joint.TheVariants.{Comma, Slash, Plus}

-- the looser, the more
abbrev pub rank : Joint → ℕ
rank Comma = 3
rank Slash = 2
rank Plus = 1
