use Rattle.std.proofs.Common.{◌≡◌, ◌-◌, length}
use Rattle.std.specs.Str.{IsUtf8}
use Rattle.read_base.specs.Reads.{more}
use Rattle.read_base.proofs.LoopLemmas.{with_front}
use Rattle.tpl_lang.proofs.listed.all_of.Given as goal

-- what was read and what is still read are all the items
abbrev pub invariant-loop : goal.invariant-loop
invariant-loop g l =
    IsUtf8 l.rest
    × (with_front l.all.items (more g.T.Listed.test g.T.Listed.item (length l.text - l.counter) l.rest) ≡ more g.T.Listed.test g.T.Listed.item (length l.text) l.text)
