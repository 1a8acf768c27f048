use Rattle.std.proofs.Common.{◌≡◌, ◌-◌, length, map}
use Rattle.std.specs.Str.{IsUtf8}
use Rattle.read_base.specs.Reads.{more, all_at}
use Rattle.read_base.proofs.LoopLemmas.{with_front}
use Rattle.sel_lang.specs.Plain.{plain_filter}
use Rattle.sel_lang.specs.Filters.{filter_at}
use Rattle.sel_lang.specs.Reading.{is_next, behind}
use Rattle.sel_lang.proofs.reading.filters.Given as goal

-- what was read and what is still read are all the filters
abbrev pub invariant-loop : goal.invariant-loop
invariant-loop l =
    (with_front (map plain_filter l.all.items) (more (is_next 91) (behind filter_at) (length l.text - l.counter) l.rest)
    ≡ all_at (is_next 91) (behind filter_at) l.text) × IsUtf8 l.rest
