use Rattle.std.proofs.Common.{◌≡◌, length}
use Rattle.std.specs.Str.{IsUtf8}
use Rattle.word_list.specs.Entries.{all_in, entries_of}
use Rattle.word_list.specs.OptionRows.{texts_in}
use Rattle.word_list.proofs.EntryLemmas.{with_front}
use Rattle.word_list.proofs.entries.all_of.Given as goal

-- what was read and what is left make the whole
abbrev pub invariant-entries : goal.invariant-entries
invariant-entries g l =
    IsUtf8 l.rest
    × (with_front l.all.items (all_in (g.T.Entry.entry (texts_in l.names)) (entries_of l.rest)) ≡ all_in (g.T.Entry.entry (texts_in l.names)) (entries_of l.value))

abbrev pub decreases-entries : goal.decreases-entries
decreases-entries g l = length l.rest
