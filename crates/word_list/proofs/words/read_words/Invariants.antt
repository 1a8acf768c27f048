use Rattle.std.proofs.Common.{◌≡◌, ◌≤◌, length}
use Rattle.word_list.specs.Views.{plain_settings}
use Rattle.word_list.specs.Words.{words_of, rest_of}
use Rattle.word_list.proofs.words.read_words.Given as goal

-- what is set and the words that are left make the answer of all the words
abbrev pub invariant-words : goal.invariant-words
invariant-words l =
    (rest_of (plain_settings l.settings) (length l.fn.words.items) l.rest ≡ words_of l.fn.words.items)
    × (length l.rest ≤ length l.fn.words.items)

abbrev pub decreases-words : goal.decreases-words
decreases-words l = length l.rest
