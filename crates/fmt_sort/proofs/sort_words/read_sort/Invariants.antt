use Rattle.std.proofs.Common.{◌≡◌, drop, Ok}
use Rattle.fmt_sort.specs.Read.{given_in}
use Rattle.fmt_sort.specs.Reading.{words_given, behind_others}
use Rattle.fmt_sort.proofs.sort_words.read_sort.Given as goal

-- the words so far are read
abbrev pub invariant-loop-word : goal.invariant-loop-word
invariant-loop-word l =
    words_given 0 l.words.items ≡ behind_others (Ok (given_in l.read)) (words_given l.read.pieces (drop l.word-index l.words.items))
