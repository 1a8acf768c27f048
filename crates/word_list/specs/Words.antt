-- What words ask for: the fault of the first word that has one, or the options that they set.
use Rattle.std.specs.Prelude.{◌≡◌, ℕ, ◌-◌, List, [], ◌∷◌, length, Option, Some, None, Result, Ok, Err, IfOk}
use Rattle.fmt_sort.specs.Reading.{wish_for, wish_when}
use Rattle.word_list.specs.declared.choosing.ChoosingValue.TheVariants.{Sort}
use Rattle.word_list.specs.declared.fault.WordsFault.{WordsFault}
use Rattle.word_list.specs.declared.meaning.Valued.TheVariants.{Choosing}
use Rattle.word_list.specs.Faults.{result_and_then}
use Rattle.word_list.specs.Options.{Options, ended}
use Rattle.word_list.specs.Settings.{Settings, no_settings, after}
use Rattle.word_list.specs.Uses.{Use, given, Reading, reading}

-- the fault for which words read no further, or the options that are set at the end of so many words
abbrev pub unless_fault : ℕ → Option WordsFault → Settings → Result Options WordsFault
unless_fault total None settings = ended total settings
unless_fault total (Some fault) settings = Err fault

-- the answer of what so many words read as, where earlier ones have set something already
abbrev pub continued : Settings → ℕ → Reading → Result Options WordsFault
continued early total read = result_and_then (after early read.uses) (unless_fault total read.fault)

-- what all the words ask for
unfoldable pub words_of : List (List ℕ) → Result Options WordsFault
words_of words = continued no_settings (length words) (reading 0 words)

-- the answer of so many words of which these are the last, where those before have set something already
unfoldable pub rest_of : Settings → ℕ → List (List ℕ) → Result Options WordsFault
rest_of early total words = continued early total (reading (total - length words) words)

-- the sort words among uses, in their order
abbrev pub sort_words : List Use → List (List ℕ)
sort_words [] = []
sort_words (given place (Choosing Sort) word ∷ rest) = word ∷ sort_words rest
sort_words (first ∷ rest) = sort_words rest

-- the sort words, all read together, name the order that was set word by word
abbrev pub IsOrder : List (List ℕ) → Settings → Type 0
IsOrder words s =
    wish_for s.choosing.force s.choosing.free words ≡ Ok (wish_when s.choosing.force s.choosing.free s.choosing.given)

-- Where no use is at fault, the sort words name an order, and it is the one that is set word by word: force and the preference of free
-- formats, which may come later, bring no fault.
abbrev pub HaveAnOrder : List (List ℕ) → Type 0
HaveAnOrder words = IfOk (after no_settings (reading 0 words).uses) (IsOrder (sort_words (reading 0 words).uses))

-- the words ask for these options
abbrev pub Asks : List (List ℕ) → Options → Type 0
Asks words options = words_of words ≡ Ok options
