-- How words read from the left: the uses of options, up to the first word that is at fault by its form.
use Rattle.std.specs.Prelude.{ℕ, ◌+◌, List, [], ◌∷◌, Option, Some, None}
use Rattle.word_list.specs.declared.meaning.Flag.{Flag}
use Rattle.word_list.specs.declared.meaning.Valued.{Valued}
use Rattle.word_list.specs.declared.fault.OptionFault.{OptionFault}
use Rattle.word_list.specs.declared.fault.OptionFault.TheVariants.{NeedsValue, Extra}
use Rattle.word_list.specs.declared.fault.WordsFault.{WordsFault}
use Rattle.word_list.specs.declared.fault.WordsFault.TheVariants.{Bad}
use Rattle.word_list.specs.Form.{Form, turns, gives, asks, closes, faulty, form_of}

-- one use of an option: what it turns on or off; or the place of its word, the option and its value
pub data Use : Type 0 where
  turned : Flag → Use
  given : ℕ → Valued → List ℕ → Use

-- uses in their order, and why the words read no further
pub record Reading : Type 0 where
  pub uses : List Use
  pub fault : Option WordsFault

-- no use, and no fault
abbrev pub nothing : Reading
nothing = record { uses = []; fault = None }

-- a word at this place has this fault
abbrev pub stops : ℕ → OptionFault → Reading
stops place fault = record { uses = []; fault = Some (Bad place fault) }

-- a use, and what follows it
abbrev pub use_then : Use → Reading → Reading
use_then first rest = record { uses = first ∷ rest.uses; fault = rest.fault }

-- the last word, of this form and at this place
abbrev pub last_reading : ℕ → Form → Reading
last_reading place (turns flag) = use_then (turned flag) nothing
last_reading place (gives option value) = use_then (given place option value) nothing
last_reading place (asks option) = stops place NeedsValue
last_reading place closes = nothing
last_reading place (faulty fault) = stops place fault

-- a word of this form and at this place before a next one, where the words from that one on, and those behind it, read so
abbrev pub first_reading : ℕ → Form → List ℕ → Reading → Reading → Reading
first_reading place (turns flag) next from_next behind_next = use_then (turned flag) from_next
first_reading place (gives option value) next from_next behind_next = use_then (given place option value) from_next
first_reading place (asks option) next from_next behind_next = use_then (given place option next) behind_next
first_reading place closes next from_next behind_next = stops (place + 1) Extra
first_reading place (faulty fault) next from_next behind_next = stops place fault

-- words of which the first stands at this place
unfoldable pub reading : ℕ → List (List ℕ) → Reading
reading place [] = nothing
reading place (word ∷ []) = last_reading place (form_of word)
reading place (word ∷ next ∷ rest) =
    first_reading place (form_of word) next (reading (place + 1) (next ∷ rest)) (reading (place + 2) rest)
