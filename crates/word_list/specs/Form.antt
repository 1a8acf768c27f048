-- What a word is by itself: an option by its name, with its value or without, the end of the options, or at fault.
use Rattle.std.specs.Prelude.{ℕ, List, [], ◌∷◌, length, take, drop, Bool, ◌&&◌, ◌==◌, nat_le, nat_lt, nat_eq, slice_index, if◌then◌else◌, Option, Some, None, codes}
use Rattle.std.specs.List.{starts_with, before_first, after_first, position_or_len}
use Rattle.std.specs.Char.{is_ascii}
use Rattle.std.specs.Str.{bytes_eq}
use Rattle.word_list.specs.declared.fault.OptionFault.{OptionFault}
use Rattle.word_list.specs.declared.fault.OptionFault.TheVariants as fault
use Rattle.word_list.specs.declared.meaning.Flag.{Flag as Turned}
use Rattle.word_list.specs.declared.meaning.Valued.{Valued}
use Rattle.word_list.specs.declared.meaning.Meaning.{Meaning}
use Rattle.word_list.specs.declared.meaning.Meaning.TheVariants.{Flag, Value}
use Rattle.word_list.specs.OptionTable.{meaning_of}

-- a flag that is turned, an option with its value or without, the end of the options, or a word at fault
pub data Form : Type 0 where
  turns : Turned → Form
  -- the option and its value stand in one word
  gives : Valued → List ℕ → Form
  -- the option's value is the next word
  asks : Valued → Form
  -- no word behind it is an option
  closes : Form
  faulty : OptionFault → Form

-- what a word with this meaning is, with the value that stands in the same word; a flag with a value has this fault
abbrev pub formed : Option Meaning → Option (List ℕ) → OptionFault → Form
formed None value of_flag = faulty fault.Unknown
formed (Some (Flag flag)) None of_flag = turns flag
formed (Some (Flag flag)) (Some value) of_flag = faulty of_flag
formed (Some (Value option)) None of_flag = asks option
formed (Some (Value option)) (Some value) of_flag = gives option value

-- the byte `=`
abbrev pub is_equals : ℕ → Bool
is_equals b = b == 61

-- whether an `=` stands in the word
abbrev pub has_equals : List ℕ → Bool
has_equals word = nat_lt (position_or_len is_equals word) (length word)

-- `--name`, or `--name=value` by its first `=`
unfoldable pub long_form : List ℕ → Form
long_form word =
    if has_equals word then formed (meaning_of (before_first is_equals word)) (Some (after_first is_equals word)) fault.TakesNone
    else formed (meaning_of word) None fault.TakesNone

-- no value, where nothing is left for one
abbrev pub joined_value : List ℕ → Option (List ℕ)
joined_value [] = None
joined_value (b ∷ bs) = Some (b ∷ bs)

-- `-` and a letter of ASCII, and behind it the value
unfoldable pub short_form : List ℕ → Form
short_form word =
    if is_ascii (slice_index word 1) then formed (meaning_of (take 2 word)) (joined_value (drop 2 word)) fault.Unknown
    else faulty fault.Unknown

-- `--` alone, two dashes and more, a dash and a letter, or no option
abbrev pub form_of : List ℕ → Form
form_of word =
    if bytes_eq word (codes "--") then closes
    else if starts_with nat_eq word (codes "--") then long_form word
    else if starts_with nat_eq word (codes "-") && nat_le 2 (length word) then short_form word
    else faulty fault.Extra
