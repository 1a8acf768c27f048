-- What long and short options are, by their parts.
use Rattle.std.proofs.Common.{◌≡◌, ℕ, ◌<◌, ◌≤◌, List, [], ◌∷◌, length, true, false, refl, sym, get_or, take, drop, ◌==◌, arith}
use Rattle.std.specs.Prelude.{Option, Some, None}
use Rattle.std.specs.List.{before_first, after_first, position_or_len}
use Rattle.std.specs.Char.{is_ascii}
use Rattle.std.proofs.lemmas.Bool.{lt-ltb, le-ltb, eqb-true}
use Rattle.word_list.specs.declared.fault.OptionFault.TheVariants.{Unknown, TakesNone}
use Rattle.word_list.specs.Form.{formed, faulty, is_equals, long_form, short_form, joined_value}
use Rattle.word_list.specs.OptionTable.{meaning_of}

pub long_with_value : (word name value : List ℕ) → position_or_len is_equals word < length word →
    name ≡ before_first is_equals word → value ≡ after_first is_equals word →
    formed (meaning_of name) (Some value) TakesNone ≡ long_form word
unfolding long_form
long_with_value word name value inside front back =
    rw (lt-ltb (position_or_len is_equals word) (length word) inside, front, back) refl

pub long_without : (word : List ℕ) → position_or_len is_equals word ≡ length word →
    formed (meaning_of word) None TakesNone ≡ long_form word
unfolding long_form
long_without word none =
    let at_end : length word ≤ position_or_len is_equals word = omega (arith, none) in
    rw (le-ltb (position_or_len is_equals word) (length word) at_end) refl

pub joined_none : (tail : List ℕ) → true ≡ (length tail == 0) → joined_value tail ≡ None
joined_none [] none = refl
joined_none (b ∷ bs) none =
    let zero : length (b ∷ bs) ≡ 0 = eqb-true (length (b ∷ bs)) 0 (sym none) in
    absurd (omega arith)

pub joined_some : (tail : List ℕ) → false ≡ (length tail == 0) → joined_value tail ≡ Some tail
joined_some [] some = cc some
joined_some (b ∷ bs) some = refl

-- a letter of ASCII and what stands behind it
pub short_of_letter : (word name tail : List ℕ) (value : Option (List ℕ)) → true ≡ is_ascii (get_or word 1 0) →
    name ≡ take 2 word → tail ≡ drop 2 word → joined_value tail ≡ value →
    formed (meaning_of name) value Unknown ≡ short_form word
unfolding short_form
short_of_letter word name tail value letter front back joined =
    rw (← letter, ← joined, front, back) refl

pub short_past_ascii : (word : List ℕ) → false ≡ is_ascii (get_or word 1 0) → faulty Unknown ≡ short_form word
unfolding short_form
short_past_ascii word letter = rw (← letter) refl
