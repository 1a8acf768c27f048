-- How words read on behind a use, and what a use adds to what is set.
use Rattle.std.proofs.Common.{◌≡◌, ℕ, ◌+◌, ◌-◌, ◌<◌, List, [], ◌∷◌, length, refl, ap, sym, ◌∙◌, true, false, ◌==◌, arith}
use Rattle.std.proofs.lemmas.Bool.{eqb-true}
use Rattle.std.specs.Prelude.{Ok, Err}
use Rattle.word_list.specs.declared.meaning.Flag.{Flag}
use Rattle.word_list.specs.declared.meaning.Valued.{Valued}
use Rattle.word_list.specs.declared.fault.OptionFault.{OptionFault}
use Rattle.word_list.specs.declared.fault.OptionFault.TheVariants.{NeedsValue, Extra}
use Rattle.word_list.specs.declared.fault.WordsFault.{WordsFault}
use Rattle.word_list.specs.declared.fault.WordsFault.TheVariants.{Bad}
use Rattle.word_list.specs.Form.{turns, gives, asks, closes, faulty, form_of}
use Rattle.word_list.specs.Uses.{Use, turned, given, Reading, nothing, stops, use_then, last_reading, first_reading, reading}
use Rattle.word_list.specs.Faults.{result_and_then}
use Rattle.word_list.specs.Settings.{Settings, no_settings, turned_on, used, after}
use Rattle.word_list.specs.Options.{ended}
use Rattle.word_list.specs.Words.{words_of, continued, rest_of, unless_fault}

-- a flag is one use
pub reading-turns : (place : ℕ) (word : List ℕ) (behind : List (List ℕ)) (flag : Flag) → form_of word ≡ turns flag →
    reading place (word ∷ behind) ≡ use_then (turned flag) (reading (place + 1) behind)
unfolding reading
reading-turns place word [] flag form = ap (last_reading place) form
reading-turns place word (next ∷ rest) flag form =
    ap (λ f. first_reading place f next (reading (place + 1) (next ∷ rest)) (reading (place + 2) rest)) form

-- so is an option whose value stands in its own word
pub reading-gives : (place : ℕ) (word : List ℕ) (behind : List (List ℕ)) (option : Valued) (value : List ℕ) → form_of word ≡ gives option value →
    reading place (word ∷ behind) ≡ use_then (given place option value) (reading (place + 1) behind)
unfolding reading
reading-gives place word [] option value form = ap (last_reading place) form
reading-gives place word (next ∷ rest) option value form =
    ap (λ f. first_reading place f next (reading (place + 1) (next ∷ rest)) (reading (place + 2) rest)) form

-- and an option with the word behind it
pub reading-asks : (place : ℕ) (word value : List ℕ) (behind : List (List ℕ)) (option : Valued) → form_of word ≡ asks option →
    reading place (word ∷ value ∷ behind) ≡ use_then (given place option value) (reading (place + 2) behind)
unfolding reading
reading-asks place word value behind option form =
    ap (λ f. first_reading place f value (reading (place + 1) (value ∷ behind)) (reading (place + 2) behind)) form

pub reading-asks_last : (place : ℕ) (word : List ℕ) (option : Valued) → form_of word ≡ asks option →
    reading place (word ∷ []) ≡ stops place NeedsValue
unfolding reading
reading-asks_last place word option form = ap (last_reading place) form

pub reading-closes : (place : ℕ) (word : List ℕ) → form_of word ≡ closes → reading place (word ∷ []) ≡ nothing
unfolding reading
reading-closes place word form = ap (last_reading place) form

pub reading-closes_more : (place : ℕ) (word next : List ℕ) (rest : List (List ℕ)) → form_of word ≡ closes →
    reading place (word ∷ next ∷ rest) ≡ stops (place + 1) Extra
unfolding reading
reading-closes_more place word next rest form =
    ap (λ f. first_reading place f next (reading (place + 1) (next ∷ rest)) (reading (place + 2) rest)) form

pub reading-faulty : (place : ℕ) (word : List ℕ) (behind : List (List ℕ)) (fault : OptionFault) → form_of word ≡ faulty fault →
    reading place (word ∷ behind) ≡ stops place fault
unfolding reading
reading-faulty place word [] fault form = ap (last_reading place) form
reading-faulty place word (next ∷ rest) fault form =
    ap (λ f. first_reading place f next (reading (place + 1) (next ∷ rest)) (reading (place + 2) rest)) form

-- a use without a fault sets what it sets
pub continued-use : (early next : Settings) (total : ℕ) (first : Use) (read : Reading) → used first early ≡ Ok next →
    continued early total (use_then first read) ≡ continued next total read
continued-use early next total first read ok =
    ap (λ r. result_and_then (result_and_then r (λ t. after t read.uses)) (unless_fault total read.fault)) ok

-- a use with a fault is the answer
pub continued-fault : (early : Settings) (total : ℕ) (first : Use) (read : Reading) (fault : WordsFault) → used first early ≡ Err fault →
    continued early total (use_then first read) ≡ Err fault
continued-fault early total first read fault bad =
    ap (λ r. result_and_then (result_and_then r (λ t. after t read.uses)) (unless_fault total read.fault)) bad

pub words-rest : (words : List (List ℕ)) → words_of words ≡ rest_of no_settings (length words) words
unfolding words_of rest_of
words-rest words =
    let same : 0 ≡ length words - length words = omega arith in
    ap (λ place. continued no_settings (length words) (reading place words)) same

pub rest-nothing : (early : Settings) (total : ℕ) → rest_of early total [] ≡ ended total early
unfolding rest_of reading
rest-nothing early total = refl

-- the last words of so many, of which the first stands at this place
pub rest-place : (early : Settings) (total place : ℕ) (word : List ℕ) (behind : List (List ℕ)) → place + (length behind + 1) ≡ total →
    rest_of early total (word ∷ behind) ≡ continued early total (reading place (word ∷ behind))
unfolding rest_of
rest-place early total place word behind all =
    let same : total - length (word ∷ behind) ≡ place = omega arith in
    ap (λ p. continued early total (reading p (word ∷ behind))) same

-- the words behind the one at this place
pub rest-behind : (early : Settings) (total place : ℕ) (behind : List (List ℕ)) → place + (length behind + 1) ≡ total →
    continued early total (reading (place + 1) behind) ≡ rest_of early total behind
unfolding rest_of
rest-behind early total place behind all =
    let same : place + 1 ≡ total - length behind = omega arith in
    ap (λ p. continued early total (reading p behind)) same

pub rest-turns : (early : Settings) (total place : ℕ) (word : List ℕ) (behind : List (List ℕ)) (flag : Flag) →
    place + (length behind + 1) ≡ total → form_of word ≡ turns flag →
    rest_of early total (word ∷ behind) ≡ rest_of (turned_on flag early) total behind
rest-turns early total place word behind flag all form =
    rest-place early total place word behind all
    ∙ ap (continued early total) (reading-turns place word behind flag form)
    ∙ continued-use early (turned_on flag early) total (turned flag) (reading (place + 1) behind) refl
    ∙ rest-behind (turned_on flag early) total place behind all

pub rest-gives : (early next : Settings) (total place : ℕ) (word : List ℕ) (behind : List (List ℕ)) (option : Valued) (value : List ℕ) →
    place + (length behind + 1) ≡ total → form_of word ≡ gives option value → used (given place option value) early ≡ Ok next →
    rest_of early total (word ∷ behind) ≡ rest_of next total behind
rest-gives early next total place word behind option value all form ok =
    rest-place early total place word behind all
    ∙ ap (continued early total) (reading-gives place word behind option value form)
    ∙ continued-use early next total (given place option value) (reading (place + 1) behind) ok
    ∙ rest-behind next total place behind all

pub rest-gives_fault : (early : Settings) (total place : ℕ) (word : List ℕ) (behind : List (List ℕ)) (option : Valued) (value : List ℕ) (fault : WordsFault) →
    place + (length behind + 1) ≡ total → form_of word ≡ gives option value → used (given place option value) early ≡ Err fault →
    rest_of early total (word ∷ behind) ≡ Err fault
rest-gives_fault early total place word behind option value fault all form some =
    rest-place early total place word behind all
    ∙ ap (continued early total) (reading-gives place word behind option value form)
    ∙ continued-fault early total (given place option value) (reading (place + 1) behind) fault some

pub rest-asks : (early next : Settings) (total place : ℕ) (word value : List ℕ) (behind : List (List ℕ)) (option : Valued) →
    place + (length (value ∷ behind) + 1) ≡ total → form_of word ≡ asks option → used (given place option value) early ≡ Ok next →
    rest_of early total (word ∷ value ∷ behind) ≡ rest_of next total behind
rest-asks early next total place word value behind option all form ok =
    let later : place + 1 + (length behind + 1) ≡ total = omega arith in
    let two : place + 2 ≡ place + 1 + 1 = omega arith in
    rest-place early total place word (value ∷ behind) all
    ∙ ap (continued early total) (reading-asks place word value behind option form)
    ∙ continued-use early next total (given place option value) (reading (place + 2) behind) ok
    ∙ ap (λ p. continued next total (reading p behind)) two
    ∙ rest-behind next total (place + 1) behind later

pub rest-asks_fault : (early : Settings) (total place : ℕ) (word value : List ℕ) (behind : List (List ℕ)) (option : Valued) (fault : WordsFault) →
    place + (length (value ∷ behind) + 1) ≡ total → form_of word ≡ asks option → used (given place option value) early ≡ Err fault →
    rest_of early total (word ∷ value ∷ behind) ≡ Err fault
rest-asks_fault early total place word value behind option fault all form some =
    rest-place early total place word (value ∷ behind) all
    ∙ ap (continued early total) (reading-asks place word value behind option form)
    ∙ continued-fault early total (given place option value) (reading (place + 2) behind) fault some

pub rest-asks_last : (early : Settings) (total place : ℕ) (word : List ℕ) (option : Valued) → place + 1 ≡ total → form_of word ≡ asks option →
    rest_of early total (word ∷ []) ≡ Err (Bad place NeedsValue)
rest-asks_last early total place word option all form =
    rest-place early total place word [] (omega arith) ∙ ap (continued early total) (reading-asks_last place word option form)

pub rest-closes : (early : Settings) (total place : ℕ) (word : List ℕ) → place + 1 ≡ total → form_of word ≡ closes →
    rest_of early total (word ∷ []) ≡ rest_of early total []
rest-closes early total place word all form =
    rest-place early total place word [] (omega arith) ∙ ap (continued early total) (reading-closes place word form)
    ∙ sym (rest-nothing early total)

pub rest-closes_more : (early : Settings) (total place : ℕ) (word : List ℕ) (behind : List (List ℕ)) → 0 < length behind →
    place + (length behind + 1) ≡ total → form_of word ≡ closes →
    rest_of early total (word ∷ behind) ≡ Err (Bad (place + 1) Extra)
rest-closes_more early total place word [] some all form = absurd (omega arith)
rest-closes_more early total place word (next ∷ rest) some all form =
    rest-place early total place word (next ∷ rest) all ∙ ap (continued early total) (reading-closes_more place word next rest form)

pub rest-faulty : (early : Settings) (total place : ℕ) (word : List ℕ) (behind : List (List ℕ)) (fault : OptionFault) →
    place + (length behind + 1) ≡ total → form_of word ≡ faulty fault →
    rest_of early total (word ∷ behind) ≡ Err (Bad place fault)
rest-faulty early total place word behind fault all form =
    rest-place early total place word behind all ∙ ap (continued early total) (reading-faulty place word behind fault form)

-- without an element a list is empty
pub no_words : (words : List (List ℕ)) → length words ≡ 0 → words ≡ []
no_words [] none = refl
no_words (word ∷ words) none = absurd (omega arith)

pub some_words : (words : List (List ℕ)) → false ≡ (length words == 0) → 0 < length words
some_words [] none = cc none
some_words (word ∷ words) some = omega arith

pub none_left : (words : List (List ℕ)) → true ≡ (length words == 0) → words ≡ []
none_left words none = no_words words (eqb-true (length words) 0 (sym none))
