-- Entries are read from left to right, and a rule is what stands around its first `>`.
use Rattle.std.proofs.Common.{◌≡◌, ℕ, ◌+◌, ◌<◌, ◌≤◌, List, [], ◌∷◌, ◌++◌, length, Bool, true, false, eqb, suc, refl, sym, ap, ◌∙◌, arith, append_assoc}
use Rattle.std.specs.Prelude.{Some, None, Result, Ok, Err}
use Rattle.std.specs.List.{before_first, after_first, position_or_len}
use Rattle.std.proofs.lemmas.Bool.{lt-ltb, le-ltb}
use Rattle.word_list.specs.declared.fault.OptionFault.{OptionFault}
use Rattle.word_list.specs.declared.fault.ValueFault.{ValueFault}
use Rattle.word_list.specs.declared.fault.ValueFault.TheVariants as value
use Rattle.word_list.specs.Entries.{is_slash, is_greater, entries_of, all_in, rule_in, rule_to}
use Rattle.word_list.specs.Faults.{result_map, result_and_then, IsRefusal}

last_by : (b : ℕ) (bs : List ℕ) (c : Bool) → eqb b 47 ≡ c → position_or_len is_slash (b ∷ bs) ≡ suc (length bs) →
    (position_or_len is_slash bs ≡ length bs → entries_of bs ≡ bs ∷ []) → entries_of (b ∷ bs) ≡ (b ∷ bs) ∷ []
last_by b bs true q e more =
    let z : 0 ≡ suc (length bs) = rw q at e in
    absurd (omega arith)
last_by b bs false q e more =
    let z : 1 + position_or_len is_slash bs ≡ suc (length bs) = rw q at e in
    rw q (rw (more (omega arith)) refl)

-- without a slash there is one entry
pub last_entry : (bs : List ℕ) → position_or_len is_slash bs ≡ length bs → entries_of bs ≡ bs ∷ []
last_entry [] e = refl
last_entry (b ∷ bs) e = last_by b bs (eqb b 47) refl e (last_entry bs)

next_by : (b : ℕ) (bs : List ℕ) (c : Bool) → eqb b 47 ≡ c → position_or_len is_slash (b ∷ bs) < suc (length bs) →
    (position_or_len is_slash bs < length bs → entries_of bs ≡ before_first is_slash bs ∷ entries_of (after_first is_slash bs)) →
    entries_of (b ∷ bs) ≡ before_first is_slash (b ∷ bs) ∷ entries_of (after_first is_slash (b ∷ bs))
next_by b bs true q l more = rw q refl
next_by b bs false q l more =
    let z : 1 + position_or_len is_slash bs < suc (length bs) = rw q at l in
    let n : 1 + position_or_len is_slash bs ≡ suc (position_or_len is_slash bs) = omega arith in
    let m : suc (position_or_len is_slash bs) + 1 ≡ suc (position_or_len is_slash bs + 1) = omega arith in
    rw q (rw n (rw m (rw (more (omega arith)) refl)))

-- an entry stands before the first slash, and the others behind it
pub next_entry : (bs : List ℕ) → position_or_len is_slash bs < length bs → entries_of bs ≡ before_first is_slash bs ∷ entries_of (after_first is_slash bs)
next_entry [] l = absurd (omega arith)
next_entry (b ∷ bs) l = next_by b bs (eqb b 47) refl l (next_entry bs)

-- entries that were read before others
abbrev pub with_front : {T : Type 0} → List T → Result (List T) OptionFault → Result (List T) OptionFault
with_front front rest = result_map (λ xs. front ++ xs) rest

one_behind : {T : Type 0} (front : List T) (x : T) (rest : Result (List T) OptionFault) →
    with_front (front ++ x ∷ []) rest ≡ with_front front (result_map (λ xs. x ∷ xs) rest)
one_behind front x (Ok xs) = ap (λ z. Ok z) (append_assoc front (x ∷ []) xs)
one_behind front x (Err e) = refl

module _ {T : Type 0} (entry : List ℕ → Result T OptionFault) (front : List T) (whole : Result (List T) OptionFault) (rest first behind : List ℕ) where
  -- the fault of an entry is that of the value
  pub fault_here : (e : ValueFault) → position_or_len is_slash rest < length rest → first ≡ before_first is_slash rest → IsRefusal (entry first) e →
      with_front front (all_in entry (entries_of rest)) ≡ whole → IsRefusal whole e
  fault_here (value.Bad fault) inside is bad all =
      sym all ∙ ap (λ es. with_front front (all_in entry es)) (next_entry rest inside)
      ∙ ap (λ r. with_front front (result_and_then r (λ x. result_map (λ xs. x ∷ xs) (all_in entry (entries_of (after_first is_slash rest)))))) (ap entry (sym is) ∙ bad)
  fault_here value.OutOfMemory inside is bad all = tt

  -- one more entry is read
  pub read_here : (x : T) → position_or_len is_slash rest < length rest → first ≡ before_first is_slash rest → behind ≡ after_first is_slash rest →
      entry first ≡ Ok x → with_front front (all_in entry (entries_of rest)) ≡ whole → with_front (front ++ x ∷ []) (all_in entry (entries_of behind)) ≡ whole
  read_here x inside is others read all =
      ap (λ z. with_front (front ++ x ∷ []) (all_in entry (entries_of z))) others
      ∙ one_behind front x (all_in entry (entries_of (after_first is_slash rest)))
      ∙ sym (ap (λ es. with_front front (all_in entry es)) (next_entry rest inside)
      ∙ ap (λ r. with_front front (result_and_then r (λ x. result_map (λ xs. x ∷ xs) (all_in entry (entries_of (after_first is_slash rest)))))) (ap entry (sym is) ∙ read))
      ∙ all

  -- so is the fault of the last entry
  pub fault_last : (e : ValueFault) → position_or_len is_slash rest ≡ length rest → IsRefusal (entry rest) e →
      with_front front (all_in entry (entries_of rest)) ≡ whole → IsRefusal whole e
  fault_last (value.Bad fault) none bad all =
      sym all ∙ ap (λ es. with_front front (all_in entry es)) (last_entry rest none)
      ∙ ap (λ r. with_front front (result_and_then r (λ x. Ok (x ∷ [])))) bad
  fault_last value.OutOfMemory none bad all = tt

  -- and with the last entry all are read
  pub read_last : (x : T) → position_or_len is_slash rest ≡ length rest → entry rest ≡ Ok x →
      with_front front (all_in entry (entries_of rest)) ≡ whole → whole ≡ Ok (front ++ x ∷ [])
  read_last x none read all =
      sym all ∙ ap (λ es. with_front front (all_in entry es)) (last_entry rest none)
      ∙ ap (λ r. with_front front (result_and_then r (λ x. Ok (x ∷ [])))) read

pub rule_with : (names : List (List ℕ)) (text from to : List ℕ) → position_or_len is_greater text < length text →
    from ≡ before_first is_greater text → to ≡ after_first is_greater text → rule_in names text ≡ rule_to names (Some from) to
rule_with names text from to inside front back = rw (lt-ltb (position_or_len is_greater text) (length text) inside, front, back) refl

pub rule_without : (names : List (List ℕ)) (text : List ℕ) → position_or_len is_greater text ≡ length text →
    rule_in names text ≡ rule_to names None text
rule_without names text none =
    let at_end : length text ≤ position_or_len is_greater text = omega (arith, none) in
    rw (le-ltb (position_or_len is_greater text) (length text) at_end) refl
