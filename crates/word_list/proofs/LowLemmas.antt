-- The number of the first entry stays within its bound.
use Rattle.std.proofs.Common.{◌≡◌, ℕ, ◌≤◌, List, [], ◌∷◌, length, Bool, true, false, refl, sym, subst, lit≤}
use Rattle.std.specs.Prelude.{◌&&◌, if◌then◌else◌, Option, Some, None, nat_le, Result, Ok, Err}
use Rattle.std.proofs.lemmas.Bool.{leb-true}
use Rattle.text_base.specs.Value.{digits_value}
use Rattle.word_list.specs.declared.fault.OptionFault.{OptionFault}
use Rattle.word_list.specs.declared.fault.OptionFault.TheVariants.{BadValue}
use Rattle.word_list.specs.declared.fault.WordsFault.{WordsFault}
use Rattle.word_list.specs.declared.meaning.Flag.{Flag}
use Rattle.word_list.specs.declared.meaning.Flag.TheVariants as flags
use Rattle.word_list.specs.declared.meaning.Valued.TheVariants as values
use Rattle.word_list.specs.declared.naming.Naming.{Naming}
use Rattle.word_list.specs.declared.naming.NamingFlag.TheVariants.{Restricted}
use Rattle.word_list.specs.declared.naming.NamingValue.{NamingValue}
use Rattle.word_list.specs.declared.naming.NamingValue.TheVariants.{Output, Placeholder, FirstNumber, Trim}
use Rattle.word_list.specs.Groups.{naming_given, source_given, choosing_given, showing_given, fetching_given, tools_given}
use Rattle.word_list.specs.Faults.{result_map}
use Rattle.word_list.specs.Options.{Options, ended_with, options_of, selftest_options}
use Rattle.word_list.specs.Settings.{Settings, no_settings, turned_on, used, after}
use Rattle.word_list.specs.Uses.{Use, turned, given, reading}
use Rattle.word_list.specs.Values.{is_number, number_of, template_by}
use Rattle.word_list.specs.Words.{words_of, unless_fault}
use Rattle.word_list.proofs.SortLemmas.{mapped, unplaced, goes_on}

-- the highest number that words give the first entry
abbrev most : ℕ
most = 1000000000000000

number_by : (a b c : Bool) (v n high : ℕ) → nat_le v high ≡ c → (if a && (b && c) then Ok v else Err BadValue) ≡ Ok n → n ≤ high
number_by true true true v n high within is = let same : v ≡ n = cc is in subst (λ k. k ≤ high) same (leb-true v high within)
number_by true true false v n high within is = cc is
number_by true false c v n high within is = cc is
number_by false b c v n high within is = cc is

-- a number that is read is not above its bound
number_is_low : (low high : ℕ) (text : List ℕ) (n : ℕ) → number_of low high text ≡ Ok n → n ≤ high
unfolding number_of
number_is_low low high text n is =
    number_by (is_number text) (nat_le low (digits_value text)) (nat_le (digits_value text) high) (digits_value text) n high refl is

-- what is set keeps the number within its bound
abbrev IsLow : Settings → Type 0
IsLow s = s.naming.first_number ≤ most

low_flag : (flag : Flag) (s : Settings) → IsLow s → IsLow (turned_on flag s)
low_flag (flags.Choosing flag) s low = low
low_flag (flags.Naming (Restricted on)) s low = low
low_flag (flags.Showing flag) s low = low
low_flag (flags.Fetching flag) s low = low
low_flag (flags.Tools flag) s low = low

-- a value that makes no number leaves it
low_made : {T U : Type 0} (f : T → U) (r : Result T OptionFault) (number : U → ℕ) (u : U) → ((x : T) → number (f x) ≤ most) →
    result_map f r ≡ Ok u → number u ≤ most
low_made f r number u each is = let (x, there, same) = mapped f r u is in subst (λ v. number v ≤ most) (sym same) (each x)

low_naming : (option : NamingValue) (value : List ℕ) (n m : Naming) → n.first_number ≤ most → naming_given option value n ≡ Ok m → m.first_number ≤ most
low_naming Output value n m low is = low_made (λ t. record n { template = Some t }) (template_by value) (λ z. z.first_number) m (λ x. low) is
low_naming Placeholder value n m low is = let same : record n { na = value } ≡ m = cc is in subst (λ v. v.first_number ≤ most) same low
low_naming FirstNumber value n m low is =
    let (k, there, same) = mapped (λ k. record n { first_number = k }) (number_of 0 1000000000000000 value) m is in
    subst (λ v. v.first_number ≤ most) (sym same) (number_is_low 0 1000000000000000 value k there)
low_naming Trim value n m low is = low_made (λ k. record n { trim = k }) (number_of 0 4096 value) (λ z. z.first_number) m (λ x. low) is

low_use : (s u : Settings) (first : Use) → used first s ≡ Ok u → IsLow s → IsLow u
low_use s u (turned flag) is low = let same : turned_on flag s ≡ u = cc is in subst IsLow same (low_flag flag s low)
low_use s u (given place (values.Source option) value) is low =
    low_made (λ g. record s { source = g }) (source_given option value s.source) (λ z. z.naming.first_number) u (λ x. low) (unplaced _ _ u is)
low_use s u (given place (values.Choosing option) value) is low =
    low_made (λ g. record s { choosing = g }) (choosing_given option value s.choosing) (λ z. z.naming.first_number) u (λ x. low) (unplaced _ _ u is)
low_use s u (given place (values.Showing option) value) is low =
    low_made (λ g. record s { showing = g }) (showing_given option value s.showing) (λ z. z.naming.first_number) u (λ x. low) (unplaced _ _ u is)
low_use s u (given place (values.Fetching option) value) is low =
    low_made (λ g. record s { fetching = g }) (fetching_given option value s.fetching) (λ z. z.naming.first_number) u (λ x. low) (unplaced _ _ u is)
low_use s u (given place (values.Tools option) value) is low =
    low_made (λ g. record s { tools = g }) (tools_given option value s.tools) (λ z. z.naming.first_number) u (λ x. low) (unplaced _ _ u is)
low_use s u (given place (values.Naming option) value) is low =
    let (m, there, same) = mapped (λ g. record s { naming = g }) (naming_given option value s.naming) u (unplaced _ _ u is) in
    subst IsLow (sym same) (low_naming option value s.naming m low there)

low_after : (s t : Settings) (uses : List Use) → after s uses ≡ Ok t → IsLow s → IsLow t
low_after s t [] is low = let same : s ≡ t = cc is in subst IsLow same low
low_after s t (first ∷ uses) is low =
    let (u, ok, later) = goes_on (used first s) (λ v. after v uses) t is in
    low_after u t uses later (low_use s u first ok low)

low_ended : (total : ℕ) (s : Settings) (selftest : Option ℕ) (info : Option (List ℕ)) (o : Options) → IsLow s →
    ended_with total s selftest info ≡ Ok o → o.plan.first_number ≤ most
low_ended total s (Some count) info o low is = let same : selftest_options count ≡ o = cc is in subst (λ z. z.plan.first_number ≤ most) same (lit≤ tt)
low_ended total s None None o low is = cc is
low_ended total s None (Some info) o low is = let same : options_of s ≡ o = cc is in subst (λ z. z.plan.first_number ≤ most) same low

low_unless : (total : ℕ) (s : Settings) (fault : Option WordsFault) (o : Options) → IsLow s → unless_fault total fault s ≡ Ok o →
    o.plan.first_number ≤ most
low_unless total s None o low is = low_ended total s s.source.selftest s.source.info o low is
low_unless total s (Some fault) o low is = cc is

-- Words that ask for options give the first entry a number within its bound.
pub first_is_low : (words : List (List ℕ)) (o : Options) → words_of words ≡ Ok o → o.plan.first_number ≤ 1000000000000000
unfolding words_of
first_is_low words o is =
    let (s, set, ends) = goes_on (after no_settings (reading 0 words).uses) (unless_fault (length words) (reading 0 words).fault) o is in
    low_unless (length words) s (reading 0 words).fault o (low_after no_settings s (reading 0 words).uses set (lit≤ tt)) ends
