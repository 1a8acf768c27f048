-- What words say of the first entry's number.
use Rattle.std.proofs.Common.{◌≡◌, ℕ, ◌≤◌, List, length, Bool, true, false, sym, ap, subst}
use Rattle.std.specs.Prelude.{Option, Some, None, if◌then◌else◌, Ok}
use Rattle.std.specs.Option.{option_map, ok_or}
use Rattle.word_list.specs.declared.fault.OptionFault.TheVariants.{NotBuilt}
use Rattle.word_list.specs.declared.fault.WordsFault.TheVariants.{Bad}
use Rattle.word_list.specs.Options.{Options}
use Rattle.word_list.specs.Words as all
use Rattle.word_list.proofs.LowLemmas.{first_is_low}
use Rattle.word_list.proofs.SortLemmas.{goes_on}
use Rattle.ytdl_core.specs.Built.{Command, command_for, is_built}
use Rattle.ytdl_core.specs.Words.{Asks, built, words_of}

plan_by : (b : Bool) (o : Options) (info : Option (List ℕ)) (total : ℕ) (c : Command) →
    ok_or (if b then option_map (command_for o) info else None) (Bad total NotBuilt) ≡ Ok c → c.plan ≡ o.plan
plan_by true o (Some info) total c is = let same : command_for o info ≡ c = cc is in ap (λ z. z.plan) (sym same)
plan_by true o None total c is = cc is
plan_by false o info total c is = cc is

-- Words give the first entry a number within its bound.
pub number_of_asked : (words : List (List ℕ)) (c : Command) → Asks words c → c.plan.first_number ≤ 1000000000000000
unfolding words_of
number_of_asked words c asks =
    let (o, ok, is) = goes_on (all.words_of words) (built (length words)) c asks in
    let same : c.plan ≡ o.plan = plan_by (is_built o) o o.info (length words) c is in
    subst (λ p. p.first_number ≤ 1000000000000000) (sym same) (first_is_low words o ok)
