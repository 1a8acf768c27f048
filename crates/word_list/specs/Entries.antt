-- Values of several entries, with a slash between them: containers, and rules for extensions.
use Rattle.std.specs.Prelude.{ℕ, List, [], ◌∷◌, length, Bool, ◌==◌, nat_lt, if◌then◌else◌, Option, Some, None, Result, Ok, Err, codes}
use Rattle.std.specs.List.{list_any, slice_split, before_first, after_first, position_or_len}
use Rattle.std.specs.Str.{bytes_eq}
use Rattle.word_list.specs.declared.fault.OptionFault.{OptionFault}
use Rattle.word_list.specs.declared.fault.OptionFault.TheVariants.{BadValue}
use Rattle.job_steps.specs.declared.rule.ExtRule.{ExtRule}
use Rattle.word_list.specs.Faults.{result_map, result_and_then}

-- what parts are merged into
abbrev pub container_names : List (List ℕ)
container_names = codes "mkv" ∷ codes "mp4" ∷ codes "mov" ∷ codes "webm" ∷ codes "avi" ∷ codes "flv" ∷ []

-- what videos become
abbrev pub remux_targets : List (List ℕ)
remux_targets =
    codes "avi" ∷ codes "flv" ∷ codes "mkv" ∷ codes "mov" ∷ codes "mp4" ∷ codes "webm" ∷ codes "aac" ∷ codes "flac" ∷ codes "m4a" ∷ codes "mka" ∷ codes "mp3" ∷ codes "ogg" ∷ codes "opus" ∷ codes "wav" ∷ []

-- what audio becomes; `best` is the same codec where it can be kept
abbrev pub audio_targets : List (List ℕ)
audio_targets =
    codes "best" ∷ codes "aac" ∷ codes "alac" ∷ codes "flac" ∷ codes "m4a" ∷ codes "mp3" ∷ codes "opus" ∷ codes "vorbis" ∷ codes "wav" ∷ []

-- whether a text is one of these names
abbrev pub is_one_of : List (List ℕ) → List ℕ → Bool
is_one_of names text = list_any (λ name. bytes_eq name text) names

-- one of these names
abbrev pub name_in : List (List ℕ) → List ℕ → Result (List ℕ) OptionFault
name_in names text = if is_one_of names text then Ok text else Err BadValue

-- the byte `>`
abbrev pub is_greater : ℕ → Bool
is_greater b = b == 62

-- whether a `>` stands in an entry
abbrev pub has_greater : List ℕ → Bool
has_greater text = nat_lt (position_or_len is_greater text) (length text)

-- a rule to one of these names
abbrev pub rule_to : List (List ℕ) → Option (List ℕ) → List ℕ → Result ExtRule OptionFault
rule_to names from to = result_map (λ name. record { from = from; to = name }) (name_in names to)

-- a rule: `from>to` by its first `>`, or `to` alone
abbrev pub rule_in : List (List ℕ) → List ℕ → Result ExtRule OptionFault
rule_in names text =
    if has_greater text then rule_to names (Some (before_first is_greater text)) (after_first is_greater text) else rule_to names None text

-- the byte `/`
abbrev pub is_slash : ℕ → Bool
is_slash b = b == 47

-- what stands between the slashes of a value
abbrev pub entries_of : List ℕ → List (List ℕ)
entries_of value = slice_split is_slash value

-- what each entry is, or the fault of the first that has one
abbrev pub all_in : {T : Type 0} → (List ℕ → Result T OptionFault) → List (List ℕ) → Result (List T) OptionFault
all_in entry [] = Ok []
all_in entry (first ∷ rest) = result_and_then (entry first) (λ x. result_map (λ xs. x ∷ xs) (all_in entry rest))

-- the containers that a value names
unfoldable pub containers_of : List ℕ → Result (List (List ℕ)) OptionFault
containers_of value = all_in (name_in container_names) (entries_of value)

-- the rules of a value by which videos become other files
unfoldable pub remux_rules_of : List ℕ → Result (List ExtRule) OptionFault
remux_rules_of value = all_in (rule_in remux_targets) (entries_of value)

-- the rules of a value by which audio becomes other files
unfoldable pub audio_rules_of : List ℕ → Result (List ExtRule) OptionFault
audio_rules_of value = all_in (rule_in audio_targets) (entries_of value)
