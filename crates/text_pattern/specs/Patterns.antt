-- What a text is as a pattern, and where a pattern matches, by the grammar and the meaning that the `regex` crate states.
use Rattle.std.specs.Prelude.{◌≡◌, ℕ, ◌<◌, List, Bool, true, false, Option, Some, None, is_some, nat_le, slice_index, chars, if◌then◌else◌}
use Rattle.std.specs.Option.{option_and_then}
use Rattle.regex.specs.Patterns.{Re, find_str, default_config}
use Rattle.regex.specs.declared.error.Error.{Error}
use Rattle.regex.specs.declared.error.Error.TheVariants as regexes
use Rattle.regex_syntax.specs.Grammar.{read}
use Rattle.text_pattern.specs.declared.fault.PatternFault.{PatternFault}
use Rattle.text_pattern.specs.declared.fault.PatternFault.TheVariants as faults

-- the regular expression that the grammar reads in a text, where it nests no deeper than the limit
unfoldable pub pattern_of : List ℕ → Option Re
pattern_of text =
    option_and_then (λ p. if nat_le p.0.depth default_config.nest_limit then Some p.0.value else None) (read default_config (chars text))

-- whether a text is a pattern
unfoldable pub is_pattern : List ℕ → Bool
is_pattern text = is_some (pattern_of text)

-- whether a regular expression matches anywhere in a text
abbrev pub has_match : Option Re → List ℕ → Bool
has_match None text = false
has_match (Some re) text = is_some (find_str re text 0)

-- whether the pattern that a text is matches anywhere in another text
unfoldable pub matches : List ℕ → List ℕ → Bool
matches pattern text = has_match (pattern_of pattern) text

-- a regular expression is found in each text of bytes exactly where the pattern matches
abbrev pub Finds : Re → List ℕ → Type 0
Finds re pattern = (text : List ℕ) → ((k : ℕ) → slice_index text k < 256) → is_some (find_str re text 0) ≡ matches pattern text

-- no pattern is answered only where the text is none; memory may run out at any time
abbrev pub IsRefusal : List ℕ → PatternFault → Type 0
IsRefusal text faults.NotPattern = is_pattern text ≡ false
IsRefusal text faults.OutOfMemory = Unit {0}

-- the fault that stands for an error of `regex`
abbrev pub IsFaultOf : Error → PatternFault → Type 0
IsFaultOf (regexes.Syntax e) fault = fault ≡ faults.NotPattern
IsFaultOf regexes.CompiledTooBig fault = fault ≡ faults.OutOfMemory
IsFaultOf regexes.Internal fault = fault ≡ faults.OutOfMemory
IsFaultOf regexes.OutOfMemory fault = fault ≡ faults.OutOfMemory
