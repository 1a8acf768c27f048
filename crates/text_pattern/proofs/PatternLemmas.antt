-- What the `regex` crate ensures, in the words of patterns.
use Rattle.std.proofs.Common.{◌≡◌, ◌≢◌, ◌⊎◌, ℕ, ◌<◌, ◌≤◌, Bool, List, Option, Some, None, IsSomeAnd, IfSome, is_some, length, get_or, refl, arith, true, false, ◌∙◌, ap, sym, nat_le, if◌then◌else◌, inl, inr, option_and_then}
use Rattle.std.proofs.lemmas.Bool.{cond-true, cond-false}
use Rattle.std.proofs.lemmas.Bool.Decides.{nat_tests}
use Rattle.std.specs.Str.{chars}
use Rattle.regex.specs.Patterns.{Re, Reads, Refuses, SameCaptures, default_config, find_str}
use Rattle.regex.specs.Failures.{IsRightKind}
use Rattle.regex.specs.Sources.{IsRefusal}
use Rattle.regex.specs.Strings.{regex_pattern, regex_source, regex_config, IsReadFromSource}
use Rattle.regex.specs.Names.{names_of}
use Rattle.regex.specs.declared.error.Error.{Error}
use Rattle.regex.specs.declared.error.Error.TheVariants as regexes
use Rattle.regex.specs.declared.string.regex.Regex.{Regex}
use Rattle.regex.proofs.ForCallers.{is_match_alike}
use Rattle.regex_hir.specs.Meaning.{meaning}
use Rattle.regex_hir.specs.declared.hir.Hir.{Hir}
use Rattle.regex_syntax.specs.Brackets.{Nested}
use Rattle.regex_syntax.specs.Grammar.{Names, read, group_count}
use Rattle.regex_syntax.specs.declared.error.ErrorKind.{ErrorKind}
use Rattle.regex_syntax.specs.declared.error.ErrorKind.TheVariants.{OutOfMemory, NestLimitExceeded}
use Rattle.text_pattern.specs.Patterns.{pattern_of, is_pattern, matches, has_match, Finds}
use Rattle.text_pattern.specs.Patterns as spec
use Rattle.text_pattern.specs.declared.fault.PatternFault.{PatternFault}
use Rattle.text_pattern.specs.declared.fault.PatternFault.TheVariants as faults

abbrev within_limit : Option (Nested Re × Names) → Option Re
within_limit = option_and_then (λ p. if nat_le p.0.depth 250 then Some p.0.value else None)

-- what is read within the limit is a pattern, and matches alike
read_within : (o : Option (Nested Re × Names)) (a : Re) (names : Names) →
    IsSomeAnd o (λ (re, found). (re.depth ≤ 250) × SameCaptures a re.value × (names ≡ found) × (group_count a ≤ length names)) →
    (re : Re) × (within_limit o ≡ Some re) × SameCaptures a re
read_within None a names h = absurd h
read_within (Some p) a names h =
    let within : nat_le p.0.depth 250 ≡ true = grind (arith, nat_tests, h.0) in
    (p.0.value, cond-true _ _ None within, h.1)

reads_pattern : (source : List ℕ) (hir : Hir) (names : Names) → Reads default_config source hir names →
    (re : Re) × (pattern_of source ≡ Some re) × SameCaptures (meaning hir) re
unfolding Reads pattern_of
reads_pattern source hir names h = read_within (read default_config (chars source)) (meaning hir) names h

pub read_is_pattern : (source : List ℕ) (hir : Hir) (names : Names) → Reads default_config source hir names → is_pattern source ≡ true
unfolding is_pattern
read_is_pattern source hir names h = ap is_some (reads_pattern source hir names h).1

pub read_finds : (source : List ℕ) (hir : Hir) (names : Names) → Reads default_config source hir names → Finds (meaning hir) source
unfolding matches
read_finds source hir names h text bytes =
    let p = reads_pattern source hir names h in
    is_match_alike p.2 text bytes true 0 ∙ sym (ap (λ o. has_match o text) p.1)

past_limit : (o : Option (Nested Re × Names)) → IfSome o (λ (re, found). 250 < re.depth) → is_some (within_limit o) ≡ false
past_limit None h = refl
past_limit (Some p) h =
    let past : nat_le p.0.depth 250 ≡ false = grind (arith, nat_tests, h) in
    ap is_some (cond-false _ (Some p.0.value) None past)

refused : (source : List ℕ) (kind : ErrorKind) → kind ≢ OutOfMemory → Refuses default_config source kind → is_pattern source ≡ false
unfolding Refuses pattern_of is_pattern
refused source kind ne (inl e) = absurd (ne e)
refused source kind ne (inr (inl none)) = ap (λ o. is_some (within_limit o)) none
refused source kind ne (inr (inr deep)) = past_limit (read default_config (chars source)) deep.1

-- an error of the crate is the fault that it stands for
pub error_is_refusal : (source : List ℕ) (error : Error) (fault : PatternFault) → spec.IsFaultOf error fault →
    IsRefusal default_config source error → IsRightKind default_config source error → spec.IsRefusal source fault
error_is_refusal source (regexes.Syntax e) faults.NotPattern is h kind = refused source e.kind kind (h e refl)
error_is_refusal source (regexes.Syntax e) faults.OutOfMemory is h kind = tt
error_is_refusal source regexes.CompiledTooBig faults.NotPattern is h kind = absurd cc
error_is_refusal source regexes.CompiledTooBig faults.OutOfMemory is h kind = tt
error_is_refusal source regexes.Internal faults.NotPattern is h kind = absurd cc
error_is_refusal source regexes.Internal faults.OutOfMemory is h kind = tt
error_is_refusal source regexes.OutOfMemory faults.NotPattern is h kind = absurd cc
error_is_refusal source regexes.OutOfMemory faults.OutOfMemory is h kind = tt

-- what `Regex::new` ensures of the pattern of its text
pub made_is_pattern : (r : Regex) (source : List ℕ) → regex_source r ≡ source → regex_config r ≡ default_config → IsReadFromSource r →
    is_pattern source ≡ true
made_is_pattern r source is_source is_default is_read =
    read_is_pattern source r.pattern.program.hir (names_of r.pattern.names.items) (rw (is_source, is_default) at is_read)

pub made_finds : (r : Regex) → regex_config r ≡ default_config → IsReadFromSource r → Finds (regex_pattern r) (regex_source r)
made_finds r is_default is_read =
    read_finds (regex_source r) r.pattern.program.hir (names_of r.pattern.names.items) (rw is_default at is_read)
