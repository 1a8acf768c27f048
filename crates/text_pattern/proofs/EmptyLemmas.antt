-- The empty text is a pattern.
use Rattle.std.proofs.Common.{◌≡◌, [], true, refl}
use Rattle.regex.proofs.OnLiterals.{regex_on_literals}
use Rattle.text_pattern.specs.Patterns.{pattern_of, is_pattern}

pub empty_is_pattern : is_pattern [] ≡ true
unfolding regex_on_literals pattern_of is_pattern
empty_is_pattern = refl
