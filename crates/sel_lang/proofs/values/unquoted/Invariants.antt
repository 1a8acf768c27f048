use Rattle.std.proofs.Common.{◌≡◌, length, false}
use Rattle.std.specs.Str.Iter.{chars_rest}
use Rattle.std.specs.String.{string_bytes}
use Rattle.sel_lang.specs.Filters.{unquoted}
use Rattle.sel_lang.proofs.QuoteLemmas.{after_front}
use Rattle.sel_lang.proofs.values.unquoted.Given as goal

-- what was taken stands before what is still read
abbrev pub invariant-chars : goal.invariant-chars
invariant-chars l = after_front (string_bytes l.value) (unquoted l.quote false (chars_rest l.chars)) ≡ unquoted l.quote false l.text

abbrev pub decreases-chars : goal.decreases-chars
decreases-chars l = length (chars_rest l.chars)
