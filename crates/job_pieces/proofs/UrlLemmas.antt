-- URLs as they are read: of a text that is short enough what the parser gives.
use Rattle.std.proofs.Common.{◌≡◌, ◌<◌, ◌≤◌, Bool, true, false, Option, Some, None, length, if◌then◌else◌, sym, ◌∙◌, ap, subst, arith}
use Rattle.std.specs.Prelude.{Result, IfOk, nat_le}
use Rattle.std.specs.Result.{result_ok}
use Rattle.std.specs.Option.{option_map_or}
use Rattle.text_base.specs.declared.faults.OutOfMemory.{OutOfMemory}
use Rattle.url.specs.Parts.{Parts}
use Rattle.url.specs.Parser.{parse_url}
use Rattle.job_pieces.specs.Component.{Text}
use Rattle.job_pieces.specs.Pieces.{parsed, printed_url, kept_url}

pub parsed_long : (base : Option Parts) (text : Text) → 268435456 < length text → parsed base text ≡ None
unfolding parsed
parsed_long base text long = ap (λ (b : Bool). if b then result_ok (parse_url base text) else None) over
  where
    over : nat_le (length text) 268435456 ≡ false
    over = grind (arith, long)

parsed_short : (base : Option Parts) (text : Text) → length text ≤ 268435456 → parsed base text ≡ result_ok (parse_url base text)
unfolding parsed
parsed_short base text short = ap (λ (b : Bool). if b then result_ok (parse_url base text) else None) within
  where
    within : nat_le (length text) 268435456 ≡ true
    within = grind (arith, short)

pub parsed_is : (base : Option Parts) (text : Text) (r : Result (Option Parts) OutOfMemory) → length text ≤ 268435456 → IfOk r (λ url. url ≡ result_ok (parse_url base text)) →
    IfOk r (λ url. url ≡ parsed base text)
parsed_is base text r short h = subst (λ (o : Option Parts). IfOk r (λ url. url ≡ o)) (sym (parsed_short base text short)) h

-- how a text is kept that is a URL, and one that is none
pub kept_is : (text : Text) (url : Parts) (found : Option Parts) → found ≡ Some url → found ≡ parsed None text → printed_url url ≡ kept_url text
kept_is text url found is read = ap (λ o. option_map_or printed_url o text) (sym is ∙ read)

pub kept_not : (text : Text) (found : Option Parts) → found ≡ None → found ≡ parsed None text → text ≡ kept_url text
kept_not text found is read = ap (λ o. option_map_or printed_url o text) (sym is ∙ read)
