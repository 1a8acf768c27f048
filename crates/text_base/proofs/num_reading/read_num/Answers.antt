use Rattle.std.proofs.Common.{◌≡◌, ◌≤◌, ◌<◌, ◌-◌, ℕ, List, length, drop, take, Some, None, Option, sym, ◌∙◌, refl, ap, arith, length-take, length-drop}
use Rattle.std.proofs.lemmas.List.{take_rest}
use Rattle.std.specs.Option.{option_map}
use Rattle.std.specs.Prelude.{if◌then◌else◌}
use Rattle.text_base.specs.declared.num_spelling.Spelled.{Spelled}
use Rattle.text_base.specs.declared.number.Num.{Num}
use Rattle.text_base.specs.Number.{Number, number_of}
use Rattle.text_base.specs.Spelling.{number_length}
use Rattle.text_base.specs.Value.{Parts, parts, whole_value, decimal_value, exact_value, number_value}
use Rattle.text_base.specs.Reading.{spelling_at}
use Rattle.text_base.specs.Spelled.{spelled_parts, StandsAtFront}
use Rattle.text_base.proofs.SpellingLemmas.{number_exact}
use Rattle.text_base.proofs.num_reading.read_num.Goals as goal

exact_parts : (s : List ℕ) (p : Parts) → p ≡ parts s → exact_value s ≡ (if p.is_whole then whole_value p else decimal_value p)
unfolding exact_value
exact_parts s p e = rw e refl

module _ (bytes rest : List ℕ) (at : ℕ) (e : rest ≡ drop at bytes) (s : Spelled) (behind : List ℕ) (f : StandsAtFront rest s behind) (l : length rest - length behind ≤ 64) where
  length_here : length (spelling_at bytes at) ≡ number_length rest
  length_here = let w = f.fits in rw (← e) (length-take (number_length rest) rest ∙ omega arith)

  length_of_rest : length behind ≡ length rest - number_length rest
  length_of_rest = ap length f.is_behind ∙ length-drop (number_length rest) rest

  some_here : 0 < length (spelling_at bytes at)
  some_here = let b = f.begins in rw length_here b

  short_here : length (spelling_at bytes at) ≤ 64
  short_here = let w = f.fits in let b = length_of_rest in rw length_here (omega arith)

  value_here : (r : Option Num) → option_map number_of r ≡ (if s.is_whole then whole_value (spelled_parts s) else decimal_value (spelled_parts s)) → number_value (spelling_at bytes at) ≡ option_map number_of r
  value_here r v =
      number_exact (spelling_at bytes at) short_here
      ∙ (exact_parts (spelling_at bytes at) (spelled_parts s) (rw (← e) f.is_spelled) ∙ sym v)

rest_is : (bytes : List ℕ) (at : ℕ) → take (length bytes - at) (drop at bytes) ≡ drop at bytes
rest_is bytes at = take_rest bytes at

pub returns-in-Some-value_of-clause-number : goal.returns-in-Some-value_of-clause-number
returns-in-Some-value_of-clause-number c =
    value_here c.args.bytes.now _ c.args.at (rest_is c.args.bytes.now c.args.at) c.in-Some.spelled c.in-Some.behind.now c.in-Some.ensures.some c.if-length-gt-SPELLING_END.false (Some c.in-Some-value_of.num) c.in-Some-value_of.ensures

pub returns-in-Some-value_of-clause-range : goal.returns-in-Some-value_of-clause-range
returns-in-Some-value_of-clause-range c =
    let v : number_value (spelling_at c.args.bytes.now c.args.at) ≡ Some (number_of c.in-Some-value_of.num) =
    value_here c.args.bytes.now _ c.args.at (rest_is c.args.bytes.now c.args.at) c.in-Some.spelled c.in-Some.behind.now c.in-Some.ensures.some c.if-length-gt-SPELLING_END.false (Some c.in-Some-value_of.num) c.in-Some-value_of.ensures in
    (λ h. cc, λ h. let n = h.2 in absurd (cc))

pub returns-in-None-clause-range : goal.returns-in-None-clause-range
returns-in-None-clause-range c =
    let v : ◌≡◌ {A = Option Number} (number_value (spelling_at c.args.bytes.now c.args.at)) None =
    value_here c.args.bytes.now _ c.args.at (rest_is c.args.bytes.now c.args.at) c.in-Some.spelled c.in-Some.behind.now c.in-Some.ensures.some c.if-length-gt-SPELLING_END.false None c.in-None.ensures in (
      λ h. (
        some_here c.args.bytes.now _ c.args.at (rest_is c.args.bytes.now c.args.at) c.in-Some.spelled c.in-Some.behind.now c.in-Some.ensures.some c.if-length-gt-SPELLING_END.false,
        short_here c.args.bytes.now _ c.args.at (rest_is c.args.bytes.now c.args.at) c.in-Some.spelled c.in-Some.behind.now c.in-Some.ensures.some c.if-length-gt-SPELLING_END.false,
        v,
      ),
      λ h. refl,
    )
