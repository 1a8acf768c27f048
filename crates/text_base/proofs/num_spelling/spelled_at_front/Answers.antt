use Rattle.std.proofs.Common.{◌≡◌, ◌<◌, length, arith, eqb, false, take, not, refl, sym, ◌∙◌}
use Rattle.std.proofs.lemmas.Bool.{eqb-false, eqb-true}
use Rattle.text_base.proofs.FrontLemmas.{Cut, number_length-within, cut_begins, cut_some, cut_rest, cut_parts, cut_negative, cut_whole, number_length_none, from_int}
use Rattle.text_base.specs.Spelling.{int_length, number_length}
use Rattle.text_base.specs.Value.{parts}
use Rattle.text_base.proofs.PartsLemmas.{digit_parts, short_parts}
use Rattle.text_base.specs.Spelled.{spelled_parts}
use Rattle.text_base.proofs.num_spelling.spelled_at_front.Goals as goal

pub returns-then-is_empty-clause-none : goal.returns-then-is_empty-clause-none
returns-then-is_empty-clause-none c =
    let e : length c.split_at-2.result.0.now ≡ 0 = eqb-true _ _ (sym c.is_empty.ensures ∙ c.if-is_empty.true) in
    let i : c.int_len.result ≡ 0 = sym c.split_at-2.ensures.front_len ∙ e in
    number_length_none c.args.bytes.now (cc)

pub returns-clause-some : goal.returns-clause-some
returns-clause-some c =
    let bs = c.args.bytes.now in
    let k : Cut bs c.split_at.result.0.now c.split_at.result.1.now c.split_at-2.result.0.now c.split_at-2.result.1.now c.split_at-3.result.0.now c.split_at-3.result.1.now c.split_at-4.result.0.now c.split_at-4.result.1.now c.minus_len.result c.int_len.result c.frac_len.result c.exp_len.result = record {
      minus_is = c.minus_len.ensures.minus;
      minus_front = c.split_at.ensures.front;
      minus_back = c.split_at.ensures.back;
      minus_within = c.minus_len.ensures.within;
      int_is = c.int_len.ensures.int;
      int_front = c.split_at-2.ensures.front;
      int_back = c.split_at-2.ensures.back;
      int_within = c.int_len.ensures.within;
      frac_is = c.frac_len.ensures.frac;
      frac_front = c.split_at-3.ensures.front;
      frac_back = c.split_at-3.ensures.back;
      frac_within = c.frac_len.ensures.within;
      exp_is = c.exp_len.ensures.exp;
      exp_front = c.split_at-4.ensures.front;
      exp_back = c.split_at-4.ensures.back;
      exp_within = c.exp_len.ensures.within;
    } in
    let n : eqb (length c.split_at-2.result.0.now) 0 ≡ false = sym c.is_empty.ensures ∙ c.if-is_empty.false in
    let d = eqb-false (length c.split_at-2.result.0.now) 0 n in
    let e = c.split_at-2.ensures.front_len in
    let l : 0 < c.int_len.result = omega arith in
    let q : spelled_parts record { is_negative = not c.is_empty-2.result; int = c.split_at-2.result.0; frac = c.frac_digits.result; exponent_is_negative = c.exp_is_negative.result; exponent = c.exp_digits.result; is_whole = eqb (length c.split_at-4.result.1.now) (length c.split_at-2.result.1.now) } ≡ parts (take (number_length bs) bs) =
    cut_parts _ _ _ _ _ _ _ _ _ _ _ _ _ k _ l (cut_negative _ _ _ _ _ _ _ _ _ _ _ _ _ k _ c.is_empty-2.ensures) refl c.frac_digits.ensures c.exp_is_negative.ensures c.exp_digits.ensures (cut_whole _ _ _ _ _ _ _ _ _ _ _ _ _ k _ refl) in
    let i : 0 < int_length (from_int bs) = cut_begins _ _ _ _ _ _ _ _ _ _ _ _ _ k l in
    record {
      begins = cut_some _ _ _ _ _ _ _ _ _ _ _ _ _ k l;
      fits = number_length-within bs;
      is_spelled = q;
      is_behind = cut_rest _ _ _ _ _ _ _ _ _ _ _ _ _ k l;
      has_digits = digit_parts _ bs q i;
      is_within = short_parts _ bs q i;
    }
