use Rattle.std.proofs.Common.{◌≡◌, ℕ, sym, ◌∙◌, get_or, true, false, arith}
use Rattle.std.specs.Char.{is_ascii_digit}
use Rattle.std.proofs.lemmas.List.Sums.{prefix_len_is}
use Rattle.http_reply.proofs.FieldLemmas.{number_more}
use Rattle.link_http.proofs.mem_asked.number_before.Goals as goal
use borrow.Author.Count.{below_more}

pub returns-then-not-is_ascii_digit : goal.returns-then-not-is_ascii_digit
returns-then-not-is_ascii_digit c =
    let text = c.args.text.now in
    let i = c.loop-byte.byte-index in
    let other : is_ascii_digit (get_or text i 0) ≡ false = sym c.is_ascii_digit.ensures.value ∙ c.if-not-is_ascii_digit.true in
    c.loop-byte.invariant.0 ∙ rw (prefix_len_is is_ascii_digit text i 0 (omega arith) c.loop-byte.invariant.1 (λ _. other))

pub loop-byte-preserved : goal.loop-byte-preserved
loop-byte-preserved c =
    let text = c.args.text.now in
    let i = c.loop-byte.byte-index in
    let digit : is_ascii_digit (get_or text i 0) ≡ true = sym c.is_ascii_digit.ensures.value ∙ c.if-not-is_ascii_digit.false in (
      c.saturating_add-value.ensures
          ∙ (rw c.saturating_mul.ensures (number_more text i c.loop-byte.value c.loop-byte-test.true c.loop-byte.invariant.0 digit)),
      below_more (λ (k : ℕ). is_ascii_digit (get_or text k 0) ≡ true) i c.loop-byte.invariant.1 digit,
    )

pub returns : goal.returns
returns c =
    let text = c.args.text.now in
    let i = c.loop-byte.byte-index in
    c.loop-byte.invariant.0 ∙ rw (prefix_len_is is_ascii_digit text i 0 (omega arith) c.loop-byte.invariant.1 (λ less. absurd (omega arith)))
