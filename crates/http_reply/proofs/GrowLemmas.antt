-- What a front of a body tells stays true of the whole.
use Rattle.std.proofs.Common.{◌≡◌, ◌≢◌, ℕ, zero, suc, ◌+◌, ◌-◌, List, [], ◌∷◌, ◌++◌, length, take, drop, refl, sym, ap, ◌∙◌, arith, append_assoc, append-nil, length-append, inl, inr, eqb, suc-add}
use Rattle.std.proofs.lemmas.Bool.{cases_lt, cases_Bool}
use Rattle.std.proofs.lemmas.List.{take-append-le, drop-append-le}
use Rattle.std.specs.Prelude.{nat_lt, ◌==◌}
use Rattle.httparse.specs.Ascii.{carriage_return, line_feed}
use Rattle.http_reply.specs.declared.stop.Stop.TheVariants.{Cut}
use Rattle.http_reply.specs.declared.chunk_line.LineRead.{LineRead}
use Rattle.http_reply.specs.declared.chunk_line.LineRead.TheVariants.{Whole, Open, Unreadable}
use Rattle.http_reply.specs.Content.{Content, stopped, behind}
use Rattle.http_reply.specs.Chunked.{Rest, chunks, chunks_within, chunk_line, at_line, in_data, after_data, limit}
use Rattle.http_reply.proofs.ContentLemmas.{in_data-short, in_data-long, in_data-append}
use Rattle.http_reply.proofs.ChunkedLemmas.{chunk_line-append, chunk_line-whole}

pub record Grows (less more : Content) : Type 0 where
  pub rest : List ℕ
  pub front : more.bytes ≡ less.bytes ++ rest
  pub same : less.stop ≢ Cut → more ≡ less

-- of no bytes, cut off, anything may come
grows_cut : (more : Content) → Grows (stopped Cut) more
grows_cut more = record { rest = more.bytes; front = refl; same = λ no_. absurd (no_ refl) }

grows_same : (c d : Content) → d ≡ c → Grows c d
grows_same c d e = record { rest = []; front = ap (λ (x : Content). x.bytes) e ∙ sym (append-nil c.bytes); same = λ _. e }

grows_behind : (xs : List ℕ) (c d : Content) → Grows c d → Grows (behind xs c) (behind xs d)
grows_behind xs c d g = record {
  rest = g.rest;
  front = ap (λ (b : List ℕ). xs ++ b) g.front ∙ sym (append_assoc xs c.bytes g.rest);
  same = λ kept. ap (behind xs) (g.same kept);
}

abbrev pub AllGrow : Rest → Rest → Type 0
AllGrow f g = (at sum : ℕ) (bytes later : List ℕ) → Grows (f at sum bytes) (g at sum (bytes ++ later))

after_data-grows : (f g : Rest) → AllGrow f g → (at sum : ℕ) (bytes later : List ℕ) → Grows (after_data f at sum bytes) (after_data g at sum (bytes ++ later))
after_data-grows f g grow at sum [] later = grows_cut _
after_data-grows f g grow at sum (b ∷ []) later =
    elim (cases_Bool (eqb b carriage_return)) [ inl is ↦ rw is (grows_cut _) | inr other ↦ rw other (grows_same _ _ refl) ]
after_data-grows f g grow at sum (b ∷ c ∷ bytes) later =
    elim (cases_Bool (eqb b carriage_return)) [
      | inl cr ↦ elim (cases_Bool (eqb c line_feed)) [
        | inl lf_ ↦ rw (cr, lf_) (grow (at + 2) sum bytes later)
        | inr other ↦ rw (cr, other) (grows_same _ _ refl)
      ]
      | inr other ↦ rw other (grows_same _ _ refl)
    ]

in_data-grows : (f g : Rest) → AllGrow f g → (left at sum : ℕ) (bytes later : List ℕ) → Grows (in_data f left at sum bytes) (in_data g left at sum (bytes ++ later))
in_data-grows f g grow left at sum bytes later =
    elim (cases_lt (length bytes) left) [
      | inl less ↦
          let whole_ = in_data-append g left at sum bytes later (omega arith) in
          let rest = in_data g (left - length bytes) (at + length bytes) sum later in
          rw (in_data-short f left at sum bytes less, whole_)
          (grows_behind bytes (stopped Cut) rest (grows_cut rest))
      | inr more ↦
          rw (
            in_data-long f left at sum bytes more,
            in_data-long g left at sum (bytes ++ later) (omega (arith, length-append bytes later)),
            take-append-le left bytes later more,
            drop-append-le left bytes later more,
          )
          (grows_behind (take left bytes) _ _ (after_data-grows f g grow (at + left) sum (drop left bytes) later))
    ]

at_line-grows : (f g : Rest) → AllGrow f g → (line : LineRead) (at sum : ℕ) (bytes later : List ℕ)
    → chunk_line bytes ≡ line → Grows (at_line f line at sum bytes) (at_line g (chunk_line (bytes ++ later)) at sum (bytes ++ later))
at_line-grows f g grow Open at sum bytes later is = grows_cut _
at_line-grows f g grow Unreadable at sum bytes later is =
    let same : chunk_line (bytes ++ later) ≡ Unreadable = chunk_line-append bytes later (λ o. let e = sym is ∙ o in cc) ∙ is in
    rw same (grows_same _ _ refl)
at_line-grows f g grow (Whole size len) at sum bytes later is =
    let same : chunk_line (bytes ++ later) ≡ Whole size len = chunk_line-append bytes later (λ o. let e = sym is ∙ o in cc) ∙ is in
    let inside = (chunk_line-whole bytes size len is).within in
    elim (cases_Bool (size == 0)) [
      | inl none_ ↦ rw (same, none_) (grows_same _ _ refl)
      | inr some ↦ elim (cases_Bool (nat_lt limit (sum + size))) [
        | inl over ↦ rw (same, some, over) (grows_same _ _ refl)
        | inr fits ↦ rw (same, some, fits, drop-append-le len bytes later inside)
            (in_data-grows f g grow size (at + len) (sum + size) (drop len bytes) later)
      ]
    ]

within-grows : (k m : ℕ) (at sum : ℕ) (bytes later : List ℕ) → Grows (chunks_within k at sum bytes) (chunks_within (k + m) at sum (bytes ++ later))
unfolding chunks_within
within-grows zero m at sum bytes later = grows_cut _
within-grows (suc k) m at sum bytes later =
    rw (suc-add k m) (at_line-grows (chunks_within k) (chunks_within (k + m)) (λ a s b l. within-grows k m a s b l) (chunk_line bytes) at sum bytes later refl)

-- The content of a front of a body is a front of the content, and the whole where it does not stop with the front.
pub chunks-grow : (at sum : ℕ) (bytes later : List ℕ) → Grows (chunks at sum bytes) (chunks at sum (bytes ++ later))
unfolding chunks
chunks-grow at sum bytes later =
    let size : length (bytes ++ later) + 1 ≡ length bytes + 1 + length later = omega (arith, length-append bytes later) in
    rw size (within-grows (length bytes + 1) (length later) at sum bytes later)
