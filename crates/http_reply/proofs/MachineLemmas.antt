-- Laws of the reader of a chunked body.
use Rattle.std.proofs.Common.{◌≡◌, ℕ, ◌+◌, ◌-◌, ◌≤◌, List, ◌++◌, length, take, drop, refl, sym, ap, ◌∙◌, arith, length-append, length-drop, append-nil, min, inl, inr}
use Rattle.std.specs.Prelude.{nat_le}
use Rattle.std.proofs.lemmas.Bool.{cases_lt, lt-leb, le-leb}
use Rattle.std.proofs.lemmas.List.{take_all, drop_all, drop-append-le, take-append-le}
use Rattle.http_reply.specs.declared.part.Part.{Part}
use Rattle.http_reply.specs.declared.chunks.Chunks.{Chunks}
use Rattle.http_reply.specs.Content.{behind, sized}
use Rattle.http_reply.specs.Chunked.{chunks, in_data, after_data}
use Rattle.http_reply.specs.Machine.{part_content, content_of}
use Rattle.http_reply.proofs.ContentLemmas.{in_data-append, in_data-long, take_past}

pub content-part : (c : Chunks) (part : Part) (bytes : List ℕ) → c.part ≡ part → content_of c bytes ≡ part_content part c.at c.sum bytes
content-part c part bytes e = ap (λ (p : Part). part_content p c.at c.sum bytes) e

-- All that is at hand is data, and more of the chunk is to come.
pub data_some : (left at sum : ℕ) (window later : List ℕ) → length window ≤ left
    → in_data chunks left at sum (window ++ later)
    ≡ behind (take (length window) window) (in_data chunks (left - length window) (at + length window) sum (drop (length window) window ++ later))
data_some left at sum window later short =
    rw (take_all (length window) window (omega arith), drop_all (length window) window (omega arith))
    (in_data-append chunks left at sum window later short)

-- The rest of the chunk is at hand.
pub data_all : (left at sum : ℕ) (window later : List ℕ) → left ≤ length window
    → in_data chunks left at sum (window ++ later)
    ≡ behind (take left window) (after_data chunks (at + left) sum (drop left window ++ later))
data_all left at sum window later all =
    in_data-long chunks left at sum (window ++ later) (omega (arith, length-append window later))
    ∙ rw (take-append-le left window later all, drop-append-le left window later all) refl

same_test : (a n x y : ℕ) → n ≤ a → x ≡ n + y → nat_le a x ≡ nat_le (a - n) y
same_test a n x y within is =
    elim (cases_lt x a) [
      | inl less ↦ lt-leb a x less ∙ sym (lt-leb (a - n) y (omega arith))
      | inr more ↦ le-leb a x more ∙ sym (le-leb (a - n) y (omega arith))
    ]

-- Of a body of a length these bytes are at hand.
pub sized_some : (left n : ℕ) (window later : List ℕ) → n ≡ min left (length window)
    → sized left (window ++ later) ≡ behind (take n window) (sized (left - n) (drop n window ++ later))
sized_some left n window later is =
    let within : n ≤ length window = omega arith in
    let all = length-append window later in
    let rest : length (drop n window ++ later) ≡ length window - n + length later = length-append (drop n window) later ∙ omega (arith, length-drop n window) in
    let front : take left (window ++ later) ≡ take n window ++ take (left - n) (drop n window ++ later) =
    elim (cases_lt left (length window)) [
      | inl less ↦
          let same : n ≡ left = omega arith in
          let none_ : left - n ≡ 0 = omega arith in
          rw (none_, take-append-le left window later (omega arith), same) (sym (append-nil (take left window)))
      | inr more ↦
          let same : n ≡ length window = omega arith in
          rw (same, take_all (length window) window (omega arith), drop_all (length window) window (omega arith)) (take_past window later left more)
    ] in
    let test : nat_le left (length (window ++ later)) ≡ nat_le (left - n) (length (drop n window ++ later)) = same_test left n (length (window ++ later)) (length (drop n window ++ later)) (omega arith) (omega arith) in
    rw (front, test) refl
