-- Laws of bodies in chunks.
use Rattle.std.proofs.Common.{◌≡◌, ◌≢◌, ℕ, zero, suc, ◌+◌, ◌<◌, ◌≤◌, List, ◌++◌, length, take, drop, cond, refl, sym, ap, subst, ◌∙◌, arith, length-append, length-drop, add-one, inl, inr, eqb}
use Rattle.std.proofs.lemmas.Bool.{cond-true, cond-false, lt-ltb, le-ltb, le-leb, lt-leb, cases_lt, eq-eqb, ne_eqb}
use Rattle.std.proofs.lemmas.List.{take-append-le, drop-append-le}
use Rattle.std.specs.Prelude.{Option, Some, None}
use Rattle.std.specs.List.{prefix_len}
use Rattle.std.proofs.lemmas.List.Folds.{prefix_len-append}
use Rattle.std.proofs.lemmas.List.Sums.{prefix_len-le-length}
use Rattle.http_reply.specs.declared.stop.Stop.TheVariants.{Last, Cut, Bad, Long}
use Rattle.http_reply.specs.declared.chunk_line.LineRead.{LineRead}
use Rattle.http_reply.specs.declared.chunk_line.LineRead.TheVariants.{Whole, Open, Unreadable}
use Rattle.http_reply.specs.Content.{stopped, behind}
use Rattle.http_reply.specs.Chunked.{Rest, chunks, chunks_within, chunk_line, line_read, line_size, is_in_line, at_line, in_data, after_data, limit, capped}
use Rattle.http_reply.proofs.ContentLemmas.{in_data-short, in_data-long}

-- Two readers of the rest agree on each list that is shorter than n.
abbrev pub Agree : ℕ → Rest → Rest → Type 0
Agree n f g = (at sum : ℕ) (bytes : List ℕ) → length bytes < n → f at sum bytes ≡ g at sum bytes

after_data-agree : (n : ℕ) (f g : Rest) → Agree n f g → (at sum : ℕ) (bytes : List ℕ) → length bytes < n
    → after_data f at sum bytes ≡ after_data g at sum bytes
after_data-agree n f g same at sum bytes fits =
    let e = same (at + 2) sum (drop 2 bytes) (omega (arith, length-drop 2 bytes)) in
    rw e refl

in_data-agree : (n : ℕ) (f g : Rest) → Agree n f g → (left at sum : ℕ) (bytes : List ℕ) → 0 < left → length bytes ≤ n
    → in_data f left at sum bytes ≡ in_data g left at sum bytes
in_data-agree n f g same left at sum bytes some fits =
    elim (cases_lt (length bytes) left) [
      | inl less ↦ in_data-short f left at sum bytes less ∙ sym (in_data-short g left at sum bytes less)
      | inr more ↦
          in_data-long f left at sum bytes more
          ∙ ap (behind (take left bytes)) (after_data-agree n f g same (at + left) sum (drop left bytes) (omega (arith, length-drop left bytes)))
          ∙ sym (in_data-long g left at sum bytes more)
    ]

at_line-agree : (n : ℕ) (f g : Rest) → Agree n f g → (line : LineRead) (at sum : ℕ) (bytes : List ℕ) → length bytes ≤ n
    → at_line f line at sum bytes ≡ at_line g line at sum bytes
at_line-agree n f g same Open at sum bytes fits = refl
at_line-agree n f g same Unreadable at sum bytes fits = refl
at_line-agree n f g same (Whole size len) at sum bytes fits =
    elim (cases_lt 0 size) [
      | inl some ↦ rw (in_data-agree n f g same size (at + len) (sum + size) (drop len bytes) some (omega (arith, length-drop len bytes))) refl
      | inr none ↦ let e : size ≡ 0 = omega arith in rw e refl
    ]

-- The count is no limit.
within-agree : (k m : ℕ) → (at sum : ℕ) (bytes : List ℕ) → length bytes < k → length bytes < m
    → chunks_within k at sum bytes ≡ chunks_within m at sum bytes
unfolding chunks_within
within-agree zero m at sum bytes h i = absurd (omega arith)
within-agree (suc k) zero at sum bytes h i = absurd (omega arith)
within-agree (suc k) (suc m) at sum bytes h i =
    at_line-agree (length bytes) (chunks_within k) (chunks_within m)
    (λ a s b less. within-agree k m a s b (omega arith) (omega arith)) (chunk_line bytes) at sum bytes (omega arith)

-- The line by where its LF stands.
pub chunk_line-long : (bytes : List ℕ) → 256 ≤ prefix_len is_in_line bytes → chunk_line bytes ≡ Unreadable
unfolding chunk_line
chunk_line-long bytes long = cond-true _ _ _ (le-leb _ _ long)

pub chunk_line-open : (bytes : List ℕ) → prefix_len is_in_line bytes < 256 → length bytes ≤ prefix_len is_in_line bytes → chunk_line bytes ≡ Open
unfolding chunk_line
chunk_line-open bytes short none = cond-false _ _ _ (lt-leb _ _ short) ∙ cond-false _ _ _ (le-ltb _ _ none)

pub chunk_line-read : (bytes : List ℕ) (n : ℕ) → n ≡ prefix_len is_in_line bytes → n < 256 → n < length bytes
    → chunk_line bytes ≡ line_read (n + 1) (line_size (take (n + 1) bytes))
unfolding chunk_line
chunk_line-read bytes n is short some =
    let P : ℕ → Type 0 = λ m. m < 256 → m < length bytes → chunk_line bytes ≡ line_read (m + 1) (line_size (take (m + 1) bytes)) in
    subst P (sym is)
    (λ below within. cond-false _ _ _ (lt-leb _ _ below) ∙ cond-true _ _ _ (lt-ltb _ _ within))
    short some

line_read-whole : (n size len : ℕ) (read : Option ℕ) → line_read n read ≡ Whole size len → n ≡ len
line_read-whole n size len (Some x) e = cc
line_read-whole n size len None e = cc

line_read-not_open : (n : ℕ) (read : Option ℕ) → line_read n read ≢ Open
line_read-not_open n (Some x) e = cc
line_read-not_open n None e = cc

-- Which lines there are.
pub record LineAt (bytes : List ℕ) (size len : ℕ) : Type 0 where
  pub some : 0 < len
  pub room : len ≤ 256
  pub within : len ≤ length bytes

pub chunk_line-whole : (bytes : List ℕ) (size len : ℕ) → chunk_line bytes ≡ Whole size len → LineAt bytes size len
chunk_line-whole bytes size len e =
    let n = prefix_len is_in_line bytes in
    elim (cases_lt n 256) [
      | inl short ↦ elim (cases_lt n (length bytes)) [
        | inl some ↦
            let is : n + 1 ≡ len = line_read-whole _ _ _ _ (sym (chunk_line-read bytes n refl short some) ∙ e) in
            record { some = omega arith; room = omega arith; within = omega arith }
        | inr none ↦ let o = chunk_line-open bytes short none in absurd (cc)
      ]
      | inr long ↦ let o = chunk_line-long bytes long in absurd (cc)
    ]

pub chunk_line-short : (bytes : List ℕ) → chunk_line bytes ≡ Open → length bytes < 256
chunk_line-short bytes e =
    let n = prefix_len is_in_line bytes in
    elim (cases_lt n 256) [
      | inl short ↦ elim (cases_lt n (length bytes)) [
        | inl some ↦ absurd (line_read-not_open _ _ (sym (chunk_line-read bytes n refl short some) ∙ e))
        | inr none ↦ omega arith
      ]
      | inr long ↦ let o = chunk_line-long bytes long in absurd (cc)
    ]

-- A line that is whole or unreadable stays so.
pub chunk_line-append : (window later : List ℕ) → chunk_line window ≢ Open → chunk_line (window ++ later) ≡ chunk_line window
chunk_line-append window later known =
    let n = prefix_len is_in_line window in
    let m = prefix_len is_in_line (window ++ later) in
    let le : n ≤ length window = prefix_len-le-length is_in_line window in
    let all = length-append window later in
    let longer : m ≡ cond (eqb n (length window)) (length window + prefix_len is_in_line later) n = prefix_len-append is_in_line window later in
    elim (cases_lt n (length window)) [
      | inl some ↦
          let same : m ≡ n = longer ∙ cond-false _ _ _ (ne_eqb n (length window) (λ e. omega arith)) in
          elim (cases_lt n 256) [
            | inl short ↦
                chunk_line-read (window ++ later) n (sym same) short (omega arith)
                ∙ rw (take-append-le (n + 1) window later (omega arith)) (sym (chunk_line-read window n refl short some))
            | inr long ↦ chunk_line-long (window ++ later) (omega arith) ∙ sym (chunk_line-long window long)
          ]
      | inr none ↦
          let more : m ≡ length window + prefix_len is_in_line later = longer ∙ cond-true _ _ _ (eq-eqb n (length window) (omega arith)) in
          elim (cases_lt n 256) [
            | inl short ↦ absurd (known (chunk_line-open window short none))
            | inr long ↦ chunk_line-long (window ++ later) (omega arith) ∙ sym (chunk_line-long window long)
          ]
    ]

-- A body in chunks by its first line.
pub chunks-by_line : (at sum : ℕ) (bytes : List ℕ) → chunks at sum bytes ≡ at_line chunks (chunk_line bytes) at sum bytes
unfolding chunks chunks_within
chunks-by_line at sum bytes =
    rw (add-one)
    (at_line-agree (length bytes) (chunks_within (length bytes)) chunks
    (λ a s b less. within-agree (length bytes) (length b + 1) a s b less (omega arith)) (chunk_line bytes) at sum bytes (omega arith))

-- What the line at hand says of all that comes.
pub line_open : (at sum : ℕ) (window : List ℕ) → chunk_line window ≡ Open → chunks at sum window ≡ stopped Cut
line_open at sum window e = chunks-by_line at sum window ∙ rw e refl

by_whole : (at sum : ℕ) (window later : List ℕ) (line : LineRead) → chunk_line window ≡ line → line ≢ Open
    → chunks at sum (window ++ later) ≡ at_line chunks line at sum (window ++ later)
by_whole at sum window later line e known =
    chunks-by_line at sum (window ++ later)
    ∙ ap (λ (l : LineRead). at_line chunks l at sum (window ++ later)) (chunk_line-append window later (λ o. known (sym e ∙ o)) ∙ e)

pub line_unreadable : (at sum : ℕ) (window later : List ℕ) → chunk_line window ≡ Unreadable
    → chunks at sum (window ++ later) ≡ stopped (Bad at)
line_unreadable at sum window later e = by_whole at sum window later Unreadable e (λ o. cc)

pub line_last : (at sum size len : ℕ) (window later : List ℕ) → chunk_line window ≡ Whole size len → size ≡ 0
    → chunks at sum (window ++ later) ≡ stopped Last
line_last at sum size len window later e none =
    by_whole at sum window later (Whole size len) e (λ o. cc) ∙ cond-true _ _ _ (eq-eqb size 0 none)

pub line_long : (at sum size len : ℕ) (window later : List ℕ) → chunk_line window ≡ Whole size len → size ≢ 0 → limit < sum + size
    → chunks at sum (window ++ later) ≡ stopped (Long (capped (sum + size)))
line_long at sum size len window later e some long =
    by_whole at sum window later (Whole size len) e (λ o. cc)
    ∙ cond-false _ _ _ (ne_eqb size 0 some) ∙ cond-true _ _ _ (lt-ltb _ _ long)

pub line_data : (at sum size len : ℕ) (window later : List ℕ) → chunk_line window ≡ Whole size len → size ≢ 0 → sum + size ≤ limit
    → chunks at sum (window ++ later) ≡ in_data chunks size (at + len) (sum + size) (drop len window ++ later)
line_data at sum size len window later e some fits =
    by_whole at sum window later (Whole size len) e (λ o. cc)
    ∙ cond-false _ _ _ (ne_eqb size 0 some) ∙ cond-false _ _ _ (le-ltb _ _ fits)
    ∙ ap (in_data chunks size (at + len) (sum + size)) (drop-append-le len window later (chunk_line-whole window size len e).within)
