-- `line_size` is the grammar of `httparse`, on a whole line.
use Rattle.std.proofs.Common.{◌≡◌, ◌≢◌, ℕ, suc, ◌+◌, ◌-◌, ◌<◌, ◌≤◌, List, [], ◌∷◌, ◌++◌, length, take, drop, true, false, Bool, refl, sym, ap, ◌∙◌, arith, append_assoc, append-nil, length-append, length-drop, inl, inr, Option, Some, None, eqb}
use Rattle.std.proofs.lemmas.Bool.{and_parts, lt-ltb, le-leb, ltb-true, leb-true, cases_Bool, or_cases, eqb-true}
use Rattle.std.proofs.lemmas.List.Elements.{All-cons}
use Rattle.std.proofs.lemmas.Slice.Eq.{bytes_eq-Decides}
use Rattle.std.proofs.lemmas.List.{take_at, drop_at, take-append-drop, get_or-take, drop_all}
use Rattle.std.proofs.lemmas.List.Folds.{length-prefix_len}
use Rattle.std.proofs.lemmas.List.Sums.{prefix_len_passes}
use Rattle.std.specs.Prelude.{nat_lt, nat_le, bytes_eq, IsTrue, ◌&&◌}
use Rattle.std.specs.List.{prefix_len, list_all}
use Rattle.std.specs.Char.{is_ascii_hexdigit}
use Rattle.httparse.specs.Ascii.{crlf_bytes, semicolon}
use Rattle.httparse.specs.Grammar.{AllPass, is_ows, is_extension_byte, ChunkLine, IsChunkLine, IsExtension, print_chunk_line, print_extension, chunk_size, HasNoChunkLine, NeverHasChunkLine}
use Rattle.httparse.specs.Spans.{IsChunkLineAt}
use Rattle.httparse.proofs.ChunkLemmas.{chunk_line_unique}
use Rattle.http_reply.specs.Chunked.{line_size, ends_line}

AllPass-tail : (p : ℕ → Bool) (x : ℕ) (xs : List ℕ) → AllPass p (x ∷ xs) → (p x ≡ true) × AllPass p xs
AllPass-tail p x xs h = (h 0 0 (omega arith), λ k d less. h (suc k) d (omega arith))

pub prefix_len-all : (p : ℕ → Bool) (xs ys : List ℕ) → AllPass p xs → prefix_len p (xs ++ ys) ≡ length xs + prefix_len p ys
prefix_len-all p [] ys h = omega arith
prefix_len-all p (x ∷ xs) ys h =
    let parts = AllPass-tail p x xs h in
    let rest : prefix_len p (xs ++ ys) ≡ length xs + prefix_len p ys = prefix_len-all p xs ys parts.1 in
    rw parts.0 (omega arith)

list_all-from : (p : ℕ → Bool) (xs : List ℕ) → AllPass p xs → list_all p xs ≡ true
list_all-from p [] h = refl
list_all-from p (x ∷ xs) h =
    let parts = AllPass-tail p x xs h in
    rw (parts.0) (list_all-from p xs parts.1)

all_from-list : (p : ℕ → Bool) (xs : List ℕ) → list_all p xs ≡ true → AllPass p xs
all_from-list p [] e = λ k d less. absurd (omega arith)
all_from-list p (x ∷ xs) e =
    elim (cases_Bool (p x)) [
      | inl holds ↦ All-cons (λ b. IsTrue (p b)) x xs holds (all_from-list p xs (rw holds at e))
      | inr fails ↦ let never : false ≡ true = rw fails at e in absurd (cc)
    ]

-- what the front passes
front_passes : (p : ℕ → Bool) (xs : List ℕ) → AllPass p (take (prefix_len p xs) xs)
front_passes p xs k d less =
    let le : length (take (prefix_len p xs) xs) ≡ prefix_len p xs = length-prefix_len p xs in
    let within : k < prefix_len p xs = omega arith in
    rw (get_or-take (prefix_len p xs) xs k d within) (prefix_len_passes p xs k d within)

-- the end of a line of the grammar
ends : Option (List ℕ) → List ℕ
ends e = print_extension e ++ crlf_bytes

ends_line-of : (e : Option (List ℕ)) → IsExtension e → ends_line (print_extension e ++ crlf_bytes) ≡ true
ends_line-of None h = refl
ends_line-of (Some text) h =
    let n : length (text ++ crlf_bytes) - 2 ≡ length text = omega (arith, length-append text crlf_bytes) in
    rw (n, take_at text crlf_bytes (length text) refl, drop_at text crlf_bytes (length text) refl, list_all-from is_extension_byte text h) refl

-- no blank and no digit of a size ends a line
ends-no_hex : (e : Option (List ℕ)) → prefix_len is_ascii_hexdigit (print_extension e ++ crlf_bytes) ≡ 0
ends-no_hex None = refl
ends-no_hex (Some text) = refl

ends-no_ows : (e : Option (List ℕ)) → prefix_len is_ows (print_extension e ++ crlf_bytes) ≡ 0
ends-no_ows None = refl
ends-no_ows (Some text) = refl

pad-no_hex : (pad : List ℕ) (e : Option (List ℕ)) → AllPass is_ows pad → prefix_len is_ascii_hexdigit (pad ++ (print_extension e ++ crlf_bytes)) ≡ 0
pad-no_hex [] e h = ends-no_hex e
pad-no_hex (b ∷ pad) e h =
    elim (or_cases (eqb b 32) (eqb b 9) (h 0 0 (omega arith))) [
      | inl is ↦ let same : b ≡ 32 = eqb-true b 32 is in rw same refl
      | inr is ↦ let same : b ≡ 9 = eqb-true b 9 is in rw same refl
    ]

-- The line of the grammar has its size.
pub line_size-of : (line : List ℕ) (l : ChunkLine) → IsChunkLine l → line ≡ print_chunk_line l → line_size line ≡ Some (chunk_size l)
unfolding line_size print_chunk_line
line_size-of line l ok is =
    let tail = print_extension l.extension ++ crlf_bytes in
    let split : line ≡ l.digits ++ (l.pad ++ tail) = is ∙ simp append_assoc in
    let hex : prefix_len is_ascii_hexdigit line ≡ length l.digits =
    rw split (prefix_len-all is_ascii_hexdigit l.digits (l.pad ++ tail) ok.digits.2 ∙ omega (arith, pad-no_hex l.pad l.extension ok.pad)) in
    let after : drop (length l.digits) line ≡ l.pad ++ tail = rw split (drop_at l.digits (l.pad ++ tail) (length l.digits) refl) in
    let front : take (length l.digits) line ≡ l.digits = rw split (take_at l.digits (l.pad ++ tail) (length l.digits) refl) in
    let ows : prefix_len is_ows (l.pad ++ tail) ≡ length l.pad =
    prefix_len-all is_ows l.pad tail ok.pad ∙ omega (arith, ends-no_ows l.extension) in
    let ended : drop (length l.pad) (l.pad ++ tail) ≡ tail = drop_at l.pad tail (length l.pad) refl in
    let some = lt-ltb 0 (length l.digits) ok.digits.0 in
    let room = le-leb (length l.digits) 16 ok.digits.1 in
    rw (hex, after, ows, ended, front, some, room, ends_line-of l.extension ok.extension) refl

equal : (xs ys : List ℕ) → bytes_eq xs ys ≡ true → xs ≡ ys
equal xs ys e = (bytes_eq-Decides xs ys).0 e

-- What ends a line ends one of the grammar.
ends_line-from : (tail : List ℕ) → ends_line tail ≡ true → (e : Option (List ℕ)) × IsExtension e × (tail ≡ print_extension e ++ crlf_bytes)
ends_line-from [] e = let never : false ≡ true = e in absurd (cc)
ends_line-from (b ∷ bytes) e =
    elim (cases_Bool (eqb b semicolon)) [
      | inl is ↦
          let n = length bytes - 2 in
          let parts = and_parts _ _ (rw is at e) in
          let last : drop n bytes ≡ crlf_bytes = equal (drop n bytes) crlf_bytes parts.1 in
          let whole : bytes ≡ take n bytes ++ crlf_bytes = sym (take-append-drop n bytes) ∙ ap (λ (t : List ℕ). take n bytes ++ t) last in
          let same : b ≡ semicolon = eqb-true b semicolon is in
          (Some (take n bytes), all_from-list is_extension_byte (take n bytes) parts.0, cc)
      | inr fails ↦ (None, tt, equal (b ∷ bytes) crlf_bytes (rw fails at e))
    ]

-- A line with a size is one of the grammar.
pub line_size-from : (line : List ℕ) (n : ℕ) → line_size line ≡ Some n → (l : ChunkLine) × IsChunkLine l × (line ≡ print_chunk_line l)
unfolding line_size print_chunk_line
line_size-from line n e =
    let d = prefix_len is_ascii_hexdigit line in
    let after = drop d line in
    let p = prefix_len is_ows after in
    elim (cases_Bool (nat_lt 0 d && nat_le d 16 && ends_line (drop p after))) [
      | inl is ↦
          let outer = and_parts (nat_lt 0 d && nat_le d 16) (ends_line (drop p after)) is in
          let inner = and_parts (nat_lt 0 d) (nat_le d 16) outer.0 in
          let tail = ends_line-from (drop p after) outer.1 in
          let fits : length (take d line) ≡ d = length-prefix_len is_ascii_hexdigit line in
          let some : 0 < length (take d line) = rw fits (ltb-true 0 d inner.0) in
          let room : length (take d line) ≤ 16 = rw fits (leb-true d 16 inner.1) in
          let whole : line ≡ take d line ++ (take p after ++ (print_extension tail.0 ++ crlf_bytes)) =
          sym (take-append-drop d line) ∙ ap (λ (t : List ℕ). take d line ++ t) (sym (take-append-drop p after) ∙ ap (λ (t : List ℕ). take p after ++ t) tail.2) in (
            record { digits = take d line; pad = take p after; extension = tail.0 },
            record { digits = (some, room, front_passes is_ascii_hexdigit line); pad = front_passes is_ows after; extension = tail.1 },
            whole ∙ simp append_assoc,
          )
      | inr fails ↦ let never : None ≡ Some n = rw fails at e in absurd (cc)
    ]

none_of : (o : Option ℕ) → ((n : ℕ) → o ≡ Some n → ⊥) → None ≡ o
none_of None h = refl
none_of (Some n) h = absurd (h n refl)

-- What the parser's clauses say of a line.
pub size_complete : (line : List ℕ) (len size : ℕ) → (l : ChunkLine) × IsChunkLineAt line len size l → len ≡ length line
    → Some size ≡ line_size line
size_complete line len size found all =
    let l = found.0 in
    let at = found.1 in
    let none : drop len line ≡ [] = drop_all len line (omega arith) in
    let whole : line ≡ print_chunk_line l = at.reads.1 ∙ rw none (append-nil (print_chunk_line l)) in
    ap Some at.size_is ∙ sym (line_size-of line l at.reads.0 whole)

pub size_partial : (line : List ℕ) → HasNoChunkLine line → None ≡ line_size line
size_partial line none = none_of (line_size line) (λ n e.
    let l = line_size-from line n e in
    none l.0 [] (l.1, l.2 ∙ sym (append-nil (print_chunk_line l.0))))

pub size_invalid : (line : List ℕ) → NeverHasChunkLine line → None ≡ line_size line
size_invalid line never = size_partial line (λ l rest reads. never [] l rest (reads.0, append-nil line ∙ reads.1))

pub size_longer : (line : List ℕ) (len size : ℕ) → (l : ChunkLine) × IsChunkLineAt line len size l → len ≢ length line
    → None ≡ line_size line
size_longer line len size found other = none_of (line_size line) (λ n e.
    let l = line_size-from line n e in
    let at = found.1 in
    let same = chunk_line_unique line found.0 l.0 (drop len line) [] at.reads (l.1, l.2 ∙ sym (append-nil (print_chunk_line l.0))) in
    let none : drop len line ≡ [] = same.1 in
    let over : length (drop len line) ≡ 0 = ap length none in
    let long : length line ≡ length (print_chunk_line found.0) + length (drop len line) =
    ap length at.reads.1 ∙ length-append (print_chunk_line found.0) (drop len line) in
    other (omega (arith, at.len_is, length-drop len line)))
