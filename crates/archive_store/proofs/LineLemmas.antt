-- An archive's bytes read as lines, a piece at a time.
use Rattle.std.proofs.Common.{◌≡◌, ⊎_elim, ℕ, ◌+◌, ◌<◌, Bool, true, false, List, [], ◌∷◌, ◌++◌, length, take, get_or, refl, sym, ◌∙◌, ap, arith, ltb}
use Rattle.std.specs.Prelude.{not, ◌||◌, ◌==◌, cond, bytes_eq, Result, Ok, Err, OnOk, Some, None, option_map}
use Rattle.std.specs.List.{enumerate_from, position_or_len}
use Rattle.std.specs.Str.{IsTrimAscii, IsUtf8, is_utf8}
use Rattle.std.proofs.Math.Bool.{or_comm}
use Rattle.std.proofs.lemmas.Bool.{lt-ltb, le-ltb, cases_lt}
use Rattle.std.proofs.lemmas.List.{take_more, get_or_default}
use Rattle.std.proofs.lemmas.List.Folds.{list_any-append}
use Rattle.std.proofs.lemmas.List.FromFn.{length-enumerate_from, get_or-enumerate_from}
use Rattle.std.proofs.lemmas.List.Sums.{position_or_len_is}
use Rattle.std.proofs.lemmas.Str.{IsUtf8-from_is_utf8}
use Rattle.std.proofs.lemmas.Str.Ascii.{trim_ascii_is}
use Rattle.archive_store.specs.Lines.{pieces_of, trimmed, front_trimmed, lines_in, is_among, bad_line}
use Rattle.archive_store.proofs.GrownLemmas.{lines_both}

-- what a text is without white space at its ends
pub is_trimmed : (text line : List ℕ) → IsTrimAscii text line → line ≡ trimmed text
is_trimmed text line trims = trim_ascii_is text line (front_trimmed text) refl trims

pub yes_or : (b c : Bool) → cond b true c ≡ (b || c)
yes_or true c = refl
yes_or false c = refl

-- A piece of white space has no line, and another has one.
pub no_line : (piece line other : List ℕ) (found : Bool) → line ≡ trimmed piece → (length line == 0) ≡ true → found ≡ (is_among (lines_in (piece ∷ [])) other || found)
no_line piece line other found is none = sym (ap (λ (b : Bool). is_among (cond (not b) (trimmed piece ∷ []) []) other || found) (ap (λ (l : List ℕ). length l == 0) (sym is) ∙ none))

its_line : (piece line other : List ℕ) → line ≡ trimmed piece → (length line == 0) ≡ false → is_among (line ∷ []) other ≡ is_among (lines_in (piece ∷ [])) other
its_line piece line other is some =
    ap (λ (l : List ℕ). is_among (l ∷ []) other) is
    ∙ sym (ap (λ (b : Bool). is_among (cond (not b) (trimmed piece ∷ []) []) other) (ap (λ (l : List ℕ). length l == 0) (sym is) ∙ some))

pub put_its_line : {T E : Type 0} (piece line : List ℕ) (now was : List ℕ → Bool) (result : Result T E) → line ≡ trimmed piece → (length line == 0) ≡ false → OnOk result ((other : List ℕ) → now other ≡ (bytes_eq line other || was other))
    → OnOk result ((other : List ℕ) → now other ≡ (is_among (lines_in (piece ∷ [])) other || was other))
put_its_line piece line now was (Err e) is some put = tt
put_its_line piece line now was (Ok x) is some put = λ other. put other ∙ ap (λ (b : Bool). b || was other) (sym (or_none (bytes_eq line other)) ∙ its_line piece line other is some)
  where
    or_none : (b : Bool) → (b || false) ≡ b
    or_none true = refl
    or_none false = refl

-- The piece of this turn is the next one.
pub record IsTurn (pieces : List (List ℕ)) (n place : ℕ) (piece : List ℕ) : Type 0 where
  pub below : n < length pieces
  pub place_is : place ≡ n
  pub piece_is : piece ≡ get_or pieces n []

pub its_turn : (pieces : List (List ℕ)) (n place : ℕ) (piece : List ℕ) → n < length (enumerate_from 0 pieces) → ◌≡◌ {A = ℕ × List ℕ} (place, piece) (get_or (enumerate_from 0 pieces) n (place, piece)) → IsTurn pieces n place piece
its_turn pieces n place piece below is = record { below = short; place_is = ap (λ (p : ℕ × List ℕ). p.0) both ∙ omega arith; piece_is = ap (λ (p : ℕ × List ℕ). p.1) both ∙ get_or_default pieces n piece [] short }
  where
    short : n < length pieces
    short = omega (arith, below, length-enumerate_from 0 pieces)

    both : ◌≡◌ {A = ℕ × List ℕ} (place, piece) (0 + n, get_or pieces n piece)
    both = is ∙ get_or-enumerate_from 0 pieces n (place, piece) short

-- The lines of one piece more.
pub read_more : (pieces : List (List ℕ)) (n place : ℕ) (piece other : List ℕ) (before now : Bool) → IsTurn pieces n place piece → before ≡ is_among (lines_in (take n pieces)) other → now ≡ (is_among (lines_in (piece ∷ [])) other || before)
    → now ≡ is_among (lines_in (take (n + 1) pieces)) other
read_more pieces n place piece other before now turn was is =
    is ∙ or_comm (is_among (lines_in (piece ∷ [])) other) before ∙ ap (λ (b : Bool). b || is_among (lines_in (piece ∷ [])) other) was
    ∙ sym (ap (λ (l : List (List ℕ)). is_among l other) (ap lines_in (take_more pieces n [] turn.below ∙ ap (λ (p : List ℕ). take n pieces ++ p ∷ []) (sym turn.piece_is)) ∙ lines_both (take n pieces) (piece ∷ []))
    ∙ list_any-append _ (lines_in (take n pieces)) (lines_in (piece ∷ [])))

no_utf8 : (piece : List ℕ) → (IsUtf8 piece → ⊥) → (b : Bool) → is_utf8 piece ≡ b → b ≡ false
no_utf8 piece none true e = absurd (none (IsUtf8-from_is_utf8 piece e))
no_utf8 piece none false e = refl

-- The first piece that is not UTF-8 is this one,
pub bad_here : (bytes : List ℕ) (n place : ℕ) (piece : List ℕ) → IsTurn (pieces_of bytes) n place piece → ((k : ℕ) → k < n → is_utf8 (get_or (pieces_of bytes) k []) ≡ true) → (IsUtf8 piece → ⊥) → bad_line bytes ≡ Some (place + 1)
bad_here bytes n place piece turn good none =
    ap (option_map (λ p. p + 1)) (ap (λ (i : ℕ). cond (ltb i (length (pieces_of bytes))) (Some i) None) at ∙ ap (λ (b : Bool). cond b (Some n) None) (lt-ltb n (length (pieces_of bytes)) turn.below))
    ∙ ap (λ (i : ℕ). Some (i + 1)) (sym turn.place_is)
  where
    at : position_or_len (λ p. not (is_utf8 p)) (pieces_of bytes) ≡ n
    at = position_or_len_is (λ p. not (is_utf8 p)) (pieces_of bytes) n [] (omega (arith, turn.below)) (λ k h. ap not (good k h)) (λ h. ap not (ap is_utf8 (sym turn.piece_is) ∙ no_utf8 piece none (is_utf8 piece) refl))

-- or there is none.
pub all_good : (bytes : List ℕ) (n : ℕ) → n ≡ length (pieces_of bytes) → ((k : ℕ) → k < n → is_utf8 (get_or (pieces_of bytes) k []) ≡ true) → bad_line bytes ≡ None
all_good bytes n all good =
    ap (option_map (λ p. p + 1)) (ap (λ (b : Bool). cond b (Some (position_or_len (λ p. not (is_utf8 p)) (pieces_of bytes))) None) (le-ltb _ (length (pieces_of bytes)) (omega (arith, at, all))))
  where
    at : position_or_len (λ p. not (is_utf8 p)) (pieces_of bytes) ≡ n
    at = position_or_len_is (λ p. not (is_utf8 p)) (pieces_of bytes) n [] (omega (arith, all)) (λ k h. ap not (good k h)) (λ h. absurd (omega (arith, all, h)))

-- One piece more is UTF-8.
pub good_more : (pieces : List (List ℕ)) (n place : ℕ) (piece : List ℕ) → IsTurn pieces n place piece → ((k : ℕ) → k < n → is_utf8 (get_or pieces k []) ≡ true) → is_utf8 piece ≡ true → (k : ℕ) → k < n + 1 → is_utf8 (get_or pieces k []) ≡ true
good_more pieces n place piece turn good here k below = ⊎_elim (λ less. good k less)
    (λ past. ap (λ (i : ℕ). is_utf8 (get_or pieces i [])) (let e : k ≡ n = omega arith in e) ∙ ap is_utf8 (sym turn.piece_is) ∙ here)
    (cases_lt k n)
