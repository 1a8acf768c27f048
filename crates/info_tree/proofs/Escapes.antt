-- What stands behind a backslash is an escape, or none.
use Rattle.std.proofs.Common.{◌≡◌, ℕ, ◌<◌, ◌≤◌, List, ◌∷◌, ◌++◌, length, refl, sym, ap, subst, ◌∙◌, arith, true}
use Rattle.std.specs.Prelude.{slice_index}
use Rattle.std.proofs.lemmas.Bool.Decides.{nat_tests}
use Rattle.info_tree.specs.Token.{Piece, byte, short, hex, piece_bytes, IsPiece, IsHexDigit, is_escape_letter}
use Rattle.info_tree.specs.Strings.{short_value}
use Rattle.info_tree.specs.Lexed.{EndsEscape, NoEscape, IsHexUnit}
use Rattle.info_tree.specs.declared.escape.Escape.TheVariants as escape
use Rattle.info_tree.proofs.OneToken.{heads, tails, not_special}

pub a_hex : (bytes after rest : List ℕ) (letter unit : ℕ) → bytes ≡ letter ∷ after → letter ≡ 117 → IsHexUnit after unit rest → EndsEscape bytes (escape.Unit unit) rest
a_hex bytes after rest letter unit e f u = record {
  piece = hex u.a u.b u.c u.d;
  spelled = ap (λ l. 92 ∷ l) (e ∙ ap (λ x. x ∷ after) f ∙ ap (λ l. 117 ∷ l) u.spelled);
  is_piece = u.digits;
  means = u.means;
}

pub a_short : (bytes after : List ℕ) (letter char : ℕ) → bytes ≡ letter ∷ after → is_escape_letter letter ≡ true → char ≡ short_value letter → EndsEscape bytes (escape.Char char) after
a_short bytes after letter char e f g = record {
  piece = short letter;
  spelled = ap (λ l. 92 ∷ l) e;
  is_piece = f;
  means = sym g;
}

no_byte : (bytes rest : List ℕ) (b : ℕ) → IsPiece (byte b) → 92 ∷ bytes ≡ b ∷ rest → ⊥
no_byte bytes rest b is e = not_special b 92 (sym (heads 92 b bytes rest e)) is refl

letter_small : (c : ℕ) → is_escape_letter c ≡ true → c < 128
letter_small c e = grind (arith, nat_tests)

pub no_ascii : (bytes : List ℕ) → (0 < length bytes → 128 ≤ slice_index bytes 0) → NoEscape bytes
no_ascii bytes h = λ p rest is e. none p rest is e
  where
    none : (p : Piece) (rest : List ℕ) → IsPiece p → 92 ∷ bytes ≡ piece_bytes p ++ rest → ⊥
    none (byte b) rest is e = no_byte bytes rest b is e
    none (short c) rest is e =
        let all : bytes ≡ c ∷ rest = tails 92 92 bytes (c ∷ rest) e in
        let some : 0 < length bytes = omega (arith, ap length all) in
        let first : slice_index bytes 0 ≡ c = ap (λ l. slice_index l 0) all in
        omega (arith, h some, letter_small c is)
    none (hex a b c d) rest is e =
        let all : bytes ≡ 117 ∷ a ∷ b ∷ c ∷ d ∷ rest = tails 92 92 bytes (117 ∷ a ∷ b ∷ c ∷ d ∷ rest) e in
        let some : 0 < length bytes = omega (arith, ap length all) in
        let first : slice_index bytes 0 ≡ 117 = ap (λ l. slice_index l 0) all in
        omega (arith, h some)

pub no_hex : (bytes after : List ℕ) (letter : ℕ) → bytes ≡ letter ∷ after → letter ≡ 117 →
    ((a b c d : ℕ) (rest : List ℕ) → after ≡ a ∷ b ∷ c ∷ d ∷ rest → IsHexDigit a → IsHexDigit b → IsHexDigit c → IsHexDigit d → ⊥) → NoEscape bytes
no_hex bytes after letter f g h = λ p rest is e. none p rest is (ap (λ l. 92 ∷ l) (sym (f ∙ ap (λ x. x ∷ after) g)) ∙ e)
  where
    none : (p : Piece) (rest : List ℕ) → IsPiece p → 92 ∷ 117 ∷ after ≡ piece_bytes p ++ rest → ⊥
    none (byte b) rest is e = no_byte (117 ∷ after) rest b is e
    none (short c) rest is e =
        let same : 117 ≡ c = heads 117 c after rest (tails 92 92 (117 ∷ after) (c ∷ rest) e) in
        let is_u : is_escape_letter 117 ≡ true = subst (λ (x : ℕ). is_escape_letter x ≡ true) (sym same) is in cc
    none (hex a b c d) rest is e =
        h a b c d rest (tails 117 117 after (a ∷ b ∷ c ∷ d ∷ rest) (tails 92 92 (117 ∷ after) (117 ∷ a ∷ b ∷ c ∷ d ∷ rest) e)) is.0 is.1 is.2 is.3

pub no_short : (bytes after : List ℕ) (letter : ℕ) → bytes ≡ letter ∷ after → (letter ≡ 117 → ⊥) → (is_escape_letter letter ≡ true → ⊥) → NoEscape bytes
no_short bytes after letter f g h = λ p rest is e. none p rest is (ap (λ l. 92 ∷ l) (sym f) ∙ e)
  where
    none : (p : Piece) (rest : List ℕ) → IsPiece p → 92 ∷ letter ∷ after ≡ piece_bytes p ++ rest → ⊥
    none (byte b) rest is e = no_byte (letter ∷ after) rest b is e
    none (short c) rest is e =
        let same : letter ≡ c = heads letter c after rest (tails 92 92 (letter ∷ after) (c ∷ rest) e) in
        h (subst (λ (x : ℕ). is_escape_letter x ≡ true) (sym same) is)
    none (hex a b c d) rest is e =
        g (heads letter 117 after (a ∷ b ∷ c ∷ d ∷ rest) (tails 92 92 (letter ∷ after) (117 ∷ a ∷ b ∷ c ∷ d ∷ rest) e))
