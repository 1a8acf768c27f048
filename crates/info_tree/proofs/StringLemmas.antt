-- What bytes and escapes add to the text of a string.
use Rattle.std.proofs.Common.{◌≡◌, ℕ, ◌<◌, List, [], ◌∷◌, ◌++◌, length, refl, sym, ap, ◌∙◌, append_assoc, arith}
use Rattle.std.specs.Prelude.{Option, None, map, encode_utf8}
use Rattle.info_tree.specs.Token.{Piece, byte, short, hex}
use Rattle.info_tree.specs.Strings.{text_from, flushed}
use Rattle.info_tree.specs.Lexed.{IsEscape}
use Rattle.info_tree.specs.declared.escape.Escape.TheVariants as escape

pub text_from-bytes : (bs : List ℕ) (more : List Piece) → text_from (map byte bs ++ more) None ≡ bs ++ text_from more None
text_from-bytes [] more = refl
text_from-bytes (b ∷ bs) more = ap (λ l. b ∷ l) (text_from-bytes bs more)

text_from-plain : (bs : List ℕ) (more : List Piece) (w : Option ℕ) → 0 < length bs →
    text_from (map byte bs ++ more) w ≡ flushed w ++ (bs ++ text_from more None)
text_from-plain [] more w h = absurd (omega (arith, h))
text_from-plain (b ∷ bs) more w h = ap (λ l. flushed w ++ b ∷ l) (text_from-bytes bs more)

-- a text, a surrogate that waited in vain, and bytes
regrouped : (old mid new piece rest : List ℕ) (w : Option ℕ) → mid ≡ old ++ flushed w → new ≡ mid ++ piece →
    old ++ (flushed w ++ (piece ++ rest)) ≡ new ++ rest
regrouped old mid new piece rest w e f =
    sym (append_assoc old (flushed w) (piece ++ rest)) ∙ ap (λ l. l ++ (piece ++ rest)) (sym e) ∙ sym (append_assoc mid piece rest) ∙ ap (λ l. l ++ rest) (sym f)

pub pushed_plain : (old mid new bs : List ℕ) (more : List Piece) (w v : Option ℕ) → 0 < length bs → mid ≡ old ++ flushed w → new ≡ mid ++ bs → v ≡ None →
    old ++ text_from (map byte bs ++ more) w ≡ new ++ text_from more v
pushed_plain old mid new bs more w v some e f none =
    ap (λ l. old ++ l) (text_from-plain bs more w some) ∙ regrouped old mid new bs (text_from more None) w e f ∙ ap (λ o. new ++ text_from more o) (sym none)

pub pushed_char : (old mid new : List ℕ) (char : ℕ) (p : Piece) (more : List Piece) (w v : Option ℕ) → IsEscape p (escape.Char char) →
    mid ≡ old ++ flushed w → new ≡ mid ++ encode_utf8 char → v ≡ None → old ++ text_from (p ∷ more) w ≡ new ++ text_from more v
pushed_char old mid new char (byte b) more w v is e f none = absurd is
pushed_char old mid new char (short letter) more w v is e f none =
    ap (λ c. old ++ (flushed w ++ (encode_utf8 c ++ text_from more None))) is
    ∙ regrouped old mid new (encode_utf8 char) (text_from more None) w e f ∙ ap (λ o. new ++ text_from more o) (sym none)
pushed_char old mid new char (hex a b c d) more w v is e f none = absurd is
