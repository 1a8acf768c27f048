-- What is printed between quotes is cut into pieces, which spell the text again.
use Rattle.std.proofs.Common.{◌≡◌, ℕ, ◌+◌, ◌-◌, ◌*◌, ◌/◌, ◌%◌, ◌<◌, ◌≤◌, List, [], ◌∷◌, ◌++◌, refl, sym, ap, subst, ◌∙◌, append_assoc, arith, Bool, true, false, cond, ◌⊎◌, inl, inr}
use Rattle.std.specs.Prelude.{Some, None, map, codes, encode_utf8, encode_utf8_all, unwrap_or, nat_lt, nat_le, ◌==◌, ◌||◌, ◌&&◌, if◌then◌else◌}
use Rattle.std.specs.Char.{digit_value}
use Rattle.std.specs.Char.Utf16.{is_high_surrogate, is_low_surrogate, surrogate_pair_char}
use Rattle.std.specs.Str.{IsUtf8, chars}
use Rattle.std.proofs.lemmas.Bool.{eqb-true, ltb-true, ltb-false, and_parts, or_from}
use Rattle.std.proofs.lemmas.Bool.Decides.{nat_tests}
use Rattle.std.proofs.lemmas.Str.{encode_ascii, encodes-chars, scalars-chars, digit_value-digit_char}
use lib.Utf8.{scalar, scalars, scalar_cases}
use Rattle.text_base.specs.Scan.{is_json_special}
use Rattle.info_tree.specs.Token.{Piece, byte, short, hex, piece_bytes, pieces_bytes, is_escape_letter, IsHexDigit, IsPiece, ArePieces}
use Rattle.info_tree.specs.Strings.{short_value, hex_value, lone, after_unit, text_from, text_of}
use Rattle.info_tree.specs.Printed.{hex_digit, unit_escape, escaped, ascii_escaped, all_by, inside}

-- a unit of UTF-16 as an escape
abbrev pub unit_piece : ℕ → Piece
unit_piece u = hex (hex_digit (u / 4096)) (hex_digit (u / 256 % 16)) (hex_digit (u / 16 % 16)) (hex_digit (u % 16))

-- the piece that a byte is printed as
abbrev pub byte_piece : ℕ → Piece
byte_piece b =
    if b == 34 then short 34
    else if b == 92 then short 92
    else if b == 8 then short 98
    else if b == 12 then short 102
    else if b == 10 then short 110
    else if b == 13 then short 114
    else if b == 9 then short 116
    else if nat_lt b 32 then unit_piece b
    else byte b

-- the pieces that a character is printed as in ASCII, before others
abbrev pub char_pieces : ℕ → List Piece → List Piece
char_pieces c more =
    if nat_lt c 127 then byte_piece c ∷ more
    else if nat_lt c 65536 then unit_piece c ∷ more
    else unit_piece (55296 + (c - 65536) / 1024) ∷ unit_piece (56320 + (c - 65536) % 1024) ∷ more

abbrev pub chars_pieces : List ℕ → List Piece
chars_pieces [] = []
chars_pieces (c ∷ cs) = char_pieces c (chars_pieces cs)

-- the pieces that a text is printed as
abbrev pub inside_pieces : Bool → List ℕ → List Piece
inside_pieces true t = chars_pieces (chars t)
inside_pieces false t = map byte_piece t

-- ---- units
digit_again : (n : ℕ) → n < 16 → digit_value (hex_digit n) ≡ n
digit_again n l = digit_value-digit_char n (omega (arith, l))

is_hex : (n : ℕ) → n < 16 → IsHexDigit (hex_digit n)
is_hex n l = let same : digit_value (hex_digit n) ≡ n = digit_again n l in omega (arith, same, l)

unit_is_piece : (u : ℕ) → u < 65536 → IsPiece (unit_piece u)
unit_is_piece u l = (is_hex (u / 4096) (omega arith), is_hex (u / 256 % 16) (omega arith), is_hex (u / 16 % 16) (omega arith), is_hex (u % 16) (omega arith))

regrouped : (u : ℕ) → ((u / 4096 * 16 + u / 256 % 16) * 16 + u / 16 % 16) * 16 + u % 16 ≡ u
regrouped u = omega arith

unit_again : (u : ℕ) → u < 65536 → hex_value (hex_digit (u / 4096)) (hex_digit (u / 256 % 16)) (hex_digit (u / 16 % 16)) (hex_digit (u % 16)) ≡ u
unit_again u l =
    let a : digit_value (hex_digit (u / 4096)) ≡ u / 4096 = digit_again (u / 4096) (omega arith) in
    let b : digit_value (hex_digit (u / 256 % 16)) ≡ u / 256 % 16 = digit_again (u / 256 % 16) (omega arith) in
    let c : digit_value (hex_digit (u / 16 % 16)) ≡ u / 16 % 16 = digit_again (u / 16 % 16) (omega arith) in
    let d : digit_value (hex_digit (u % 16)) ≡ u % 16 = digit_again (u % 16) (omega arith) in
    (λ i. ((a i * 16 + b i) * 16 + c i) * 16 + d i) ∙ regrouped u

-- what a unit writes where none waits
abbrev alone : ℕ → List Piece → List ℕ
alone u more = cond (is_high_surrogate u) (text_from more (Some u)) (lone u ++ text_from more None)

no_surrogate : (u : ℕ) → (u < 55296) ⊎ (57344 ≤ u) → (nat_le 0xD800 u && nat_lt u 0xE000) ≡ false
no_surrogate u (inl l) = grind (arith, nat_tests)
no_surrogate u (inr l) = grind (arith, nat_tests)

not_high : (u : ℕ) → (u < 55296) ⊎ (57344 ≤ u) → is_high_surrogate u ≡ false
not_high u (inl l) = grind (arith, nat_tests)
not_high u (inr l) = grind (arith, nat_tests)

unit_means : (u : ℕ) (more : List Piece) → u < 65536 → (u < 55296) ⊎ (57344 ≤ u) → text_from (unit_piece u ∷ more) None ≡ encode_utf8 u ++ text_from more None
unit_means u more l s =
    let first : text_from (unit_piece u ∷ more) None ≡ alone u more = ap (λ v. alone v more) (unit_again u l) in
    let low : is_high_surrogate u ≡ false = not_high u s in
    let single : (nat_le 0xD800 u && nat_lt u 0xE000) ≡ false = no_surrogate u s in
    first ∙ ap (λ b. cond b (text_from more (Some u)) (lone u ++ text_from more None)) low
    ∙ ap (λ b. encode_utf8 (unwrap_or (cond b None (Some u)) 0xFFFD) ++ text_from more None) single

-- a high surrogate waits, and its partner joins it
pair_means : (high low c : ℕ) (more : List Piece) → high < 65536 → low < 65536 → is_high_surrogate high ≡ true → is_low_surrogate low ≡ true →
    surrogate_pair_char high low ≡ c → text_from (unit_piece high ∷ unit_piece low ∷ more) None ≡ encode_utf8 c ++ text_from more None
pair_means high low c more l m h k e =
    let rest = unit_piece low ∷ more in
    let first : text_from (unit_piece high ∷ rest) None ≡ alone high rest = ap (λ v. alone v rest) (unit_again high l) in
    let waits : alone high rest ≡ text_from rest (Some high) = ap (λ b. cond b (text_from rest (Some high)) (lone high ++ text_from rest None)) h in
    let joins : text_from rest (Some high) ≡ after_unit (cond (is_low_surrogate low) (Some (surrogate_pair_char high low)) None) (Some high) low (text_from more) =
    ap (λ v. after_unit (cond (is_low_surrogate v) (Some (surrogate_pair_char high v)) None) (Some high) v (text_from more)) (unit_again low m) in
    first ∙ waits ∙ joins
    ∙ ap (λ b. after_unit (cond b (Some (surrogate_pair_char high low)) None) (Some high) low (text_from more)) k
    ∙ ap (λ x. encode_utf8 x ++ text_from more None) e

-- ---- bytes
-- these bytes are the piece, which stands for a byte
record Shows (x : ℕ) (p : Piece) (bytes : List ℕ) : Type 0 where
  spelled : piece_bytes p ≡ bytes
  is_piece : IsPiece p
  means : (more : List Piece) → text_from (p ∷ more) None ≡ x ∷ text_from more None

short_shows : (x letter : ℕ) → short_value letter ≡ x → is_escape_letter letter ≡ true → x < 128 → Shows x (short letter) (92 ∷ letter ∷ [])
short_shows x letter e f l = record {
  spelled = refl;
  is_piece = f;
  means = λ more. ap (λ t. t ++ text_from more None) (ap encode_utf8 e ∙ encode_ascii x l);
}

unit_shows : (x : ℕ) → x < 32 → Shows x (unit_piece x) (unit_escape x)
unfolding unit_escape
unit_shows x l = record {
  spelled = refl;
  is_piece = unit_is_piece x (omega arith);
  means = λ more. unit_means x more (omega arith) (inl (omega arith)) ∙ ap (λ t. t ++ text_from more None) (encode_ascii x (omega arith));
}

byte_shows : (x : ℕ) → is_json_special x ≡ false → Shows x (byte x) (x ∷ [])
byte_shows x e = record { spelled = refl; is_piece = e; means = λ more. refl }

shown : (x : ℕ) (a b c d e f g h : Bool) → (x == 34) ≡ a → (x == 92) ≡ b → (x == 8) ≡ c → (x == 12) ≡ d → (x == 10) ≡ e → (x == 13) ≡ f → (x == 9) ≡ g → nat_lt x 32 ≡ h →
    Shows x
    (cond a (short 34) (cond b (short 92) (cond c (short 98) (cond d (short 102) (cond e (short 110) (cond f (short 114) (cond g (short 116) (cond h (unit_piece x) (byte x)))))))))
    (cond a (codes "\\\"") (cond b (codes "\\\\") (cond c (codes "\\b") (cond d (codes "\\f") (cond e (codes "\\n") (cond f (codes "\\r") (cond g (codes "\\t") (cond h (unit_escape x) (x ∷ [])))))))))
shown x true b c d e f g h i j k l m n o p = let same : x ≡ 34 = eqb-true x 34 i in short_shows x 34 (sym same) refl (omega arith)
shown x false true c d e f g h i j k l m n o p = let same : x ≡ 92 = eqb-true x 92 j in short_shows x 92 (sym same) refl (omega arith)
shown x false false true d e f g h i j k l m n o p = let same : x ≡ 8 = eqb-true x 8 k in short_shows x 98 (sym same) refl (omega arith)
shown x false false false true e f g h i j k l m n o p = let same : x ≡ 12 = eqb-true x 12 l in short_shows x 102 (sym same) refl (omega arith)
shown x false false false false true f g h i j k l m n o p = let same : x ≡ 10 = eqb-true x 10 m in short_shows x 110 (sym same) refl (omega arith)
shown x false false false false false true g h i j k l m n o p = let same : x ≡ 13 = eqb-true x 13 n in short_shows x 114 (sym same) refl (omega arith)
shown x false false false false false false true h i j k l m n o p = let same : x ≡ 9 = eqb-true x 9 o in short_shows x 116 (sym same) refl (omega arith)
shown x false false false false false false false true i j k l m n o p = unit_shows x (ltb-true x 32 p)
shown x false false false false false false false false i j k l m n o p = byte_shows x (or_from (nat_lt x 32 || x == 34) (x == 92) (or_from (nat_lt x 32) (x == 34) p i) j)

byte_shown : (x : ℕ) → Shows x (byte_piece x) (escaped x)
unfolding escaped
byte_shown x = shown x (x == 34) (x == 92) (x == 8) (x == 12) (x == 10) (x == 13) (x == 9) (nat_lt x 32) refl refl refl refl refl refl refl refl

-- ---- texts
-- these bytes are the pieces, which spell a text
pub record Spells (text : List ℕ) (ps : List Piece) (bytes : List ℕ) : Type 0 where
  pub spelled : pieces_bytes ps ≡ bytes
  pub are_pieces : ArePieces ps
  pub means : text_from ps None ≡ text

bytes_spell : (bs : List ℕ) → Spells bs (map byte_piece bs) (all_by escaped bs)
bytes_spell [] = record { spelled = refl; are_pieces = tt; means = refl }
bytes_spell (b ∷ bs) =
    let one = byte_shown b in
    let others = bytes_spell bs in
    record {
      spelled = (λ i. one.spelled i ++ others.spelled i);
      are_pieces = (one.is_piece, others.are_pieces);
      means = one.means (map byte_piece bs) ∙ ap (λ l. b ∷ l) others.means;
    }

-- one piece more
piece_more : (text new bytes first : List ℕ) (p : Piece) (more : List Piece) → Spells text more bytes → piece_bytes p ≡ first → IsPiece p →
    text_from (p ∷ more) None ≡ new ++ text_from more None → Spells (new ++ text) (p ∷ more) (first ++ bytes)
piece_more text new bytes first p more s e is f = record {
  spelled = (λ i. e i ++ s.spelled i);
  are_pieces = (is, s.are_pieces);
  means = f ∙ ap (λ l. new ++ l) s.means;
}

unit_bytes : (u : ℕ) → piece_bytes (unit_piece u) ≡ unit_escape u
unfolding unit_escape
unit_bytes u = refl

module _ (c : ℕ) (is_scalar : scalar c ≡ true) (text : List ℕ) (more : List Piece) (bytes : List ℕ) (s : Spells text more bytes) where
  below : (c < 55296) ⊎ ((57344 ≤ c) × (c < 1114112)) → c < 1114112
  below (inl l) = omega (arith, l)
  below (inr l) = l.1

  apart : (c < 55296) ⊎ ((57344 ≤ c) × (c < 1114112)) → (c < 55296) ⊎ (57344 ≤ c)
  apart (inl l) = inl l
  apart (inr l) = inr l.0

  small : c < 127 → Spells (encode_utf8 c ++ text) (byte_piece c ∷ more) (escaped c ++ bytes)
  small l =
      let one = byte_shown c in
      let single : encode_utf8 c ≡ c ∷ [] = encode_ascii c (omega (arith, l)) in
      rw single (piece_more text (c ∷ []) bytes (escaped c) (byte_piece c) more s one.spelled one.is_piece (one.means more))

  middle : c < 65536 → Spells (encode_utf8 c ++ text) (unit_piece c ∷ more) (unit_escape c ++ bytes)
  middle l =
      piece_more text (encode_utf8 c) bytes (unit_escape c) (unit_piece c) more s (unit_bytes c) (unit_is_piece c l)
      (unit_means c more l (apart (scalar_cases c is_scalar)))

  large : 65536 ≤ c → Spells (encode_utf8 c ++ text) (unit_piece (55296 + (c - 65536) / 1024) ∷ unit_piece (56320 + (c - 65536) % 1024) ∷ more)
      ((unit_escape (55296 + (c - 65536) / 1024) ++ unit_escape (56320 + (c - 65536) % 1024)) ++ bytes)
  large l =
      let end : c < 1114112 = below (scalar_cases c is_scalar) in
      let high = 55296 + (c - 65536) / 1024 in
      let low = 56320 + (c - 65536) % 1024 in
      let high_above : 55296 ≤ high = omega arith in
      let high_below : high < 56320 = omega (arith, end) in
      let low_above : 56320 ≤ low = omega arith in
      let low_below : low < 57344 = omega arith in
      record {
        spelled =
            (λ i. unit_bytes high i ++ (unit_bytes low i ++ s.spelled i)) ∙ sym (append_assoc (unit_escape high) (unit_escape low) bytes);
        are_pieces = (unit_is_piece high (omega (arith, high_below)), (unit_is_piece low (omega (arith, low_below)), s.are_pieces));
        means =
            pair_means high low c more (omega (arith, high_below)) (omega (arith, low_below)) (is_high high high_above high_below) (is_low low low_above low_below) (joined_again c l)
            ∙ ap (λ t. encode_utf8 c ++ t) s.means;
      }
    where
      is_high : (u : ℕ) → 55296 ≤ u → u < 56320 → is_high_surrogate u ≡ true
      is_high u a b = grind (arith, nat_tests)

      is_low : (u : ℕ) → 56320 ≤ u → u < 57344 → is_low_surrogate u ≡ true
      is_low u a b = grind (arith, nat_tests)

      joined_again : (x : ℕ) → 65536 ≤ x → surrogate_pair_char (55296 + (x - 65536) / 1024) (56320 + (x - 65536) % 1024) ≡ x
      joined_again x a = omega arith

  char_spells : Spells (encode_utf8 c ++ text) (char_pieces c more) (ascii_escaped c ++ bytes)
  unfolding ascii_escaped
  char_spells = by_size (nat_lt c 127) (nat_lt c 65536) refl refl
    where
      by_size : (a b : Bool) → nat_lt c 127 ≡ a → nat_lt c 65536 ≡ b →
          Spells (encode_utf8 c ++ text)
          (cond a (byte_piece c ∷ more) (cond b (unit_piece c ∷ more) (unit_piece (55296 + (c - 65536) / 1024) ∷ unit_piece (56320 + (c - 65536) % 1024) ∷ more)))
          (cond a (escaped c) (cond b (unit_escape c) (unit_escape (55296 + (c - 65536) / 1024) ++ unit_escape (56320 + (c - 65536) % 1024))) ++ bytes)
      by_size true b e f = small (ltb-true c 127 e)
      by_size false true e f = middle (ltb-true c 65536 f)
      by_size false false e f = large (ltb-false c 65536 f)

chars_spell : (cs : List ℕ) → scalars cs ≡ true → Spells (encode_utf8_all cs) (chars_pieces cs) (all_by ascii_escaped cs)
chars_spell [] e = record { spelled = refl; are_pieces = tt; means = refl }
chars_spell (c ∷ cs) e =
    let parts = and_parts (scalar c) (scalars cs) e in
    char_spells c parts.0 (encode_utf8_all cs) (chars_pieces cs) (all_by ascii_escaped cs) (chars_spell cs parts.1)

-- what is printed between quotes spells the text
pub inside_spells : (ascii : Bool) (t : List ℕ) → IsUtf8 t → Spells t (inside_pieces ascii t) (inside ascii t)
unfolding inside
inside_spells true t u = subst (λ (x : List ℕ). Spells x (chars_pieces (chars t)) (all_by ascii_escaped (chars t))) (encodes-chars t u) (chars_spell (chars t) (scalars-chars t u))
inside_spells false t u = bytes_spell t

pub text_again : (ascii : Bool) (t : List ℕ) → IsUtf8 t → text_of (inside_pieces ascii t) ≡ t
unfolding text_of
text_again ascii t u = (inside_spells ascii t u).means
