-- A string that is read piece by piece.
use Rattle.std.proofs.Common.{◌≡◌, ℕ, zero, suc, ◌<◌, ◌≤◌, List, [], ◌∷◌, ◌++◌, length, take, refl, sym, ap, subst, ◌∙◌, append_assoc, arith, true, false}
use Rattle.std.specs.Prelude.{Option, None, map, slice_index}
use Rattle.std.proofs.lemmas.Bool.Decides.{nat_tests}
use Rattle.text_base.specs.Scan.{is_json_special}
use Rattle.info_tree.specs.Token.{Piece, byte, short, hex, piece_bytes, pieces_bytes, IsPiece, ArePieces}
use Rattle.info_tree.specs.Strings.{text_from, text_of}
use Rattle.info_tree.specs.Lexed.{IsString, NoString, EndsEscape, NoEscape, IsEscape}
use Rattle.info_tree.specs.declared.escape.Escape.{Escape}
use Rattle.info_tree.proofs.StringLemmas.{text_from-bytes}
use Rattle.info_tree.proofs.OneToken.{cancel, no_quote, one_piece, heads, not_special}

pieces_bytes-append : (ps qs : List Piece) → pieces_bytes (ps ++ qs) ≡ pieces_bytes ps ++ pieces_bytes qs
pieces_bytes-append [] qs = refl
pieces_bytes-append (p ∷ ps) qs = ap (λ l. piece_bytes p ++ l) (pieces_bytes-append ps qs) ∙ sym (append_assoc (piece_bytes p) (pieces_bytes ps) (pieces_bytes qs))

ArePieces-append : (ps qs : List Piece) → ArePieces ps → ArePieces qs → ArePieces (ps ++ qs)
ArePieces-append [] qs a b = b
ArePieces-append (p ∷ ps) qs a b = (a.0, ArePieces-append ps qs a.1 b)

pieces_bytes-bytes : (bs : List ℕ) → pieces_bytes (map byte bs) ≡ bs
pieces_bytes-bytes [] = refl
pieces_bytes-bytes (b ∷ bs) = ap (λ l. b ∷ l) (pieces_bytes-bytes bs)

-- the pieces that were read spell the front of the bytes, and are the text so far
pub record ReadSo (bytes out : List ℕ) (high : Option ℕ) (rest : List ℕ) : Type 0 where
  pub pieces : List Piece
  pub spelled : bytes ≡ pieces_bytes pieces ++ rest
  pub are_pieces : ArePieces pieces
  pub decodes : (more : List Piece) → text_from (pieces ++ more) None ≡ out ++ text_from more high

-- more pieces, which spell what stands next
pub read_more : (bytes out new : List ℕ) (high now : Option ℕ) (rest after : List ℕ) (qs : List Piece) → ReadSo bytes out high rest →
    rest ≡ pieces_bytes qs ++ after → ArePieces qs → ((more : List Piece) → out ++ text_from (qs ++ more) high ≡ new ++ text_from more now) → ReadSo bytes new now after
read_more bytes out new high now rest after qs s e are d = record {
  pieces = s.pieces ++ qs;
  spelled =
      s.spelled ∙ ap (λ l. pieces_bytes s.pieces ++ l) e ∙ sym (append_assoc (pieces_bytes s.pieces) (pieces_bytes qs) after)
      ∙ ap (λ l. l ++ after) (sym (pieces_bytes-append s.pieces qs));
  are_pieces = ArePieces-append s.pieces qs s.are_pieces are;
  decodes = λ more. ap (λ l. text_from l None) (append_assoc s.pieces qs more) ∙ s.decodes (qs ++ more) ∙ d more;
}

pub read_plain : (bytes out new : List ℕ) (high now : Option ℕ) (rest plain after : List ℕ) → ReadSo bytes out high rest →
    rest ≡ plain ++ after → ArePieces (map byte plain) → ((more : List Piece) → out ++ text_from (map byte plain ++ more) high ≡ new ++ text_from more now) → ReadSo bytes new now after
read_plain bytes out new high now rest plain after s e are d =
    read_more bytes out new high now rest after (map byte plain) s (e ∙ ap (λ l. l ++ after) (sym (pieces_bytes-bytes plain))) are d

append-nil : {A : Type 0} (l : List A) → l ++ [] ≡ l
append-nil [] = refl
append-nil (x ∷ xs) = ap (λ k. x ∷ k) (append-nil xs)

-- bytes in front that stand for themselves
pub read_front : (bytes out plain after : List ℕ) (high : Option ℕ) → bytes ≡ plain ++ after → ArePieces (map byte plain) → out ≡ plain → high ≡ None → ReadSo bytes out high after
read_front bytes out plain after high e are same none = record {
  pieces = map byte plain;
  spelled = e ∙ ap (λ l. l ++ after) (sym (pieces_bytes-bytes plain));
  are_pieces = are;
  decodes = λ more. text_from-bytes plain more ∙ ap (λ l. l ++ text_from more None) (sym same) ∙ ap (λ o. out ++ text_from more o) (sym none);
}

pub read_escape : (bytes out new : List ℕ) (high now : Option ℕ) (rest behind after : List ℕ) (e : Escape) → ReadSo bytes out high rest →
    rest ≡ 92 ∷ behind → EndsEscape behind e after → ((p : Piece) (more : List Piece) → IsEscape p e → out ++ text_from (p ∷ more) high ≡ new ++ text_from more now) →
    ReadSo bytes new now after
read_escape bytes out new high now rest behind after e s f x d =
    read_more bytes out new high now rest after (x.piece ∷ []) s
    (f ∙ x.spelled ∙ ap (λ l. l ++ after) (sym (append-nil (piece_bytes x.piece))))
    (x.is_piece, tt)
    (λ more. d x.piece more x.means)

pub read_whole : (bytes out text : List ℕ) (high : Option ℕ) (rest after : List ℕ) → ReadSo bytes out high rest → rest ≡ 34 ∷ after →
    text ≡ out ++ text_from [] high → IsString bytes text after
unfolding text_of
read_whole bytes out text high rest after s e f = record {
  pieces = s.pieces;
  spelled = s.spelled ∙ ap (λ l. pieces_bytes s.pieces ++ l) e;
  are_pieces = s.are_pieces;
  means = ap (λ l. text_from l None) (sym (append-nil s.pieces)) ∙ s.decodes [] ∙ sym f;
}

-- bytes up to the closing quote that stand for themselves
pub plain_whole : (bytes text plain rest after : List ℕ) → bytes ≡ plain ++ rest → ArePieces (map byte plain) → rest ≡ 34 ∷ after → text ≡ plain → IsString bytes text after
plain_whole bytes text plain rest after e are f same =
    read_whole bytes plain text None rest after (read_front bytes plain plain rest None e are refl refl) f (same ∙ sym (append-nil plain))

-- what a string has behind the pieces that were read
left : (ps qs : List Piece) (rest after : List ℕ) → ArePieces ps → ArePieces qs → pieces_bytes ps ++ rest ≡ pieces_bytes qs ++ 34 ∷ after →
    (ms : List Piece) × ArePieces ms × (rest ≡ pieces_bytes ms ++ 34 ∷ after)
left [] qs rest after f g e = (qs, g, e)
left (p ∷ ps) [] rest after f g e = absurd (no_quote p after (pieces_bytes ps ++ rest) f.0 (sym e ∙ append_assoc (piece_bytes p) (pieces_bytes ps) rest))
left (p ∷ ps) (q ∷ qs) rest after f g e =
    let joined : piece_bytes p ++ (pieces_bytes ps ++ rest) ≡ piece_bytes q ++ (pieces_bytes qs ++ 34 ∷ after)
    = sym (append_assoc (piece_bytes p) (pieces_bytes ps) rest) ∙ e ∙ append_assoc (piece_bytes q) (pieces_bytes qs) (34 ∷ after) in
    let same : p ≡ q = one_piece p q (pieces_bytes ps ++ rest) (pieces_bytes qs ++ 34 ∷ after) f.0 g.0 joined in
    let behind : pieces_bytes ps ++ rest ≡ pieces_bytes qs ++ 34 ∷ after
    = cancel (piece_bytes q) (pieces_bytes ps ++ rest) (pieces_bytes qs ++ 34 ∷ after)
    (subst (λ (x : Piece). piece_bytes x ++ (pieces_bytes ps ++ rest) ≡ piece_bytes q ++ (pieces_bytes qs ++ 34 ∷ after)) same joined) in
    left ps qs rest after f.1 g.1 behind

-- where neither the quote nor a piece stands next there is no string
pub no_more : (bytes out : List ℕ) (high : Option ℕ) (rest : List ℕ) → ReadSo bytes out high rest → ((after : List ℕ) → rest ≡ 34 ∷ after → ⊥) →
    ((p : Piece) (after : List ℕ) → IsPiece p → rest ≡ piece_bytes p ++ after → ⊥) → NoString bytes
no_more bytes out high rest s quote piece = λ qs after are e. step (left s.pieces qs rest after s.are_pieces are (sym s.spelled ∙ e)) after
  where
    step' : (ms : List Piece) (after : List ℕ) → ArePieces ms → rest ≡ pieces_bytes ms ++ 34 ∷ after → ⊥
    step' [] after are e = quote after e
    step' (m ∷ ms) after are e = piece m (pieces_bytes ms ++ 34 ∷ after) are.0 (e ∙ append_assoc (piece_bytes m) (pieces_bytes ms) (34 ∷ after))

    step : {after : List ℕ} → (ms : List Piece) × ArePieces ms × (rest ≡ pieces_bytes ms ++ 34 ∷ after) → (x : List ℕ) → ⊥
    step {after} (ms, are, e) x = step' ms after are e

-- at the end
pub no_more_bytes : (bytes out : List ℕ) (high : Option ℕ) (rest : List ℕ) → ReadSo bytes out high rest → length rest ≡ 0 → NoString bytes
no_more_bytes bytes out high rest s e = no_more bytes out high rest s (λ after f. omega (arith, ap length f)) (λ p after is f. some p after f)
  where
    some : (p : Piece) (after : List ℕ) → rest ≡ piece_bytes p ++ after → ⊥
    some (byte b) after f = omega (arith, ap length f)
    some (short c) after f = omega (arith, ap length f)
    some (hex a b c d) after f = omega (arith, ap length f)

-- at a control byte
pub no_control : (bytes out : List ℕ) (high : Option ℕ) (rest behind : List ℕ) (b : ℕ) → ReadSo bytes out high rest → rest ≡ b ∷ behind → is_json_special b ≡ true →
    (b ≡ 34 → ⊥) → (b ≡ 92 → ⊥) → NoString bytes
no_control bytes out high rest behind b s e special quote slash =
    no_more bytes out high rest s (λ after f. quote (heads b 34 behind after (sym e ∙ f))) (λ p after is f. none p after is (sym e ∙ f))
  where
    none : (p : Piece) (after : List ℕ) → IsPiece p → b ∷ behind ≡ piece_bytes p ++ after → ⊥
    none (byte c) after is f = not_special c b (sym (heads b c behind after f)) is special
    none (short c) after is f = slash (heads b 92 behind (c ∷ after) f)
    none (hex w x y z) after is f = slash (heads b 92 behind (117 ∷ w ∷ x ∷ y ∷ z ∷ after) f)

-- at a backslash that begins no escape
pub no_escape : (bytes out : List ℕ) (high : Option ℕ) (rest behind : List ℕ) → ReadSo bytes out high rest → rest ≡ 92 ∷ behind → NoEscape behind → NoString bytes
no_escape bytes out high rest behind s e none =
    no_more bytes out high rest s (λ after f. omega (arith, heads 92 34 behind after (sym e ∙ f))) (λ p after is f. none p after is (sym e ∙ f))

-- what stands before the first special byte is a run of plain bytes
pub plain_pieces : (bs : List ℕ) (n : ℕ) → ((k : ℕ) → k < n → is_json_special (slice_index bs k) ≡ false) → ArePieces (map byte (take n bs))
plain_pieces [] zero h = tt
plain_pieces [] (suc n) h = tt
plain_pieces (b ∷ bs) zero h = tt
plain_pieces (b ∷ bs) (suc n) h = (h 0 (omega arith), plain_pieces bs n (λ k l. h (suc k) (omega arith)))

-- what begins with a special byte, where it begins with a byte past ASCII, is empty
pub only_special : (bs : List ℕ) → (0 < length bs → is_json_special (slice_index bs 0) ≡ true) → (0 < length bs → 128 ≤ slice_index bs 0) → length bs ≡ 0
only_special [] f g = refl
only_special (b ∷ bs) f g = absurd (past b (f (omega arith)) (g (omega arith)))
  where
    past : (x : ℕ) → is_json_special x ≡ true → 128 ≤ x → ⊥
    past x e h = let no : is_json_special x ≡ false = grind (arith, nat_tests) in cc
