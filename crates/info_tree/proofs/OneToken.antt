-- The bytes tell the token that begins them, and what follows it.
use Rattle.std.proofs.Common.{◌≡◌, ℕ, ◌<◌, ◌≤◌, List, [], ◌∷◌, ◌++◌, length, length-append, take, refl, sym, ap, subst, ◌∙◌, append_assoc, arith, true, false}
use Rattle.std.specs.Prelude.{Option, Some, None, if◌then◌else◌, ◌==◌, slice_index}
use Rattle.text_base.specs.Scan.{is_json_special}
use Rattle.std.proofs.lemmas.Bool.Decides.{nat_tests}
use Rattle.text_base.specs.Spelling.{number_length}
use Rattle.info_tree.specs.Lexed.{sign_at}
use Rattle.info_tree.proofs.Numerals.{number_head}
use Rattle.info_tree.specs.Token.{Piece, byte, short, hex, Word, null_word, true_word, false_word, Token, begin_list, end_list, begin_map, end_map, comma, colon, word, numeral, string, piece_bytes, pieces_bytes, token_bytes, is_escape_letter, IsPiece, ArePieces, BeginsWith, MayBegin}

pub heads : {A : Type 0} (a b : A) (xs ys : List A) → a ∷ xs ≡ b ∷ ys → a ≡ b
heads a b xs ys e = cc

pub tails : {A : Type 0} (a b : A) (xs ys : List A) → a ∷ xs ≡ b ∷ ys → xs ≡ ys
tails a b xs ys e = cc

pub cancel : {A : Type 0} (xs ys zs : List A) → xs ++ ys ≡ xs ++ zs → ys ≡ zs
cancel [] ys zs e = e
cancel (x ∷ xs) ys zs e = cancel xs ys zs (tails x x (xs ++ ys) (xs ++ zs) e)

-- a byte that needs no escape is neither the quote nor the backslash
pub not_special : (b c : ℕ) → b ≡ c → is_json_special b ≡ false → is_json_special c ≡ true → ⊥
not_special b c e f g = let h : is_json_special c ≡ false = subst (λ (x : ℕ). is_json_special x ≡ false) e f in cc

-- a piece begins with no quote
pub no_quote : (p : Piece) (r s : List ℕ) → IsPiece p → 34 ∷ r ≡ piece_bytes p ++ s → ⊥
no_quote (byte b) r s is e = not_special b 34 (sym (heads 34 b r s e)) is refl
no_quote (short c) r s is e = absurd (omega (arith, heads 34 92 r (c ∷ s) e))
no_quote (hex a b c d) r s is e = absurd (omega (arith, heads 34 92 r (117 ∷ a ∷ b ∷ c ∷ d ∷ s) e))

-- the letter u spells no short escape
no_letter : (c : ℕ) → c ≡ 117 → is_escape_letter c ≡ true → ⊥
no_letter c e is = let h : is_escape_letter 117 ≡ true = subst (λ (x : ℕ). is_escape_letter x ≡ true) e is in cc

-- the bytes tell the piece
pub one_piece : (p q : Piece) (r s : List ℕ) → IsPiece p → IsPiece q → piece_bytes p ++ r ≡ piece_bytes q ++ s → p ≡ q
one_piece (byte b) (byte c) r s f g e = ap byte (heads b c r s e)
one_piece (byte b) (short c) r s f g e = absurd (not_special b 92 (heads b 92 r (c ∷ s) e) f refl)
one_piece (byte b) (hex w x y z) r s f g e = absurd (not_special b 92 (heads b 92 r (117 ∷ w ∷ x ∷ y ∷ z ∷ s) e) f refl)
one_piece (short b) (byte c) r s f g e = absurd (not_special c 92 (sym (heads 92 c (b ∷ r) s e)) g refl)
one_piece (short b) (short c) r s f g e = ap short (heads b c r s (tails 92 92 (b ∷ r) (c ∷ s) e))
one_piece (short b) (hex w x y z) r s f g e =
    absurd (no_letter b (heads b 117 r (w ∷ x ∷ y ∷ z ∷ s) (tails 92 92 (b ∷ r) (117 ∷ w ∷ x ∷ y ∷ z ∷ s) e)) f)
one_piece (hex w x y z) (byte c) r s f g e = absurd (not_special c 92 (sym (heads 92 c (117 ∷ w ∷ x ∷ y ∷ z ∷ r) s e)) g refl)
one_piece (hex w x y z) (short c) r s f g e =
    absurd (no_letter c (sym (heads 117 c (w ∷ x ∷ y ∷ z ∷ r) s (tails 92 92 (117 ∷ w ∷ x ∷ y ∷ z ∷ r) (c ∷ s) e))) g)
one_piece (hex a b c d) (hex w x y z) r s f g e = cc

-- two lists of pieces before a quote are the same
one_string : (ps qs : List Piece) (r s : List ℕ) → ArePieces ps → ArePieces qs → pieces_bytes ps ++ 34 ∷ r ≡ pieces_bytes qs ++ 34 ∷ s → ps ≡ qs
one_string [] [] r s f g e = refl
one_string [] (q ∷ qs) r s f g e = absurd (no_quote q r (pieces_bytes qs ++ 34 ∷ s) g.0 (e ∙ append_assoc (piece_bytes q) (pieces_bytes qs) (34 ∷ s)))
one_string (p ∷ ps) [] r s f g e = absurd (no_quote p s (pieces_bytes ps ++ 34 ∷ r) f.0 (sym e ∙ append_assoc (piece_bytes p) (pieces_bytes ps) (34 ∷ r)))
one_string (p ∷ ps) (q ∷ qs) r s f g e =
    let joined : piece_bytes p ++ (pieces_bytes ps ++ 34 ∷ r) ≡ piece_bytes q ++ (pieces_bytes qs ++ 34 ∷ s)
    = sym (append_assoc (piece_bytes p) (pieces_bytes ps) (34 ∷ r)) ∙ e ∙ append_assoc (piece_bytes q) (pieces_bytes qs) (34 ∷ s) in
    let same : p ≡ q = one_piece p q (pieces_bytes ps ++ 34 ∷ r) (pieces_bytes qs ++ 34 ∷ s) f.0 g.0 joined in
    let rest : pieces_bytes ps ++ 34 ∷ r ≡ pieces_bytes qs ++ 34 ∷ s
    = cancel (piece_bytes q) (pieces_bytes ps ++ 34 ∷ r) (pieces_bytes qs ++ 34 ∷ s) (subst (λ (x : Piece). piece_bytes x ++ (pieces_bytes ps ++ 34 ∷ r) ≡ piece_bytes q ++ (pieces_bytes qs ++ 34 ∷ s)) same joined) in
    λ i. same i ∷ one_string ps qs r s f.1 g.1 rest i

-- the word that its first letter tells
abbrev pub word_at : ℕ → Option Token
word_at b =
    if b == 110 then Some (word null_word)
    else if b == 116 then Some (word true_word)
    else if b == 102 then Some (word false_word)
    else None

abbrev pub or_else : Option Token → Option Token → Option Token
or_else None o = o
or_else (Some t) o = Some t

-- the token that a byte alone tells
abbrev pub told_by : ℕ → Option Token
told_by b = or_else (sign_at b) (word_at b)

-- the tokens that their first byte tells
abbrev pub told : Token → Option Token
told begin_list = Some begin_list
told end_list = Some end_list
told begin_map = Some begin_map
told end_map = Some end_map
told comma = Some comma
told colon = Some colon
told (word w) = Some (word w)
told (numeral s) = None
told (string ps) = None

abbrev Tells : Token → List ℕ → Type 0
Tells t bs = told_by (slice_index bs 0) ≡ told t

-- no token but a word and the signs begins with the bytes of a number
outside : (b : ℕ) → 45 ≤ b → b ≤ 57 → told_by b ≡ None
outside b low high =
    let sign : sign_at b ≡ None = grind (arith, nat_tests) in
    let letter : word_at b ≡ None = grind (arith, nat_tests) in
    rw sign letter

numeral_tells : (s r : List ℕ) → 0 < length s → number_length (s ++ r) ≡ length s → Tells (numeral s) (s ++ r)
numeral_tells [] r h e = absurd (omega (arith, h))
numeral_tells (b ∷ s) r h e =
    let some : 0 < number_length (b ∷ (s ++ r)) = omega (arith, e) in
    let range = number_head b (s ++ r) some in
    outside b range.0 range.1

word_tells : (w : Word) (r : List ℕ) → Tells (word w) (token_bytes (word w) ++ r)
word_tells null_word r = refl
word_tells true_word r = refl
word_tells false_word r = refl

-- the first byte tells a token that it alone can tell
pub tells : (t : Token) (bs rest : List ℕ) → BeginsWith bs t rest → told_by (slice_index bs 0) ≡ told t
tells begin_list bs rest b = rw b.spelled refl
tells end_list bs rest b = rw b.spelled refl
tells begin_map bs rest b = rw b.spelled refl
tells end_map bs rest b = rw b.spelled refl
tells comma bs rest b = rw b.spelled refl
tells colon bs rest b = rw b.spelled refl
tells (word w) bs rest b = subst (λ (l : List ℕ). Tells (word w) l) (sym b.spelled) (word_tells w rest)
tells (numeral s) bs rest b =
    subst (λ (l : List ℕ). Tells (numeral s) l) (sym b.spelled)
    (numeral_tells s rest b.is_token.0 (subst (λ (l : List ℕ). number_length l ≡ length s) b.spelled b.is_token.1))
tells (string ps) bs rest b = rw b.spelled refl

same_told : (t u : Token) → told u ≡ Some t → u ≡ t
same_told t begin_list e = cc
same_told t end_list e = cc
same_told t begin_map e = cc
same_told t end_map e = cc
same_told t comma e = cc
same_told t colon e = cc
same_told t (word w) e = cc
same_told t (numeral s) e = cc
same_told t (string ps) e = cc

take_front : (xs ys : List ℕ) → take (length xs) (xs ++ ys) ≡ xs
take_front [] ys = refl
take_front (x ∷ xs) ys = ap (λ l. x ∷ l) (take_front xs ys)

-- a number is no string
pub no_string : (s r rest : List ℕ) → 0 < length s → number_length (s ++ r) ≡ length s → 34 ∷ rest ≡ s ++ r → ⊥
no_string [] r rest h e f = absurd (omega (arith, h))
no_string (b ∷ s) r rest h e f =
    let some : 0 < number_length (b ∷ (s ++ r)) = omega (arith, e) in
    let range = number_head b (s ++ r) some in
    omega (arith, range.0, heads 34 b rest (s ++ r) f)

-- two tokens that their first bytes don't tell
untold : (bs : List ℕ) (t u : Token) (r s : List ℕ) → told t ≡ None → told u ≡ None → BeginsWith bs t r → BeginsWith bs u s → t ≡ u
untold bs begin_list u r s e f a b = cc
untold bs end_list u r s e f a b = cc
untold bs begin_map u r s e f a b = cc
untold bs end_map u r s e f a b = cc
untold bs comma u r s e f a b = cc
untold bs colon u r s e f a b = cc
untold bs (word w) u r s e f a b = cc
untold bs (numeral m) (numeral n) r s e f a b =
    let same : length m ≡ length n = omega (arith, a.is_token.1, b.is_token.1) in
    ap numeral (sym (take_front m r) ∙ ap (λ l. take (length m) l) (sym a.spelled ∙ b.spelled) ∙ ap (λ k. take k (n ++ s)) same ∙ take_front n s)
untold bs (numeral m) (string qs) r s e f a b =
    absurd (no_string m r (pieces_bytes qs ++ 34 ∷ [] ++ s) a.is_token.0 (subst (λ (l : List ℕ). number_length l ≡ length m) a.spelled a.is_token.1) (sym b.spelled ∙ a.spelled))
untold bs (string ps) (numeral n) r s e f a b =
    absurd (no_string n s (pieces_bytes ps ++ 34 ∷ [] ++ r) b.is_token.0 (subst (λ (l : List ℕ). number_length l ≡ length n) b.spelled b.is_token.1) (sym a.spelled ∙ b.spelled))
untold bs (string ps) (string qs) r s e f a b =
    ap string (one_string ps qs r s a.is_token b.is_token
    (tails 34 34 (pieces_bytes ps ++ 34 ∷ r) (pieces_bytes qs ++ 34 ∷ s) (quoted ps r ∙ (sym a.spelled ∙ b.spelled) ∙ sym (quoted qs s))))
  where
    quoted : (xs : List Piece) (l : List ℕ) → 34 ∷ (pieces_bytes xs ++ 34 ∷ l) ≡ token_bytes (string xs) ++ l
    quoted xs l = ap (λ k. 34 ∷ k) (sym (append_assoc (pieces_bytes xs) (34 ∷ []) l))
untold bs (numeral m) begin_list r s e f a b = cc
untold bs (numeral m) end_list r s e f a b = cc
untold bs (numeral m) begin_map r s e f a b = cc
untold bs (numeral m) end_map r s e f a b = cc
untold bs (numeral m) comma r s e f a b = cc
untold bs (numeral m) colon r s e f a b = cc
untold bs (numeral m) (word w) r s e f a b = cc
untold bs (string ps) begin_list r s e f a b = cc
untold bs (string ps) end_list r s e f a b = cc
untold bs (string ps) begin_map r s e f a b = cc
untold bs (string ps) end_map r s e f a b = cc
untold bs (string ps) comma r s e f a b = cc
untold bs (string ps) colon r s e f a b = cc
untold bs (string ps) (word w) r s e f a b = cc

-- the bytes tell their first token
pub one_token : (bs : List ℕ) (t u : Token) (r s : List ℕ) → BeginsWith bs t r → BeginsWith bs u s → t ≡ u
one_token bs t u r s a b = step (told t) refl
  where
    step : (o : Option Token) → told t ≡ o → t ≡ u
    step None e = untold bs t u r s e (sym (tells u bs s b) ∙ tells t bs r a ∙ e) a b
    step (Some v) e = same_told v t e ∙ sym (same_told v u (sym (tells u bs s b) ∙ tells t bs r a ∙ e))

-- and what follows it
pub one_rest : (bs : List ℕ) (t u : Token) (r s : List ℕ) → BeginsWith bs t r → BeginsWith bs u s → r ≡ s
one_rest bs t u r s a b =
    let same : token_bytes t ≡ token_bytes u = ap token_bytes (one_token bs t u r s a b) in
    cancel (token_bytes u) r s (subst (λ (l : List ℕ). l ++ r ≡ token_bytes u ++ s) same (sym a.spelled ∙ b.spelled))

long_enough : (t : Token) (bs : List ℕ) → MayBegin t bs → 0 < length (token_bytes t)
long_enough begin_list bs m = omega arith
long_enough end_list bs m = omega arith
long_enough begin_map bs m = omega arith
long_enough end_map bs m = omega arith
long_enough comma bs m = omega arith
long_enough colon bs m = omega arith
long_enough (word null_word) bs m = omega arith
long_enough (word true_word) bs m = omega arith
long_enough (word false_word) bs m = omega arith
long_enough (numeral s) bs m = m.0
long_enough (string ps) bs m = omega arith

-- no token begins an empty text
pub none_begins : (t : Token) (r : List ℕ) → BeginsWith [] t r → ⊥
none_begins t r b = omega (arith, long_enough t [] b.is_token, length-append (token_bytes t) r, ap length b.spelled)

-- a token takes a byte
pub shorter : (bs : List ℕ) (t : Token) (r : List ℕ) → BeginsWith bs t r → length r < length bs
shorter bs t r b = omega (arith, long_enough t bs b.is_token, length-append (token_bytes t) r, ap length b.spelled)
