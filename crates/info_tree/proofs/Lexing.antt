-- From what the lexer sees to the token that begins the bytes, or to none.
use Rattle.std.proofs.Common.{◌≡◌, ℕ, ◌<◌, ◌≤◌, List, [], ◌∷◌, ◌++◌, ◌+◌, ◌-◌, length, take, drop, length-take, take-append-drop, refl, sym, ap, subst, ◌∙◌, append_assoc, arith, Bool, true, false, cond}
use Rattle.std.specs.Prelude.{Option, Some, None, ◌==◌, nat_le, slice_index, codes}
use Rattle.std.specs.Option.{option_map}
use Rattle.std.proofs.lemmas.Bool.Decides.{nat_tests}
use Rattle.std.proofs.lemmas.Str.{IsCharBoundary-after_ascii}
use Rattle.std.specs.Str.{IsUtf8, IsCharBoundary}
use Rattle.text_base.specs.Number.{Number}
use Rattle.text_base.specs.Spelling.{number_length}
use Rattle.text_base.specs.Value.{parts, whole_of, decimal_of, value_of, exact_value, number_value}
use Rattle.text_base.specs.Reading.{spelling_at}
use Rattle.text_base.specs.declared.num_fault.NumFault.TheVariants as fault
use Rattle.text_base.proofs.FrontLemmas.{number_length-within}
use Rattle.text_base.proofs.SpellingLemmas.{number_exact}
use Rattle.info_tree.specs.Tree.{number}
use Rattle.info_tree.specs.Token.{Piece, Word, null_word, true_word, false_word, Token, begin_list, end_list, begin_map, end_map, comma, colon, word, numeral, string, word_bytes, pieces_bytes, token_bytes, MayBegin, BeginsWith}
use Rattle.info_tree.specs.Json.{word_value}
use Rattle.info_tree.specs.Reading.{IsAccepted}
use Rattle.info_tree.specs.Machine.{Mark, mark_of, scalar, chars}
use Rattle.info_tree.specs.Lexed.{Lexes, NoneBegins, Refuses, IsString, NoString, sign_at, IsLetter}
use Rattle.info_tree.proofs.Numerals.{number_head, number_last}
use Rattle.info_tree.proofs.OneToken.{told, told_by, word_at, tells, tails, no_string, none_begins}

-- ---- tokens that begin the bytes
pub lexed_word : (bs rest : List ℕ) (w : Word) → bs ≡ word_bytes w ++ rest → Lexes bs (scalar (word_value w)) rest
lexed_word bs rest w e = record { token = word w; begins = record { spelled = e; is_token = tt }; means = refl; accepted = tt }

-- a sign is its byte, and may stand before anything
abbrev IsSign : ℕ → Option Token → Type 0
IsSign b None = Unit {0}
IsSign b (Some t) = (token_bytes t ≡ b ∷ []) × ((bs : List ℕ) → MayBegin t bs) × IsAccepted t

sign_step : (b c : ℕ) (t : Token) (o : Option Token) → IsSign c (Some t) → IsSign b o → (q : Bool) → (b == c) ≡ q → IsSign b (cond q (Some t) o)
sign_step b c t o s r true e = let same : c ≡ b = grind (arith, nat_tests) in subst (λ (x : ℕ). IsSign x (Some t)) same s
sign_step b c t o s r false e = r

sign_is : (b : ℕ) → IsSign b (sign_at b)
sign_is b =
    sign_step b 91 begin_list _ (refl, λ bs. tt, tt)
    (sign_step b 93 end_list _ (refl, λ bs. tt, tt)
    (sign_step b 123 begin_map _ (refl, λ bs. tt, tt)
    (sign_step b 125 end_map _ (refl, λ bs. tt, tt)
    (sign_step b 44 comma _ (refl, λ bs. tt, tt)
    (sign_step b 58 colon None (refl, λ bs. tt, tt) tt (b == 58) refl)
    (b == 44) refl)
    (b == 125) refl)
    (b == 123) refl)
    (b == 93) refl)
    (b == 91) refl

lexed_sign : (bs rest : List ℕ) (b : ℕ) (t : Token) → bs ≡ b ∷ rest → sign_at b ≡ Some t → Lexes bs (mark_of t) rest
lexed_sign bs rest b t e f =
    let s : IsSign b (Some t) = subst (λ (o : Option Token). IsSign b o) f (sign_is b) in
    record {
      token = t;
      begins = record { spelled = e ∙ ap (λ l. l ++ rest) (sym s.0); is_token = s.1 bs };
      means = refl;
      accepted = s.2;
    }

pub lexed_mark : (bs rest : List ℕ) (b : ℕ) (m : Mark) → bs ≡ b ∷ rest → Some m ≡ option_map mark_of (sign_at b) → Lexes bs m rest
lexed_mark bs rest b m e f = step (sign_at b) refl
  where
    step : (o : Option Token) → sign_at b ≡ o → Lexes bs m rest
    step None g = let h : Some m ≡ None = rw g at f in cc
    step (Some t) g =
        let h : Some m ≡ Some (mark_of t) = rw g at f in
        let same : mark_of t ≡ m = cc in
        subst (λ (k : Mark). Lexes bs k rest) same (lexed_sign bs rest b t e g)

pub lexed_string : (bs after text rest : List ℕ) → bs ≡ 34 ∷ after → IsString after text rest → Lexes bs (chars text) rest
lexed_string bs after text rest e s = record {
  token = string s.pieces;
  begins = record {
    spelled = e ∙ ap (λ l. 34 ∷ l) (s.spelled ∙ sym (append_assoc (pieces_bytes s.pieces) (34 ∷ []) rest));
    is_token = s.are_pieces;
  };
  means = ap chars s.means;
  accepted = tt;
}

-- ---- no token begins the bytes
untold_begin : (t : Token) (bs rest : List ℕ) → told t ≡ None → BeginsWith bs t rest →
    ((s : List ℕ) → BeginsWith bs (numeral s) rest → ⊥) → ((ps : List Piece) → BeginsWith bs (string ps) rest → ⊥) → ⊥
untold_begin begin_list bs rest e b n s = cc
untold_begin end_list bs rest e b n s = cc
untold_begin begin_map bs rest e b n s = cc
untold_begin end_map bs rest e b n s = cc
untold_begin comma bs rest e b n s = cc
untold_begin colon bs rest e b n s = cc
untold_begin (word w) bs rest e b n s = cc
untold_begin (numeral m) bs rest e b n s = n m b
untold_begin (string ps) bs rest e b n s = s ps b

pub none_string : (bs after : List ℕ) → bs ≡ 34 ∷ after → NoString after → NoneBegins bs
none_string bs after e none = λ t rest b.
    let first : slice_index bs 0 ≡ 34 = ap (λ l. slice_index l 0) e in
    let untold : told t ≡ None = sym (tells t bs rest b) ∙ ap told_by first in
    untold_begin t bs rest untold b
    (λ s n. no_string s rest after n.is_token.0 (subst (λ (l : List ℕ). number_length l ≡ length s) n.spelled n.is_token.1) (sym e ∙ n.spelled))
    (λ ps q. none ps rest q.is_token (tails 34 34 after (pieces_bytes ps ++ 34 ∷ rest) (sym e ∙ q.spelled ∙ ap (λ l. 34 ∷ l) (append_assoc (pieces_bytes ps) (34 ∷ []) rest))))

letter_step : (b : ℕ) → sign_at b ≡ None → (IsLetter b → ⊥) → told_by b ≡ None
letter_step b e h = rw e (step (b == 110) refl (b == 116) refl (b == 102) refl)
  where
    step : (p : Bool) → (b == 110) ≡ p → (q : Bool) → (b == 116) ≡ q → (r : Bool) → (b == 102) ≡ r → word_at b ≡ None
    step true f q g r k = absurd (h (rw f refl))
    step false f true g r k = absurd (h (rw (f, g) refl))
    step false f false g true k = absurd (h (rw (f, g, k) refl))
    step false f false g false k = rw (f, g, k) refl

pub none_number : (bs : List ℕ) → sign_at (slice_index bs 0) ≡ None → (slice_index bs 0 ≡ 34 → ⊥) → (IsLetter (slice_index bs 0) → ⊥) →
    number_length bs ≡ 0 → NoneBegins bs
none_number bs sign quote letter none = λ t rest b.
    let untold : told t ≡ None = sym (tells t bs rest b) ∙ letter_step (slice_index bs 0) sign letter in
    untold_begin t bs rest untold b (λ s n. omega (arith, n.is_token.0, n.is_token.1)) (λ ps q. quote (ap (λ l. slice_index l 0) q.spelled))

abbrev IsWord : Option Token → Type 0
IsWord None = ⊥
IsWord (Some begin_list) = ⊥
IsWord (Some end_list) = ⊥
IsWord (Some begin_map) = ⊥
IsWord (Some end_map) = ⊥
IsWord (Some comma) = ⊥
IsWord (Some colon) = ⊥
IsWord (Some (word w)) = Unit {0}
IsWord (Some (numeral s)) = ⊥
IsWord (Some (string ps)) = ⊥

letter_is_word : (b : ℕ) → IsLetter b → IsWord (told_by b)
letter_is_word b h = step (b == 110) refl (b == 116) refl (b == 102) refl
  where
    at : (c : ℕ) → (b == c) ≡ true → IsWord (told_by c) → IsWord (told_by b)
    at c e w = let same : c ≡ b = grind (arith, nat_tests) in subst (λ (x : ℕ). IsWord (told_by x)) same w

    step : (p : Bool) → (b == 110) ≡ p → (q : Bool) → (b == 116) ≡ q → (r : Bool) → (b == 102) ≡ r → IsWord (told_by b)
    step true f q g r k = at 110 f tt
    step false f true g r k = at 116 g tt
    step false f false g true k = at 102 k tt
    step false f false g false k = let no : false ≡ true = rw (f, g, k) at h in cc

none_letter : (t : Token) (bs rest : List ℕ) → IsWord (told t) → BeginsWith bs t rest → ((w : Word) → bs ≡ word_bytes w ++ rest → ⊥) → ⊥
none_letter begin_list bs rest i b h = i
none_letter end_list bs rest i b h = i
none_letter begin_map bs rest i b h = i
none_letter end_map bs rest i b h = i
none_letter comma bs rest i b h = i
none_letter colon bs rest i b h = i
none_letter (word w) bs rest i b h = h w b.spelled
none_letter (numeral s) bs rest i b h = i
none_letter (string ps) bs rest i b h = i

pub none_word : (bs : List ℕ) → IsLetter (slice_index bs 0) → ((rest : List ℕ) → bs ≡ codes "null" ++ rest → ⊥) →
    ((rest : List ℕ) → bs ≡ codes "true" ++ rest → ⊥) → ((rest : List ℕ) → bs ≡ codes "false" ++ rest → ⊥) → NoneBegins bs
none_word bs letter x y z = λ t rest b.
    none_letter t bs rest (subst (λ (o : Option Token). IsWord o) (tells t bs rest b) (letter_is_word (slice_index bs 0) letter)) b (words rest)
  where
    words : (rest : List ℕ) (w : Word) → bs ≡ word_bytes w ++ rest → ⊥
    words rest null_word e = x rest e
    words rest true_word e = y rest e
    words rest false_word e = z rest e

number_first : (s rest : List ℕ) → 0 < length s → number_length (s ++ rest) ≡ length s → slice_index (s ++ rest) 0 < 128
number_first [] rest h e = absurd (omega (arith, h))
number_first (b ∷ s) rest h e =
    let some : 0 < number_length (b ∷ (s ++ rest)) = omega (arith, e) in
    let range = number_head b (s ++ rest) some in omega (arith, range.1)

first_byte : (t : Token) (bs rest : List ℕ) → BeginsWith bs t rest → slice_index bs 0 < 128
first_byte begin_list bs rest b = rw b.spelled (omega arith)
first_byte end_list bs rest b = rw b.spelled (omega arith)
first_byte begin_map bs rest b = rw b.spelled (omega arith)
first_byte end_map bs rest b = rw b.spelled (omega arith)
first_byte comma bs rest b = rw b.spelled (omega arith)
first_byte colon bs rest b = rw b.spelled (omega arith)
first_byte (word null_word) bs rest b = rw b.spelled (omega arith)
first_byte (word true_word) bs rest b = rw b.spelled (omega arith)
first_byte (word false_word) bs rest b = rw b.spelled (omega arith)
first_byte (numeral s) bs rest b =
    rw b.spelled (number_first s rest b.is_token.0 (subst (λ (l : List ℕ). number_length l ≡ length s) b.spelled b.is_token.1))
first_byte (string ps) bs rest b = rw b.spelled (omega arith)

pub none_ascii : (bs : List ℕ) → (0 < length bs → 128 ≤ slice_index bs 0) → NoneBegins bs
none_ascii [] h = λ t rest b. none_begins t rest b
none_ascii (x ∷ bs) h = λ t rest b. omega (arith, h (omega arith), first_byte t (x ∷ bs) rest b)

-- ---- numbers
pub value_from : (s : List ℕ) (n : Number) → number_value s ≡ Some n → value_of s ≡ n
unfolding number_value exact_value value_of
value_from s n e = short (nat_le (length s) 64) e
  where
    whole_from : (b : Bool) (m : Number) → cond b (Some m) None ≡ Some n → m ≡ n
    whole_from true m f = cc
    whole_from false m f = cc

    chosen : (w : Bool) (b c : Bool) (m k : Number) → cond w (cond b (Some m) None) (cond c (Some k) None) ≡ Some n → cond w m k ≡ n
    chosen true b c m k f = whole_from b m f
    chosen false b c m k f = whole_from c k f

    short : (b : Bool) → cond b (exact_value s) None ≡ Some n → cond (parts s).is_whole (whole_of (parts s)) (decimal_of (parts s)) ≡ n
    short true f = chosen (parts s).is_whole _ _ (whole_of (parts s)) (decimal_of (parts s)) f
    short false f = cc

length-spelling : (bs : List ℕ) → length (spelling_at bs 0) ≡ number_length bs
length-spelling bs = omega (arith, length-take (number_length bs) bs, number_length-within bs)

number_begins : (bs rest : List ℕ) → 0 < number_length bs → rest ≡ drop (number_length bs) bs → BeginsWith bs (numeral (spelling_at bs 0)) rest
number_begins bs rest some e = record {
  spelled = sym (ap (λ l. take (number_length bs) bs ++ l) e ∙ take-append-drop (number_length bs) bs);
  is_token = (omega (arith, length-spelling bs), sym (length-spelling bs));
}

pub lexed_number : (bs rest : List ℕ) (n : Number) → 0 < length (spelling_at bs 0) → number_value (spelling_at bs 0) ≡ Some n →
    rest ≡ drop (length (spelling_at bs 0)) bs → Lexes bs (scalar (number n)) rest
lexed_number bs rest n some e f = record {
  token = numeral (spelling_at bs 0);
  begins = number_begins bs rest (omega (arith, length-spelling bs)) (f ∙ ap (λ k. drop k bs) (length-spelling bs));
  means = ap (λ m. scalar (number m)) (value_from (spelling_at bs 0) n e);
  accepted = rw e refl;
}

-- a text may be cut behind its number
pub number_boundary : (bs : List ℕ) → IsUtf8 bs → 0 < length (spelling_at bs 0) → IsCharBoundary bs (length (spelling_at bs 0))
number_boundary bs u some =
    let n = number_length bs in
    let same : length (spelling_at bs 0) ≡ n = length-spelling bs in
    let back : n - 1 + 1 ≡ n = omega arith in
    rw same (rw back at (IsCharBoundary-after_ascii bs (n - 1) u (omega (arith, number_length-within bs)) (number_last bs (omega arith))))

long_or_none : (s : List ℕ) → length s ≤ 64 → number_value s ≡ None → exact_value s ≡ None
long_or_none s l e = sym (number_exact s l) ∙ e

pub number_too_long : (bs : List ℕ) → 64 < length (spelling_at bs 0) → Refuses bs fault.NumberLong
number_too_long bs long = record {
  spelling = spelling_at bs 0;
  rest = drop (number_length bs) bs;
  begins = number_begins bs (drop (number_length bs) bs) (omega (arith, length-spelling bs)) refl;
  refused = long;
}

pub number_out_of_range : (bs : List ℕ) → (0 < length (spelling_at bs 0)) × (length (spelling_at bs 0) ≤ 64) × (number_value (spelling_at bs 0) ≡ None) →
    Refuses bs fault.NumberRange
number_out_of_range bs r =
    let some : 0 < length (spelling_at bs 0) = r.0 in
    record {
      spelling = spelling_at bs 0;
      rest = drop (number_length bs) bs;
      begins = number_begins bs (drop (number_length bs) bs) (omega (arith, length-spelling bs)) refl;
      refused = (r.1, long_or_none (spelling_at bs 0) r.1 r.2);
    }
