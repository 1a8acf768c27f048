-- A text is built part by part under a limit, and the limited front of the whole stands there; a conversion that keeps no more prints the same of it.
use Rattle.std.proofs.Common.{◌≡◌, ℕ, zero, suc, ◌+◌, ◌-◌, ◌<◌, ◌≤◌, List, [], ◌∷◌, ◌++◌, length, get_or, take, true, false, refl, sym, ap, ◌∙◌, arith, ◌⊎◌, inl, inr, append_assoc, append-nil, length-append}
use Rattle.std.specs.Prelude.{Option, Some, None, Bool, ◌&&◌, if◌then◌else◌, min, encode_utf8}
use Rattle.std.specs.List.{flat_map}
use Rattle.std.specs.Fmt.{is_char_start}
use Rattle.std.specs.Fmt.Cut.{floor_char_boundary}
use Rattle.std.specs.Str.{IsUtf8, IsAscii, chars}
use Rattle.std.proofs.Math.Seq.{take-append-add}
use Rattle.std.proofs.Math.Utf8.{scalar, scalars, encodes}
use Rattle.std.proofs.lemmas.Bool.{cases_lt}
use Rattle.std.proofs.lemmas.List.{length-take, length-replicate, take_all, take_more, take-take, take-append-le, take-replicate, get_or_append_left, get_or-append-add, get_or-replicate}
use Rattle.std.proofs.lemmas.List.Concat.{flat_map-append}
use Rattle.std.proofs.lemmas.Str.{chars-nil, chars-append, chars-encodes, chars-IsAscii, scalars-chars, encodes-IsAscii, IsUtf8-from_ascii, IsCharBoundary-start}
use Rattle.std.proofs.lemmas.Str.Ascii.{IsAscii-from_all}
use Rattle.std.proofs.lemmas.List.Elements.{All-replicate}
use Rattle.info_tree.specs.Tree.{text}
use Rattle.name_text.specs.Cut.{byte_cut}
use Rattle.tpl_lang.specs.declared.conv.Conv.{Conv}
use Rattle.tpl_lang.specs.declared.conv.Kind.{Kind}
use Rattle.tpl_lang.specs.declared.conv.Kind.TheVariants.{Integer, Octal, LowerHex, UpperHex, Decimal, Text, Bytes, Json, Html, List as Listed, Quoted, Suffixed, Sanitized, Unicode}
use Rattle.field_text.specs.Frame.{first_chars, cut_by, widened_chars, widened_bytes}
use Rattle.tpl_eval.specs.declared.limit.Limit.{Limit}
use Rattle.tpl_eval.specs.declared.limit.Limit.TheVariants as limit
use Rattle.tpl_eval.specs.Convert.{converted, converted_as}
use Rattle.tpl_eval.specs.Field.{spaces}
use Rattle.tpl_eval.specs.Layout.{text_frame}
use Rattle.tpl_eval.specs.Limit.{limited, less, behind, spaces_of, limit_in, limit_of}
use borrow.Author.Tests.{lt-ltb, le-ltb, le-leb, lt-leb}

-- the front of a text and what is behind it
take_over : {A : Type 0} (n : ℕ) (xs ys : List A) → take n (xs ++ ys) ≡ take n xs ++ take (n - length xs) ys
take_over n xs ys = elim (cases_lt n (length xs)) [
  | inl short ↦
      let none : n - length xs ≡ 0 = omega arith in
      take-append-le n xs ys (omega arith) ∙ sym (rw none (append-nil (take n xs)))
  | inr long ↦
      let over : n ≡ length xs + (n - length xs) = omega arith in
      ap (λ k. take k (xs ++ ys)) over ∙ take-append-add xs ys (n - length xs) ∙ ap (λ l. l ++ take (n - length xs) ys) (sym (take_all n xs long))
]

chars_more : (n : ℕ) (a p : List ℕ) → IsUtf8 a → first_chars n (a ++ p) ≡ first_chars n a ++ first_chars (n - length (chars a)) p
chars_more n a p u =
    ap (λ cs. flat_map encode_utf8 (take n cs)) (chars-append a p u) ∙ ap (flat_map encode_utf8) (take_over n (chars a) (chars p))
    ∙ flat_map-append encode_utf8 (take n (chars a)) (take (n - length (chars a)) (chars p))

-- a place between two characters
starts : (b : ℕ) → (128 ≤ b → 192 ≤ b) → is_char_start b ≡ true
starts b h = elim (cases_lt b 128) [
  | inl low ↦ rw (lt-ltb b 128 low) refl
  | inr high ↦ rw (le-ltb b 128 high, le-leb 192 b (h high)) refl
]

floor-le : (bs : List ℕ) (n : ℕ) → floor_char_boundary bs n ≤ n
unfolding floor_char_boundary
floor-le bs zero = omega arith
floor-le bs (suc n) = by_start (is_char_start (get_or bs (suc n) 0)) (floor-le bs n)
  where
    by_start : (b : Bool) → floor_char_boundary bs n ≤ n → (if b then suc n else floor_char_boundary bs n) ≤ suc n
    by_start true h = omega arith
    by_start false h = omega arith

floor_left : (a p : List ℕ) (n : ℕ) → n < length a → floor_char_boundary (a ++ p) n ≡ floor_char_boundary a n
unfolding floor_char_boundary
floor_left a p zero h = refl
floor_left a p (suc n) h =
    rw (get_or_append_left a p 0 (suc n) h) (ap (λ k. if is_char_start (get_or a (suc n) 0) then suc n else k) (floor_left a p n (omega arith)))

floor_seam : (a p : List ℕ) (n : ℕ) → n ≡ length a → 0 < length p → IsUtf8 p → floor_char_boundary (a ++ p) n ≡ n
unfolding floor_char_boundary
floor_seam a p zero e some u = refl
floor_seam a p (suc n) e some u =
    let at : get_or (a ++ p) (suc n) 0 ≡ get_or p 0 0 = ap (λ k. get_or (a ++ p) k 0) (omega (arith, e)) ∙ get_or-append-add a p 0 0 in
    rw (at, starts (get_or p 0 0) ((IsCharBoundary-start p u).1 some)) refl

floor_right : (a p : List ℕ) (k : ℕ) → k < length p → IsUtf8 p → floor_char_boundary (a ++ p) (length a + k) ≡ length a + floor_char_boundary p k
unfolding floor_char_boundary
floor_right a p zero h u = floor_seam a p (length a + 0) (omega arith) h u
floor_right a p (suc k) h u =
    let next : length a + suc k ≡ suc (length a + k) = omega arith in
    let at : get_or (a ++ p) (suc (length a + k)) 0 ≡ get_or p (suc k) 0 = ap (λ i. get_or (a ++ p) i 0) (sym next) ∙ get_or-append-add a p (suc k) 0 in
    rw (next, at) (by_start (is_char_start (get_or p (suc k) 0)) (floor_right a p k (omega arith) u))
  where
    by_start : (b : Bool) → floor_char_boundary (a ++ p) (length a + k) ≡ length a + floor_char_boundary p k
        → (if b then suc (length a + k) else floor_char_boundary (a ++ p) (length a + k)) ≡ length a + (if b then suc k else floor_char_boundary p k)
    by_start true h = omega arith
    by_start false h = h

fits : (n : ℕ) (t : List ℕ) → length t ≤ n → byte_cut n t ≡ t
fits n t h = rw (le-leb (length t) n h) refl

cut : (n : ℕ) (t : List ℕ) → n < length t → byte_cut n t ≡ take (floor_char_boundary t n) t
cut n t h = rw (lt-leb (length t) n h) refl

nothing : (t : List ℕ) → byte_cut 0 t ≡ []
unfolding floor_char_boundary
nothing [] = refl
nothing (b ∷ t) = cut 0 (b ∷ t) (omega arith)

bytes_more : (n : ℕ) (a p : List ℕ) → IsUtf8 p → byte_cut n (a ++ p) ≡ byte_cut n a ++ byte_cut (n - length a) p
bytes_more n a p u = elim (cases_lt n (length a)) [
  | inl inside ↦
      let none : n - length a ≡ 0 = omega arith in
      let more : n < length (a ++ p) = omega (arith, length-append a p) in
      cut n (a ++ p) more ∙ ap (λ k. take k (a ++ p)) (floor_left a p n inside) ∙ take-append-le (floor_char_boundary a n) a p (omega (arith, floor-le a n))
      ∙ sym (rw (none, nothing p, cut n a inside) (append-nil (take (floor_char_boundary a n) a)))
  | inr over ↦ behind_front (cases_lt (n - length a) (length p)) over
]
  where
    behind_front : (n - length a < length p) ⊎ (length p ≤ n - length a) → length a ≤ n → byte_cut n (a ++ p) ≡ byte_cut n a ++ byte_cut (n - length a) p
    behind_front (inl inside) over =
        let more : n < length (a ++ p) = omega (arith, length-append a p) in
        let place : n ≡ length a + (n - length a) = omega arith in
        cut n (a ++ p) more ∙ ap (λ k. take (floor_char_boundary (a ++ p) k) (a ++ p)) place ∙ ap (λ k. take k (a ++ p)) (floor_right a p (n - length a) inside u)
        ∙ take-append-add a p (floor_char_boundary p (n - length a)) ∙ sym (rw (fits n a over, cut (n - length a) p inside) refl)
    behind_front (inr all) over =
        fits n (a ++ p) (omega (arith, length-append a p)) ∙ sym (rw (fits n a over, fits (n - length a) p all) refl)

-- what a limit lets stand of two texts
pub limited_more : (l : Limit) (a p : List ℕ) → IsUtf8 a → IsUtf8 p → limited l (a ++ p) ≡ limited l a ++ limited (behind l a) p
limited_more limit.Whole a p u v = refl
limited_more (limit.Chars n) a p u v = chars_more n a p u
limited_more (limit.Bytes n) a p u v = bytes_more n a p v

fewer : (n a b whole : ℕ) → whole ≡ a + b → n - whole ≡ n - a - b
fewer n a b whole e = omega (arith, e)

pub behind_more : (l : Limit) (a p : List ℕ) → IsUtf8 a → behind l (a ++ p) ≡ behind (behind l a) p
behind_more limit.Whole a p u = refl
behind_more (limit.Chars n) a p u = ap limit.Chars (fewer n (length (chars a)) (length (chars p)) (length (chars (a ++ p))) (ap length (chars-append a p u) ∙ length-append (chars a) (chars p)))
behind_more (limit.Bytes n) a p u = ap limit.Bytes (fewer n (length a) (length p) (length (a ++ p)) (length-append a p))

-- a text more was appended
pub appended : (l left : Limit) (a p old mid new : List ℕ) → IsUtf8 a → IsUtf8 p → mid ≡ old ++ limited l a → left ≡ behind l a → new ≡ mid ++ limited left p → new ≡ old ++ limited l (a ++ p)
appended l left a p old mid new u v m e n =
    n ∙ ap (λ k. mid ++ limited k p) e ∙ ap (λ t. t ++ limited (behind l a) p) m ∙ append_assoc old (limited l a) (limited (behind l a) p) ∙ ap (λ t. old ++ t) (sym (limited_more l a p u v))

pub left_behind : (l left rest : Limit) (a p : List ℕ) → IsUtf8 a → left ≡ behind l a → rest ≡ behind left p → rest ≡ behind l (a ++ p)
left_behind l left rest a p u e r = r ∙ ap (λ k. behind k p) e ∙ sym (behind_more l a p u)

-- nothing under a limit
pub limited_none : (l : Limit) → limited l [] ≡ []
limited_none limit.Whole = refl
limited_none (limit.Chars n) = ap (λ cs. flat_map encode_utf8 (take n cs)) chars-nil ∙ ap (flat_map encode_utf8) (take_all n [] (omega arith))
limited_none (limit.Bytes n) = fits n [] (omega arith)

pub behind_none : (l : Limit) → behind l [] ≡ l
behind_none limit.Whole = refl
behind_none (limit.Chars n) = let all : n - length (chars []) ≡ n = rw chars-nil (omega arith) in ap limit.Chars all
behind_none (limit.Bytes n) = let all : n - length {A = ℕ} [] ≡ n = omega arith in ap limit.Bytes all

-- a part more of those that are joined
pub part_more : {A : Type 0} (f : A → List ℕ) (xs : List A) (i : ℕ) (x : A) → i < length xs → x ≡ get_or xs i x → flat_map f (take (i + 1) xs) ≡ flat_map f (take i xs) ++ f x
part_more f xs i x less is =
    ap (flat_map f) (take_more xs i x less) ∙ flat_map-append f (take i xs) (get_or xs i x ∷ []) ∙ ap (λ y. flat_map f (take i xs) ++ (f y ++ [])) (sym is)
    ∙ ap (λ l. flat_map f (take i xs) ++ l) (append-nil (f x))

-- spaces under a limit
spaces-IsAscii : (n : ℕ) → IsAscii (spaces n)
spaces-IsAscii n = IsAscii-from_all (spaces n) (All-replicate (λ b. b < 128) n 32 (omega arith))

pub spaces-IsUtf8 : (n : ℕ) → IsUtf8 (spaces n)
spaces-IsUtf8 n = IsUtf8-from_ascii (spaces n) (spaces-IsAscii n)

chars-spaces : (n : ℕ) → chars (spaces n) ≡ spaces n
chars-spaces n = chars-IsAscii (spaces n) (spaces-IsAscii n)

encoded : (cs : List ℕ) → flat_map encode_utf8 cs ≡ encodes cs
encoded [] = refl
encoded (c ∷ cs) = ap (λ l. encode_utf8 c ++ l) (encoded cs)

front-spaces : (m n : ℕ) → take m (spaces n) ≡ spaces (min n m)
front-spaces m n = elim (cases_lt m n) [
  | inl inside ↦
      let few : min n m ≡ m = omega arith in
      rw few (take-replicate {X = ℕ} m n 32 (omega arith))
  | inr all ↦
      let few : min n m ≡ n = omega arith in
      rw few (take_all m (spaces n) (omega (arith, length-replicate {A = ℕ} n 32)))
]

floor-spaces : (m n : ℕ) → m < n → floor_char_boundary (spaces n) m ≡ m
unfolding floor_char_boundary
floor-spaces zero n h = refl
floor-spaces (suc m) n h = rw (get_or-replicate {A = ℕ} n (suc m) 32 0 h) refl

bytes-spaces : (m n : ℕ) → byte_cut m (spaces n) ≡ take m (spaces n)
bytes-spaces m n = elim (cases_lt m n) [
  | inl inside ↦ cut m (spaces n) (omega (arith, length-replicate {A = ℕ} n 32)) ∙ ap (λ k. take k (spaces n)) (floor-spaces m n inside)
  | inr all ↦
      let few : length (spaces n) ≤ m = omega (arith, length-replicate {A = ℕ} n 32) in
      fits m (spaces n) few ∙ sym (take_all m (spaces n) few)
]

pub limited-spaces : (l : Limit) (n : ℕ) → limited l (spaces n) ≡ spaces (spaces_of l n)
limited-spaces limit.Whole n = refl
limited-spaces (limit.Chars m) n =
    ap (λ cs. flat_map encode_utf8 (take m cs)) (chars-spaces n) ∙ ap (flat_map encode_utf8) (front-spaces m n) ∙ encoded (spaces (min n m)) ∙ encodes-IsAscii (spaces (min n m)) (spaces-IsAscii (min n m))
limited-spaces (limit.Bytes m) n = bytes-spaces m n ∙ front-spaces m n

pub behind-spaces : (l : Limit) (n : ℕ) → behind l (spaces n) ≡ less l n n
behind-spaces l n = ap (λ cs. less l (length cs) (length (spaces n))) (chars-spaces n) ∙ ap (λ k. less l k k) (length-replicate {A = ℕ} n 32)

-- what is cut already stays as it is
front-scalars : (n : ℕ) (cs : List ℕ) → scalars cs ≡ true → scalars (take n cs) ≡ true
front-scalars zero cs h = refl
front-scalars (suc n) [] h = refl
front-scalars (suc n) (c ∷ cs) h = both (scalar c) (scalars cs) (scalars (take n cs)) h (front-scalars n cs)
  where
    both : (x y z : Bool) → x && y ≡ true → (y ≡ true → z ≡ true) → x && z ≡ true
    both true y z h f = f h
    both false y z h f = h

chars-front : (n : ℕ) (s : List ℕ) → IsUtf8 s → chars (first_chars n s) ≡ take n (chars s)
chars-front n s u = ap chars (encoded (take n (chars s))) ∙ chars-encodes (take n (chars s)) (front-scalars n (chars s) (scalars-chars s u))

chars_again : (n : ℕ) (s : List ℕ) → IsUtf8 s → first_chars n (first_chars n s) ≡ first_chars n s
chars_again n s u = ap (λ cs. flat_map encode_utf8 (take n cs)) (chars-front n s u) ∙ ap (flat_map encode_utf8) (take-take n n (chars s) (omega arith))

length-cut : (n : ℕ) (s : List ℕ) → length (byte_cut n s) ≤ n
length-cut n s = elim (cases_lt n (length s)) [
  | inl long ↦ rw (cut n s long) (omega (arith, length-take (floor_char_boundary s n) s, floor-le s n))
  | inr short ↦ rw (fits n s short) short
]

bytes_again : (n : ℕ) (s : List ℕ) → byte_cut n (byte_cut n s) ≡ byte_cut n s
bytes_again n s = fits n (byte_cut n s) (length-cut n s)

by_kind : (k : Kind) (p : Option ℕ) (c : Conv) (s : List ℕ) → IsUtf8 s → c.precision ≡ p → converted_as k c (text (limited (limit_in k p) s)) ≡ converted_as k c (text s)
by_kind k None c s u e = refl
by_kind Text (Some n) c s u e =
    let same : cut_by first_chars c.precision (first_chars n s) ≡ cut_by first_chars c.precision s = rw e (chars_again n s u) in
    ap (λ t. Some (widened_chars (text_frame c) t)) same
by_kind Bytes (Some n) c s u e =
    let same : cut_by byte_cut c.precision (byte_cut n s) ≡ cut_by byte_cut c.precision s = rw e (bytes_again n s) in
    ap (λ t. Some (widened_bytes (text_frame c) t)) same
by_kind Integer (Some n) c s u e = refl
by_kind Octal (Some n) c s u e = refl
by_kind LowerHex (Some n) c s u e = refl
by_kind UpperHex (Some n) c s u e = refl
by_kind Decimal (Some n) c s u e = refl
by_kind Json (Some n) c s u e = refl
by_kind Html (Some n) c s u e = refl
by_kind Listed (Some n) c s u e = refl
by_kind Quoted (Some n) c s u e = refl
by_kind Suffixed (Some n) c s u e = refl
by_kind Sanitized (Some n) c s u e = refl
by_kind Unicode (Some n) c s u e = refl

-- a conversion prints the same of what it keeps at most
pub converted-limited : (c : Conv) (s : List ℕ) → IsUtf8 s → converted c (text (limited (limit_of c) s)) ≡ converted c (text s)
converted-limited c s u = by_kind c.kind c.precision c s u refl
