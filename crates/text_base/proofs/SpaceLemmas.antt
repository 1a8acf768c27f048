-- Spaces at the ends of a text, dropped one by one.
use Rattle.std.proofs.Common.{◌+◌, ◌<◌, ◌≤◌, ◌≡◌, ◌≢◌, ◌-◌, ℕ, List, [], ◌∷◌, ◌++◌, false, ◌==◌, take, drop, length, get_or, eqb, refl, sym, ap, ◌∙◌, arith, lit<, length-append}
use Rattle.std.proofs.Math.Bool.{and-false}
use Rattle.std.proofs.Math.Seq.{drop-length}
use Rattle.std.proofs.lemmas.Bool.{ne_eqb}
use Rattle.std.proofs.lemmas.List.{take-append-drop, take_more}
use Rattle.std.proofs.lemmas.Str.{encode_ascii, len_utf8_ascii}
use Rattle.std.proofs.lemmas.Str.Pattern.{drop_at_char}
use Rattle.std.specs.Prelude.{Option, Some, None, IfSome}
use Rattle.std.specs.Str.Pattern.{FindsCharPrefix, FindsCharSuffix, CutsPrefixes, CutsSuffixes, IsTrimStartMatches, IsTrimEndMatches}
use Rattle.text_base.specs.Spaces.{without_first_spaces, without_last_spaces}

-- a text that begins with no space stays as it is
pub no_first_space : (bs : List ℕ) → ((rest : List ℕ) → bs ≢ 32 ∷ rest) → without_first_spaces bs ≡ bs
no_first_space [] none = refl
no_first_space (b ∷ bs) none = rw (ne_eqb b 32 (λ e. none bs (ap (λ x. x ∷ bs) e))) refl

-- one more space at the end changes nothing
pub one_last_space : (bs : List ℕ) → without_last_spaces (bs ++ 32 ∷ []) ≡ without_last_spaces bs
one_last_space [] = refl
one_last_space (b ∷ bs) = rw (one_last_space bs) refl

not_empty : (bs : List ℕ) (b : ℕ) → eqb (length (bs ++ b ∷ [])) 0 ≡ false
not_empty bs b = ne_eqb _ 0 (λ e. absurd (omega (arith, length-append bs (b ∷ []))))

-- another byte at the end keeps all before it
pub last_byte_kept : (bs : List ℕ) (b : ℕ) → b ≢ 32 → without_last_spaces (bs ++ b ∷ []) ≡ bs ++ b ∷ []
last_byte_kept [] b n = rw (ne_eqb b 32 n) refl
last_byte_kept (x ∷ bs) b n = rw (last_byte_kept bs b n) (rw (not_empty bs b) (rw (and-false (eqb x 32)) refl))

-- a text that ends with no space stays as it is
pub no_last_space : (bs : List ℕ) → ((front : List ℕ) → bs ≢ front ++ 32 ∷ []) → without_last_spaces bs ≡ bs
no_last_space [] none = refl
no_last_space (b ∷ []) none = rw (ne_eqb b 32 (λ e. none [] (ap (λ x. x ∷ []) e))) refl
no_last_space (b ∷ c ∷ bs) none =
    let same : without_last_spaces (c ∷ bs) ≡ c ∷ bs = no_last_space (c ∷ bs) (λ front e. none (b ∷ front) (ap (λ l. b ∷ l) e)) in
    let long : (length (c ∷ bs) == 0) ≡ false = ne_eqb _ 0 (λ e. absurd (omega (arith, e))) in
    rw (same, long) (rw (and-false (b == 32)) refl)

one_less : (n : ℕ) → 0 < n → n ≡ (n - 1) + 1
one_less n l = omega arith

ends_in : (bs : List ℕ) (n : ℕ) → 0 < n → n ≤ length bs → take n bs ≡ take (n - 1) bs ++ get_or bs (n - 1) 0 ∷ []
ends_in bs n p w = ap (λ k. take k bs) (one_less n p) ∙ take_more bs (n - 1) 0 (omega arith)

-- a space at the end of a front may go
pub space_at_end : (bs : List ℕ) (n : ℕ) → 0 < n → n ≤ length bs → get_or bs (n - 1) 0 ≡ 32 → without_last_spaces (take n bs) ≡ without_last_spaces (take (n - 1) bs)
space_at_end bs n p w e = rw (ends_in bs n p w) (rw e (one_last_space (take (n - 1) bs)))

-- a front that ends with another byte stays
pub kept_at_end : (bs : List ℕ) (n : ℕ) → 0 < n → n ≤ length bs → get_or bs (n - 1) 0 ≢ 32 → without_last_spaces (take n bs) ≡ take n bs
kept_at_end bs n p w e = rw (ends_in bs n p w) (last_byte_kept (take (n - 1) bs) (get_or bs (n - 1) 0) e)

-- and so does an empty one
pub none_left : (bs : List ℕ) (n : ℕ) → n ≤ 0 → without_last_spaces (take n bs) ≡ take n bs
none_left bs n l =
    let e : n ≡ 0 = omega arith in
    rw e refl

first_one : (m : List ℕ) (n : ℕ) → FindsCharPrefix 32 m (Some n) → m ≡ 32 ∷ drop n m
first_one m n h = drop_at_char 32 m 0 n h (lit< tt)

first_cut : (s : List ℕ) (ns r : List ℕ) → CutsPrefixes (FindsCharPrefix 32) s ns r → without_first_spaces s ≡ without_first_spaces r
first_cut s [] r h = ap without_first_spaces (sym h)
first_cut s (n ∷ ns) r h = first_cut s ns h.0 h.1 ∙ (ap without_first_spaces (first_one h.0 n h.2) ∙ ap without_first_spaces (sym h.3))

-- what is cut from the front of a text until no space is left there
pub first_spaces_trimmed : (s r : List ℕ) → IsTrimStartMatches (FindsCharPrefix 32) s r → r ≡ without_first_spaces s
first_spaces_trimmed s r h = sym (first_cut s h.0.0 r h.0.1 ∙ no_first_space r (λ rest e. last h.1.0 h.1.1 h.1.2 rest e))
  where
    last : (o : Option ℕ) → FindsCharPrefix 32 r o → IfSome o (λ n. n ≡ 0) → (rest : List ℕ) → r ≡ 32 ∷ rest → ⊥
    last None h z rest e = h rest (e ∙ ap (λ l. l ++ rest) (sym (encode_ascii 32 (lit< tt))))
    last (Some n) h z rest e = absurd (omega (arith, h.ends, len_utf8_ascii 32 (lit< tt)))

last_one : (m : List ℕ) (n : ℕ) → FindsCharSuffix 32 m (Some n) → m ≡ take (length m - n) m ++ 32 ∷ []
last_one m n h = sym (take-append-drop (length m - n) m) ∙ ap (λ l. take (length m - n) m ++ l) (drop_at_char 32 m (length m - n) (length m) h.1 (lit< tt) ∙ ap (λ l. 32 ∷ l) (drop-length m))

last_cut : (s : List ℕ) (ns r : List ℕ) → CutsSuffixes (FindsCharSuffix 32) s ns r → without_last_spaces s ≡ without_last_spaces r
last_cut s [] r h = ap without_last_spaces (sym h)
last_cut s (n ∷ ns) r h = last_cut s ns h.0 h.1 ∙ (ap without_last_spaces (last_one h.0 n h.2) ∙ (one_last_space (take (length h.0 - n) h.0) ∙ ap without_last_spaces (sym h.3)))

-- what is cut from the end of a text until no space is left there
pub last_spaces_trimmed : (s r : List ℕ) → IsTrimEndMatches (FindsCharSuffix 32) s r → r ≡ without_last_spaces s
last_spaces_trimmed s r h = sym (last_cut s h.0.0 r h.0.1 ∙ no_last_space r (λ front e. last h.1.0 h.1.1 h.1.2 front e))
  where
    last : (o : Option ℕ) → FindsCharSuffix 32 r o → IfSome o (λ n. n ≡ 0) → (front : List ℕ) → r ≡ front ++ 32 ∷ [] → ⊥
    last None h z front e = h front (e ∙ ap (λ l. front ++ l) (sym (encode_ascii 32 (lit< tt))))
    last (Some n) h z front e = absurd (omega (arith, h.0, len_utf8_ascii 32 (lit< tt)))
