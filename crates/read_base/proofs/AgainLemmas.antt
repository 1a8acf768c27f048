-- What is spelled so is taken: the law of items one after the other, and of one reader behind another.
use Rattle.std.proofs.Common.{◌≡◌, ℕ, zero, suc, ◌<◌, ◌≤◌, Bool, true, false, List, [], ◌∷◌, ◌++◌, length, Result, Ok, refl, sym, ap, subst, ◌∙◌, append_assoc, arith}
use Rattle.std.specs.Prelude.{◌==◌}
use Rattle.std.proofs.lemmas.List.{length-append}
use Rattle.read_base.specs.Reads.{◌>>=◌, skip, more, all_at}
use Rattle.read_base.specs.Spelled.{IsGap, IsMore, Then}
use Rattle.read_base.specs.Laws.{Again}

-- spaces are skipped
pub gap_skipped : (gap t : List ℕ) → IsGap gap → skip (gap ++ t) ≡ skip t
gap_skipped [] t h = refl
gap_skipped (b ∷ gap) t h = rw h.0 (gap_skipped gap t h.1)

-- a byte that is no space is not
pub solid_skip : (b : ℕ) (t : List ℕ) → (b == 32) ≡ false → skip (b ∷ t) ≡ b ∷ t
solid_skip b t h = rw h refl

-- the mark behind spaces
pub to_mark : (gap t : List ℕ) (mark : ℕ) → IsGap gap → (mark == 32) ≡ false → skip (gap ++ mark ∷ t) ≡ mark ∷ t
to_mark gap t mark h k = gap_skipped gap (mark ∷ t) h ∙ solid_skip mark t k

none_more : {K A : Type 0} (begins : List ℕ → Bool) (item : List ℕ → Result (A × List ℕ) (K × ℕ)) (n : ℕ) (r : List ℕ) → begins r ≡ false → more begins item n r ≡ Ok ([], r)
unfolding more
none_more begins item zero r h = refl
none_more begins item (suc n) r h = rw h refl

one_more : {K A : Type 0} (begins : List ℕ → Bool) (item : List ℕ → Result (A × List ℕ) (K × ℕ)) (n : ℕ) (t w r : List ℕ) (x : A) (xs : List A) → begins t ≡ true → item t ≡ Ok (x, w) → more begins item n w ≡ Ok (xs, r) → more begins item (suc n) t ≡ Ok (x ∷ xs, r)
unfolding more
one_more begins item n t w r x xs e1 e2 e3 = rw (e1, e2, e3) refl

-- what has to be known of an item, so that items are read one after the other: it begins as the test says, and before a rest of
-- which the fact is true another one may stand
pub record Items {A : Type 0} (begins : List ℕ → Bool) (P : List ℕ → A → Type 0) (Free : List ℕ → Type 0) : Type 0 where
  pub starts : (s : List ℕ) (x : A) (r : List ℕ) → P s x → Free r → begins (s ++ r) ≡ true
  pub some : (s : List ℕ) (x : A) → P s x → 0 < length s
  pub free : (s : List ℕ) (x : A) (r : List ℕ) → P s x → Free r → Free (s ++ r)

pub more_free : {A : Type 0} (begins : List ℕ → Bool) (P : List ℕ → A → Type 0) (Free : List ℕ → Type 0) → Items begins P Free → (s : List ℕ) (xs : List A) (r : List ℕ) → IsMore P s xs → Free r → Free (s ++ r)
more_free begins P Free items s [] r h free = subst (λ (l : List ℕ). Free (l ++ r)) (sym h) free
more_free begins P Free items s (x ∷ xs) r h free =
    subst (λ (l : List ℕ). Free (l ++ r)) (sym h.4) (subst Free (sym (append_assoc h.0 h.1 r)) (items.free h.0 x (h.1 ++ r) h.2 (more_free begins P Free items h.1 xs r h.3 free)))

longer : (one others : List ℕ) (n : ℕ) → 0 < length one → length (one ++ others) ≤ suc n → length others ≤ n
longer one others n some h = omega (arith, some, h, length-append one others)

some_length : (one others : List ℕ) → 0 < length one → length (one ++ others) ≤ 0 → ⊥
some_length one others some h = omega (arith, some, h, length-append one others)

pub more_again : {K A : Type 0} (begins : List ℕ → Bool) (item : List ℕ → Result (A × List ℕ) (K × ℕ)) (P : List ℕ → A → Type 0) (Free : List ℕ → Type 0) → Items begins P Free → Again item P Free
    → (n : ℕ) (s : List ℕ) (xs : List A) (r : List ℕ) → length s ≤ n → IsMore P s xs → Free r → begins r ≡ false → more begins item n (s ++ r) ≡ Ok (xs, r)
more_again begins item P Free items again n s [] r fuel h free none = ap (λ (l : List ℕ). more begins item n (l ++ r)) h ∙ none_more begins item n r none
more_again begins item P Free items again zero s (x ∷ xs) r fuel h free none =
    absurd (some_length h.0 h.1 (items.some h.0 x h.2) (subst (λ (l : List ℕ). length l ≤ 0) h.4 fuel))
more_again begins item P Free items again (suc n) s (x ∷ xs) r fuel h free none =
    let whole : s ++ r ≡ h.0 ++ (h.1 ++ r) = ap (λ (l : List ℕ). l ++ r) h.4 ∙ append_assoc h.0 h.1 r in
    let rest = more_free begins P Free items h.1 xs r h.3 free in
    let others = more_again begins item P Free items again n h.1 xs r (longer h.0 h.1 n (items.some h.0 x h.2) (subst (λ (l : List ℕ). length l ≤ suc n) h.4 fuel)) h.3 free none in
    ap (more begins item (suc n)) whole ∙ one_more begins item n (h.0 ++ (h.1 ++ r)) (h.1 ++ r) r x xs (items.starts h.0 x (h.1 ++ r) h.2 rest) (again h.0 x (h.1 ++ r) h.2 rest) others

pub all_again : {K A : Type 0} (begins : List ℕ → Bool) (item : List ℕ → Result (A × List ℕ) (K × ℕ)) (P : List ℕ → A → Type 0) (Free : List ℕ → Type 0) → Items begins P Free → Again item P Free
    → (s : List ℕ) (xs : List A) (r : List ℕ) → IsMore P s xs → Free r → begins r ≡ false → all_at begins item (s ++ r) ≡ Ok (xs, r)
all_again begins item P Free items again s xs r h free none = more_again begins item P Free items again (length (s ++ r)) s xs r (omega (arith, length-append s r)) h free none

-- one reader behind another: what the second takes may stand behind the first
pub then_again : {K A B : Type 0} (item : List ℕ → Result (A × List ℕ) (K × ℕ)) (f : A → List ℕ → Result (B × List ℕ) (K × ℕ)) (P : List ℕ → A → Type 0) (Q : A → List ℕ → B → Type 0) (First : List ℕ → Type 0) (Free : List ℕ → Type 0)
    → Again item P First → ((x : A) → Again (f x) (Q x) Free) → ((x : A) (s : List ℕ) (y : B) (r : List ℕ) → Q x s y → Free r → First (s ++ r)) → Again (λ t. item t >>= λ p. f p.0 p.1) (Then P Q) Free
then_again item f P Q First Free again next meet s y r h free =
    let whole : s ++ r ≡ h.0 ++ (h.1 ++ r) = ap (λ (l : List ℕ). l ++ r) h.5 ∙ append_assoc h.0 h.1 r in
    let one = again h.0 h.2 (h.1 ++ r) h.3 (meet h.2 h.1 y r h.4 free) in
    ap (λ (l : List ℕ). item l >>= λ p. f p.0 p.1) whole ∙ ap (λ z. z >>= λ p. f p.0 p.1) one ∙ next h.2 h.1 y r h.4 free
