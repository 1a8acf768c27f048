-- What is spelled so is taken.
use Rattle.std.proofs.Common.{◌≡◌, ℕ, zero, suc, ◌<◌, ◌≤◌, Bool, true, false, cond, List, [], ◌∷◌, ◌++◌, length, take, drop, Result, Ok, refl, sym, ap, subst, ◌∙◌, append_assoc, arith}
use Rattle.std.specs.List.{prefix_len}
use Rattle.std.proofs.lemmas.Bool.{ne_eqb, both_ways}
use Rattle.std.proofs.lemmas.List.{take_at, drop_at, length-append}
use Rattle.read_base.specs.Reads.{◌>>=◌, is_at, run_at, more, all_at}
use Rattle.read_base.specs.Spelled.{AreAll}
use Rattle.read_base.proofs.StepLemmas.{run_len, run_again}
use Rattle.tpl_lang.specs.declared.tpl_kind.TplKind.{TplKind}
use Rattle.tpl_lang.specs.Spelled.{IsEnd, Follows, AllOf, Marked, IsRun, IsSomeRun}
use Rattle.tpl_lang.proofs.SpellsLemmas.{marked_some}

-- what is spelled so before a rest is taken
abbrev pub AgainSo : {A : Type 0} → (List ℕ → Result (A × List ℕ) (TplKind × ℕ)) → (List ℕ → List ℕ → A → Type 0) → Type 0
AgainSo {A} item P = (s r : List ℕ) (x : A) → P s r x → item (s ++ r) ≡ Ok (x, r)

abbrev pub taken : {A : Type 0} → A → List ℕ → Result (A × List ℕ) (TplKind × ℕ)
taken x r = Ok (x, r)

abbrev pub given : {A : Type 0} → A × List ℕ → Result (A × List ℕ) (TplKind × ℕ)
given p = Ok p

-- ---- which case is taken

pub cond_yes : {A : Type 0} (b : Bool) (x y : A) → b ≡ true → cond b x y ≡ x
cond_yes true x y h = refl
cond_yes false x y h = absurd cc

pub cond_no : {A : Type 0} (b : Bool) (x y : A) → b ≡ false → cond b x y ≡ y
cond_no true x y h = absurd cc
cond_no false x y h = refl

-- of three cases the last one, of four the third and the last
pub third_of_three : {A : Type 0} (a b : Bool) (x y z : A) → a ≡ false → b ≡ false → cond a x (cond b y z) ≡ z
third_of_three true b x y z h k = absurd cc
third_of_three false true x y z h k = absurd cc
third_of_three false false x y z h k = refl

pub third_of_four : {A : Type 0} (a b c : Bool) (x y z w : A) → a ≡ false → b ≡ false → c ≡ true → cond a x (cond b y (cond c z w)) ≡ z
third_of_four true b c x y z w h k l = absurd cc
third_of_four false true c x y z w h k l = absurd cc
third_of_four false false false x y z w h k l = absurd cc
third_of_four false false true x y z w h k l = refl

pub last_of_four : {A : Type 0} (a b c : Bool) (x y z w : A) → a ≡ false → b ≡ false → c ≡ false → cond a x (cond b y (cond c z w)) ≡ w
last_of_four true b c x y z w h k l = absurd cc
last_of_four false true c x y z w h k l = absurd cc
last_of_four false false true x y z w h k l = absurd cc
last_of_four false false false x y z w h k l = refl

-- a step that does not fail
pub step_on : {A B : Type 0} (r : Result A (TplKind × ℕ)) (f : A → Result B (TplKind × ℕ)) (x : A) → r ≡ Ok x → (r >>= f) ≡ f x
step_on {A} {B} r f x e = ap (λ (z : Result A (TplKind × ℕ)). z >>= f) e

-- a front and what stands behind it
pub front_moved : (s one other r : List ℕ) → s ≡ one ++ other → s ++ r ≡ one ++ (other ++ r)
front_moved s one other r e = ap (λ (l : List ℕ). l ++ r) e ∙ append_assoc one other r

-- a text that begins with a byte of a run begins with no mark that is none
pub run_no_mark : (p : ℕ → Bool) (m : ℕ) (s r : List ℕ) → p m ≡ false → 0 < length s → AreAll p s → is_at m (s ++ r) ≡ false
run_no_mark p m [] r none some all = absurd (omega (arith, some))
run_no_mark p m (b ∷ s) r none some all = ne_eqb b m (λ e. both_ways (p m) none (ap p (sym e) ∙ all.0))

abbrev pub pair_of : List ℕ → List ℕ → List ℕ × List ℕ
pair_of x y = (x, y)

-- a text that is cut where a piece ends
pub cut_is : (s r : List ℕ) (n : ℕ) → length s ≡ n → pair_of (take n (s ++ r)) (drop n (s ++ r)) ≡ pair_of s r
cut_is s r n e = rw (take_at s r n e, drop_at s r n e) refl

-- ---- readers made of readers

pub end_again : {A : Type 0} (x : A) → AgainSo (λ t. Ok (x, t)) (IsEnd x)
end_again x s r y h = ap (λ (l : List ℕ). taken x (l ++ r)) h.0 ∙ ap (λ z. taken z r) (sym h.1)

pub follows_again : {A B : Type 0} (item : List ℕ → Result (A × List ℕ) (TplKind × ℕ)) (f : A → List ℕ → Result (B × List ℕ) (TplKind × ℕ)) (P : List ℕ → List ℕ → A → Type 0) (Q : A → List ℕ → List ℕ → B → Type 0)
    → AgainSo item P → ((x : A) → AgainSo (f x) (Q x)) → AgainSo (λ t. item t >>= λ p. f p.0 p.1) (Follows P Q)
follows_again {A} item f P Q law next s r y h =
    let whole : s ++ r ≡ h.0 ++ (h.1 ++ r) = ap (λ (l : List ℕ). l ++ r) h.5 ∙ append_assoc h.0 h.1 r in
    let one = law h.0 (h.1 ++ r) h.2 h.3 in
    ap (λ (l : List ℕ). item l >>= λ p. f p.0 p.1) whole ∙ ap (λ (z : Result (A × List ℕ) (TplKind × ℕ)). z >>= λ p. f p.0 p.1) one ∙ next h.2 h.1 r y h.4

pub marked_again : {A : Type 0} (mark : ℕ) (item : List ℕ → Result (A × List ℕ) (TplKind × ℕ)) (P : List ℕ → List ℕ → A → Type 0) → AgainSo item P → AgainSo (λ t. item (drop 1 t)) (Marked mark P)
marked_again mark item P law s r x h = ap (λ (l : List ℕ). item (drop 1 (l ++ r))) h.2 ∙ law h.0 r x h.1

none_more : {A : Type 0} (begins : List ℕ → Bool) (item : List ℕ → Result (A × List ℕ) (TplKind × ℕ)) (n : ℕ) (r : List ℕ) → begins r ≡ false → more begins item n r ≡ Ok ([], r)
unfolding more
none_more begins item zero r h = refl
none_more begins item (suc n) r h = rw h refl

one_more : {A : Type 0} (begins : List ℕ → Bool) (item : List ℕ → Result (A × List ℕ) (TplKind × ℕ)) (n : ℕ) (t w r : List ℕ) (x : A) (xs : List A) → begins t ≡ true → item t ≡ Ok (x, w) → more begins item n w ≡ Ok (xs, r) → more begins item (suc n) t ≡ Ok (x ∷ xs, r)
unfolding more
one_more begins item n t w r x xs e1 e2 e3 = rw (e1, e2, e3) refl

longer : (one others : List ℕ) (n : ℕ) → 0 < length one → length (one ++ others) ≤ suc n → length others ≤ n
longer one others n some h = omega (arith, some, h, length-append one others)

some_length : (one others : List ℕ) → 0 < length one → length (one ++ others) ≤ 0 → ⊥
some_length one others some h = omega (arith, some, h, length-append one others)

pub more_again : {A : Type 0} (begins : List ℕ → Bool) (item : List ℕ → Result (A × List ℕ) (TplKind × ℕ)) (P : List ℕ → List ℕ → A → Type 0) → ((s r : List ℕ) (x : A) → P s r x → 0 < length s) → AgainSo item P
    → (n : ℕ) (s r : List ℕ) (xs : List A) → length s ≤ n → AllOf begins P s r xs → more begins item n (s ++ r) ≡ Ok (xs, r)
more_again begins item P some law n s r [] fuel h = ap (λ (l : List ℕ). more begins item n (l ++ r)) h.0 ∙ none_more begins item n r h.1
more_again begins item P some law zero s r (x ∷ xs) fuel h = absurd (some_length h.0 h.1 (some h.0 (h.1 ++ r) x h.2) (subst (λ (l : List ℕ). length l ≤ 0) h.5 fuel))
more_again begins item P some law (suc n) s r (x ∷ xs) fuel h =
    let whole : s ++ r ≡ h.0 ++ (h.1 ++ r) = ap (λ (l : List ℕ). l ++ r) h.5 ∙ append_assoc h.0 h.1 r in
    let others = more_again begins item P some law n h.1 r xs (longer h.0 h.1 n (some h.0 (h.1 ++ r) x h.2) (subst (λ (l : List ℕ). length l ≤ suc n) h.5 fuel)) h.3 in
    one_more begins item n (s ++ r) (h.1 ++ r) r x xs h.4 (ap item whole ∙ law h.0 (h.1 ++ r) x h.2) others

pub all_again : {A : Type 0} (begins : List ℕ → Bool) (item : List ℕ → Result (A × List ℕ) (TplKind × ℕ)) (P : List ℕ → List ℕ → A → Type 0) → ((s r : List ℕ) (x : A) → P s r x → 0 < length s) → AgainSo item P → AgainSo (all_at begins item) (AllOf begins P)
all_again begins item P some law s r xs h = more_again begins item P some law (length (s ++ r)) s r xs (omega (arith, length-append s r)) h

-- all behind a mark
pub list_again : {A : Type 0} (mark : ℕ) (item : List ℕ → Result (A × List ℕ) (TplKind × ℕ)) (P : List ℕ → List ℕ → A → Type 0) → AgainSo item P → AgainSo (all_at (is_at mark) (λ t. item (drop 1 t))) (AllOf (is_at mark) (Marked mark P))
list_again mark item P law = all_again (is_at mark) (λ t. item (drop 1 t)) (Marked mark P) (marked_some mark P) (marked_again mark item P law)

pub some_run_again : (kind : TplKind) (p : ℕ → Bool) → AgainSo (run_at kind p) (IsSomeRun p)
some_run_again kind p s r x h = run_again kind p s r h.0 h.1.0 h.1.1 ∙ ap (λ (z : List ℕ). taken z r) (sym h.1.2)

pub run_again_so : (p : ℕ → Bool) → AgainSo (λ t. Ok (take (prefix_len p t) t, drop (prefix_len p t) t)) (IsRun p)
run_again_so p s r x h =
    let n = prefix_len p (s ++ r) in
    let len : n ≡ length s = run_len p s r h.0 h.1 in
    ap (λ (q : List ℕ × List ℕ). given q) (cut_is s r n (sym len)) ∙ ap (λ (z : List ℕ). taken z r) (sym h.2)
