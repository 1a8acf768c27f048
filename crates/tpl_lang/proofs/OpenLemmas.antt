-- A text that is cut where its fault stands has no fault before its end: the law of each way in which readers are made of readers.
use Rattle.std.proofs.Common.{◌≡◌, ℕ, zero, suc, ◌+◌, ◌<◌, ◌≤◌, Bool, true, false, not, cond, eqb, List, [], ◌∷◌, ◌++◌, length, take, drop, Result, Ok, Err, refl, sym, ap, subst, ◌∙◌, append-nil, arith, inl, inr, ◌⊎◌}
use Rattle.std.specs.List.{prefix_len}
use Rattle.std.proofs.lemmas.Bool.{ne_eqb}
use Rattle.std.proofs.lemmas.List.{nil_from_length, length-append, length-drop, take-append-le}
use Rattle.std.proofs.lemmas.List.Sums.{prefix_len-le-length}
use Rattle.read_base.specs.Reads.{◌>>=◌, Or, is_at, mark_at, run_at, more, all_at}
use Rattle.read_base.proofs.LocalLemmas.{drop_short, more_fuel, Takes_some}
use Rattle.tpl_lang.specs.declared.tpl_kind.TplKind.{TplKind}
use Rattle.text_base.proofs.Logic.{same_head, same_tail}
use Rattle.read_base.specs.Laws.{head_is}
use Rattle.tpl_lang.proofs.SpellsLemmas.{TakesSo, SpellsSo, SpellsAt}
use Rattle.tpl_lang.proofs.AgainLemmas.{AgainSo}

abbrev pub Reading : Type 0 → Type 0
Reading A = Result (A × List ℕ) (TplKind × ℕ)

-- reading ended with the text, by a value or by a fault
abbrev pub AtEnd : {A : Type 0} → Reading A → Type 0
AtEnd (Ok p) = p.1 ≡ []
AtEnd (Err e) = e.1 ≡ 0

-- what is left is no more than what was given, and a fault stands within it
abbrev pub Less : {A : Type 0} → List ℕ → Reading A → Type 0
Less t (Ok p) = length p.1 ≤ length t
Less t (Err e) = e.1 ≤ length t

-- Reading of a text with c at its end, and of the text without c. Where the first leaves c, the second is the same or ended with its text; where
-- the first has its fault where c begins, the second ended with its text.
abbrev pub CutsTo : {A : Type 0} → List ℕ → Reading A → Reading A → Type 0
CutsTo c (Ok p) r = length c ≤ length p.1 → (q : List ℕ) × (p.1 ≡ q ++ c) × ((r ≡ Ok (p.0, q)) ⊎ AtEnd r)
CutsTo c (Err e) r = e.1 ≡ length c → AtEnd r

pub record Cuts {A : Type 0} (item : List ℕ → Reading A) : Type 0 where
  pub less : (t : List ℕ) → Less t (item t)
  pub none : AtEnd (item [])
  pub cuts : (s c : List ℕ) → CutsTo c (item (s ++ c)) (item s)

-- the second one may be any that ended
pub ended : {A : Type 0} (c : List ℕ) (z r r' : Reading A) → CutsTo c z r → AtEnd r' → CutsTo c z r'
ended c (Ok p) r r' h k = λ big. let m = h big in (m.0, m.1, inr k)
ended c (Err e) r r' h k = λ same. k

-- a fault that stands before c
pub before_cut : {A : Type 0} (c : List ℕ) (k : TplKind) (n : ℕ) (r : Reading A) → length c < n → CutsTo {A = A} c (Err (k, n)) r
before_cut c k n r lt = λ same. absurd (omega (arith, same, lt))

-- a value behind which less than c is left
pub past_cut : {A : Type 0} (c : List ℕ) (p : A × List ℕ) (r : Reading A) → length p.1 < length c → CutsTo c (Ok p) r
past_cut c p r lt = λ big. absurd (omega (arith, big, lt))

-- a reading that is surely past c
abbrev pub Past : {A : Type 0} → List ℕ → Reading A → Type 0
Past c (Ok p) = length p.1 < length c
Past c (Err e) = e.1 < length c

pub past_cuts : {A : Type 0} (c : List ℕ) (z r : Reading A) → Past c z → CutsTo c z r
past_cuts c (Ok p) r h = λ big. absurd (omega (arith, big, h))
past_cuts c (Err e) r h = λ same. absurd (omega (arith, same, h))

-- nothing is left behind a whole text
pub drop_all_of : (n : ℕ) (s : List ℕ) → n ≡ length s → drop n s ≡ []
drop_all_of n s e = nil_from_length (drop n s) (omega (arith, e, length-drop n s))

-- ---- the plain ones

pub pure_cuts : {A : Type 0} (x : A) → Cuts (λ t. Ok (x, t))
pure_cuts x = record { less = λ t. omega arith; none = refl; cuts = λ s c. λ big. (s, refl, inl refl) }

-- a fault at the front
pub stop_cuts : {A : Type 0} (k : TplKind) → Cuts {A = A} (λ t. Err (k, length t))
stop_cuts k = record { less = λ t. omega arith; none = refl; cuts = λ s c. λ same. omega (arith, same, length-append s c) }

-- a fault at the end of the text
pub end_cuts : {A : Type 0} (k : TplKind) → Cuts {A = A} (λ t. Err (k, 0))
end_cuts k = record { less = λ t. omega arith; none = refl; cuts = λ s c. λ same. refl }

pub same_cuts : {A : Type 0} (f g : List ℕ → Reading A) → ((t : List ℕ) → f t ≡ g t) → Cuts f → Cuts g
same_cuts f g e law = record {
  less = λ t. subst (Less t) (e t) (law.less t);
  none = subst AtEnd (e []) law.none;
  cuts = λ s c. subst (λ z. CutsTo c z (g s)) (e (s ++ c)) (subst (λ z. CutsTo c (f (s ++ c)) z) (e s) (law.cuts s c));
}

-- without anything behind it
pub whole_cuts : {A : Type 0} (z : Reading A) → CutsTo [] z z
whole_cuts (Ok p) = λ big. (p.1, sym (append-nil p.1), inl refl)
whole_cuts (Err e) = λ same. same

pub nil_cuts : {A : Type 0} (item : List ℕ → Reading A) (s : List ℕ) → CutsTo [] (item (s ++ [])) (item s)
nil_cuts item s = subst (λ (l : List ℕ). CutsTo [] (item l) (item s)) (sym (append-nil s)) (whole_cuts (item s))

-- ---- behind a byte that was looked at

pub less_more : {A : Type 0} (u t : List ℕ) (r : Reading A) → length u ≤ length t → Less u r → Less t r
less_more u t (Ok p) le h = omega (arith, le, h)
less_more u t (Err e) le h = omega (arith, le, h)

-- what is read of less than c is past it
pub less_past : {A : Type 0} (c u : List ℕ) (r : Reading A) → length u < length c → Less u r → Past c r
less_past c u (Ok p) lt h = omega (arith, lt, h)
less_past c u (Err e) lt h = omega (arith, lt, h)

drop_by : {A : Type 0} (item : List ℕ → Reading A) → Cuts item → (s c : List ℕ) → CutsTo c (item (drop 1 (s ++ c))) (item (drop 1 s))
drop_by item law [] [] = law.cuts [] []
drop_by item law [] (a ∷ c) = past_cuts (a ∷ c) (item c) (item []) (less_past (a ∷ c) c (item c) (omega arith) (law.less c))
drop_by item law (b ∷ s) c = law.cuts s c

pub drop_cuts : {A : Type 0} (item : List ℕ → Reading A) → Cuts item → Cuts (λ t. item (drop 1 t))
drop_cuts {A} item law = record {
  less = λ t. less_more (drop 1 t) t (item (drop 1 t)) (omega (arith, length-drop 1 t)) (law.less (drop 1 t));
  none = law.none;
  cuts = λ s c. drop_by item law s c;
}

-- ---- cases by the first byte

-- a test of the first byte alone
abbrev pub Head : (List ℕ → Bool) → Type 0
Head p = (b : ℕ) (r r' : List ℕ) → p (b ∷ r) ≡ p (b ∷ r')

cond_less : {A : Type 0} (v : Bool) (t : List ℕ) (x y : Reading A) → Less t x → Less t y → Less t (cond v x y)
cond_less true t x y h k = h
cond_less false t x y h k = k

cond_end : {A : Type 0} (v : Bool) (x y : Reading A) → AtEnd x → AtEnd y → AtEnd (cond v x y)
cond_end true x y h k = h
cond_end false x y h k = k

-- one case or the other, where the cut text's reading ended
pub cond_ended : {A : Type 0} (c : List ℕ) (v : Bool) (x y x' y' r : Reading A) → CutsTo c x x' → CutsTo c y y' → AtEnd r → CutsTo c (cond v x y) r
cond_ended c true x y x' y' r h k e = ended c x x' r h e
cond_ended c false x y x' y' r h k e = ended c y y' r k e

-- the same case in both
pub cond_same : {A : Type 0} (c : List ℕ) (v v' : Bool) (x y x' y' : Reading A) → v ≡ v' → CutsTo c x x' → CutsTo c y y' → CutsTo c (cond v x y) (cond v' x' y')
cond_same c true true x y x' y' e h k = h
cond_same c true false x y x' y' e h k = absurd cc
cond_same c false true x y x' y' e h k = absurd cc
cond_same c false false x y x' y' e h k = k

cond_by : {A : Type 0} (p : List ℕ → Bool) (f g : List ℕ → Reading A) → Head p → Cuts f → Cuts g → (s c : List ℕ) → CutsTo c (cond (p (s ++ c)) (f (s ++ c)) (g (s ++ c))) (cond (p s) (f s) (g s))
cond_by p f g head cf cg [] c = cond_ended c (p c) (f c) (g c) (f []) (g []) (cond (p []) (f []) (g [])) (cf.cuts [] c) (cg.cuts [] c) (cond_end (p []) (f []) (g []) cf.none cg.none)
cond_by p f g head cf cg (b ∷ s) c = cond_same c (p (b ∷ (s ++ c))) (p (b ∷ s)) (f (b ∷ (s ++ c))) (g (b ∷ (s ++ c))) (f (b ∷ s)) (g (b ∷ s)) (head b (s ++ c) s) (cf.cuts (b ∷ s) c) (cg.cuts (b ∷ s) c)

pub cond_cuts : {A : Type 0} (p : List ℕ → Bool) (f g : List ℕ → Reading A) → Head p → Cuts f → Cuts g → Cuts (λ t. cond (p t) (f t) (g t))
cond_cuts p f g head cf cg = record {
  less = λ t. cond_less (p t) t (f t) (g t) (cf.less t) (cg.less t);
  none = cond_end (p []) (f []) (g []) cf.none cg.none;
  cuts = λ s c. cond_by p f g head cf cg s c;
}

pub at_head : (m : ℕ) → Head (is_at m)
at_head m b r r' = refl

-- ---- one reader behind another

bind_less : {A B : Type 0} (f : A → List ℕ → Reading B) → ((x : A) → Cuts (f x)) → (t : List ℕ) (r : Reading A) → Less t r → Less t (r >>= λ p. f p.0 p.1)
bind_less f fl t (Ok p) h = less_more p.1 t (f p.0 p.1) h ((fl p.0).less p.1)
bind_less f fl t (Err e) h = h

bind_end : {A B : Type 0} (f : A → List ℕ → Reading B) → ((x : A) → Cuts (f x)) → (r : Reading A) → AtEnd r → AtEnd (r >>= λ p. f p.0 p.1)
bind_end f fl (Ok p) h = subst (λ (l : List ℕ). AtEnd (f p.0 l)) (sym h) (fl p.0).none
bind_end f fl (Err e) h = h

-- what is read behind a place is read there only where the place is before c
within_it : {B : Type 0} (c u : List ℕ) (z r : Reading B) → Less u z → (length c ≤ length u → CutsTo c z r) → CutsTo c z r
within_it c u (Ok p) r less h = λ big. let le : length c ≤ length u = omega (arith, big, less) in h le big
within_it c u (Err e) r less h = λ same. let le : length c ≤ length u = omega (arith, same, less) in h le same

bind_parts : {A B : Type 0} (f : A → List ℕ → Reading B) → ((x : A) → Cuts (f x)) → (c : List ℕ) (p : A × List ℕ) (r' : Reading A) (q : List ℕ) → p.1 ≡ q ++ c → ((r' ≡ Ok (p.0, q)) ⊎ AtEnd r') → CutsTo c (f p.0 p.1) (r' >>= λ p. f p.0 p.1)
bind_parts {A} {B} f fl c p r' q e (inl is) =
    subst (λ (l : List ℕ). CutsTo c (f p.0 l) (r' >>= λ p. f p.0 p.1)) (sym e) (subst (λ (z : Reading A). CutsTo c (f p.0 (q ++ c)) (z >>= λ p. f p.0 p.1)) (sym is) ((fl p.0).cuts q c))
bind_parts {A} {B} f fl c p r' q e (inr end) =
    subst (λ (l : List ℕ). CutsTo c (f p.0 l) (r' >>= λ p. f p.0 p.1)) (sym e) (ended c (f p.0 (q ++ c)) (f p.0 q) (r' >>= λ p. f p.0 p.1) ((fl p.0).cuts q c) (bind_end f fl r' end))

bind_cuts : {A B : Type 0} (f : A → List ℕ → Reading B) → ((x : A) → Cuts (f x)) → (c : List ℕ) (r r' : Reading A) → CutsTo c r r' → CutsTo c (r >>= λ p. f p.0 p.1) (r' >>= λ p. f p.0 p.1)
bind_cuts f fl c (Ok p) r' law = within_it c p.1 (f p.0 p.1) (r' >>= λ p. f p.0 p.1) ((fl p.0).less p.1) (λ big. let m = law big in bind_parts f fl c p r' m.0 m.1 m.2)
bind_cuts f fl c (Err e) r' law = λ same. bind_end f fl r' (law same)

pub then_cuts : {A B : Type 0} (item : List ℕ → Reading A) (f : A → List ℕ → Reading B) → Cuts item → ((x : A) → Cuts (f x)) → Cuts (λ t. item t >>= λ p. f p.0 p.1)
then_cuts item f law fl = record {
  less = λ t. bind_less f fl t (item t) (law.less t);
  none = bind_end f fl (item []) law.none;
  cuts = λ s c. bind_cuts f fl c (item (s ++ c)) (item s) (law.cuts s c);
}

-- ---- marks

abbrev chosen_mark : TplKind → Bool → List ℕ → Or TplKind (List ℕ)
chosen_mark k v t = cond v (Ok (drop 1 t)) (Err (k, length t))

mark_by : {B : Type 0} (k : TplKind) (v : Bool) (t : List ℕ) (f : List ℕ → Reading B) → cond v (f (drop 1 t)) (Err (k, length t)) ≡ (chosen_mark k v t >>= f)
mark_by k true t f = refl
mark_by k false t f = refl

pub mark_cuts : {B : Type 0} (k : TplKind) (m : ℕ) (f : List ℕ → Reading B) → Cuts f → Cuts (λ t. mark_at k m t >>= f)
mark_cuts k m f law = same_cuts (λ t. cond (is_at m t) (f (drop 1 t)) (Err (k, length t))) (λ t. mark_at k m t >>= f) (λ t. mark_by k (is_at m t) t f)
    (cond_cuts (is_at m) (λ t. f (drop 1 t)) (λ t. Err (k, length t)) (at_head m) (drop_cuts f law) (stop_cuts k))

-- ---- runs

run_step : (p : ℕ → Bool) (v : Bool) (s c : List ℕ) → (prefix_len p (s ++ c) ≤ length s → prefix_len p s ≡ prefix_len p (s ++ c)) → cond v (1 + prefix_len p (s ++ c)) 0 ≤ suc (length s) → cond v (1 + prefix_len p s) 0 ≡ cond v (1 + prefix_len p (s ++ c)) 0
run_step p true s c so h = ap (λ (n : ℕ). 1 + n) (so (omega (arith, h)))
run_step p false s c so h = refl

-- a run that ends before c is the same without it
pub run_kept : (p : ℕ → Bool) (s c : List ℕ) → prefix_len p (s ++ c) ≤ length s → prefix_len p s ≡ prefix_len p (s ++ c)
run_kept p [] c h = omega (arith, h)
run_kept p (b ∷ s) c h = run_step p (p b) s c (run_kept p s c) h

all_step : (p : ℕ → Bool) (v : Bool) (s c : List ℕ) → (length s ≤ prefix_len p (s ++ c) → prefix_len p s ≡ length s) → suc (length s) ≤ cond v (1 + prefix_len p (s ++ c)) 0 → cond v (1 + prefix_len p s) 0 ≡ suc (length s)
all_step p true s c so h = omega (arith, so (omega (arith, h)))
all_step p false s c so h = absurd (omega (arith, h))

-- a run that goes up to c is all of the text without it
pub run_full : (p : ℕ → Bool) (s c : List ℕ) → length s ≤ prefix_len p (s ++ c) → prefix_len p s ≡ length s
run_full p [] c h = refl
run_full p (b ∷ s) c h = all_step p (p b) s c (run_full p s c) h

abbrev pub cut_run : ℕ → List ℕ → Reading (List ℕ)
cut_run n t = Ok (take n t, drop n t)

abbrev cut_run_of : List ℕ → List ℕ → Reading (List ℕ)
cut_run_of x y = Ok (x, y)

cut_kept : (n m : ℕ) (s c : List ℕ) → n ≤ length s → m ≡ n → cut_run m s ≡ Ok (take n (s ++ c), drop n s)
cut_kept n m s c le e = ap (λ (k : ℕ). cut_run k s) e ∙ ap (λ (l : List ℕ). cut_run_of l (drop n s)) (sym (take-append-le n s c le))

pub run_cuts : (p : ℕ → Bool) → Cuts (λ t. cut_run (prefix_len p t) t)
run_cuts p = record {
  less = λ t. omega (arith, length-drop (prefix_len p t) t);
  none = refl;
  cuts = λ s c. λ big.
      let n = prefix_len p (s ++ c) in
      let le : n ≤ length s = omega (arith, big, length-drop n (s ++ c), length-append s c, prefix_len-le-length p (s ++ c)) in
      (drop n s, drop_short n s c le, inl (cut_kept n (prefix_len p s) s c le (run_kept p s c le)));
}

run_head_by : (v : Bool) (n m : ℕ) → eqb (cond v (1 + n) 0) 0 ≡ eqb (cond v (1 + m) 0) 0
run_head_by true n m = ne_eqb (1 + n) 0 (λ e. omega (arith, e)) ∙ sym (ne_eqb (1 + m) 0 (λ e. omega (arith, e)))
run_head_by false n m = refl

-- whether a run is empty is told by the first byte
pub run_head : (p : ℕ → Bool) → Head (λ t. eqb (prefix_len p t) 0)
run_head p b r r' = run_head_by (p b) (prefix_len p r) (prefix_len p r')

pub some_run_cuts : (k : TplKind) (p : ℕ → Bool) → Cuts (run_at k p)
some_run_cuts k p = cond_cuts (λ t. eqb (prefix_len p t) 0) (λ t. Err (k, length t)) (λ t. cut_run (prefix_len p t) t) (run_head p) (stop_cuts k) (run_cuts p)

-- ---- items one after the other

pub more_cuts : {A : Type 0} (begins : List ℕ → Bool) (item : List ℕ → Reading A) → Head begins → Cuts item → (n : ℕ) → Cuts (more begins item n)
unfolding more
more_cuts begins item head law zero = pure_cuts []
more_cuts begins item head law (suc n) =
    cond_cuts begins (λ t. item t >>= λ x. more begins item n x.1 >>= λ xs. Ok (x.0 ∷ xs.0, xs.1)) (λ t. Ok ([], t)) head
    (then_cuts item (λ x r. more begins item n r >>= λ xs. Ok (x ∷ xs.0, xs.1)) law (λ x. then_cuts (more begins item n) (λ xs r. Ok (x ∷ xs, r)) (more_cuts begins item head law n) (λ xs. pure_cuts (x ∷ xs))))
    (pure_cuts [])

pub all_cuts : {A : Type 0} (begins : List ℕ → Bool) (item : List ℕ → Reading A) → begins [] ≡ false → Takes_some begins item → Head begins → Cuts item → Cuts (all_at begins item)
all_cuts begins item none some head law = record {
  less = λ t. (more_cuts begins item head law (length t)).less t;
  none = (more_cuts begins item head law 0).none;
  cuts = λ s c.
      let n = length (s ++ c) in
      let e = more_fuel begins item none some (length s) n s (omega arith) (omega (arith, length-append s c)) in
      subst (λ z. CutsTo c (more begins item n (s ++ c)) z) (sym e) ((more_cuts begins item head law n).cuts s c);
}

takes_less : (t s r : List ℕ) → t ≡ s ++ r → 0 < length s → length r < length t
takes_less t s r e some = omega (arith, ap length e, length-append s r, some)

-- an item of one byte or more takes some
pub takes_some : {A : Type 0} (begins : List ℕ → Bool) (item : List ℕ → Reading A) (P : List ℕ → List ℕ → A → Type 0) → ((s r : List ℕ) (x : A) → P s r x → 0 < length s) → SpellsAt begins item P → Takes_some begins item
takes_some begins item P some spells t p here e = let one = spells t p here e in takes_less t one.0 p.1 one.2 (some one.0 p.1 p.0 one.1)

-- ---- readers of small pieces: what is spelled is read, and a fault stands at the front of a text or at its end

abbrev pub Edge : {A : Type 0} → List ℕ → Reading A → Type 0
Edge t (Ok p) = Unit {0}
Edge t (Err e) = (e.1 ≡ 0) ⊎ (e.1 ≡ length t)

pub edge_cond : {A : Type 0} (v : Bool) (t : List ℕ) (x y : Reading A) → Edge t x → Edge t y → Edge t (cond v x y)
edge_cond true t x y h k = h
edge_cond false t x y h k = k

abbrev pub given_by : {A B : Type 0} → (A → B) → A × List ℕ → Reading B
given_by f p = Ok (f p.0, p.1)

pub edge_bind : {A B : Type 0} (t : List ℕ) (r : Reading A) (f : A → B) → Edge t r → Edge t (r >>= λ p. given_by f p)
edge_bind t (Ok p) f h = tt
edge_bind t (Err e) f h = h

-- a text that is a piece and more than c is the piece, what is left, and c
pub parted : (w s c r : List ℕ) → s ++ c ≡ w ++ r → length c ≤ length r → (q : List ℕ) × (r ≡ q ++ c) × (s ≡ w ++ q)
parted [] s c r e le = (s, sym e, refl)
parted (b ∷ w) [] c r e le = absurd (omega (arith, ap length e, length-append w r, le))
parted (b ∷ w) (d ∷ s) c r e le =
    let m = parted w s c r (same_tail d b (s ++ c) (w ++ r) e) le in
    (m.0, m.1, ap (λ (x : ℕ). x ∷ s) (same_head d b (s ++ c) (w ++ r) e) ∙ ap (λ (l : List ℕ). b ∷ l) m.2)

-- what is spelled before c is spelled without it
abbrev pub Kept : {A : Type 0} → (List ℕ → List ℕ → A → Type 0) → Type 0
Kept {A} P = (w q c : List ℕ) (x : A) → P w (q ++ c) x → P w q x

law_ok : {A : Type 0} (item : List ℕ → Reading A) (P : List ℕ → List ℕ → A → Type 0) → AgainSo item P → Kept P → (s c : List ℕ) (p : A × List ℕ) → TakesSo P (s ++ c) p → CutsTo c (Ok p) (item s)
law_ok {A} item P again kept s c p one = λ big.
    let m = parted one.0 s c p.1 one.2 big in
    let is : P one.0 (m.0 ++ c) p.0 = subst (λ (l : List ℕ). P one.0 l p.0) m.1 one.1 in
    let read : item (one.0 ++ m.0) ≡ Ok (p.0, m.0) = again one.0 m.0 p.0 (kept one.0 m.0 c p.0 is) in
    (m.0, m.1, inl (ap item m.2 ∙ read))

law_err : {A : Type 0} (b a : ℕ) (s c : List ℕ) (e : TplKind × ℕ) (r : Reading A) → (e.1 ≡ 0) ⊎ (e.1 ≡ length ((b ∷ s) ++ a ∷ c)) → CutsTo (a ∷ c) (Err e) r
law_err b a s c e r (inl h) = λ same. absurd (omega (arith, same, h))
law_err b a s c e r (inr h) = λ same. absurd (omega (arith, same, h, length-append (b ∷ s) (a ∷ c)))

law_by : {A : Type 0} (item : List ℕ → Reading A) (P : List ℕ → List ℕ → A → Type 0) → AgainSo item P → Kept P → (b a : ℕ) (s c : List ℕ) (z : Reading A) → ((p : A × List ℕ) → z ≡ Ok p → TakesSo P ((b ∷ s) ++ a ∷ c) p) → Edge ((b ∷ s) ++ a ∷ c) z → CutsTo (a ∷ c) z (item (b ∷ s))
law_by item P again kept b a s c (Ok p) spells edge = law_ok item P again kept (b ∷ s) (a ∷ c) p (spells p refl)
law_by item P again kept b a s c (Err e) spells edge = law_err b a s c e (item (b ∷ s)) edge

law_front : {A : Type 0} (item : List ℕ → Reading A) (P : List ℕ → List ℕ → A → Type 0) → AgainSo item P → Kept P → (c : List ℕ) (z : Reading A) → ((p : A × List ℕ) → z ≡ Ok p → TakesSo P c p) → AtEnd (item []) → CutsTo c z (item [])
law_front item P again kept c (Ok p) spells none = law_ok item P again kept [] c p (spells p refl)
law_front item P again kept c (Err e) spells none = λ same. none

law_cut : {A : Type 0} (item : List ℕ → Reading A) (P : List ℕ → List ℕ → A → Type 0) → SpellsSo item P → AgainSo item P → Kept P → AtEnd (item []) → ((t : List ℕ) → Edge t (item t)) → (s c : List ℕ) → CutsTo c (item (s ++ c)) (item s)
law_cut item P spells again kept none edge s [] = nil_cuts item s
law_cut item P spells again kept none edge [] (a ∷ c) = law_front item P again kept (a ∷ c) (item (a ∷ c)) (λ p e. spells (a ∷ c) p e) none
law_cut item P spells again kept none edge (b ∷ s) (a ∷ c) = law_by item P again kept b a s c (item ((b ∷ s) ++ a ∷ c)) (λ p e. spells ((b ∷ s) ++ a ∷ c) p e) (edge ((b ∷ s) ++ a ∷ c))

law_less : {A : Type 0} (P : List ℕ → List ℕ → A → Type 0) (t : List ℕ) (z : Reading A) → ((p : A × List ℕ) → z ≡ Ok p → TakesSo P t p) → Edge t z → Less t z
law_less P t (Ok p) spells edge = let one = spells p refl in omega (arith, ap length one.2, length-append one.0 p.1)
law_less P t (Err e) spells (inl h) = omega (arith, h)
law_less P t (Err e) spells (inr h) = omega (arith, h)

pub law_cuts : {A : Type 0} (item : List ℕ → Reading A) (P : List ℕ → List ℕ → A → Type 0) → SpellsSo item P → AgainSo item P → Kept P → AtEnd (item []) → ((t : List ℕ) → Edge t (item t)) → Cuts item
law_cuts item P spells again kept none edge = record {
  less = λ t. law_less P t (item t) (λ p e. spells t p e) (edge t);
  none = none;
  cuts = law_cut item P spells again kept none edge;
}

-- a run before c is one without it
pub run_stays : (p : ℕ → Bool) (q c : List ℕ) → head_is (λ b. not (p b)) (q ++ c) ≡ true → head_is (λ b. not (p b)) q ≡ true
run_stays p [] c h = refl
run_stays p (b ∷ q) c h = h
