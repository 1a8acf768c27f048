-- What is read up to a refused token does not depend on what follows it: the law of each way in which readers are made of readers.
use Rattle.std.proofs.Common.{◌≡◌, ℕ, zero, suc, ◌+◌, ◌-◌, ◌<◌, ◌≤◌, Bool, true, false, ◌&&◌, cond, eqb, List, [], ◌∷◌, ◌++◌, length, take, drop, Result, Ok, Err, refl, sym, ap, subst, ◌∙◌, append_assoc, arith}
use Rattle.std.specs.Prelude.{◌==◌}
use Rattle.std.specs.List.{prefix_len}
use Rattle.std.proofs.lemmas.Bool.{eqb-true, both_ways}
use Rattle.std.proofs.lemmas.List.{nil_from_length, take-append-drop, length-append, length-drop, take-append-le}
use Rattle.std.proofs.lemmas.List.Sums.{prefix_len-le-length}
use Rattle.read_base.specs.Reads.{◌>>=◌, Or, Read, skip, is_at, mark_at, run_at, more, all_at}
use Rattle.read_base.specs.Laws.{Settling, Twin, Shrinks, Within, Moved, Local}
use Rattle.read_base.proofs.StepLemmas.{gap_parts}

pub pure_local : {K A : Type 0} (S : Settling K) (x : A) → Local S (λ t. Ok (x, t))
pure_local S x = record { shrinks = λ t. ([], refl); moves = λ s c d w h. (s, refl, refl) }

stop_len : (s c d : List ℕ) → length (s ++ d) ≡ length (s ++ c) - length c + length d
stop_len s c d = omega (arith, length-append s c, length-append s d)

pub stop_local : {K A : Type 0} (S : Settling K) (k : K) → Local {A = A} S (λ t. Err (k, length t))
stop_local S k = record { shrinks = λ t l. omega arith; moves = λ s c d w h. ap (λ (n : ℕ). Err (k, n)) (stop_len s c d) }

pub shrink_more : {K A : Type 0} (S : Settling K) (g u t : List ℕ) (r : Result (A × List ℕ) (K × ℕ)) → t ≡ g ++ u → Shrinks S u r → Shrinks S t r
shrink_more S g u t (Ok p) e h = (g ++ h.0, e ∙ ap (λ (l : List ℕ). g ++ l) h.1 ∙ sym (append_assoc g h.0 p.1))
shrink_more S g u t (Err k) e h = λ l. omega (arith, h l, ap length e, length-append g u)

pub within_le : {K A : Type 0} (S : Settling K) (c u : List ℕ) (r : Result (A × List ℕ) (K × ℕ)) → Shrinks S u r → Within S c r → length c ≤ length u
within_le S c u (Ok p) h w = omega (arith, w, ap length h.1, length-append h.0 p.1)
within_le S c u (Err e) h w = omega (arith, w.1, h w.0)

cond_shrinks : {K A : Type 0} (S : Settling K) (v : Bool) (t : List ℕ) (x y : Result (A × List ℕ) (K × ℕ)) → Shrinks S t x → Shrinks S t y → Shrinks S t (cond v x y)
cond_shrinks S true t x y h k = h
cond_shrinks S false t x y h k = k

cond_moves : {K A : Type 0} (S : Settling K) (v v' : Bool) (c d : List ℕ) (x y x' y' : Result (A × List ℕ) (K × ℕ)) → v ≡ v' → (Within S c x → Moved c d x x') → (Within S c y → Moved c d y y') → Within S c (cond v x y) → Moved c d (cond v x y) (cond v' x' y')
cond_moves S true true c d x y x' y' e h k w = h w
cond_moves S true false c d x y x' y' e h k w = absurd cc
cond_moves S false true c d x y x' y' e h k w = absurd cc
cond_moves S false false c d x y x' y' e h k w = k w

-- a test that looks no further than the bytes that settle a fault
abbrev pub Near : {K : Type 0} → Settling K → (List ℕ → Bool) → Type 0
Near S p = (s c d : List ℕ) → Twin S c d → p (s ++ c) ≡ p (s ++ d)

pub cond_local : {K A : Type 0} (S : Settling K) (p : List ℕ → Bool) (f g : List ℕ → Result (A × List ℕ) (K × ℕ)) → Near S p → Local S f → Local S g → Local S (λ t. cond (p t) (f t) (g t))
cond_local S p f g near lf lg = record {
  shrinks = λ t. cond_shrinks S (p t) t (f t) (g t) (lf.shrinks t) (lg.shrinks t);
  moves = λ s c d w h. cond_moves S (p (s ++ c)) (p (s ++ d)) c d (f (s ++ c)) (g (s ++ c)) (f (s ++ d)) (g (s ++ d)) (near s c d w) (lf.moves s c d w) (lg.moves s c d w) h;
}

-- ---- spaces

solid_by : (p : ℕ → Bool) (v : Bool) (a : ℕ) → (a == 32) ≡ v → p 32 ≡ false → p a ≡ true → v ≡ false
solid_by p true a e h k = absurd (both_ways (p 32) h (ap p (sym (eqb-true a 32 e)) ∙ k))
solid_by p false a e h k = refl

solid_skip : (a : ℕ) (t : List ℕ) → (a == 32) ≡ false → skip (a ∷ t) ≡ a ∷ t
solid_skip a t h = rw h refl

pub twin_skip : {K : Type 0} (S : Settling K) (c d : List ℕ) → S.first 32 ≡ false → Twin S c d → (skip c ≡ c) × (skip d ≡ d)
twin_skip S c d none w =
    let solid : (w.a == 32) ≡ false = solid_by S.first (w.a == 32) w.a refl none w.solid in
    (ap skip w.one ∙ solid_skip w.a (w.w ++ w.u) solid ∙ sym w.one, ap skip w.other ∙ solid_skip w.a (w.w ++ w.v) solid ∙ sym w.other)

skip_by : (v : Bool) (b : ℕ) (s c : List ℕ) → skip (s ++ c) ≡ skip s ++ c → cond v (skip (s ++ c)) (b ∷ (s ++ c)) ≡ cond v (skip s) (b ∷ s) ++ c
skip_by true b s c h = h
skip_by false b s c h = refl

pub skip_append : (s c : List ℕ) → skip c ≡ c → skip (s ++ c) ≡ skip s ++ c
skip_append [] c h = h
skip_append (b ∷ s) c h = skip_by (b == 32) b s c (skip_append s c h)

pub skip_local : {K A : Type 0} (S : Settling K) (item : List ℕ → Result (A × List ℕ) (K × ℕ)) → S.first 32 ≡ false → Local S item → Local S (λ t. item (skip t))
skip_local S item none law = record {
  shrinks = λ t. let gap = gap_parts t in shrink_more S gap.0 (skip t) t (item (skip t)) gap.2 (law.shrinks (skip t));
  moves = λ s c d w h.
      let k = twin_skip S c d none w in
      let ec = skip_append s c k.0 in
      let ed = skip_append s d k.1 in
      let m = law.moves (skip s) c d w (subst (λ (l : List ℕ). Within S c (item l)) ec h) in
      subst (λ (l : List ℕ). Moved c d (item (skip (s ++ c))) (item l)) (sym ed) (subst (λ (l : List ℕ). Moved c d (item l) (item (skip s ++ d))) (sym ec) m);
}

-- ---- bytes that were looked at

drop_front : (n : ℕ) (t : List ℕ) → t ≡ take n t ++ drop n t
drop_front n t = sym (take-append-drop n t)

twin_len : {K : Type 0} (S : Settling K) (c d : List ℕ) → Twin S c d → 1 ≤ length c
twin_len S c d w = omega (arith, ap length w.one)

drop_moves : {K A : Type 0} (S : Settling K) (item : List ℕ → Result (A × List ℕ) (K × ℕ)) → Local S item → (n : ℕ) (s c d : List ℕ) → Twin S c d → Within S c (item (drop n (s ++ c))) → Moved c d (item (drop n (s ++ c))) (item (drop n (s ++ d)))
drop_moves S item law zero s c d w h = law.moves s c d w h
drop_moves S item law (suc n) [] c d w h = absurd (let le = within_le S c (drop (suc n) c) (item (drop (suc n) c)) (law.shrinks (drop (suc n) c)) h in omega (arith, le, length-drop (suc n) c, twin_len S c d w))
drop_moves S item law (suc n) (b ∷ s) c d w h = drop_moves S item law n s c d w h

pub drop_local : {K A : Type 0} (S : Settling K) (n : ℕ) (item : List ℕ → Result (A × List ℕ) (K × ℕ)) → Local S item → Local S (λ t. item (drop n t))
drop_local S n item law = record { shrinks = λ t. shrink_more S (take n t) (drop n t) t (item (drop n t)) (drop_front n t) (law.shrinks (drop n t)); moves = λ s c d w h. drop_moves S item law n s c d w h }

-- ---- one reader behind another; the second may ask what the first one was given

pub bind_shrinks : {K A B : Type 0} (S : Settling K) (f : List ℕ → A → List ℕ → Result (B × List ℕ) (K × ℕ)) → ((t : List ℕ) (x : A) (r : List ℕ) → Shrinks S r (f t x r)) → (t : List ℕ) (r : Result (A × List ℕ) (K × ℕ)) → Shrinks S t r → Shrinks S t (r >>= λ p. f t p.0 p.1)
bind_shrinks S f fs t (Ok p) h = shrink_more S h.0 p.1 t (f t p.0 p.1) h.1 (fs t p.0 p.1)
bind_shrinks S f fs t (Err e) h = h

abbrev pub MovesOn : {K A B : Type 0} → Settling K → (List ℕ → A → List ℕ → Result (B × List ℕ) (K × ℕ)) → Type 0
MovesOn {K} {A} S f = (x : A) (s q c d : List ℕ) → Twin S c d → Within S c (f (s ++ c) x (q ++ c)) → Moved c d (f (s ++ c) x (q ++ c)) (f (s ++ d) x (q ++ d))

bind_moves : {K A B : Type 0} (S : Settling K) (f : List ℕ → A → List ℕ → Result (B × List ℕ) (K × ℕ)) → ((t : List ℕ) (x : A) (r : List ℕ) → Shrinks S r (f t x r)) → MovesOn S f
    → (s c d : List ℕ) (r r' : Result (A × List ℕ) (K × ℕ)) → Twin S c d → (Within S c r → Moved c d r r') → Within S c (r >>= λ p. f (s ++ c) p.0 p.1) → Moved c d (r >>= λ p. f (s ++ c) p.0 p.1) (r' >>= λ p. f (s ++ d) p.0 p.1)
bind_moves {K} {A} {B} S f fs fm s c d (Ok p) r' w law h =
    let m = law (within_le S c p.1 (f (s ++ c) p.0 p.1) (fs (s ++ c) p.0 p.1) h) in
    let moved = fm p.0 s m.0 c d w (subst (λ (l : List ℕ). Within S c (f (s ++ c) p.0 l)) m.1 h) in
    let other : (r' >>= λ p. f (s ++ d) p.0 p.1) ≡ f (s ++ d) p.0 (m.0 ++ d) = ap (λ (z : Result (A × List ℕ) (K × ℕ)). z >>= λ p. f (s ++ d) p.0 p.1) m.2 in
    subst (λ z. Moved c d (f (s ++ c) p.0 p.1) z) (sym other) (subst (λ (l : List ℕ). Moved c d (f (s ++ c) p.0 l) (f (s ++ d) p.0 (m.0 ++ d))) (sym m.1) moved)
bind_moves {K} {A} {B} S f fs fm s c d (Err e) r' w law h = ap (λ (z : Result (A × List ℕ) (K × ℕ)). z >>= λ p. f (s ++ d) p.0 p.1) (law h)

pub bind_local : {K A B : Type 0} (S : Settling K) (item : List ℕ → Result (A × List ℕ) (K × ℕ)) (f : List ℕ → A → List ℕ → Result (B × List ℕ) (K × ℕ)) → Local S item → ((t : List ℕ) (x : A) (r : List ℕ) → Shrinks S r (f t x r)) → MovesOn S f → Local S (λ t. item t >>= λ p. f t p.0 p.1)
bind_local S item f law fs fm = record {
  shrinks = λ t. bind_shrinks S f fs t (item t) (law.shrinks t);
  moves = λ s c d w h. bind_moves S f fs fm s c d (item (s ++ c)) (item (s ++ d)) w (law.moves s c d w) h;
}

pub then_local : {K A B : Type 0} (S : Settling K) (item : List ℕ → Result (A × List ℕ) (K × ℕ)) (f : A → List ℕ → Result (B × List ℕ) (K × ℕ)) → Local S item → ((x : A) → Local S (f x)) → Local S (λ t. item t >>= λ p. f p.0 p.1)
then_local S item f law fl = bind_local S item (λ t x r. f x r) law (λ t x r. (fl x).shrinks r) (λ x s q c d w h. (fl x).moves q c d w h)

pub same_local : {K A : Type 0} (S : Settling K) (f g : List ℕ → Result (A × List ℕ) (K × ℕ)) → ((t : List ℕ) → f t ≡ g t) → Local S f → Local S g
same_local S f g e law = record {
  shrinks = λ t. subst (Shrinks S t) (e t) (law.shrinks t);
  moves = λ s c d w h. subst (λ z. Moved c d z (g (s ++ d))) (e (s ++ c)) (subst (λ z. Moved c d (f (s ++ c)) z) (e (s ++ d)) (law.moves s c d w (subst (Within S c) (sym (e (s ++ c))) h)));
}

-- ---- tests of bytes

far_by : (m k : ℕ) (w u v : List ℕ) → k < length w → is_at m (drop k (w ++ u)) ≡ is_at m (drop k (w ++ v))
far_by m k [] u v h = absurd (omega (arith, h))
far_by m zero (b ∷ w) u v h = refl
far_by m (suc k) (b ∷ w) u v h = far_by m k w u v (omega (arith, h))

ahead_by : (m k : ℕ) (a : ℕ) (w u v : List ℕ) → k < length w + 1 → is_at m (drop k (a ∷ (w ++ u))) ≡ is_at m (drop k (a ∷ (w ++ v)))
ahead_by m zero a w u v h = refl
ahead_by m (suc k) a w u v h = far_by m k w u v (omega (arith, h))

-- whether a byte stands so many bytes ahead
pub ahead_near : {K : Type 0} (S : Settling K) (m k : ℕ) → k < S.width → Near S (λ t. is_at m (drop k t))
ahead_near S m k h [] c d w =
    ap (λ (l : List ℕ). is_at m (drop k l)) w.one ∙ ahead_by m k w.a w.w w.u w.v (omega (arith, h, w.wide)) ∙ sym (ap (λ (l : List ℕ). is_at m (drop k l)) w.other)
ahead_near S m zero h (b ∷ s) c d w = refl
ahead_near S m (suc k) h (b ∷ s) c d w = ahead_near S m k (omega (arith, h)) s c d w

-- a test of the first byte alone
pub head_near : {K : Type 0} (S : Settling K) (v : Bool) (test : List ℕ → Bool) → test [] ≡ v → ((b : ℕ) (r r' : List ℕ) → test (b ∷ r) ≡ test (b ∷ r')) → Near S test
head_near S v test e law [] c d w = ap test w.one ∙ law w.a (w.w ++ w.u) (w.w ++ w.v) ∙ sym (ap test w.other)
head_near S v test e law (b ∷ s) c d w = law b (s ++ c) (s ++ d)

pub is_at_near : {K : Type 0} (S : Settling K) (m : ℕ) → Near S (is_at m)
is_at_near S m [] c d w = ap (is_at m) w.one ∙ sym (ap (is_at m) w.other)
is_at_near S m (b ∷ s) c d w = refl

-- the same behind spaces
pub skip_near : {K : Type 0} (S : Settling K) (test : List ℕ → Bool) → S.first 32 ≡ false → Near S test → Near S (λ t. test (skip t))
skip_near S test none near s c d w =
    let k = twin_skip S c d none w in
    ap test (skip_append s c k.0) ∙ near (skip s) c d w ∙ sym (ap test (skip_append s d k.1))

-- two tests together
pub and_near : {K : Type 0} (S : Settling K) (p q : List ℕ → Bool) → Near S p → Near S q → Near S (λ t. p t && q t)
and_near S p q lp lq s c d w = let e = lp s c d w in let h = lq s c d w in rw (e, h) refl

-- ---- marks and runs

abbrev chosen_mark : {K : Type 0} → K → Bool → List ℕ → Or K (List ℕ)
chosen_mark k v t = cond v (Ok (drop 1 t)) (Err (k, length t))

mark_by : {K B : Type 0} (k : K) (v : Bool) (t : List ℕ) (f : List ℕ → Result (B × List ℕ) (K × ℕ)) → cond v (f (drop 1 t)) (Err (k, length t)) ≡ (chosen_mark k v t >>= f)
mark_by k true t f = refl
mark_by k false t f = refl

pub mark_local : {K B : Type 0} (S : Settling K) (k : K) (m : ℕ) (f : List ℕ → Result (B × List ℕ) (K × ℕ)) → Local S f → Local S (λ t. mark_at k m t >>= f)
mark_local S k m f law = same_local S (λ t. cond (is_at m t) (f (drop 1 t)) (Err (k, length t))) (λ t. mark_at k m t >>= f) (λ t. mark_by k (is_at m t) t f)
    (cond_local S (is_at m) (λ t. f (drop 1 t)) (λ t. Err (k, length t)) (is_at_near S m) (drop_local S 1 f law) (stop_local S k))

run_twin : {K : Type 0} (S : Settling K) (p : ℕ → Bool) (c d : List ℕ) (w : Twin S c d) (v : Bool) → p w.a ≡ v → prefix_len p c ≤ 0 → prefix_len p d ≡ prefix_len p c
run_twin S p c d w true e h = absurd (let l : prefix_len p c ≡ 1 + prefix_len p (w.w ++ w.u) = ap (prefix_len p) w.one ∙ rw e refl in omega (arith, l, h))
run_twin S p c d w false e h =
    let lc : prefix_len p c ≡ 0 = ap (prefix_len p) w.one ∙ rw e refl in
    let ld : prefix_len p d ≡ 0 = ap (prefix_len p) w.other ∙ rw e refl in
    ld ∙ sym lc

run_step : (p : ℕ → Bool) (v : Bool) (s c d : List ℕ) → (prefix_len p (s ++ c) ≤ length s → prefix_len p (s ++ d) ≡ prefix_len p (s ++ c)) → cond v (1 + prefix_len p (s ++ c)) 0 ≤ suc (length s) → cond v (1 + prefix_len p (s ++ d)) 0 ≡ cond v (1 + prefix_len p (s ++ c)) 0
run_step p true s c d so h = ap (λ (n : ℕ). 1 + n) (so (omega (arith, h)))
run_step p false s c d so h = refl

-- a run that ends before the twins is the same in both
pub run_same : {K : Type 0} (S : Settling K) (p : ℕ → Bool) (s c d : List ℕ) → Twin S c d → prefix_len p (s ++ c) ≤ length s → prefix_len p (s ++ d) ≡ prefix_len p (s ++ c)
run_same S p [] c d w h = run_twin S p c d w (p w.a) refl h
run_same S p (b ∷ s) c d w h = run_step p (p b) s c d (λ k. run_same S p s c d w k) h

abbrev run_cut : {K : Type 0} → K → Bool → ℕ → List ℕ → Read K (List ℕ)
run_cut k v n t = cond v (Err (k, length t)) (Ok (take n t, drop n t))

pub drop_short : (n : ℕ) (s c : List ℕ) → n ≤ length s → drop n (s ++ c) ≡ drop n s ++ c
drop_short zero s c h = refl
drop_short (suc n) [] c h = absurd (omega (arith, h))
drop_short (suc n) (b ∷ s) c h = drop_short n s c (omega (arith, h))

abbrev pair_of : List ℕ → List ℕ → List ℕ × List ℕ
pair_of x y = (x, y)

run_pair : (n : ℕ) (s c d : List ℕ) → n ≤ length s → pair_of (take n (s ++ d)) (drop n (s ++ d)) ≡ pair_of (take n (s ++ c)) (drop n s ++ d)
run_pair n s c d h = rw (take-append-le n s d h, take-append-le n s c h, drop_short n s d h) refl

run_moves : {K : Type 0} (k : K) (v : Bool) (n : ℕ) (s c d : List ℕ) → n ≤ length s → Moved c d (run_cut k v n (s ++ c)) (run_cut k v n (s ++ d))
run_moves k true n s c d h = ap (λ (m : ℕ). Err (k, m)) (stop_len s c d)
run_moves k false n s c d h = (drop n s, drop_short n s c h, ap (λ (z : List ℕ × List ℕ). Ok z) (run_pair n s c d h))

run_cut_shrinks : {K : Type 0} (S : Settling K) (k : K) (v : Bool) (n : ℕ) (t : List ℕ) → Shrinks S t (run_cut k v n t)
run_cut_shrinks S k true n t = λ l. omega arith
run_cut_shrinks S k false n t = (take n t, drop_front n t)

run_short : {K : Type 0} (S : Settling K) (k : K) (v : Bool) (n : ℕ) (s c : List ℕ) → eqb n 0 ≡ v → n ≤ length (s ++ c) → Within S c (run_cut k v n (s ++ c)) → n ≤ length s
run_short S k true n s c e le h = omega (arith, eqb-true n 0 e)
run_short S k false n s c e le h = omega (arith, h, le, length-drop n (s ++ c), length-append s c)

pub run_local : {K : Type 0} (S : Settling K) (k : K) (p : ℕ → Bool) → Local S (run_at k p)
run_local S k p = record {
  shrinks = λ t. run_cut_shrinks S k (eqb (prefix_len p t) 0) (prefix_len p t) t;
  moves = λ s c d w h.
      let n = prefix_len p (s ++ c) in
      let short : n ≤ length s = run_short S k (eqb n 0) n s c refl (prefix_len-le-length p (s ++ c)) h in
      let same : prefix_len p (s ++ d) ≡ n = run_same S p s c d w short in
      subst (λ (m : ℕ). Moved c d (run_cut k (eqb n 0) n (s ++ c)) (run_cut k (eqb m 0) m (s ++ d))) (sym same) (run_moves k (eqb n 0) n s c d short);
}

-- ---- items one after the other

pub more_local : {K A : Type 0} (S : Settling K) (begins : List ℕ → Bool) (item : List ℕ → Result (A × List ℕ) (K × ℕ)) → Near S begins → Local S item → (n : ℕ) → Local S (more begins item n)
unfolding more
more_local S begins item near law zero = pure_local S []
more_local S begins item near law (suc n) =
    cond_local S begins (λ t. item t >>= λ x. more begins item n x.1 >>= λ xs. Ok (x.0 ∷ xs.0, xs.1)) (λ t. Ok ([], t)) near
    (then_local S item (λ x r. more begins item n r >>= λ xs. Ok (x ∷ xs.0, xs.1)) law (λ x. then_local S (more begins item n) (λ xs r. Ok (x ∷ xs, r)) (more_local S begins item near law n) (λ xs. pure_local S (x ∷ xs))))
    (pure_local S [])

abbrev put : {K A : Type 0} → A → Result (List A × List ℕ) (K × ℕ) → Result (List A × List ℕ) (K × ℕ)
put x r = r >>= λ xs. Ok (x ∷ xs.0, xs.1)

-- ---- the number of items does not matter, where an item takes a byte at least

-- an item takes a byte, where one begins
abbrev pub Takes_some : {K A : Type 0} → (List ℕ → Bool) → (List ℕ → Result (A × List ℕ) (K × ℕ)) → Type 0
Takes_some {K} {A} begins item = (t : List ℕ) (p : A × List ℕ) → begins t ≡ true → item t ≡ Ok p → length p.1 < length t

fuel_by : {K A : Type 0} (f g : List ℕ → Result (List A × List ℕ) (K × ℕ)) (t : List ℕ) (r : Result (A × List ℕ) (K × ℕ)) → ((p : A × List ℕ) → r ≡ Ok p → f p.1 ≡ g p.1)
    → (r >>= λ x. put x.0 (f x.1)) ≡ (r >>= λ x. put x.0 (g x.1))
fuel_by f g t (Ok p) e = ap (put p.0) (e p refl)
fuel_by f g t (Err k) e = refl

fuel_cond : {A : Type 0} (v : Bool) (x y z : A) → (v ≡ true → x ≡ y) → cond v x z ≡ cond v y z
fuel_cond true x y z h = h refl
fuel_cond false x y z h = refl

none_at : {K A : Type 0} (begins : List ℕ → Bool) (item : List ℕ → Result (A × List ℕ) (K × ℕ)) (n : ℕ) → begins [] ≡ false → more begins item n [] ≡ Ok ([], [])
unfolding more
none_at begins item zero h = refl
none_at begins item (suc n) h = rw h refl

pub more_fuel : {K A : Type 0} (begins : List ℕ → Bool) (item : List ℕ → Result (A × List ℕ) (K × ℕ)) → begins [] ≡ false → Takes_some begins item → (n m : ℕ) (t : List ℕ) → length t ≤ n → length t ≤ m → more begins item n t ≡ more begins item m t
unfolding more
more_fuel begins item none some zero m t hn hm = let e = nil_from_length t (omega (arith, hn)) in ap (more begins item zero) e ∙ none_at begins item zero none ∙ sym (ap (more begins item m) e ∙ none_at begins item m none)
more_fuel begins item none some (suc n) zero t hn hm = let e = nil_from_length t (omega (arith, hm)) in ap (more begins item (suc n)) e ∙ none_at begins item (suc n) none ∙ sym (ap (more begins item zero) e ∙ none_at begins item zero none)
more_fuel begins item none some (suc n) (suc m) t hn hm =
    fuel_cond (begins t) _ _ _ (λ here.
    fuel_by (more begins item n) (more begins item m) t (item t) (λ p e.
    more_fuel begins item none some n m p.1 (omega (arith, some t p here e, hn)) (omega (arith, some t p here e, hm))))

pub all_local : {K A : Type 0} (S : Settling K) (begins : List ℕ → Bool) (item : List ℕ → Result (A × List ℕ) (K × ℕ)) → begins [] ≡ false → Takes_some begins item → Near S begins → Local S item → Local S (all_at begins item)
all_local S begins item none some near law = record {
  shrinks = λ t. (more_local S begins item near law (length t)).shrinks t;
  moves = λ s c d w h.
      let n = length (s ++ c) + length (s ++ d) in
      let ec = more_fuel begins item none some (length (s ++ c)) n (s ++ c) (omega arith) (omega arith) in
      let ed = more_fuel begins item none some (length (s ++ d)) n (s ++ d) (omega arith) (omega arith) in
      let m = (more_local S begins item near law n).moves s c d w (subst (Within S c) ec h) in
      subst (λ z. Moved c d z (more begins item (length (s ++ d)) (s ++ d))) (sym ec) (subst (λ z. Moved c d (more begins item n (s ++ c)) z) (sym ed) m);
}
