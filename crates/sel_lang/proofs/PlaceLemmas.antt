-- No settled fault stands at a space: the law of each way in which readers are made of readers.
use Rattle.std.proofs.Common.{◌≡◌, ℕ, zero, suc, Bool, true, false, not, cond, eqb, List, [], ◌∷◌, ◌++◌, length, take, drop, Result, Ok, Err, refl, sym, ap}
use Rattle.std.specs.Prelude.{◌==◌}
use Rattle.std.specs.List.{prefix_len}
use Rattle.std.proofs.lemmas.List.{take-append-drop}
use Rattle.read_base.specs.Reads.{◌>>=◌, Or, skip, is_at, mark_at, run_at, more, all_at}
use Rattle.read_base.specs.Laws.{Spells, head_is}
use Rattle.read_base.proofs.StepLemmas.{gap_parts}
use Rattle.read_base.proofs.SpellsLemmas.{two_parts}
use Rattle.sel_lang.specs.Places.{is_settled}
use Rattle.sel_lang.specs.declared.sel_kind.SelKind.{SelKind}
use Rattle.sel_lang.specs.declared.sel_kind.SelKind.TheVariants.{Syntax}

abbrev pub no_space : ℕ → Bool
no_space b = not (b == 32)

-- where so many bytes are left no space stands
abbrev pub Solid : List ℕ → ℕ → Type 0
Solid t left = (front rest : List ℕ) × (t ≡ front ++ rest) × (length rest ≡ left) × (head_is no_space rest ≡ true)

-- reading leaves an end of the text, or has a fault which, where it is settled, stands at no space
abbrev pub Stands : {A : Type 0} → List ℕ → Result (A × List ℕ) (SelKind × ℕ) → Type 0
Stands t (Ok p) = (s : List ℕ) × (t ≡ s ++ p.1)
Stands t (Err e) = is_settled e.0 ≡ true → Solid t e.1

pub false_true : false ≡ true → ⊥
false_true e = absurd cc

-- ---- spaces

skip_by : (v : Bool) (b : ℕ) (bs : List ℕ) → (b == 32) ≡ v → head_is no_space (skip bs) ≡ true → head_is no_space (cond v (skip bs) (b ∷ bs)) ≡ true
skip_by true b bs e h = h
skip_by false b bs e h = ap not e

pub skip_solid : (t : List ℕ) → head_is no_space (skip t) ≡ true
skip_solid [] = refl
skip_solid (b ∷ bs) = skip_by (b == 32) b bs refl (skip_solid bs)

-- ---- behind what was taken

pub stands_behind : {A : Type 0} (g u t : List ℕ) (r : Result (A × List ℕ) (SelKind × ℕ)) → t ≡ g ++ u → Stands u r → Stands t r
stands_behind g u t (Ok p) e h = (g ++ h.0, two_parts t u g h.0 p.1 e h.1)
stands_behind g u t (Err k) e h = λ l. let o = h l in (g ++ o.0, o.1, two_parts t u g o.0 o.1 e o.2, o.3, o.4)

pub spaced_stands : {A : Type 0} (t : List ℕ) (r : Result (A × List ℕ) (SelKind × ℕ)) → Stands (skip t) r → Stands t r
spaced_stands t r h = let gap = gap_parts t in stands_behind gap.0 (skip t) t r gap.2 h

pub drop_stands : {A : Type 0} (t : List ℕ) (r : Result (A × List ℕ) (SelKind × ℕ)) → Stands (drop 1 t) r → Stands t r
drop_stands t r h = stands_behind (take 1 t) (drop 1 t) t r (sym (take-append-drop 1 t)) h

pub behind_stands : {A : Type 0} (t : List ℕ) (r : Result (A × List ℕ) (SelKind × ℕ)) → Stands (drop 1 (skip t)) r → Stands t r
behind_stands t r h = spaced_stands t r (drop_stands (skip t) r h)

-- ---- steps

pub front_stands : (A : Type 0) (k : SelKind) (t : List ℕ) → head_is no_space t ≡ true → Stands {A = A} t (Err (k, length t))
front_stands A k t h = λ l. ([], t, refl, refl, h)

pub cond_stands : {A : Type 0} (v : Bool) (t : List ℕ) (x y : Result (A × List ℕ) (SelKind × ℕ)) → Stands t x → Stands t y → Stands t (cond v x y)
cond_stands true t x y h k = h
cond_stands false t x y h k = k

pub bind_stands : {A B : Type 0} (t : List ℕ) (r : Result (A × List ℕ) (SelKind × ℕ)) (f : A → List ℕ → Result (B × List ℕ) (SelKind × ℕ)) → Stands t r → ((x : A) (rest : List ℕ) → Stands rest (f x rest)) → Stands t (r >>= λ p. f p.0 p.1)
bind_stands t (Ok p) f h next = stands_behind h.0 p.1 t (f p.0 p.1) h.1 (next p.0 p.1)
bind_stands t (Err e) f h next = h

pub run_stands : (p : ℕ → Bool) (t : List ℕ) → head_is no_space t ≡ true → Stands t (run_at Syntax p t)
run_stands p t h =
    let n = prefix_len p t in
    cond_stands (eqb n 0) t (Err (Syntax, length t)) (Ok (take n t, drop n t)) (front_stands (List ℕ) Syntax t h) (take n t, sym (take-append-drop n t))

abbrev chosen_mark : Bool → List ℕ → Or SelKind (List ℕ)
chosen_mark v t = cond v (Ok (drop 1 t)) (Err (Syntax, length t))

mark_by : {B : Type 0} (v : Bool) (t : List ℕ) (f : List ℕ → Result (B × List ℕ) (SelKind × ℕ)) → head_is no_space t ≡ true → ((r : List ℕ) → Stands r (f r)) → Stands t (chosen_mark v t >>= f)
mark_by true t f h next = drop_stands t (f (drop 1 t)) (next (drop 1 t))
mark_by false t f h next = λ l. ([], t, refl, refl, h)

pub mark_stands : {B : Type 0} (m : ℕ) (t : List ℕ) (f : List ℕ → Result (B × List ℕ) (SelKind × ℕ)) → head_is no_space t ≡ true → ((r : List ℕ) → Stands r (f r)) → Stands t (mark_at Syntax m t >>= f)
mark_stands m t f h next = mark_by (is_at m t) t f h next

-- ---- items one after the other

more_stands : {A : Type 0} (begins : List ℕ → Bool) (item : List ℕ → Result (A × List ℕ) (SelKind × ℕ)) → ((t : List ℕ) → Stands t (item t)) → (n : ℕ) (t : List ℕ) → Stands t (more begins item n t)
unfolding more
more_stands begins item law zero t = ([], refl)
more_stands begins item law (suc n) t =
    cond_stands (begins t) t (item t >>= λ x. more begins item n x.1 >>= λ xs. Ok (x.0 ∷ xs.0, xs.1)) (Ok ([], t))
    (bind_stands t (item t) (λ x r. more begins item n r >>= λ xs. Ok (x ∷ xs.0, xs.1)) (law t)
    (λ x r. bind_stands r (more begins item n r) (λ xs q. Ok (x ∷ xs, q)) (more_stands begins item law n r) (λ xs q. ([], refl))))
    ([], refl)

pub all_stand : {A : Type 0} (begins : List ℕ → Bool) (item : List ℕ → Result (A × List ℕ) (SelKind × ℕ)) → ((t : List ℕ) → Stands t (item t)) → (t : List ℕ) → Stands t (all_at begins item t)
all_stand begins item law t = more_stands begins item law (length t) t

-- ---- readers of small pieces

piece_by : {A : Type 0} (P : List ℕ → A → Type 0) (item : List ℕ → Result (A × List ℕ) (SelKind × ℕ)) (t : List ℕ) (z : Result (A × List ℕ) (SelKind × ℕ)) → Spells item P → ((d : SelKind × ℕ) → item t ≡ Err d → is_settled d.0 ≡ true → d.1 ≡ length t) → head_is no_space t ≡ true → item t ≡ z → Stands t z
piece_by P item t (Ok p) spells left h e = let one = spells t p e in (one.0, one.2)
piece_by P item t (Err d) spells left h e = λ l. ([], t, refl, sym (left d e l), h)

-- what is spelled is read, and a settled fault stands at the front
pub piece_stands : {A : Type 0} (P : List ℕ → A → Type 0) (item : List ℕ → Result (A × List ℕ) (SelKind × ℕ)) (t : List ℕ) → Spells item P → ((d : SelKind × ℕ) → item t ≡ Err d → is_settled d.0 ≡ true → d.1 ≡ length t) → head_is no_space t ≡ true → Stands t (item t)
piece_stands P item t spells left h = piece_by P item t (item t) spells left h refl
