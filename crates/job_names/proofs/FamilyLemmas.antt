-- Which names two families share.
use Rattle.std.proofs.Common.{◌≡◌, ℕ, List, [], ◌∷◌, ◌++◌, Bool, true, not, flat_map, refl, sym, ◌∙◌, subst, inl, inr, arith, codes, nat_eq, eqb-true, eq-eqb}
use Rattle.std.proofs.lemmas.Bool.{or_cases, and_parts, and_from, or_left, or_right}
use Rattle.std.proofs.lemmas.List.Folds.{list_any-append}
use Rattle.std.proofs.lemmas.Slice.Eq.{bytes_eq-Decides}
use Rattle.std.specs.Prelude.{IsTrue, bytes_eq}
use Rattle.std.specs.List.{list_any}
use Rattle.plan_record.specs.Names.{begins, pieces_of}
use Rattle.plan_record.specs.Plan.{is_without}
use Rattle.job_names.specs.Text.{Text}
use Rattle.job_names.specs.Family.{Names, Meet, component_names, exact_names, own_final, in_family, is_piece_of, meets}

pub same_text : (a b : Text) → bytes_eq a b ≡ true → a ≡ b
same_text a b e = (bytes_eq-Decides a b).0 e

pub text_itself : (a : Text) → bytes_eq a a ≡ true
text_itself a = (bytes_eq-Decides a a).1 refl

-- what passes a test among these, and that what it passes is passed among them
pub record Passes {A : Type 0} (p : A → Bool) (xs : List A) : Type 0 where
  pub one : A
  pub does : p one ≡ true
  pub there : (q : A → Bool) → q one ≡ true → list_any q xs ≡ true

pub passes : {A : Type 0} (p : A → Bool) (xs : List A) → list_any p xs ≡ true → Passes p xs
passes p [] e = absurd (cc)
passes p (x ∷ xs) e =
    elim (or_cases (p x) (list_any p xs) e) [
      | inl here ↦ record { one = x; does = here; there = λ q h. or_left (q x) (list_any q xs) h }
      | inr later ↦
          let rest = passes p xs later in
          record { one = rest.one; does = rest.does; there = λ q h. or_right (q x) (list_any q xs) (rest.there q h) }
    ]

-- a text that stands among these, and passes a test
pub text_passes : (text : Text) (texts : List Text) (q : Text → Bool) → list_any (bytes_eq text) texts ≡ true → q text ≡ true → list_any q texts ≡ true
text_passes text texts q stands does =
    let found = passes (bytes_eq text) texts stands in
    found.there q (subst (λ t. q t ≡ true) (same_text text found.one found.does) does)

any_in_front : {A : Type 0} (q : A → Bool) (xs ys : List A) → list_any q xs ≡ true → list_any q (xs ++ ys) ≡ true
any_in_front q xs ys e = list_any-append q xs ys ∙ or_left (list_any q xs) (list_any q ys) e

any_behind : {A : Type 0} (q : A → Bool) (xs ys : List A) → list_any q ys ≡ true → list_any q (xs ++ ys) ≡ true
any_behind q xs ys e = list_any-append q xs ys ∙ or_right (list_any q xs) (list_any q ys) e

-- a component that passes a test does so among the names of components
component_passes : (q : Text → Bool) (components : List Text) → list_any q components ≡ true → list_any q (flat_map component_names components) ≡ true
component_passes q [] e = absurd (cc)
component_passes q (c ∷ cs) e =
    elim (or_cases (q c) (list_any q cs) e) [
      | inl here ↦ any_in_front q (component_names c) (flat_map component_names cs) (or_left (q c) _ here)
      | inr later ↦ any_behind q (component_names c) (flat_map component_names cs) (component_passes q cs later)
    ]

-- a component is an exact name
pub component_is_exact : (q : Text → Bool) (names : Names) → list_any q names.components ≡ true → list_any q (exact_names names) ≡ true
component_is_exact q names e =
    any_behind q (own_final names) (flat_map component_names names.components ++ names.outputs)
    (any_in_front q (flat_map component_names names.components) names.outputs (component_passes q names.components e))

not_both : (x m : ℕ) → nat_eq x m ≡ true → nat_eq 46 m ≡ true → not (nat_eq 46 x) ≡ true → ⊥
not_both x m a b c = grind (arith, eqb-true x m a, eqb-true 46 m b)

-- What has no point stands in front of what the same name begins with, where a point stands there behind it.
under : (q d n : Text) → is_without 46 q ≡ true → begins q n ≡ true → begins (d ++ codes ".part-Frag") n ≡ true → begins q d ≡ true
under [] d n w a b = refl
under (x ∷ q) [] [] w a b = absurd (cc)
under (x ∷ q) [] (m ∷ n) w a b =
    absurd (not_both x m (and_parts (nat_eq x m) (begins q n) a).0 (and_parts (nat_eq 46 m) _ b).0 (and_parts (not (nat_eq 46 x)) _ w).0)
under (x ∷ q) (e ∷ d) [] w a b = absurd (cc)
under (x ∷ q) (e ∷ d) (m ∷ n) w a b =
    let first = and_parts (nat_eq x m) (begins q n) a in
    let second = and_parts (nat_eq e m) (begins (d ++ codes ".part-Frag") n) b in
    let same : nat_eq x e ≡ true = eq-eqb x e (grind (arith, eqb-true x m first.0, eqb-true e m second.0)) in
    and_from (nat_eq x e) (begins q d) same (under q d n (and_parts (not (nat_eq 46 x)) _ w).1 first.1 second.1)

-- the first of the bytes behind a component is a point, and none of the others
front_of : (e m : ℕ) (d n : Text) → begins (codes ".part-Frag") (m ∷ n) ≡ true → begins ((e ∷ d) ++ codes ".part-Frag") (m ∷ n) ≡ true → begins (codes ".part-Frag") (e ∷ d) ≡ true
front_of e m d n a b =
    let first = and_parts (nat_eq 46 m) _ a in
    let second = and_parts (nat_eq e m) (begins (d ++ codes ".part-Frag") n) b in
    let same : nat_eq 46 e ≡ true = eq-eqb 46 e (grind (arith, eqb-true 46 m first.0, eqb-true e m second.0)) in
    and_from (nat_eq 46 e) (begins (codes "part-Frag") d) same (under (codes "part-Frag") d n refl first.1 second.1)

-- how two components stand whose pieces share a name: they are one, or the one is named as a piece of the other
pub data Stand (c d : Text) : Type 0 where
  same : c ≡ d → Stand c d
  below : begins (pieces_of c) d ≡ true → Stand c d
  above : begins (pieces_of d) c ≡ true → Stand c d

longer : (m : ℕ) (c d : Text) → nat_eq m m ≡ true → Stand c d → Stand (m ∷ c) (m ∷ d)
longer m c d e (same is) = same (subst (λ t. (m ∷ c) ≡ (m ∷ t)) is refl)
longer m c d e (below is) = below (and_from (nat_eq m m) (begins (pieces_of c) d) e is)
longer m c d e (above is) = above (and_from (nat_eq m m) (begins (pieces_of d) c) e is)

stand_by : (x y m : ℕ) (c d : Text) → x ≡ m → y ≡ m → Stand c d → Stand (x ∷ c) (y ∷ d)
stand_by x y m c d is also st = subst (λ k. Stand (k ∷ c) (y ∷ d)) (sym is) (subst (λ k. Stand (m ∷ c) (k ∷ d)) (sym also) (longer m c d (eq-eqb m m refl) st))

pub stand : (c d n : Text) → begins (pieces_of c) n ≡ true → begins (pieces_of d) n ≡ true → Stand c d
stand [] [] n a b = same refl
stand [] (y ∷ d) [] a b = absurd (cc)
stand [] (y ∷ d) (m ∷ n) a b = below (front_of y m d n a b)
stand (x ∷ c) [] [] a b = absurd (cc)
stand (x ∷ c) [] (m ∷ n) a b = above (front_of x m c n b a)
stand (x ∷ c) (y ∷ d) [] a b = absurd (cc)
stand (x ∷ c) (y ∷ d) (m ∷ n) a b =
    let first = and_parts (nat_eq x m) (begins (pieces_of c) n) a in
    let second = and_parts (nat_eq y m) (begins (pieces_of d) n) b in
    stand_by x y m c d (eqb-true x m first.0) (eqb-true y m second.0) (stand c d n first.1 second.1)

exact_in : (names : Names) (name : Text) → list_any (bytes_eq name) (exact_names names) ≡ true → in_family names name ≡ true
exact_in names name e = or_left (list_any (bytes_eq name) (exact_names names)) (is_piece_of names.components name) e

piece_in : (names : Names) (name : Text) → is_piece_of names.components name ≡ true → in_family names name ≡ true
piece_in names name e = or_right (list_any (bytes_eq name) (exact_names names)) (is_piece_of names.components name) e

pub first_way : (a b : Names) → list_any (in_family b) (exact_names a) ≡ true → meets a b ≡ true
first_way a b e = or_left (list_any (in_family b) (exact_names a)) (list_any (in_family a) (exact_names b)) e

pub second_way : (a b : Names) → list_any (in_family a) (exact_names b) ≡ true → meets a b ≡ true
second_way a b e = or_right (list_any (in_family b) (exact_names a)) (list_any (in_family a) (exact_names b)) e

-- where an exact name of the one is in the other, both have it
shared : (a b : Names) → meets a b ≡ true → Meet a b
shared a b e =
    elim (or_cases (list_any (in_family b) (exact_names a)) (list_any (in_family a) (exact_names b)) e) [
      | inl first ↦
          let found = passes (in_family b) (exact_names a) first in
          record { name = found.one; in_first = exact_in a found.one (found.there (bytes_eq found.one) (text_itself found.one)); in_second = found.does }
      | inr second ↦
          let found = passes (in_family a) (exact_names b) second in
          record { name = found.one; in_first = found.does; in_second = exact_in b found.one (found.there (bytes_eq found.one) (text_itself found.one)) }
    ]

-- two components whose pieces share a name
by_components : (a b : Names) (c d : Text) → ((q : Text → Bool) → q c ≡ true → list_any q a.components ≡ true) →
    ((q : Text → Bool) → q d ≡ true → list_any q b.components ≡ true) → Stand c d → meets a b ≡ true
by_components a b c d first second (same is) =
    let exact : list_any (bytes_eq c) (exact_names b) ≡ true =
    component_is_exact (bytes_eq c) b (second (bytes_eq c) (subst (λ t. bytes_eq c t ≡ true) is (text_itself c))) in
    first_way a b (component_is_exact (in_family b) a (first (in_family b) (exact_in b c exact)))
by_components a b c d first second (below is) =
    second_way a b (component_is_exact (in_family a) b (second (in_family a) (piece_in a d (first (λ x. begins (pieces_of x) d) is))))
by_components a b c d first second (above is) =
    first_way a b (component_is_exact (in_family b) a (first (in_family b) (piece_in b c (second (λ x. begins (pieces_of x) c) is))))

both_pieces : (a b : Names) (name : Text) → is_piece_of a.components name ≡ true → is_piece_of b.components name ≡ true → meets a b ≡ true
both_pieces a b name first second =
    let c = passes (λ x. begins (pieces_of x) name) a.components first in
    let d = passes (λ x. begins (pieces_of x) name) b.components second in
    by_components a b c.one d.one c.there d.there (stand c.one d.one name c.does d.does)

found_by : (a b : Names) → Meet a b → meets a b ≡ true
found_by a b m =
    elim (or_cases (list_any (bytes_eq m.name) (exact_names a)) (is_piece_of a.components m.name) m.in_first) [
      | inl exact ↦ first_way a b (text_passes m.name (exact_names a) (in_family b) exact m.in_second)
      | inr piece ↦ elim (or_cases (list_any (bytes_eq m.name) (exact_names b)) (is_piece_of b.components m.name) m.in_second) [
        | inl exact ↦ second_way a b (text_passes m.name (exact_names b) (in_family a) exact m.in_first)
        | inr also ↦ both_pieces a b m.name piece also
      ]
    ]

pub exact_names_decide : (a b : Names) → (IsTrue (meets a b) → Meet a b) × (Meet a b → IsTrue (meets a b))
exact_names_decide a b = (shared a b, found_by a b)
