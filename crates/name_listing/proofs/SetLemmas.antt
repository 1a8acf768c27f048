-- A set's names are those of its keys.
use Rattle.std.proofs.Common.{◌≡◌, ◌⊎◌, inl, inr, Bool, true, false, ◌||◌, ◌&&◌, cond, List, [], ◌∷◌, ◌++◌, refl, sym, ◌∙◌, ap, String, map, Bor}
use Rattle.std.specs.Prelude.{bytes_eq, if◌then◌else◌}
use Rattle.std.specs.List.{list_any, filter}
use Rattle.std.specs.BTreeMap.{is_at}
use Rattle.std.specs.String.{string_bytes}
use Rattle.std.specs.Ordering.{nat_cmp}
use Rattle.std.specs.Cmp.Lexicographic.{slice_cmp, nat_list_eq_equiv}
use Rattle.std.specs.declared.alloc.Global.{Global}
use Rattle.std.proofs.lemmas.Map.Text.{is_eq-slice_cmp}
use Rattle.std.proofs.lemmas.Slice.Eq.{bytes_eq-Decides}
use Rattle.name_listing.specs.Names.{Name, has, names_of, begins, is_part}
use Rattle.name_listing.specs.declared.names.Names.{Names}

abbrev Keys : Type 0
Keys = List (String Global)

-- The name is among these.
abbrev pub among : Name → List Name → Bool
among name names = list_any (λ one. bytes_eq one name) names

by_keys : (name : Name) (keys : Keys) → list_any (is_at (λ key. slice_cmp nat_cmp name (string_bytes key))) keys ≡ among name (map (λ key. string_bytes key) keys)
by_keys name [] = refl
by_keys name (key ∷ keys) = λ i. (is_eq-slice_cmp name (string_bytes key) ∙ nat_list_eq_equiv.symm name (string_bytes key)) i || by_keys name keys i

pub has_names : (names : Names) (name : Name) → has names name ≡ among name (names_of names)
has_names names name = by_keys name names.set.keys

pub among_more : (name : Name) (front : List Name) (one : Name) → among name (front ++ one ∷ []) ≡ (bytes_eq one name || among name front)
among_more name [] one = refl
among_more name (first ∷ front) one = ap (λ (b : Bool). bytes_eq first name || b) (among_more name front one) ∙ by (bytes_eq first name) (bytes_eq one name) (among name front)
  where
    by : (a b c : Bool) → (a || (b || c)) ≡ (b || (a || c))
    by true true c = refl
    by true false c = refl
    by false b c = refl

-- One name more is noted.
pub noted_more : (stand : Bool) (name : Name) (front : List Name) (one : Name) (was mid now : Bool) → mid ≡ (if among name front then stand else was) → now ≡ (if bytes_eq one name then stand else mid)
    → now ≡ (if among name (front ++ one ∷ []) then stand else was)
noted_more stand name front one was mid now before after =
    after ∙ ap (λ (m : Bool). if bytes_eq one name then stand else m) before ∙ by (bytes_eq one name) (among name front) ∙ sym (ap (λ (b : Bool). if b then stand else was) (among_more name front one))
  where
    by : (a b : Bool) → (if a then stand else (if b then stand else was)) ≡ (if a || b then stand else was)
    by true b = refl
    by false b = refl

among_front : (name : Name) (front rest : List Name) → among name front ≡ true → among name (front ++ rest) ≡ true
among_front name [] rest e = absurd (let bad : false ≡ true = e in cc)
among_front name (first ∷ front) rest e = by (bytes_eq first name) e (among_front name front rest)
  where
    by : (b : Bool) → (b || among name front) ≡ true → (among name front ≡ true → among name (front ++ rest) ≡ true) → (b || among name (front ++ rest)) ≡ true
    by true e more = refl
    by false e more = more e

-- Where not all of them were put in, a name is as it was, or one of them.
pub some_put : (name : Name) (front rest : List Name) (was now share : Bool) → now ≡ (if among name front then true else was) → share ≡ among name (front ++ rest) → (now ≡ was) ⊎ ((share ≡ true) × (now ≡ true))
some_put name front rest was now share is all = by (among name front) is (among_front name front rest)
  where
    by : (b : Bool) → now ≡ (if b then true else was) → (b ≡ true → among name (front ++ rest) ≡ true) → (now ≡ was) ⊎ ((share ≡ true) × (now ≡ true))
    by true e more = inr (all ∙ more refl, e)
    by false e more = inl e

-- one name, and the rest, by whether it passes
one_more : (a t b c : Bool) (name first : Name) (rest : List Name) → bytes_eq first name ≡ a → among name rest ≡ (t && c)
    → (a ≡ true → b ≡ t) → among name (cond b (first ∷ rest) rest) ≡ (t && (a || c))
one_more true t true c name first rest is after same = ap (λ (v : Bool). v || among name rest) is ∙ ap (λ (v : Bool). v && true) (same refl)
one_more true t false c name first rest is after same = after ∙ ap (λ (v : Bool). v && c) (sym (same refl)) ∙ ap (λ (v : Bool). v && true) (same refl)
one_more false t true c name first rest is after same = ap (λ (v : Bool). v || among name rest) is ∙ after
one_more false t false c name first rest is after same = after

none_left : (b : Bool) → false ≡ (b && false)
none_left true = refl
none_left false = refl

-- of those that pass a test
pub among_filter : (name : Name) (test : Name → Bool) (all : List Name) → among name (filter test all) ≡ (test name && among name all)
among_filter name test [] = none_left (test name)
among_filter name test (first ∷ all) =
    one_more (bytes_eq first name) (test name) (test first) (among name all) name first (filter test all) refl (among_filter name test all)
    (λ same. ap test ((bytes_eq-Decides first name).0 same))

-- The names of a part: its stem, where that stands, and what begins with the stem and a point.
pub shared : (stem name : Name) (names : Names) (stands : Bool) → has names stem ≡ stands
    → (if stands && bytes_eq stem name then true else among name (filter (begins (stem ++ 46 ∷ [])) (names_of names))) ≡ (is_part stem name && has names name)
shared stem name names stands is =
    ap (λ (b : Bool). if stands && bytes_eq stem name then true else b) (among_filter name (begins (stem ++ 46 ∷ [])) (names_of names) ∙ ap (λ (b : Bool). begins (stem ++ 46 ∷ []) name && b) (sym (has_names names name)))
    ∙ by stands (bytes_eq stem name) (begins (stem ++ 46 ∷ []) name) (has names name) (λ same. sym is ∙ ap (has names) ((bytes_eq-Decides stem name).0 same))
  where
    by : (s a b h : Bool) → (a ≡ true → s ≡ h) → (if s && a then true else (b && h)) ≡ ((a || b) && h)
    by true true b h e = e refl
    by true false b h e = refl
    by false true b h e = ap (λ (v : Bool). b && v) (sym (e refl)) ∙ sym (none_left b) ∙ e refl
    by false false b h e = refl

pub map_twice : (all : List (Bor (String Global))) → map (λ key. string_bytes key.now) all ≡ map (λ key. string_bytes key) (map (λ key. key.now) all)
map_twice [] = refl
map_twice (first ∷ all) = ap (λ (l : List Name). string_bytes first.now ∷ l) (map_twice all)
