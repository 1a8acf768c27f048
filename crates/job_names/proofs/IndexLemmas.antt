-- The first of the jobs whose names pass a test.
use Rattle.std.proofs.Common.{◌≡◌, ℕ, zero, suc, ◌+◌, ◌<◌, ◌≤◌, List, [], ◌∷◌, ◌++◌, Bool, true, false, ◌&&◌, ◌||◌, Option, Some, None, min, length, take, drop, get_or, add-one, if◌then◌else◌, refl, sym, ◌∙◌, ap, subst, inl, inr, ◌⊎◌, arith, codes, nat_eq, eqb-true, eq-eqb}
use Rattle.std.proofs.lemmas.Bool.{or_cases, and_parts, and_from, or_left, or_right}
use Rattle.std.proofs.lemmas.List.Folds.{list_any_more}
use Rattle.std.proofs.Math.Seq.{take-length}
use Rattle.std.specs.Prelude.{bytes_eq}
use Rattle.std.specs.Option.{option_or}
use Rattle.std.specs.List.{list_any}
use Rattle.text_base.proofs.Logic.{same_tests}
use Rattle.plan_record.specs.Names.{begins, pieces_of}
use Rattle.job_names.specs.Text.{Text}
use Rattle.job_names.specs.Family.{Names, exact_names, in_family, is_piece_of, meets}
use Rattle.job_names.specs.Index.{Log, AreBelow, AreAbove, AreAscending, first_with, least, has_component, has_piece_of, is_piece_below, is_front_of}
use Rattle.job_names.proofs.FamilyLemmas.{passes, text_passes, text_itself}
use Rattle.job_names.proofs.MapLemmas.{texts_turned}

least_none : (a : Option ℕ) → least a None ≡ a
least_none None = refl
least_none (Some n) = refl

lesser : (j k : ℕ) → j < k → Some (min j k) ≡ Some j
lesser j k h = ap Some (omega (arith, h))

lesser_back : (j k : ℕ) → j < k → Some (min k j) ≡ Some j
lesser_back j k h = ap Some (omega (arith, h))

least_itself : (j : ℕ) → Some (min j j) ≡ Some j
least_itself j = ap Some (omega arith)

-- a place before all jobs is less than that of the first that passes
before_first : (q : Names → Bool) (log : Log) (j : ℕ) → AreAbove j log → least (Some j) (first_with q log) ≡ Some j
before_first q [] j above = refl
before_first q (job ∷ log) j above = by (q job.1) (before_first q log j above.1)
  where
    by : (b : Bool) → least (Some j) (first_with q log) ≡ Some j → least (Some j) (if b then Some job.0 else first_with q log) ≡ Some j
    by true rest = lesser j job.0 above.0
    by false rest = rest

first_before : (q : Names → Bool) (log : Log) (j : ℕ) → AreAbove j log → least (first_with q log) (Some j) ≡ Some j
first_before q [] j above = refl
first_before q (job ∷ log) j above = by (q job.1) (first_before q log j above.1)
  where
    by : (b : Bool) → least (first_with q log) (Some j) ≡ Some j → least (if b then Some job.0 else first_with q log) (Some j) ≡ Some j
    by true rest = lesser_back j job.0 above.0
    by false rest = rest

-- the first that passes one of two tests
pub first_of_two : (p q : Names → Bool) (log : Log) → AreAscending log → least (first_with p log) (first_with q log) ≡ first_with (λ names. p names || q names) log
first_of_two p q [] ascending = refl
first_of_two p q (job ∷ log) ascending = by (p job.1) (q job.1) (first_of_two p q log ascending.1)
  where
    by : (a b : Bool) → least (first_with p log) (first_with q log) ≡ first_with (λ names. p names || q names) log →
        least (if a then Some job.0 else first_with p log) (if b then Some job.0 else first_with q log)
        ≡ (if a || b then Some job.0 else first_with (λ names. p names || q names) log)
    by true true rest = least_itself job.0
    by true false rest = before_first q log job.0 ascending.0
    by false true rest = first_before p log job.0 ascending.0
    by false false rest = rest

-- tests that answer alike find the same
pub first_alike : (p q : Names → Bool) (log : Log) → ((names : Names) → p names ≡ q names) → first_with p log ≡ first_with q log
first_alike p q [] alike = refl
first_alike p q (job ∷ log) alike = λ i. if alike job.1 i then Some job.0 else first_alike p q log alike i

pub none_first : (log : Log) → first_with (λ names. false) log ≡ None
none_first [] = refl
none_first (job ∷ log) = none_first log

-- with one more job
pub first_with_last : (p : Names → Bool) (log : Log) (place : ℕ) (names : Names) →
    first_with p (log ++ (place, names) ∷ []) ≡ option_or (first_with p log) (if p names then Some place else None)
first_with_last p [] place names = refl
first_with_last p (job ∷ log) place names = by (p job.1) (first_with_last p log place names)
  where
    by : (b : Bool) → first_with p (log ++ (place, names) ∷ []) ≡ option_or (first_with p log) (if p names then Some place else None) →
        (if b then Some job.0 else first_with p (log ++ (place, names) ∷ []))
        ≡ option_or (if b then Some job.0 else first_with p log) (if p names then Some place else None)
    by true rest = refl
    by false rest = rest

above_last : (j : ℕ) (log : Log) (place : ℕ) (names : Names) → AreAbove j log → j < place → AreAbove j (log ++ (place, names) ∷ [])
above_last j [] place names above h = (h, tt)
above_last j (job ∷ log) place names above h = (above.0, above_last j log place names above.1 h)

pub ascending_last : (log : Log) (place : ℕ) (names : Names) → AreAscending log → AreBelow place log → AreAscending (log ++ (place, names) ∷ [])
ascending_last [] place names ascending below = (tt, tt)
ascending_last (job ∷ log) place names ascending below =
    (above_last job.0 log place names ascending.0 below.0, ascending_last log place names ascending.1 below.1)

-- a choice by a test among two, one after another
pub or_choice : (a b : Bool) (place : ℕ) → option_or (if a then Some place else None) (if b then Some place else None) ≡ (if a || b then Some place else None)
or_choice true b place = refl
or_choice false b place = refl

pub or_behind : (o p q : Option ℕ) → option_or (option_or o p) q ≡ option_or o (option_or p q)
or_behind None p q = refl
or_behind (Some n) p q = refl

pub or_none : (o : Option ℕ) → option_or o None ≡ o
or_none None = refl
or_none (Some n) = refl

-- where families meet, by what is looked up of the second
pub meets_by : (earlier names : Names) → (list_any (in_family earlier) (exact_names names) || list_any (λ c. has_piece_of c earlier) names.components) ≡ meets earlier names
meets_by earlier names = same_tests _ (meets earlier names) to back
  where
    to : (list_any (in_family earlier) (exact_names names) || list_any (λ c. has_piece_of c earlier) names.components) ≡ true → meets earlier names ≡ true
    to e = elim (or_cases (list_any (in_family earlier) (exact_names names)) (list_any (λ c. has_piece_of c earlier) names.components) e) [
      | inl first ↦ or_right (list_any (in_family names) (exact_names earlier)) (list_any (in_family earlier) (exact_names names)) first
      | inr second ↦
          let c = passes (λ c. has_piece_of c earlier) names.components second in
          let n = passes (λ name. begins (pieces_of c.one) name) (exact_names earlier) c.does in
          or_left (list_any (in_family names) (exact_names earlier)) (list_any (in_family earlier) (exact_names names))
          (n.there (in_family names) (or_right (list_any (bytes_eq n.one) (exact_names names)) (is_piece_of names.components n.one)
          (c.there (λ x. begins (pieces_of x) n.one) n.does)))
    ]

    back : meets earlier names ≡ true → (list_any (in_family earlier) (exact_names names) || list_any (λ c. has_piece_of c earlier) names.components) ≡ true
    back e = elim (or_cases (list_any (in_family names) (exact_names earlier)) (list_any (in_family earlier) (exact_names names)) e) [
      | inl first ↦
          let n = passes (in_family names) (exact_names earlier) first in
          elim (or_cases (list_any (bytes_eq n.one) (exact_names names)) (is_piece_of names.components n.one) n.does) [
            | inl exact ↦ or_left _ (list_any (λ c. has_piece_of c earlier) names.components)
                (text_passes n.one (exact_names names) (in_family earlier) exact
                (or_left (list_any (bytes_eq n.one) (exact_names earlier)) (is_piece_of earlier.components n.one) (n.there (bytes_eq n.one) (text_itself n.one))))
            | inr piece ↦
                let c = passes (λ x. begins (pieces_of x) n.one) names.components piece in
                or_right (list_any (in_family earlier) (exact_names names)) (list_any (λ c. has_piece_of c earlier) names.components)
                (c.there (λ x. has_piece_of x earlier) (n.there (λ name. begins (pieces_of c.one) name) c.does))
          ]
      | inr second ↦ or_left (list_any (in_family earlier) (exact_names names)) (list_any (λ c. has_piece_of c earlier) names.components) second
    ]

-- A component whose piece a name is stands in front of it.
pub front_at : (c name : Text) → begins (pieces_of c) name ≡ true → (take (length c) name ≡ c) × (length c < length name)
front_at [] [] e = absurd (cc)
front_at [] (m ∷ n) e = (refl, omega arith)
front_at (x ∷ c) [] e = absurd (cc)
front_at (x ∷ c) (m ∷ n) e =
    let parts = and_parts (nat_eq x m) (begins (pieces_of c) n) e in
    let rest = front_at c n parts.1 in
    ((λ i. sym (eqb-true x m parts.0) i ∷ rest.0 i), omega (arith, rest.1))

-- the name is a piece of one of the components with fewer bytes
below_from : (components : List Text) (name : Text) (at k : ℕ) → k < at → (begins (pieces_of (take k name)) name && list_any (bytes_eq (take k name)) components) ≡ true →
    is_piece_below components name at ≡ true
below_from components name zero k h e = absurd (omega (arith, h))
below_from components name (suc n) k h e = by (cases k n h) (λ less. below_from components name n k less e)
  where
    cases : (k n : ℕ) → k < suc n → (k ≡ n) ⊎ (k < n)
    cases k n h = grind arith

    by : (k ≡ n) ⊎ (k < n) → (k < n → is_piece_below components name n ≡ true) → is_piece_below components name (suc n) ≡ true
    by (inl same) before = or_right (is_piece_below components name n) _ (subst (λ j. (begins (pieces_of (take j name)) name && list_any (bytes_eq (take j name)) components) ≡ true) same e)
    by (inr less) before = or_left (is_piece_below components name n) _ (before less)

below_to : (components : List Text) (name : Text) (at : ℕ) → is_piece_below components name at ≡ true → is_piece_of components name ≡ true
below_to components name zero e = absurd (cc)
below_to components name (suc n) e =
    elim (or_cases (is_piece_below components name n) (begins (pieces_of (take n name)) name && list_any (bytes_eq (take n name)) components) e) [
      | inl before ↦ below_to components name n before
      | inr here ↦
          let parts = and_parts (begins (pieces_of (take n name)) name) (list_any (bytes_eq (take n name)) components) here in
          text_passes (take n name) components (λ c. begins (pieces_of c) name) parts.1 parts.0
    ]

-- All fronts of a name are enough to see whether it is that of a piece.
pub below_all : (components : List Text) (name : Text) → is_piece_below components name (length name) ≡ is_piece_of components name
below_all components name = same_tests (is_piece_below components name (length name)) (is_piece_of components name) (below_to components name (length name)) back
  where
    back : is_piece_of components name ≡ true → is_piece_below components name (length name) ≡ true
    back e =
        let c = passes (λ x. begins (pieces_of x) name) components e in
        let front = front_at c.one name c.does in
        below_from components name (length name) (length c.one) front.1
        (subst (λ t. (begins (pieces_of t) name && list_any (bytes_eq t) components) ≡ true) (sym front.0)
        (and_from (begins (pieces_of c.one) name) (list_any (bytes_eq c.one) components) c.does (c.there (bytes_eq c.one) (text_itself c.one))))

-- a name of a piece by what stands behind the component
pub begins_at : (at : ℕ) (name : Text) → at ≤ length name → begins (pieces_of (take at name)) name ≡ begins (codes ".part-Frag") (drop at name)
begins_at zero name h = refl
begins_at (suc n) [] h = absurd (omega (arith, h))
begins_at (suc n) (m ∷ name) h = ap (λ (b : Bool). b && begins (pieces_of (take n name)) name) (eq-eqb m m refl) ∙ begins_at n name (omega (arith, h))

or_false : (b : Bool) → (b || false) ≡ b
or_false true = refl
or_false false = refl

or_thrice : (a b c : Bool) → (a || (b || c)) ≡ ((a || b) || c)
or_thrice true b c = refl
or_thrice false b c = refl

-- one more front of a name is asked
below_more : (components : List Text) (name : Text) (at : ℕ) → is_piece_below components name (at + 1)
    ≡ (is_piece_below components name at || (begins (pieces_of (take at name)) name && list_any (bytes_eq (take at name)) components))
below_more components name at = ap (is_piece_below components name) (add-one at)

-- it stands before ".part-Frag"
below_there : (components : List Text) (name : Text) (at : ℕ) → begins (pieces_of (take at name)) name ≡ true → is_piece_below components name (at + 1)
    ≡ (is_piece_below components name at || list_any (bytes_eq (take at name)) components)
below_there components name at begun =
    below_more components name at ∙ ap (λ (b : Bool). is_piece_below components name at || (b && list_any (bytes_eq (take at name)) components)) begun

-- it does not
below_not : (components : List Text) (name : Text) (at : ℕ) → begins (pieces_of (take at name)) name ≡ false → is_piece_below components name (at + 1) ≡ is_piece_below components name at
below_not components name at begun =
    below_more components name at ∙ ap (λ (b : Bool). is_piece_below components name at || (b && list_any (bytes_eq (take at name)) components)) begun
    ∙ or_false (is_piece_below components name at)

-- a place that is put where one or another text is
put_more : (old mid new : Option ℕ) (a b : Bool) (place : ℕ) → mid ≡ option_or old (if a then Some place else None) → new ≡ option_or mid (if b then Some place else None) →
    new ≡ option_or old (if a || b then Some place else None)
put_more old mid new a b place e f =
    f ∙ ap (λ o. option_or o (if b then Some place else None)) e ∙ or_behind old (if a then Some place else None) (if b then Some place else None)
    ∙ ap (option_or old) (or_choice a b place)

put_alike : (old new : Option ℕ) (a b : Bool) (place : ℕ) → a ≡ b → new ≡ option_or old (if a then Some place else None) → new ≡ option_or old (if b then Some place else None)
put_alike old new a b place same e = e ∙ ap (λ (t : Bool). option_or old (if t then Some place else None)) same

-- one more front of a name is put, where it stands before ".part-Frag"
pub front_more : (old mid new : Option ℕ) (front name : Text) (at place : ℕ) → mid ≡ option_or old (if is_piece_below (front ∷ []) name at then Some place else None) →
    begins (pieces_of (take at name)) name ≡ true → new ≡ option_or mid (if bytes_eq front (take at name) then Some place else None) →
    new ≡ option_or old (if is_piece_below (front ∷ []) name (at + 1) then Some place else None)
front_more old mid new front name at place e begun f =
    put_alike old new (is_piece_below (front ∷ []) name at || bytes_eq front (take at name)) (is_piece_below (front ∷ []) name (at + 1)) place
    (ap (λ (b : Bool). is_piece_below (front ∷ []) name at || b) (texts_turned front (take at name) ∙ sym (or_false (bytes_eq (take at name) front)))
    ∙ sym (below_there (front ∷ []) name at begun))
    (put_more old mid new (is_piece_below (front ∷ []) name at) (bytes_eq front (take at name)) place e f)

pub front_not : (old new : Option ℕ) (front name : Text) (at place : ℕ) → new ≡ option_or old (if is_piece_below (front ∷ []) name at then Some place else None) →
    begins (pieces_of (take at name)) name ≡ false → new ≡ option_or old (if is_piece_below (front ∷ []) name (at + 1) then Some place else None)
front_not old new front name at place e begun =
    put_alike old new (is_piece_below (front ∷ []) name at) (is_piece_below (front ∷ []) name (at + 1)) place (sym (below_not (front ∷ []) name at begun)) e

-- all fronts are put
pub front_end : (old new : Option ℕ) (front name : Text) (at place : ℕ) → at ≡ length name → new ≡ option_or old (if is_piece_below (front ∷ []) name at then Some place else None) →
    new ≡ option_or old (if is_front_of name front then Some place else None)
front_end old new front name at place end e =
    put_alike old new (is_piece_below (front ∷ []) name at) (is_front_of name front) place
    (ap (is_piece_below (front ∷ []) name) end ∙ below_all (front ∷ []) name ∙ or_false (is_front_of name front)) e

-- one more front of a name is looked up among the components
pub piece_more : (first found : Option ℕ) (log : Log) (name : Text) (at : ℕ) → AreAscending log → first ≡ first_with (λ names. is_piece_below names.components name at) log →
    begins (pieces_of (take at name)) name ≡ true → found ≡ first_with (has_component (take at name)) log →
    least first found ≡ first_with (λ names. is_piece_below names.components name (at + 1)) log
piece_more first found log name at ascending e begun f =
    (λ i. least (e i) (f i)) ∙ first_of_two (λ names. is_piece_below names.components name at) (has_component (take at name)) log ascending
    ∙ first_alike (λ names. is_piece_below names.components name at || has_component (take at name) names) (λ names. is_piece_below names.components name (at + 1)) log
    (λ names. sym (below_there names.components name at begun))

pub piece_not : (first : Option ℕ) (log : Log) (name : Text) (at : ℕ) → first ≡ first_with (λ names. is_piece_below names.components name at) log →
    begins (pieces_of (take at name)) name ≡ false → first ≡ first_with (λ names. is_piece_below names.components name (at + 1)) log
piece_not first log name at e begun =
    e ∙ first_alike (λ names. is_piece_below names.components name at) (λ names. is_piece_below names.components name (at + 1)) log
    (λ names. sym (below_not names.components name at begun))

pub piece_end : (first : Option ℕ) (log : Log) (name : Text) (at : ℕ) → at ≡ length name → first ≡ first_with (λ names. is_piece_below names.components name at) log →
    first ≡ first_with (λ names. is_piece_of names.components name) log
piece_end first log name at end e =
    e ∙ first_alike (λ names. is_piece_below names.components name at) (λ names. is_piece_of names.components name) log
    (λ names. ap (is_piece_below names.components name) end ∙ below_all names.components name)

-- one more text is asked of each job
pub met_more : (p : Names → Bool) (q : Names → Text → Bool) (first found : Option ℕ) (log : Log) (texts : List Text) (i : ℕ) (d : Text) → i < length texts → AreAscending log →
    first ≡ first_with (λ names. p names || list_any (q names) (take i texts)) log → found ≡ first_with (λ names. q names (get_or texts i d)) log →
    least first found ≡ first_with (λ names. p names || list_any (q names) (take (i + 1) texts)) log
met_more p q first found log texts i d within ascending e f =
    (λ k. least (e k) (f k)) ∙ first_of_two (λ names. p names || list_any (q names) (take i texts)) (λ names. q names (get_or texts i d)) log ascending
    ∙ first_alike (λ names. (p names || list_any (q names) (take i texts)) || q names (get_or texts i d)) (λ names. p names || list_any (q names) (take (i + 1) texts)) log
    (λ names. sym (or_thrice (p names) (list_any (q names) (take i texts)) (q names (get_or texts i d)))
    ∙ ap (λ (b : Bool). p names || b) (sym (list_any_more (q names) texts i d within)))

-- one more text is put
pub text_more : (old mid new : Option ℕ) (q : Text → Bool) (texts : List Text) (i : ℕ) (d : Text) (place : ℕ) → i < length texts →
    mid ≡ option_or old (if list_any q (take i texts) then Some place else None) → new ≡ option_or mid (if q (get_or texts i d) then Some place else None) →
    new ≡ option_or old (if list_any q (take (i + 1) texts) then Some place else None)
text_more old mid new q texts i d place within e f =
    put_alike old new (list_any q (take i texts) || q (get_or texts i d)) (list_any q (take (i + 1) texts)) place (sym (list_any_more q texts i d within))
    (put_more old mid new (list_any q (take i texts)) (q (get_or texts i d)) place e f)

pub none_more : (o : Option ℕ) → o ≡ option_or o None
none_more o = sym (or_none o)

whole_list : {A : Type 0} (i : ℕ) (xs : List A) → i ≡ length xs → take i xs ≡ xs
whole_list i xs e = ap (λ n. take n xs) e ∙ take-length xs

-- all texts are asked of each job
pub met_all : (first : Option ℕ) (log : Log) (exact components : List Text) (names : Names) (j : ℕ) → exact ≡ exact_names names → components ≡ names.components → j ≡ length components →
    first ≡ first_with (λ earlier. list_any (in_family earlier) exact || list_any (λ c. has_piece_of c earlier) (take j components)) log →
    first ≡ first_with (λ earlier. meets earlier names) log
met_all first log exact components names j same also end e =
    e ∙ first_alike (λ earlier. list_any (in_family earlier) exact || list_any (λ c. has_piece_of c earlier) (take j components)) (λ earlier. meets earlier names) log
    (λ earlier. (λ i. list_any (in_family earlier) (same i) || list_any (λ c. has_piece_of c earlier) ((whole_list j components end ∙ also) i)) ∙ meets_by earlier names)

-- all texts of one more job are put
pub text_end : (old new : Option ℕ) (q : Names → Bool) (p : Text → Bool) (log : Log) (place : ℕ) (names : Names) (texts all : List Text) (i : ℕ) → old ≡ first_with q log →
    i ≡ length texts → texts ≡ all → list_any p all ≡ q names → new ≡ option_or old (if list_any p (take i texts) then Some place else None) →
    new ≡ first_with q (log ++ (place, names) ∷ [])
text_end old new q p log place names texts all i was end same passes e =
    put_alike old new (list_any p (take i texts)) (q names) place (ap (list_any p) (whole_list i texts end ∙ same) ∙ passes) e
    ∙ ap (λ o. option_or o (if q names then Some place else None)) was ∙ sym (first_with_last q log place names)

-- no front up to the next is a component
pub piece_nowhere : (components : List Text) (name : Text) (at : ℕ) → is_piece_below components name at ≡ false →
    (begins (pieces_of (take at name)) name && list_any (bytes_eq (take at name)) components) ≡ false → is_piece_below components name (at + 1) ≡ false
piece_nowhere components name at e f = below_more components name at ∙ (λ i. e i || f i)

-- a front is
pub piece_here : (components : List Text) (name : Text) (at : ℕ) → (begins (pieces_of (take at name)) name && list_any (bytes_eq (take at name)) components) ≡ true → is_piece_of components name ≡ true
piece_here components name at e =
    let parts = and_parts (begins (pieces_of (take at name)) name) (list_any (bytes_eq (take at name)) components) e in
    text_passes (take at name) components (λ c. begins (pieces_of c) name) parts.1 parts.0

pub piece_none : (components : List Text) (name : Text) (at : ℕ) → at ≡ length name → is_piece_below components name at ≡ false → false ≡ is_piece_of components name
piece_none components name at end e = sym (sym (below_all components name) ∙ ap (is_piece_below components name) (sym end) ∙ e)
