-- Names with one beginning stand next to each other in order.
use Rattle.std.proofs.Common.{◌≡◌, ℕ, ◌<◌, Bool, true, false, ◌&&◌, cond, List, [], ◌∷◌, refl, sym, ◌∙◌, ap, subst, String, map, nat_eq, arith, Ordering, Less, Equal, Greater}
use Rattle.std.specs.List.{filter, AllByRecursion}
use Rattle.std.specs.BTreeMap.Range.{range_contains}
use Rattle.std.specs.declared.ops.Bound.TheVariants.{Included, Unbounded}
use Rattle.std.specs.Ordering.{MatchOrdering, ordering_then, is_le, nat_cmp}
use Rattle.std.specs.Cmp.{ranks, first_so, second_so}
use Rattle.std.specs.Cmp.Lexicographic.{slice_cmp}
use Rattle.std.specs.String.{string_bytes, string_cmp}
use Rattle.std.specs.declared.alloc.Global.{Global}
use Rattle.std.proofs.lemmas.Bool.Decides.{Decides-eqb}
use Rattle.name_listing.specs.Names.{Name, begins}

abbrev pub Key : Type 0
Key = String Global

abbrev pub named : List Key → List Name
named keys = map (λ key. string_bytes key) keys

-- The name is not below these bytes.
abbrev pub From : Name → Name → Type 0
From prefix name = is_le (slice_cmp nat_cmp prefix name) ≡ true

same_head : (c d : ℕ) → nat_eq c d ≡ true → c ≡ d
same_head c d e = (Decides-eqb c d).0 e

cmp_self : (c : ℕ) (o : Ordering) → MatchOrdering o (c < c) (c ≡ c) (c < c) → o ≡ Equal
cmp_self c Less h = absurd (omega arith)
cmp_self c Equal h = refl
cmp_self c Greater h = absurd (omega arith)

-- What begins with some bytes is not below them.
begins_from : (prefix name : Name) → begins prefix name ≡ true → From prefix name
begins_from [] [] b = refl
begins_from [] (c ∷ cs) b = refl
begins_from (p ∷ ps) [] b = absurd (let bad : false ≡ true = b in cc)
begins_from (p ∷ ps) (c ∷ cs) b =
    subst (λ (d : ℕ). is_le (ordering_then (nat_cmp p d) (slice_cmp nat_cmp ps cs)) ≡ true) (same_head p c (first_so (nat_eq p c) (begins ps cs) b))
    (ap (λ (o : Ordering). is_le (ordering_then o (slice_cmp nat_cmp ps cs))) (cmp_self p (nat_cmp p p) (ranks p p)) ∙ begins_from ps cs (second_so (nat_eq p c) (begins ps cs) b))

heads : (p x : ℕ) (a b r s : Ordering) → MatchOrdering r (p < x) (p ≡ x) (x < p) → MatchOrdering s (x < p) (x ≡ p) (p < x)
    → is_le (ordering_then r a) ≡ true → ordering_then s b ≡ Less → (p ≡ x) × ((is_le a ≡ true) × (b ≡ Less))
heads p x a b Less Less h k le lt = absurd (omega arith)
heads p x a b Less Equal h k le lt = absurd (omega arith)
heads p x a b Less Greater h k le lt = absurd (let bad : Greater ≡ Less = lt in cc)
heads p x a b Equal Less h k le lt = absurd (omega arith)
heads p x a b Equal Equal h k le lt = (h, (le, lt))
heads p x a b Equal Greater h k le lt = absurd (omega arith)
heads p x a b Greater s h k le lt = absurd (let bad : false ≡ true = le in cc)

-- What stands between some bytes and a name that begins with them begins with them.
between : (prefix name later : Name) → From prefix name → slice_cmp nat_cmp name later ≡ Less → begins prefix later ≡ true → begins prefix name ≡ true
between [] name later le lt b = refl
between (p ∷ ps) [] later le lt b = absurd (let bad : false ≡ true = le in cc)
between (p ∷ ps) (x ∷ xs) [] le lt b = absurd (let bad : false ≡ true = b in cc)
between (p ∷ ps) (x ∷ xs) (m ∷ ms) le lt b =
    let is = same_head p m (first_so (nat_eq p m) (begins ps ms) b) in
    let h = heads p x (slice_cmp nat_cmp ps xs) (slice_cmp nat_cmp xs ms) (nat_cmp p x) (nat_cmp x p) (ranks p x) (ranks x p) le
    (subst (λ (d : ℕ). ordering_then (nat_cmp x d) (slice_cmp nat_cmp xs ms) ≡ Less) (sym is) lt) in
    λ i. (Decides-eqb p x).1 h.0 i && between ps xs ms h.1.0 h.1.1 (second_so (nat_eq p m) (begins ps ms) b) i

no_later : (prefix name later : Name) → From prefix name → begins prefix name ≡ false → slice_cmp nat_cmp name later ≡ Less → begins prefix later ≡ false
no_later prefix name later le not lt = by (begins prefix later) refl
  where
    by : (b : Bool) → begins prefix later ≡ b → b ≡ false
    by true e = absurd (let bad : true ≡ false = sym (between prefix name later le lt e) ∙ not in cc)
    by false e = refl

none_later : (prefix name : Name) (keys : List Key) → From prefix name → begins prefix name ≡ false → AllByRecursion (λ key. slice_cmp nat_cmp name (string_bytes key) ≡ Less) keys
    → filter (begins prefix) (named keys) ≡ []
none_later prefix name [] le not h = refl
none_later prefix name (key ∷ keys) le not h =
    ap (λ (b : Bool). cond b (string_bytes key ∷ filter (begins prefix) (named keys)) (filter (begins prefix) (named keys))) (no_later prefix name (string_bytes key) le not h.0)
    ∙ none_later prefix name keys le not h.1

-- Behind a name that does not begin so none does.
pub ends_here : (prefix : Name) (key : Key) (keys : List Key) → From prefix (string_bytes key) → begins prefix (string_bytes key) ≡ false → AllByRecursion (λ other. string_cmp key other ≡ Less) keys
    → filter (begins prefix) (named (key ∷ keys)) ≡ []
ends_here prefix key keys le not h =
    ap (λ (b : Bool). cond b (string_bytes key ∷ filter (begins prefix) (named keys)) (filter (begins prefix) (named keys))) not
    ∙ none_later prefix (string_bytes key) keys le not h

-- whether a key is not below this one
abbrev pub at_least : Key → Key → Bool
at_least first key = range_contains string_cmp (Included first) Unbounded key

least : (first key : Key) → begins (string_bytes first) (string_bytes key) ≡ true → at_least first key ≡ true
least first key b = ap (λ (v : Bool). v && true) (begins_from (string_bytes first) (string_bytes key) b)

begun : (first : Key) (keys : List Key) → filter (begins (string_bytes first)) (named (filter (at_least first) keys)) ≡ filter (begins (string_bytes first)) (named keys)
begun first [] = refl
begun first (key ∷ keys) = by (at_least first key) (begins (string_bytes first) (string_bytes key)) (filter (at_least first) keys) refl (least first key) (begun first keys)
  where
    by : (t b : Bool) (rest : List Key) → begins (string_bytes first) (string_bytes key) ≡ b → (b ≡ true → t ≡ true) → filter (begins (string_bytes first)) (named rest) ≡ filter (begins (string_bytes first)) (named keys)
        → filter (begins (string_bytes first)) (named (cond t (key ∷ rest) rest)) ≡ cond b (string_bytes key ∷ filter (begins (string_bytes first)) (named keys)) (filter (begins (string_bytes first)) (named keys))
    by true b rest e h more =
        ap (λ (v : Bool). cond v (string_bytes key ∷ filter (begins (string_bytes first)) (named rest)) (filter (begins (string_bytes first)) (named rest))) e
        ∙ ap (λ (l : List Name). cond b (string_bytes key ∷ l) l) more
    by false true rest e h more = absurd (let bad : false ≡ true = h refl in cc)
    by false false rest e h more = more

all_from : (first : Key) (keys : List Key) → AllByRecursion (λ key. From (string_bytes first) (string_bytes key)) (filter (at_least first) keys)
all_from first [] = tt
all_from first (key ∷ keys) = by (at_least first key) (filter (at_least first) keys) refl (all_from first keys)
  where
    by : (t : Bool) (rest : List Key) → at_least first key ≡ t → AllByRecursion (λ key. From (string_bytes first) (string_bytes key)) rest → AllByRecursion (λ key. From (string_bytes first) (string_bytes key)) (cond t (key ∷ rest) rest)
    by true rest e more = (first_so (is_le (slice_cmp nat_cmp (string_bytes first) (string_bytes key))) true e, more)
    by false rest e more = more

-- Those from the beginning on have all names that begin so,
pub begun_by : (prefix : Name) (first : Key) (keys : List Key) → string_bytes first ≡ prefix → filter (begins prefix) (named (filter (at_least first) keys)) ≡ filter (begins prefix) (named keys)
begun_by prefix first keys is = subst (λ (p : Name). filter (begins p) (named (filter (at_least first) keys)) ≡ filter (begins p) (named keys)) is (begun first keys)

-- and none is below it.
pub from_by : (prefix : Name) (first : Key) (keys : List Key) → string_bytes first ≡ prefix → AllByRecursion (λ key. From prefix (string_bytes key)) (filter (at_least first) keys)
from_by prefix first keys is = subst (λ (p : Name). AllByRecursion (λ key. From p (string_bytes key)) (filter (at_least first) keys)) is (all_from first keys)
