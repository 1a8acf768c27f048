-- The names beside a component: which differ, and which begin which.
use Rattle.std.proofs.Common.{◌≡◌, ℕ, ◌<◌, ◌^◌, Bool, true, false, List, [], ◌∷◌, ◌++◌, refl, ◌∙◌, ap, eq-eqb, append_assoc}
use Rattle.std.specs.Prelude.{◌||◌, ◌&&◌, not, codes, decimal, bytes_eq, nat_eq}
use Rattle.std.specs.List.{starts_with}
use Rattle.std.proofs.lemmas.Fmt.{decimal_injective}
use Rattle.std.proofs.lemmas.List.{append_cancel_left}
use Rattle.std.proofs.lemmas.Slice.Eq.{bytes_eq-Decides}
use Rattle.plan_record.specs.Names.{begins, is_beside, stem_of, promise_of}
use Rattle.plan_record.specs.Plan.{is_without}
use Rattle.plan_record.proofs.DigitLemmas.{no_point}

same_nat : (c : ℕ) → nat_eq c c ≡ true
same_nat c = eq-eqb c c refl

-- two names that a component's name begins
pub tail_eq : (component a b : List ℕ) → bytes_eq (component ++ a) (component ++ b) ≡ bytes_eq a b
tail_eq [] a b = refl
tail_eq (c ∷ component) a b = ap (λ (v : Bool). v && bytes_eq (component ++ a) (component ++ b)) (same_nat c) ∙ tail_eq component a b

pub eq_self : (component a : List ℕ) → bytes_eq (component ++ a) component ≡ bytes_eq a []
eq_self [] a = refl
eq_self (c ∷ component) a = ap (λ (v : Bool). v && bytes_eq (component ++ a) component) (same_nat c) ∙ eq_self component a

pub tail_begins : (component a b : List ℕ) → begins (component ++ a) (component ++ b) ≡ begins a b
tail_begins [] a b = refl
tail_begins (c ∷ component) a b = ap (λ (v : Bool). v && begins (component ++ a) (component ++ b)) (same_nat c) ∙ tail_begins component a b

pub begins_self : (component a : List ℕ) → begins (component ++ a) component ≡ begins a []
begins_self [] a = refl
begins_self (c ∷ component) a = ap (λ (v : Bool). v && begins (component ++ a) component) (same_nat c) ∙ begins_self component a

-- `begins` is the standard library's test.
pub begins_is : (prefix name : List ℕ) → starts_with nat_eq name prefix ≡ begins prefix name
begins_is [] name = refl
begins_is (c ∷ cs) [] = refl
begins_is (c ∷ cs) (d ∷ ds) = ap (λ (b : Bool). nat_eq c d && b) (begins_is cs ds)

-- The component's own name is none of those beside it.
pub own_not_beside : (component : List ℕ) → is_beside component component ≡ false
own_not_beside component = λ i.
    eq_self component (codes ".ytdl") i || (eq_self component (codes ".ytdl.new") i || (eq_self component (codes ".part") i || begins_self component (codes ".part-Frag") i))

-- A name that is not without a byte begins none that is.
not_begun : (a b : List ℕ) (byte : ℕ) → is_without byte b ≡ true → begins (a ++ byte ∷ []) b ≡ false
not_begun [] [] byte free = refl
not_begun [] (d ∷ b) byte free = by (nat_eq byte d) free
  where
    by : (v : Bool) → (not v && is_without byte b) ≡ true → (v && begins [] b) ≡ false
    by true e = absurd (cc)
    by false e = refl
not_begun (c ∷ a) [] byte free = refl
not_begun (c ∷ a) (d ∷ b) byte free = ap (λ (v : Bool). nat_eq c d && v) (not_begun a b byte (rest (nat_eq byte d) free)) ∙ and_false (nat_eq c d)
  where
    rest : (v : Bool) → (not v && is_without byte b) ≡ true → is_without byte b ≡ true
    rest true e = absurd (cc)
    rest false e = e

    and_false : (v : Bool) → (v && false) ≡ false
    and_false true = refl
    and_false false = refl

-- No stem followed by a point begins another.
pub stem_not_begun : (component : List ℕ) (piece other : ℕ) → other < 2 ^ 64 → begins (stem_of component piece ++ 46 ∷ []) (stem_of component other) ≡ false
stem_not_begun component piece other small =
    ap (λ (name : List ℕ). begins name (stem_of component other)) (append_assoc component (codes ".part-Frag" ++ decimal piece) (46 ∷ []))
    ∙ tail_begins component ((codes ".part-Frag" ++ decimal piece) ++ 46 ∷ []) (codes ".part-Frag" ++ decimal other)
    ∙ not_begun (decimal piece) (decimal other) 46 (no_point other small)

-- No stem is another's.
pub stem_sole : (component : List ℕ) (piece other : ℕ) → piece < 2 ^ 64 → other < 2 ^ 64 → stem_of component piece ≡ stem_of component other → piece ≡ other
stem_sole component piece other small also same =
    decimal_injective piece other small also (append_cancel_left (codes ".part-Frag") (decimal piece) (decimal other)
    (append_cancel_left component (codes ".part-Frag" ++ decimal piece) (codes ".part-Frag" ++ decimal other) same))

pub stems_are_apart : (component : List ℕ) (piece other : ℕ) → piece < 2 ^ 64 → other < 2 ^ 64 → (piece ≡ other → ⊥) →
    (bytes_eq (stem_of component piece) (stem_of component other) || begins (stem_of component piece ++ 46 ∷ []) (stem_of component other)) ≡ false
stems_are_apart component piece other small also differ =
    ap (λ (v : Bool). bytes_eq (stem_of component piece) (stem_of component other) || v) (stem_not_begun component piece other also)
    ∙ or_false (bytes_eq (stem_of component piece) (stem_of component other)) (λ same. differ (stem_sole component piece other small also ((bytes_eq-Decides (stem_of component piece) (stem_of component other)).0 same)))
  where
    or_false : (v : Bool) → (v ≡ true → ⊥) → (v || false) ≡ false
    or_false true not_so = absurd (not_so refl)
    or_false false not_so = refl

-- A promise's name is its stem, `.@` and the number.
pub stem_promises : (component : List ℕ) (piece len : ℕ) → (stem_of component piece ++ 46 ∷ 64 ∷ []) ++ decimal len ≡ promise_of component piece len
stem_promises component piece len =
    append_assoc (stem_of component piece) (codes ".@") (decimal len)
    ∙ append_assoc component (codes ".part-Frag" ++ decimal piece) (codes ".@" ++ decimal len)
    ∙ ap (λ (rest : List ℕ). component ++ rest) (append_assoc (codes ".part-Frag") (decimal piece) (codes ".@" ++ decimal len))
