-- What a reader may promise: what it takes is spelled so, what is spelled so is taken, a refused text could have gone on up to the
-- fault's place, and a fault stays whatever stands behind its first bytes. P is how a value is spelled.
use Rattle.std.specs.Prelude.{◌≡◌, ℕ, ◌+◌, ◌-◌, ◌≤◌, List, [], ◌∷◌, ◌++◌, length, Bool, true, Result, Ok, Err}

-- the text begins with what is spelled so, and the rest stands behind it
abbrev pub Takes : {A : Type 0} → (List ℕ → A → Type 0) → List ℕ → A × List ℕ → Type 0
Takes P t p = (s : List ℕ) × P s p.0 × (t ≡ s ++ p.1)

-- what is taken is spelled so
abbrev pub Spells : {K A : Type 0} → (List ℕ → Result (A × List ℕ) (K × ℕ)) → (List ℕ → A → Type 0) → Type 0
Spells {K} {A} item P = (t : List ℕ) (p : A × List ℕ) → item t ≡ Ok p → Takes P t p

-- the same, where the test says that an item begins
abbrev pub SpellsWhere : {K A : Type 0} → (List ℕ → Bool) → (List ℕ → Result (A × List ℕ) (K × ℕ)) → (List ℕ → A → Type 0) → Type 0
SpellsWhere {K} {A} begins item P = (t : List ℕ) (p : A × List ℕ) → begins t ≡ true → item t ≡ Ok p → Takes P t p

-- what is spelled so is taken, before any rest of which the last fact is true
abbrev pub Again : {K A : Type 0} → (List ℕ → Result (A × List ℕ) (K × ℕ)) → (List ℕ → A → Type 0) → (List ℕ → Type 0) → Type 0
Again {K} {A} item P Free = (s : List ℕ) (x : A) (r : List ℕ) → P s x → Free r → item (s ++ r) ≡ Ok (x, r)

-- whether the first byte, where there is one, passes the test
abbrev pub head_is : (ℕ → Bool) → List ℕ → Bool
head_is p [] = true
head_is p (b ∷ bs) = p b

-- up to where so many bytes are left the text is the front of what is spelled so; a byte that passes the test stands there, or none
pub record Opened {A : Type 0} (first : ℕ → Bool) (P : List ℕ → A → Type 0) (t : List ℕ) (left : ℕ) : Type 0 where
  pub front : List ℕ
  pub behind : List ℕ
  pub rest : List ℕ
  pub value : A
  pub is : P (front ++ behind) value
  pub parts : t ≡ front ++ rest
  pub len : length rest ≡ left
  pub solid : head_is first rest ≡ true

-- a text that is refused could have gone on up to the fault's place
abbrev pub Opens : {K A : Type 0} → (ℕ → Bool) → (List ℕ → Result (A × List ℕ) (K × ℕ)) → (List ℕ → A → Type 0) → Type 0
Opens {K} {A} first item P = (t : List ℕ) (d : K × ℕ) → item t ≡ Err d → Opened first P t d.1

-- the same, where the test says that an item begins
abbrev pub OpensWhere : {K A : Type 0} → (ℕ → Bool) → (List ℕ → Bool) → (List ℕ → Result (A × List ℕ) (K × ℕ)) → (List ℕ → A → Type 0) → Type 0
OpensWhere {K} {A} first begins item P = (t : List ℕ) (d : K × ℕ) → begins t ≡ true → item t ≡ Err d → Opened first P t d.1

-- which kinds of fault are settled by the bytes at their place, by how many, and which byte may stand first there
pub record Settling (K : Type 0) : Type 0 where
  pub is_settled : K → Bool
  pub width : ℕ
  pub first : ℕ → Bool

-- two texts with the same first bytes, as many as settle a fault
pub record Twin {K : Type 0} (S : Settling K) (c d : List ℕ) : Type 0 where
  pub a : ℕ
  pub w : List ℕ
  pub u : List ℕ
  pub v : List ℕ
  pub one : c ≡ a ∷ (w ++ u)
  pub other : d ≡ a ∷ (w ++ v)
  pub wide : S.width ≤ length w + 1
  pub solid : S.first a ≡ true

-- a reader leaves an end of what it was given, and finds a settled fault in it
abbrev pub Shrinks : {K A : Type 0} → Settling K → List ℕ → Result (A × List ℕ) (K × ℕ) → Type 0
Shrinks S t (Ok p) = (s : List ℕ) × (t ≡ s ++ p.1)
Shrinks S t (Err e) = S.is_settled e.0 ≡ true → e.1 ≤ length t

-- reading ends no further than where c begins
abbrev pub Within : {K A : Type 0} → Settling K → List ℕ → Result (A × List ℕ) (K × ℕ) → Type 0
Within S c (Ok p) = length c ≤ length p.1
Within S c (Err e) = (S.is_settled e.0 ≡ true) × (length c ≤ e.1)

-- the same with d in the place of c
abbrev pub Moved : {K A : Type 0} → List ℕ → List ℕ → Result (A × List ℕ) (K × ℕ) → Result (A × List ℕ) (K × ℕ) → Type 0
Moved c d (Ok p) other = (q : List ℕ) × (p.1 ≡ q ++ c) × (other ≡ Ok (p.0, q ++ d))
Moved c d (Err e) other = other ≡ Err (e.0, e.1 - length c + length d)

-- what is read up to a place does not depend on what follows the bytes that settle a fault there
pub record Local {K A : Type 0} (S : Settling K) (item : List ℕ → Result (A × List ℕ) (K × ℕ)) : Type 0 where
  pub shrinks : (t : List ℕ) → Shrinks S t (item t)
  pub moves : (s c d : List ℕ) → Twin S c d → Within S c (item (s ++ c)) → Moved c d (item (s ++ c)) (item (s ++ d))
