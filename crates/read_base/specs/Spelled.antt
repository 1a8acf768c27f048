-- How lists of items are spelled.
use Rattle.std.specs.Prelude.{◌≡◌, ℕ, List, [], ◌∷◌, ◌++◌, Bool, true, ◌==◌}

-- each byte passes the test
abbrev pub AreAll : (ℕ → Bool) → List ℕ → Type 0
AreAll p [] = Unit {0}
AreAll p (b ∷ bs) = (p b ≡ true) × AreAll p bs

-- spaces, or none
abbrev pub IsGap : List ℕ → Type 0
IsGap = AreAll (λ b. b == 32)

-- spaces, and behind them what is spelled so
pub record Spaced {A : Type 0} (P : List ℕ → A → Type 0) (text : List ℕ) (x : A) : Type 0 where
  pub gap : List ℕ
  pub rest : List ℕ
  pub is_gap : IsGap gap
  pub is : P rest x
  pub parts : text ≡ gap ++ rest

-- a mark, and behind it what is spelled so
abbrev pub Behind : {A : Type 0} → ℕ → (List ℕ → A → Type 0) → List ℕ → A → Type 0
Behind mark P text x = (rest : List ℕ) × P rest x × (text ≡ mark ∷ rest)

-- items one after the other
abbrev pub IsMore : {A : Type 0} → (List ℕ → A → Type 0) → List ℕ → List A → Type 0
IsMore P text [] = text ≡ []
IsMore P text (x ∷ xs) = (one others : List ℕ) × P one x × IsMore P others xs × (text ≡ one ++ others)

-- one item or more
abbrev pub IsSome : {A : Type 0} → (List ℕ → A → Type 0) → List ℕ → A × List A → Type 0
IsSome P text v = IsMore P text (v.0 ∷ v.1)

-- a value, and behind it what is spelled as it allows
abbrev pub Then : {A B : Type 0} → (List ℕ → A → Type 0) → (A → List ℕ → B → Type 0) → List ℕ → B → Type 0
Then {A} {B} P Q text y = (one rest : List ℕ) × (x : A) × P one x × Q x rest y × (text ≡ one ++ rest)
