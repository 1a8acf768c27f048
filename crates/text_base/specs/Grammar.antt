-- The grammar of numbers (RFC 8259, section 6) as a relation: number = [ minus ] int [ frac ] [ exp ].
use Rattle.std.specs.Prelude.{◌≡◌, ℕ, ◌<◌, List, [], ◌∷◌, ◌++◌, length, ◌⊎◌, slice_index}
use Rattle.text_base.specs.Spelled.{AreDigits}

-- one digit or more
pub record IsDigits (bs : List ℕ) : Type 0 where
  pub some_digit : 0 < length bs
  pub digits : AreDigits bs

-- int: a zero, or digits that begin with another
pub record IsInt (bs : List ℕ) : Type 0 where
  pub are_digits : IsDigits bs
  pub lone_zero : slice_index bs 0 ≡ 48 → length bs ≡ 1

-- frac: a point and digits
pub record IsFrac (bs : List ℕ) : Type 0 where
  pub behind : List ℕ
  pub is_marked : bs ≡ 46 ∷ behind
  pub are_digits : IsDigits behind

-- a plus sign, a minus sign or none
abbrev pub IsSign : List ℕ → Type 0
IsSign bs = (bs ≡ []) ⊎ ((bs ≡ 43 ∷ []) ⊎ (bs ≡ 45 ∷ []))

-- exp: e or E, a sign or none, and digits
pub record IsExp (bs : List ℕ) : Type 0 where
  pub mark : ℕ
  pub sign : List ℕ
  pub behind : List ℕ
  pub is_marked : bs ≡ mark ∷ (sign ++ behind)
  pub is_mark : (mark ≡ 101) ⊎ (mark ≡ 69)
  pub is_sign : IsSign sign
  pub are_digits : IsDigits behind

-- a text is one number
pub record IsNumber (text : List ℕ) : Type 0 where
  pub minus : List ℕ
  pub int : List ℕ
  pub frac : List ℕ
  pub exp : List ℕ
  pub is_minus : (minus ≡ []) ⊎ (minus ≡ 45 ∷ [])
  pub is_int : IsInt int
  pub is_frac : (frac ≡ []) ⊎ IsFrac frac
  pub is_exp : (exp ≡ []) ⊎ IsExp exp
  pub is_spelled : text ≡ minus ++ (int ++ (frac ++ exp))
