-- How a number is spelled (RFC 8259, section 6): number = [ minus ] int [ frac ] [ exp ].
use Rattle.std.specs.Prelude.{ℕ, ◌+◌, List, drop, Bool, ◌&&◌, ◌||◌, not, ◌==◌, nat_le, if◌then◌else◌, slice_index}
use Rattle.std.specs.List.{position_or_len}

-- a decimal digit
abbrev pub is_digit : ℕ → Bool
is_digit b = nat_le 48 b && nat_le b 57

-- how many digits stand at the front
unfoldable pub digits_length : List ℕ → ℕ
digits_length = position_or_len (λ b. not (is_digit b))

-- the length of a minus sign at the front
abbrev pub minus_length : List ℕ → ℕ
minus_length bs = if slice_index bs 0 == 45 then 1 else 0

-- the length of a sign, which an exponent may have
abbrev pub sign_length : List ℕ → ℕ
sign_length bs = if slice_index bs 0 == 43 then 1 else minus_length bs

-- the length of int at the front: a zero, or digits that begin with none; 0 where there is none
abbrev pub int_length : List ℕ → ℕ
int_length bs = if slice_index bs 0 == 48 then 1 else digits_length bs

-- the length of what a mark of this length and the digits behind it take together; 0 without digits
abbrev pub marked_length : ℕ → List ℕ → ℕ
marked_length mark bs = if digits_length (drop mark bs) == 0 then 0 else mark + digits_length (drop mark bs)

-- the length of frac at the front: a point and digits; 0 where there is none
abbrev pub frac_length : List ℕ → ℕ
frac_length bs = if slice_index bs 0 == 46 then marked_length 1 bs else 0

-- the length of exp at the front: e or E, a sign where there is one, and digits; 0 where there is none
abbrev pub exp_length : List ℕ → ℕ
exp_length bs =
    if slice_index bs 0 == 101 || slice_index bs 0 == 69 then marked_length (1 + sign_length (drop 1 bs)) bs else 0

-- the length of the longest number without a minus sign at the front; 0 where none begins there
unfoldable pub unsigned_length : List ℕ → ℕ
unsigned_length bs =
    let int = int_length bs in
    let frac = frac_length (drop int bs) in
    if int == 0 then 0 else int + frac + exp_length (drop (int + frac) bs)

-- the length of the longest number at the front; 0 where none begins there
unfoldable pub number_length : List ℕ → ℕ
number_length bs =
    let minus = minus_length bs in
    if unsigned_length (drop minus bs) == 0 then 0 else minus + unsigned_length (drop minus bs)
