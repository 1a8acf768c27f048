-- Readers of a text, from left to right to the first fault. K is the kind of a fault.
use Rattle.std.specs.Prelude.{◌≡◌, ℕ, zero, suc, ◌-◌, List, [], ◌∷◌, length, take, drop, Bool, false, ◌==◌, Result, Ok, Err, if◌then◌else◌}
use Rattle.std.specs.List.{prefix_len}
use Rattle.text_base.specs.Spaces.{without_first_spaces}
use Rattle.read_base.specs.declared.read_error.ReadError.{ReadError}
use Rattle.read_base.specs.declared.read_error.ReadError.TheVariants as errors

-- a value, or the kind of a fault with the number of bytes from its place on
abbrev pub Or : Type 0 → Type 0 → Type 0
Or K A = Result A (K × ℕ)

-- a value and the bytes behind it
abbrev pub Read : Type 0 → Type 0 → Type 0
Read K A = Or K (A × List ℕ)

-- the second reader goes on where the first one ended; the first fault counts
infixl 10 ◌>>=◌
abbrev pub ◌>>=◌ : {K A B : Type 0} → Result A (K × ℕ) → (A → Result B (K × ℕ)) → Result B (K × ℕ)
(Ok x) >>= f = f x
(Err e) >>= f = Err e

-- the fault that a function answers is that of the reading; want of memory may come at any time
abbrev pub Fails : {K Y : Type 0} → ReadError K → Result Y (K × ℕ) → Type 0
Fails errors.OutOfMemory read = Unit {0}
Fails (errors.Fault kind left) read = read ≡ Err (kind, left)

-- what a function answers, seen by view, is what the reading gives, unless memory ran out
abbrev pub Gives : {K X Y : Type 0} → (X → Y) → Result X (ReadError K) → Result Y (K × ℕ) → Type 0
Gives view (Ok x) read = read ≡ Ok (view x)
Gives view (Err e) read = Fails e read

-- the fault of a text, by its place from the front
abbrev pub placed : {K A F : Type 0} → (K → ℕ → F) → List ℕ → Result A (K × ℕ) → Result A F
placed fault text (Ok x) = Ok x
placed fault text (Err e) = Err (fault e.0 (length text - e.1))

-- what stands behind the spaces at the front
abbrev pub skip : List ℕ → List ℕ
skip = without_first_spaces

-- whether a byte stands first
abbrev pub is_at : ℕ → List ℕ → Bool
is_at mark [] = false
is_at mark (b ∷ bs) = b == mark

-- what stands behind a mark, which has to stand first
abbrev pub mark_at : {K : Type 0} → K → ℕ → List ℕ → Or K (List ℕ)
mark_at kind mark t = if is_at mark t then Ok (drop 1 t) else Err (kind, length t)

-- a run of one byte or more
abbrev pub run_at : {K : Type 0} → K → (ℕ → Bool) → List ℕ → Read K (List ℕ)
run_at kind p t = let n = prefix_len p t in if n == 0 then Err (kind, length t) else Ok (take n t, drop n t)

-- items as long as one begins, at most so many
unfoldable pub more : {K A : Type 0} → (List ℕ → Bool) → (List ℕ → Read K A) → ℕ → List ℕ → Read K (List A)
more begins item zero t = Ok ([], t)
more begins item (suc n) t =
    if begins t then (do
      x ← item t
      xs ← more begins item n x.1
      Ok (x.0 ∷ xs.0, xs.1))
    else Ok ([], t)

-- items as long as one begins
abbrev pub all_at : {K A : Type 0} → (List ℕ → Bool) → (List ℕ → Read K A) → List ℕ → Read K (List A)
all_at begins item t = more begins item (length t) t
