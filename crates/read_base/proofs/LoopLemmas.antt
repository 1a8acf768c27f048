-- Items one after the other, as a loop reads them.
use Rattle.std.proofs.Common.{◌≡◌, ℕ, zero, suc, ◌-◌, ◌+◌, ◌≤◌, ◌<◌, Bool, true, false, List, [], ◌∷◌, ◌++◌, Result, Ok, Err, refl, sym, ap, ◌∙◌, append_assoc, arith, append-nil}
use Rattle.read_base.specs.declared.read_error.ReadError.{ReadError}
use Rattle.read_base.specs.declared.read_error.ReadError.TheVariants as errors
use Rattle.read_base.specs.Reads.{◌>>=◌, Fails, more}

-- what was read before, and what is still read
abbrev pub with_front : {K A : Type 0} → List A → Result (List A × List ℕ) (K × ℕ) → Result (List A × List ℕ) (K × ℕ)
with_front front read = read >>= λ x. Ok (front ++ x.0, x.1)

regroup : {K A : Type 0} (front : List A) (n : A) (read : Result (List A × List ℕ) (K × ℕ)) → with_front front (read >>= λ x. Ok (n ∷ x.0, x.1)) ≡ with_front (front ++ n ∷ []) read
regroup {K} {A} front n (Ok x) = ap (λ (ns : List A). Ok (ns, x.1)) (simp append_assoc)
regroup front n (Err f) = refl

-- an item was read
pub goes_on : {K A : Type 0} (begins : List ℕ → Bool) (item : List ℕ → Result (A × List ℕ) (K × ℕ)) (front : List A) (count i : ℕ) (bytes : List ℕ) (n : A) (after : List ℕ) (total : Result (List A × List ℕ) (K × ℕ)) → i < count
    → begins bytes ≡ true → item bytes ≡ Ok (n, after)
    → with_front front (more begins item (count - i) bytes) ≡ total → with_front (front ++ n ∷ []) (more begins item (count - (i + 1)) after) ≡ total
unfolding more
goes_on {K} begins item front count i bytes n after total lt here h so_far =
    let k : count - i ≡ suc (count - (i + 1)) = omega arith in
    let one : with_front {K = K} front (more begins item (count - i) bytes) ≡ with_front (front ++ n ∷ []) (more begins item (count - (i + 1)) after) = rw (k, here, h) (regroup front n (more begins item (count - (i + 1)) after)) in
    sym one ∙ so_far

-- an item is at fault
pub ends : {K A : Type 0} (begins : List ℕ → Bool) (item : List ℕ → Result (A × List ℕ) (K × ℕ)) (e : ReadError K) (front : List A) (count i : ℕ) (bytes : List ℕ) (total : Result (List A × List ℕ) (K × ℕ)) → i < count
    → begins bytes ≡ true → Fails e (item bytes)
    → with_front front (more begins item (count - i) bytes) ≡ total → Fails e total
unfolding more
ends begins item errors.OutOfMemory front count i bytes total lt here h so_far = tt
ends {K} begins item (errors.Fault kind left) front count i bytes total lt here h so_far =
    let k : count - i ≡ suc (count - (i + 1)) = omega arith in
    let one : with_front {K = K} front (more begins item (count - i) bytes) ≡ Err (kind, left) = rw (k, here, h) refl in
    sym so_far ∙ one

-- as many items were read as may stand there
pub is_done : {K A : Type 0} (begins : List ℕ → Bool) (item : List ℕ → Result (A × List ℕ) (K × ℕ)) (front : List A) (count i : ℕ) (bytes : List ℕ) (total : Result (List A × List ℕ) (K × ℕ)) → count ≤ i
    → with_front front (more begins item (count - i) bytes) ≡ total → total ≡ Ok (front, bytes)
unfolding more
is_done {K} {A} begins item front count i bytes total le so_far =
    let k : count - i ≡ 0 = omega arith in
    let one : with_front {K = K} front (more begins item (count - i) bytes) ≡ Ok (front, bytes) = rw k (ap (λ (ns : List A). Ok (ns, bytes)) (append-nil front)) in
    sym so_far ∙ one

over_by : {K A : Type 0} (begins : List ℕ → Bool) (item : List ℕ → Result (A × List ℕ) (K × ℕ)) (front : List A) (n : ℕ) (bytes : List ℕ) (total : Result (List A × List ℕ) (K × ℕ))
    → begins bytes ≡ false
    → with_front front (more begins item n bytes) ≡ total → total ≡ Ok (front, bytes)
unfolding more
over_by {K} {A} begins item front zero bytes total none so_far = sym so_far ∙ ap (λ (ns : List A). Ok (ns, bytes)) (append-nil front)
over_by {K} {A} begins item front (suc n) bytes total none so_far =
    let one : with_front {K = K} front (more begins item (suc n) bytes) ≡ Ok (front, bytes) = rw none (ap (λ (ns : List A). Ok (ns, bytes)) (append-nil front)) in
    sym so_far ∙ one

-- no item begins any more
pub is_over : {K A : Type 0} (begins : List ℕ → Bool) (item : List ℕ → Result (A × List ℕ) (K × ℕ)) (front : List A) (count i : ℕ) (bytes : List ℕ) (total : Result (List A × List ℕ) (K × ℕ))
    → begins bytes ≡ false
    → with_front front (more begins item (count - i) bytes) ≡ total → total ≡ Ok (front, bytes)
is_over begins item front count i bytes total none so_far = over_by begins item front (count - i) bytes total none so_far
