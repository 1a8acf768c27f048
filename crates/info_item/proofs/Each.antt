-- The values of all entries, entry by entry.
use Rattle.std.proofs.Common.{◌≡◌, ℕ, zero, suc, ◌+◌, List, [], ◌∷◌, ◌++◌, refl, subst, arith}
use Rattle.std.specs.Prelude.{Some, Result, Ok, Err, take, slice_get}
use Rattle.info_item.specs.Formats.{each, joined, IsFaultOf}
use Rattle.info_item.specs.declared.item_fault.ItemFault.{ItemFault}
use Rattle.info_item.specs.declared.item_fault.ItemFault.TheVariants.{NotItem, NoId, NoFormats, FormatId, OutOfMemory}

-- the parts of a list of values
joined-parts : {B E : Type 0} (r : Result B E) (s : Result (List B) E) (ys : List B) → joined r s ≡ Ok ys →
    (b : B) × (bs : List B) × (r ≡ Ok b) × (s ≡ Ok bs) × (ys ≡ b ∷ bs)
joined-parts (Err e) s ys h = absurd (cc)
joined-parts (Ok b) (Err e) ys h = absurd (cc)
joined-parts (Ok b) (Ok bs) ys h = (b, bs, refl, refl, cc)

join-first : {B E : Type 0} (r : Result B E) (y : B) (ys : List B) → r ≡ Ok y → ys ≡ [] → joined r (Ok []) ≡ Ok (ys ++ y ∷ [])
join-first r y ys e none = rw (e, none) refl

join-next : {B E : Type 0} (r : Result B E) (s : Result (List B) E) (b : B) (bs : List B) (y : B) (ys : List B) →
    r ≡ Ok b → s ≡ Ok (bs ++ y ∷ []) → ys ≡ b ∷ bs → joined r s ≡ Ok (ys ++ y ∷ [])
join-next r s b bs y ys e f g = rw (e, f, g) refl

join-fault : {B E : Type 0} (r : Result B E) (s : Result (List B) E) (b : B) (e : E) → r ≡ Ok b → s ≡ Err e → joined r s ≡ Err e
join-fault r s b e f g = rw (f, g) refl

join-stop : {B E : Type 0} (r : Result B E) (s : Result (List B) E) (e : E) → r ≡ Err e → joined r s ≡ Err e
join-stop r s e f = rw f refl

module _ {A B E : Type 0} (f : ℕ → A → Result B E) where
  -- behind all values of a front, the value of one more entry
  next_at : (k j : ℕ) (xs : List A) (ys : List B) (x : A) (y : B) →
      slice_get xs j ≡ Some x → each f k (take j xs) ≡ Ok ys → f (k + j) x ≡ Ok y → each f k (take (suc j) xs) ≡ Ok (ys ++ y ∷ [])
  next_at k j [] ys x y g h v = absurd (cc)
  next_at k zero (a ∷ xs) ys x y g h v =
      let same : a ≡ x = cc in
      let none : ys ≡ [] = cc in
      let at : k + 0 ≡ k = omega arith in
      let v' : f k a ≡ Ok y = rw same (subst (λ (n : ℕ). f n x ≡ Ok y) at v) in
      join-first (f k a) y ys v' none
  next_at k (suc j) (a ∷ xs) ys x y g h v =
      let p = joined-parts (f k a) (each f (k + 1) (take j xs)) ys h in
      let at : k + suc j ≡ (k + 1) + j = omega arith in
      let v' : f ((k + 1) + j) x ≡ Ok y = subst (λ (n : ℕ). f n x ≡ Ok y) at v in
      join-next (f k a) (each f (k + 1) (take (suc j) xs)) p.0 p.1 y ys p.2 (next_at (k + 1) j xs p.1 x y g p.3 v') p.4

  -- behind all values of a front, a fault
  fault_at : (k j : ℕ) (xs : List A) (ys : List B) (x : A) (e : E) →
      slice_get xs j ≡ Some x → each f k (take j xs) ≡ Ok ys → f (k + j) x ≡ Err e → each f k xs ≡ Err e
  fault_at k j [] ys x e g h v = absurd (cc)
  fault_at k zero (a ∷ xs) ys x e g h v =
      let same : a ≡ x = cc in
      let at : k + 0 ≡ k = omega arith in
      let v' : f k a ≡ Err e = rw same (subst (λ (n : ℕ). f n x ≡ Err e) at v) in
      join-stop (f k a) (each f (k + 1) xs) e v'
  fault_at k (suc j) (a ∷ xs) ys x e g h v =
      let p = joined-parts (f k a) (each f (k + 1) (take j xs)) ys h in
      let at : k + suc j ≡ (k + 1) + j = omega arith in
      let v' : f ((k + 1) + j) x ≡ Err e = subst (λ (n : ℕ). f n x ≡ Err e) at v in
      join-fault (f k a) (each f (k + 1) xs) p.0 e p.2 (fault_at (k + 1) j xs p.1 x e g p.3 v')

  pub each-next : (j : ℕ) (xs : List A) (ys : List B) (x : A) (y : B) →
      slice_get xs j ≡ Some x → each f 0 (take j xs) ≡ Ok ys → f j x ≡ Ok y → each f 0 (take (j + 1) xs) ≡ Ok (ys ++ y ∷ [])
  each-next j xs ys x y g h v =
      let at : j ≡ 0 + j = omega arith in
      let one : suc j ≡ j + 1 = omega arith in
      subst (λ (n : ℕ). each f 0 (take n xs) ≡ Ok (ys ++ y ∷ [])) one (next_at 0 j xs ys x y g h (subst (λ (n : ℕ). f n x ≡ Ok y) at v))

  pub each-fault : (j : ℕ) (xs : List A) (ys : List B) (x : A) (e : E) →
      slice_get xs j ≡ Some x → each f 0 (take j xs) ≡ Ok ys → f j x ≡ Err e → each f 0 xs ≡ Err e
  each-fault j xs ys x e g h v =
      let at : j ≡ 0 + j = omega arith in fault_at 0 j xs ys x e g h (subst (λ (n : ℕ). f n x ≡ Err e) at v)

-- the fault of one entry behind the values of all before it is the fault of the list
pub each-IsFaultOf : {A B : Type 0} (f : ℕ → A → Result B ItemFault) (j : ℕ) (xs : List A) (ys : List B) (x : A) (e : ItemFault) →
    slice_get xs j ≡ Some x → each f 0 (take j xs) ≡ Ok ys → IsFaultOf (f j x) e → IsFaultOf (each f 0 xs) e
each-IsFaultOf f j xs ys x (NotItem k) g h v = each-fault f j xs ys x (NotItem k) g h v
each-IsFaultOf f j xs ys x (NoId k) g h v = each-fault f j xs ys x (NoId k) g h v
each-IsFaultOf f j xs ys x (NoFormats k) g h v = each-fault f j xs ys x (NoFormats k) g h v
each-IsFaultOf f j xs ys x (FormatId k i) g h v = each-fault f j xs ys x (FormatId k i) g h v
each-IsFaultOf f j xs ys x OutOfMemory g h v = tt
