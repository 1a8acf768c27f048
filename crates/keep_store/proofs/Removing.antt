-- How the other names of a piece are removed.
use Rattle.std.proofs.Common.{◌≡◌, ◌⊎◌, inl, inr, ⊎_elim, ℕ, zero, suc, ◌+◌, ◌<◌, ◌≤◌, true, false, List, [], ◌∷◌, length, get_or, refl, sym, ◌∙◌, ap, subst, arith}
use Rattle.std.specs.Prelude.{Option, None, IsSome, bytes_eq}
use Rattle.std.specs.Ordering.{is_eq, nat_cmp}
use Rattle.std.specs.Cmp.Lexicographic.{slice_cmp}
use Rattle.std.specs.List.{AllByRecursion}
use Rattle.std.specs.List.Sorted.{IsStrictlySortedBy}
use Rattle.std.specs.declared.cmp.Ordering.TheVariants.{Less}
use Rattle.std.proofs.lemmas.Bool.{cases_lt}
use Rattle.std.proofs.lemmas.Map.Text.{is_eq-slice_cmp}
use Rattle.folder_base.specs.Disk.{Name, File, Names, Disk, put, removed}
use Rattle.std.proofs.lemmas.List.Elements.{Contains-get_or}
use Rattle.folder_base.specs.Story.{Story, Next}
use Rattle.folder_base.proofs.Images.{same_or_not, same_name, put_here, put_there, put_elim}
use Rattle.folder_base.proofs.Moments.{begun, goes_on}
use Rattle.keep_store.specs.Opening.{IsOther, Removes, KeepsOthers, Secures, MayRemove, AllStand}
use Rattle.keep_store.specs.Safe.{Safe, Kept}
use Rattle.keep_store.proofs.SafeSteps.{safe_removed}
use Rattle.keep_store.proofs.SafeImages.{safe_kept}

-- the names from this place on stand
abbrev pub LeftFrom : ℕ → List Name → Names → Type 0
LeftFrom i names live = (k : ℕ) (d : Name) → i ≤ k → k < length names → IsSome (live (get_or names k d))

less_apart : (a b : Name) → slice_cmp nat_cmp a b ≡ Less → bytes_eq a b ≡ false
less_apart a b less = sym (is_eq-slice_cmp a b) ∙ ap is_eq less

all_at : (P : Name → Type 0) (xs : List Name) (k : ℕ) (d : Name) → AllByRecursion P xs → k < length xs → P (get_or xs k d)
all_at P [] k d all below = absurd (omega arith)
all_at P (x ∷ xs) zero d all below = all.0
all_at P (x ∷ xs) (suc k) d all below = all_at P xs k d all.1 (omega arith)

-- Names in strict order differ.
pub names_apart : (names : List Name) (j k : ℕ) (d e : Name) → IsStrictlySortedBy (slice_cmp nat_cmp) names → j < k → k < length names → bytes_eq (get_or names j d) (get_or names k e) ≡ false
unfolding IsStrictlySortedBy
names_apart [] j k d e sorted before below = absurd (omega arith)
names_apart (x ∷ xs) j zero d e sorted before below = absurd (omega arith)
names_apart (x ∷ xs) zero (suc k) d e sorted before below = less_apart x (get_or xs k e) (all_at (λ y. slice_cmp nat_cmp x y ≡ Less) xs k e sorted.0 (omega arith))
names_apart (x ∷ xs) (suc j) (suc k) d e sorted before below = names_apart xs j k d e sorted.1 (omega arith) (omega arith)

-- one name removed
module _ (prefix current : Name) (names : List Name) (i : ℕ) (name : Name) (old mid new : Disk) (below : i < length names) (is_name : (d : Name) → get_or names i d ≡ name) where
  pub removes_one : new ≡ removed name mid → IsOther prefix current name → Removes prefix current names i old mid → Removes prefix current names (i + 1) old new
  removes_one is other so_far = record { gone = gone; only = only }
    where
      live_is : (n : Name) → new.live n ≡ put mid.live name None n
      live_is n = ap (λ (d : Disk). d.live n) is

      gone : (k : ℕ) (n : Name) → k < i + 1 → k < length names → get_or names k n ≡ n → IsOther prefix current n → new.live n ≡ None
      gone k n before inside at another = live_is n ∙ put_elim (λ o. o ≡ None) mid.live name None n (λ same. refl) (λ apart. ⊎_elim
          (λ earlier. so_far.gone k n earlier inside at another)
          (λ here. absurd (let x : bytes_eq name n ≡ true = subst (λ (m : Name). bytes_eq name m ≡ true) (sym (is_name n) ∙ ap (λ (j : ℕ). get_or names j n) here ∙ at) (same_name name) in cc))
          (cases k before))
        where
          cases : (j : ℕ) → j < i + 1 → (j < i) ⊎ (i ≡ j)
          cases j below = ⊎_elim (λ l. inl l) (λ le. inr (omega arith)) (cases_lt j i)

      only : (n : Name) → (new.live n ≡ old.live n) ⊎ ((new.live n ≡ None) × IsOther prefix current n)
      only n = elim (same_or_not name n) [
        | inl same ↦ inr (live_is n ∙ subst (λ (m : Name). put mid.live name None m ≡ None) same.1 (put_here mid.live name None), subst (λ (m : Name). IsOther prefix current m) same.1 other)
        | inr apart ↦ ⊎_elim (λ kept. inl (live_is n ∙ put_there mid.live name n None apart ∙ kept)) (λ lost. inr (live_is n ∙ put_there mid.live name n None apart ∙ lost.0, lost.1)) (so_far.only n)
      ]

  pub passes_one : (IsOther prefix current name → ⊥) → Removes prefix current names i old mid → Removes prefix current names (i + 1) old mid
  passes_one none so_far = record { gone = gone; only = so_far.only }
    where
      gone : (k : ℕ) (n : Name) → k < i + 1 → k < length names → get_or names k n ≡ n → IsOther prefix current n → mid.live n ≡ None
      gone k n before inside at another = ⊎_elim (λ earlier. so_far.gone k n earlier inside at another)
          (λ le. absurd (let here : i ≡ k = omega arith in none (subst (λ (m : Name). IsOther prefix current m) (sym (sym (is_name n) ∙ ap (λ (j : ℕ). get_or names j n) here ∙ at)) another))) (cases_lt k i)

-- the names behind it still stand
pub left_one : (names : List Name) (i : ℕ) (name : Name) (mid new : Disk) → i < length names → ((d : Name) → get_or names i d ≡ name) → IsStrictlySortedBy (slice_cmp nat_cmp) names → new ≡ removed name mid
    → LeftFrom i names mid.live → LeftFrom (i + 1) names new.live
left_one names i name mid new below is_name sorted is left k d from inside =
    subst (λ (o : Option File). IsSome o) (sym (ap (λ (d' : Disk). d'.live (get_or names k d)) is ∙ put_there mid.live name (get_or names k d) None apart)) (left k d (omega arith) inside)
  where
    apart : bytes_eq name (get_or names k d) ≡ false
    apart = subst (λ (n : Name). bytes_eq n (get_or names k d) ≡ false) (is_name d) (names_apart names i k d d sorted (omega arith) inside)

-- a removal of a name that is not the lane's
pub secures_one : (current name : Name) (old mid new : Story) → bytes_eq name current ≡ false → Next (removed name) mid new → Secures current old mid → Secures current old new
secures_one current name old mid new apart next so_far stem entry bytes complete safe =
    let both = so_far stem entry bytes complete safe in
    let after = safe_removed stem current name entry bytes complete mid.now apart both.1 in (
      goes_on both.0 next (λ image may. safe_kept stem current entry bytes complete (removed name mid.now) after image may),
      subst (λ (d : Disk). Safe stem current entry bytes complete d) (sym next.now) after,
    )

pub secures_same : (current : Name) (old mid new : Story) → new ≡ mid → Secures current old mid → Secures current old new
secures_same current old mid new same so_far = subst (λ (s : Story). Secures current old s) (sym same) so_far

pub secures_none : (current : Name) (old : Story) → Secures current old old
secures_none current old stem entry bytes complete safe = (begun old (Kept stem entry bytes complete) (λ image may. safe_kept stem current entry bytes complete old.now safe image may), safe)

pub secures_after : (prefix current name : Name) (old mid new : Story) → MayRemove prefix current name mid new → Secures current old mid → Secures current old new
secures_after prefix current name old mid new (inl same) so_far = secures_same current old mid new same so_far
secures_after prefix current name old mid new (inr done) so_far = secures_one current name old mid new done.0.apart done.1 so_far

pub removes_after : (prefix current : Name) (names : List Name) (i : ℕ) (name : Name) (old : Disk) (mid new : Story) → i < length names → ((d : Name) → get_or names i d ≡ name)
    → (IsOther prefix current name → Next (removed name) mid new) → MayRemove prefix current name mid new → Removes prefix current names i old mid.now → Removes prefix current names (i + 1) old new.now
removes_after prefix current names i name old mid new below is_name left (inr done) so_far = removes_one prefix current names i name old mid.now new.now below is_name done.1.now done.0 so_far
removes_after prefix current names i name old mid new below is_name left (inl same) so_far = subst (λ (s : Story). Removes prefix current names (i + 1) old s.now) (sym same) (record { gone = gone; only = so_far.only })
  where
    gone_here : IsOther prefix current name → mid.now.live name ≡ None
    gone_here other = ap (λ (s : Story). s.now.live name) (sym same) ∙ ap (λ (d : Disk). d.live name) (left other).now ∙ put_here mid.now.live name None

    gone : (k : ℕ) (n : Name) → k < i + 1 → k < length names → get_or names k n ≡ n → IsOther prefix current n → mid.now.live n ≡ None
    gone k n before inside at another = ⊎_elim (λ earlier. so_far.gone k n earlier inside at another) (λ le. here (omega arith)) (cases_lt k i)
      where
        here : i ≡ k → mid.now.live n ≡ None
        here same_place =
            let is : name ≡ n = sym (is_name n) ∙ ap (λ (j : ℕ). get_or names j n) same_place ∙ at in
            subst (λ (m : Name). mid.now.live m ≡ None) is (gone_here (subst (λ (m : Name). IsOther prefix current m) (sym is) another))

pub left_after : (prefix current : Name) (names : List Name) (i : ℕ) (name : Name) (mid new : Story) → i < length names → ((d : Name) → get_or names i d ≡ name) → IsStrictlySortedBy (slice_cmp nat_cmp) names
    → MayRemove prefix current name mid new → LeftFrom i names mid.now.live → LeftFrom (i + 1) names new.now.live
left_after prefix current names i name mid new below is_name sorted (inr done) left k d from inside = left_one names i name mid.now new.now below is_name sorted done.1.now left k d from inside
left_after prefix current names i name mid new below is_name sorted (inl same) left k d from inside = subst (λ (s : Story). IsSome (s.now.live (get_or names k d))) (sym same) (left k d (omega arith) inside)

pub first_left : (live : Names) (names : List Name) → AllStand live names → LeftFrom 0 names live
first_left live names all k d from inside = all.each (get_or names k d) (Contains-get_or names k d inside)

-- A name that is none of those is as it was.
pub others_after : (prefix current name : Name) (old mid new : Story) → MayRemove prefix current name mid new → KeepsOthers prefix current old.now mid.now → KeepsOthers prefix current old.now new.now
others_after prefix current name old mid new told before other not = ⊎_elim
    (λ same. ap (λ (s : Story). s.now.live other) same ∙ before other not)
    (λ done. ap (λ (d : Disk). d.live other) done.1.now ∙ put_there mid.now.live name other None (apart done.0) ∙ before other not) told
  where
    apart : IsOther prefix current name → bytes_eq name other ≡ false
    apart is = ⊎_elim (λ same. absurd (not (subst (λ (n : Name). IsOther prefix current n) same.1 is))) (λ differs. differs) (same_or_not name other)
