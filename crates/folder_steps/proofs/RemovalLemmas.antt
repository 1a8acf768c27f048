-- What removals leave.
use Rattle.std.proofs.Common.{◌≡◌, ◌⊎◌, inl, inr, ⊎_elim, ℕ, ◌+◌, ◌<◌, ◌≤◌, List, length, get_or, arith, Bool, true, false, IsTrue, refl, sym, ◌∙◌, ap, subst, rules}
use Rattle.std.specs.Prelude.{Option, Some, None, bytes_eq, Result, IsSome, if◌then◌else◌}
use Rattle.std.specs.Ordering.{nat_cmp}
use Rattle.std.specs.Cmp.Lexicographic.{slice_cmp}
use Rattle.std.specs.List.Sorted.{IsStrictlySortedBy}
use Rattle.std.proofs.lemmas.Slice.Eq.{bytes_eq-Decides}
use Rattle.std.proofs.lemmas.Bool.{cases_lt}
use Rattle.std.proofs.lemmas.List.Elements.{Contains-get_or}
use Rattle.folder_base.specs.Disk.{Name, File, Names, Image, May, put, removed, begins}
use Rattle.folder_base.specs.Names.{Lists}
use Rattle.folder_base.specs.Story.{Story, Through, Does}
use Rattle.text_base.specs.declared.faults.FolderFault.{FolderFault}
use Rattle.folder_base.proofs.Images.{same_or_not, same_name, put_there}
use Rattle.folder_base.proofs.Moments.{begun, stays, call, weaker, joined}
use Rattle.keep_store.proofs.Removing.{names_apart}
use Rattle.folder_steps.specs.Follow.{Follows, Thinner}
use Rattle.folder_steps.proofs.ImageLemmas.{removed_keeps, ends}

never : true ≡ false → ⊥
never e = cc

pub as_it_was : {was : Image → Type 0} (goes : Name → Bool) (image : Image) → was image → Follows was (Thinner goes) image
as_it_was goes image h = record { before = image; possible = h; each = λ n. inl refl }

-- what is as before but for a name that may go
pub thin_closed : {was : Image → Type 0} (goes : Name → Bool) (name : Name) → IsTrue (goes name) → (before image : Image) → Follows was (Thinner goes) before → ((other : Name) → bytes_eq name other ≡ false → image other ≡ before other) → image name ≡ None → Follows was (Thinner goes) image
thin_closed goes name may before image f else_same gone = record {
  before = f.before;
  possible = f.possible;
  each = λ n. elim (same_or_not name n) [
    | inl same ↦ inr (subst (λ (m : Name). IsTrue (goes m)) same.1 may, ap image (sym same.1) ∙ gone)
    | inr differs ↦ ⊎_elim (λ e. inl (else_same n differs ∙ e)) (λ e. inr (e.0, else_same n differs ∙ e.1)) (f.each n)
  ];
}

-- More names may go.
pub thin_more : {was : Image → Type 0} (few goes : Name → Bool) → ((n : Name) → IsTrue (few n) → IsTrue (goes n)) → (image : Image) → Follows was (Thinner few) image → Follows was (Thinner goes) image
thin_more few goes more image f = record { before = f.before; possible = f.possible; each = λ n. ⊎_elim (λ e. inl e) (λ e. inr (more n e.0, e.1)) (f.each n) }

-- one removal after another
pub thin_twice : {was mid : Image → Type 0} (goes : Name → Bool) → ((image : Image) → mid image → Follows was (Thinner goes) image) → (image : Image) → Follows mid (Thinner goes) image → Follows was (Thinner goes) image
thin_twice goes first image f = let g = first f.before f.possible in record {
  before = g.before;
  possible = g.possible;
  each = λ n. ⊎_elim (λ e. ⊎_elim (λ d. inl (e ∙ d)) (λ d. inr (d.0, e ∙ d.1)) (g.each n)) (λ e. inr e) (f.each n);
}

-- a run of removals, and then another
pub thin_runs : {old mid new : Story} (few goes : Name → Bool) → ((n : Name) → IsTrue (few n) → IsTrue (goes n)) → Through old mid (Follows (May old.now) (Thinner goes)) → Through mid new (Follows (May mid.now) (Thinner few)) → Through old new (Follows (May old.now) (Thinner goes))
thin_runs few goes more first second = joined first (weaker second (λ image f. thin_twice goes (ends first) image (thin_more few goes more image f)))

pub unchanged : {old new : Story} (goes : Name → Bool) → new ≡ old → Through old new (Follows (May old.now) (Thinner goes))
unchanged {old} goes same = stays (begun old (Follows (May old.now) (Thinner goes)) (λ image h. as_it_was goes image h)) same

-- A run from the same story on.
pub from_same : {old mid new : Story} (goes : Name → Bool) → mid ≡ old → Through mid new (Follows (May mid.now) (Thinner goes)) → Through old new (Follows (May old.now) (Thinner goes))
from_same {old} {mid} {new} goes same run = subst (λ (s : Story). Through s new (Follows (May s.now) (Thinner goes))) same run

module _ (name : Name) (start : Story) where
  pub after_remove : {new : Story} {proper : Type 0} (result : Result (Unit {0}) FolderFault) → Does proper (removed name) start new result → Through start new (Follows (May start.now) (Thinner (bytes_eq name)))
  after_remove result does = call result (unchanged (bytes_eq name) refl) does (λ proper image h.
      removed_keeps (Follows (May start.now) (Thinner (bytes_eq name))) name start.now (λ before m. as_it_was (bytes_eq name) before m)
      (λ before now f else_same gone. thin_closed (bytes_eq name) name (same_name name) before now f else_same gone) image h)

-- What a name has, another equal one has.
pub only_that : (goes : Name → Bool) (name : Name) → IsTrue (goes name) → (n : Name) → IsTrue (bytes_eq name n) → IsTrue (goes n)
only_that goes name may n same = subst (λ (m : Name). IsTrue (goes m)) ((bytes_eq-Decides name n).0 same) may

-- The others keep what they had.
pub kept_elsewhere : (goes : Name → Bool) (name : Name) → IsTrue (goes name) → (live new : Names) → ((n : Name) → new n ≡ put live name None n) → (n : Name) → goes n ≡ false → new n ≡ live n
kept_elsewhere goes name may live new is n stays_so = elim (same_or_not name n) [
  | inl same ↦ absurd (never (sym may ∙ ap goes same.1 ∙ stays_so))
  | inr differs ↦ is n ∙ put_there live name n None differs
]

-- Of the names with a prefix those that stand are at these places of the list or behind,
abbrev pub LeftFrom : Name → ℕ → List Name → Names → Type 0
LeftFrom prefix i names live = (n : Name) → IsTrue (begins prefix n) → IsSome (live n) → (k : ℕ) × (i ≤ k) × (k < length names) × (get_or names k n ≡ n)

-- and all that are there stand.
abbrev pub StandFrom : ℕ → List Name → Names → Type 0
StandFrom i names live = (k : ℕ) (d : Name) → i ≤ k → k < length names → IsSome (live (get_or names k d))

pub left_first : (prefix : Name) (names : List Name) (live now : Names) → Lists prefix live names → ((n : Name) → now n ≡ live n) → LeftFrom prefix 0 names now
left_first prefix names live now lists same n b stands =
    let one = (lists.each n).1 (b, subst (λ (o : Option File). IsSome o) (same n) stands) in (one.0, omega arith, one.1, one.2)

pub stand_first : (prefix : Name) (names : List Name) (live now : Names) → Lists prefix live names → ((n : Name) → now n ≡ live n) → StandFrom 0 names now
stand_first prefix names live now lists same k d le below =
    subst (λ (o : Option File). IsSome o) (sym (same (get_or names k d))) ((lists.each (get_or names k d)).0 (Contains-get_or names k d below)).1

pub left_behind : (prefix name : Name) (names : List Name) (i : ℕ) (live new : Names) → ((d : Name) → get_or names i d ≡ name) → ((n : Name) → new n ≡ put live name None n) → LeftFrom prefix i names live → LeftFrom prefix (i + 1) names new
left_behind prefix name names i live new at is left n b stands = elim (same_or_not name n) [
  | inl same ↦ absurd (none (subst (λ (o : Option File). IsSome o) (is n ∙ ap (λ (v : Bool). if v then None else live n) same.0) stands))
  | inr differs ↦
      let one = left n b (subst (λ (o : Option File). IsSome o) (is n ∙ put_there live name n None differs) stands) in
      (one.0, by one.0 one.1 one.3 differs (cases_lt i one.0), one.2, one.3)
]
  where
    none : IsSome {T = File} None → ⊥
    none h = cc

    by : (k : ℕ) → i ≤ k → get_or names k n ≡ n → bytes_eq name n ≡ false → (i < k) ⊎ (k ≤ i) → i + 1 ≤ k
    by k le is_n differs (inl lt) = omega arith
    by k le is_n differs (inr ge) =
        let here : k ≡ i = omega arith in
        let same : name ≡ n = sym (at n) ∙ ap (λ (j : ℕ). get_or names j n) (sym here) ∙ is_n in
        absurd (let x : bytes_eq name n ≡ true = subst (λ (m : Name). bytes_eq name m ≡ true) same (same_name name) in cc)

pub stand_behind : (name : Name) (names : List Name) (i : ℕ) (live new : Names) → ((d : Name) → get_or names i d ≡ name) → IsStrictlySortedBy (slice_cmp nat_cmp) names → ((n : Name) → new n ≡ put live name None n) → StandFrom i names live → StandFrom (i + 1) names new
stand_behind name names i live new at sorted is stand k d le below =
    subst (λ (o : Option File). IsSome o) (sym (is (get_or names k d) ∙ put_there live name (get_or names k d) None apart)) (stand k d (omega arith) below)
  where
    apart : bytes_eq name (get_or names k d) ≡ false
    apart = subst (λ (n : Name). bytes_eq n (get_or names k d) ≡ false) (at d) (names_apart names i k d d sorted (omega arith) below)

pub none_left : (prefix : Name) (names : List Name) (i : ℕ) (old now : Names) → length names ≤ i → LeftFrom prefix i names now → ((n : Name) → begins prefix n ≡ false → now n ≡ old n) → (n : Name) → now n ≡ (if begins prefix n then None else old n)
none_left prefix names i old now all left kept n = by (begins prefix n) refl (now n) refl
  where
    by : (b : Bool) → begins prefix n ≡ b → (o : Option File) → now n ≡ o → now n ≡ (if b then None else old n)
    by false e o is = kept n e
    by true e None is = is
    by true e (Some file) is = let one = left n (subst IsTrue (sym e) yes) (subst (λ (p : Option File). IsSome p) (sym is) (search rules)) in absurd (omega (arith, one.1, one.2))
      where
        yes : IsTrue true
        yes = search rules

pub item_begins : (prefix name : Name) (live : Names) (names : List Name) (i : ℕ) → Lists prefix live names → i < length names → ((d : Name) → get_or names i d ≡ name) → IsTrue (begins prefix name)
item_begins prefix name live names i lists below at = ((lists.each name).0 (i, below, at name)).0
