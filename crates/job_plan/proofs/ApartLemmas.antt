-- The families of two jobs share no name: a draft that meets an earlier job is none.
use Rattle.std.proofs.Common.{◌≡◌, ◌≢◌, ◌⊎◌, inl, inr, ℕ, zero, suc, ◌<◌, List, [], ◌∷◌, ◌++◌, false, Option, Some, None, map, refl, sym, ◌∙◌, ap, subst, arith}
use Rattle.std.specs.Prelude.{⊤, Result, Ok, Err, IfOk, slice_get, position}
use Rattle.std.specs.List.{AllByRecursion}
use Rattle.std.proofs.lemmas.Bool.{both_ways}
use Rattle.info_item.specs.Item.{Item}
use Rattle.job_plan.specs.Plan.{Plan, Job, Entry}
use Rattle.job_names.specs.Family.{Names, meets, Meet}
use Rattle.job_plan.specs.Draft.{Draft, draft_names}
use Rattle.job_plan.specs.Jobs.{all_entries, behind, behind_one, entry_behind, all_behind, is_met, is_met_by, job_of, finished_outcome, formats_at, finished, AreJobs}
use Rattle.job_plan.specs.Laws.{FamiliesApart, names_of}
use Rattle.job_plan.specs.declared.fault.JobFault.{JobFault}
use Rattle.job_names.proofs.FamilyLemmas.{exact_names_decide}
use Rattle.job_plan.proofs.WholeLemmas.{IsSound, IsSoundEntry, all_sound, none_passes, same_names}

-- the later entry, where it is a draft, does not meet the earlier one
abbrev pub NotMet : Entry Draft → Entry Draft → Type 0
NotMet earlier later = IfOk later.outcome (λ d. is_met_by d earlier ≡ false)

-- each entry meets none before it
abbrev pub AreApart : List (Entry Draft) → Type 0
AreApart [] = ⊤
AreApart (entry ∷ entries) = AllByRecursion (NotMet entry) entries × AreApart entries

behind_free : (earlier : List (Entry Draft)) (r : Result Draft JobFault) → IfOk (behind earlier r) (λ d. AllByRecursion (λ e. is_met_by d e ≡ false) earlier)
behind_free earlier (Err fault) = tt
behind_free earlier (Ok d) = by (position (is_met_by d) earlier) refl
  where
    by : (o : Option ℕ) → position (is_met_by d) earlier ≡ o → IfOk (behind_one d o) (λ d. AllByRecursion (λ e. is_met_by d e ≡ false) earlier)
    by None e = none_passes (is_met_by d) earlier e
    by (Some k) e = tt

-- what is so of a list is so of its front, and of its last
front_of : {A : Type 0} (P : A → Type 0) (xs : List A) (x : A) → AllByRecursion P (xs ++ x ∷ []) → AllByRecursion P xs × P x
front_of P [] x a = (tt, a.0)
front_of P (y ∷ xs) x a = let rest = front_of P xs x a.1 in ((a.0, rest.0), rest.1)

ok_weaker : (r : Result Draft JobFault) (P Q : Draft → Type 0) → ((d : Draft) → P d → Q d) → IfOk r P → IfOk r Q
ok_weaker (Ok d) P Q weaker h = weaker d h
ok_weaker (Err fault) P Q weaker h = tt

-- an entry among the earlier ones is met by none behind them
none_met : (e : Entry Draft) (earlier entries : List (Entry Draft)) → ((d : Draft) → AllByRecursion (λ x. is_met_by d x ≡ false) earlier → is_met_by d e ≡ false) →
    AllByRecursion (NotMet e) (all_behind earlier entries)
none_met e earlier [] among = tt
none_met e earlier (entry ∷ entries) among = (
  ok_weaker (behind earlier entry.outcome) (λ d. AllByRecursion (λ x. is_met_by d x ≡ false) earlier) (λ d. is_met_by d e ≡ false) among (behind_free earlier entry.outcome),
  none_met e (earlier ++ entry_behind earlier entry ∷ []) entries
      (λ d a. among d (front_of (λ x. is_met_by d x ≡ false) earlier (entry_behind earlier entry) a).0),
)

all_apart : (earlier entries : List (Entry Draft)) → AreApart (all_behind earlier entries)
all_apart earlier [] = tt
all_apart earlier (entry ∷ entries) = (
  none_met (entry_behind earlier entry) (earlier ++ entry_behind earlier entry ∷ []) entries
      (λ d a. (front_of (λ x. is_met_by d x ≡ false) earlier (entry_behind earlier entry) a).1),
  all_apart (earlier ++ entry_behind earlier entry ∷ []) entries,
)

meet_turned : (a b : Names) → Meet a b → Meet b a
meet_turned a b m = record { name = m.name; in_first = m.in_second; in_second = m.in_first }

-- two jobs of which the later met none share no name
no_meet : (items : List Item) (place other : ℕ) (x y : Draft) → IsSound (formats_at items place) x → IsSound (formats_at items other) y →
    meets (draft_names x) (draft_names y) ≡ false → Meet (names_of (job_of place (formats_at items place) x)) (names_of (job_of other (formats_at items other) y)) → ⊥
no_meet items place other x y first second apart m =
    let there : Meet (draft_names x) (draft_names y) =
    subst (λ (n : Names). Meet (draft_names x) n) (same_names other (formats_at items other) y second)
    (subst (λ (n : Names). Meet n (names_of (job_of other (formats_at items other) y))) (same_names place (formats_at items place) x first) m) in
    both_ways (meets (draft_names x) (draft_names y)) apart ((exact_names_decide (draft_names x) (draft_names y)).1 there)

-- two outcomes of which the later met none, once they are finished
outcomes_apart : (items : List Item) (place other : ℕ) (r s : Result Draft JobFault) (a b : Job) → IfOk r (IsSound (formats_at items place)) → IfOk s (IsSound (formats_at items other)) →
    IfOk s (λ d. is_met d r ≡ false) → finished_outcome place (formats_at items place) r ≡ Ok a → finished_outcome other (formats_at items other) s ≡ Ok b → Meet (names_of a) (names_of b) → ⊥
outcomes_apart items place other (Err fault) s a b f g apart is also m = absurd (cc)
outcomes_apart items place other (Ok x) (Err fault) a b f g apart is also m = absurd (cc)
outcomes_apart items place other (Ok x) (Ok y) a b f g apart is also m =
    let one : job_of place (formats_at items place) x ≡ a = cc in
    let two : job_of other (formats_at items other) y ≡ b = cc in
    no_meet items place other x y f g apart
    (subst (λ (j : Job). Meet (names_of (job_of place (formats_at items place) x)) (names_of j)) (sym two) (subst (λ (j : Job). Meet (names_of j) (names_of b)) (sym one) m))

first_apart : (items : List Item) (entry : Entry Draft) (entries : List (Entry Draft)) (j : ℕ) (other : Entry Job) (a b : Job) → IsSoundEntry items entry →
    AllByRecursion (IsSoundEntry items) entries → AllByRecursion (NotMet entry) entries → slice_get (map (finished items) entries) j ≡ Some other →
    (finished items entry).outcome ≡ Ok a → other.outcome ≡ Ok b → Meet (names_of a) (names_of b) → ⊥
first_apart items entry [] j other a b f g apart at is also m = absurd (cc)
first_apart items entry (e ∷ entries) zero other a b f g apart at is also m =
    let same : finished items e ≡ other = cc in
    outcomes_apart items entry.item e.item entry.outcome e.outcome a b f g.0 apart.0 is (ap (λ (x : Entry Job). x.outcome) same ∙ also) m
first_apart items entry (e ∷ entries) (suc j) other a b f g apart at is also m = first_apart items entry entries j other a b f g.1 apart.1 at is also m

ordered_apart : (items : List Item) (entries : List (Entry Draft)) (i j : ℕ) (first second : Entry Job) (a b : Job) → AllByRecursion (IsSoundEntry items) entries → AreApart entries →
    i < j → slice_get (map (finished items) entries) i ≡ Some first → slice_get (map (finished items) entries) j ≡ Some second →
    first.outcome ≡ Ok a → second.outcome ≡ Ok b → Meet (names_of a) (names_of b) → ⊥
ordered_apart items [] i j first second a b f apart less at there is also m = absurd (cc)
ordered_apart items (e ∷ entries) i zero first second a b f apart less at there is also m = absurd (omega (arith, less))
ordered_apart items (e ∷ entries) zero (suc j) first second a b f apart less at there is also m =
    let same : finished items e ≡ first = cc in
    first_apart items e entries j second a b f.0 f.1 apart.0 there (ap (λ (x : Entry Job). x.outcome) same ∙ is) also m
ordered_apart items (e ∷ entries) (suc i) (suc j) first second a b f apart less at there is also m =
    ordered_apart items entries i j first second a b f.1 apart.1 (omega (arith, less)) at there is also m

order_of : (i j : ℕ) → i ≢ j → (i < j) ⊎ (j < i)
order_of i j apart = grind (arith, apart)

pub families_apart : (plan : Plan) (items : List Item) (entries : List (Entry Job)) → AreJobs plan items entries → FamiliesApart entries
families_apart plan items entries are =
    subst FamiliesApart (sym are.are) (by (all_behind [] (all_entries plan plan.first_number 0 items are.orders)) (all_sound plan items are.orders)
    (all_apart [] (all_entries plan plan.first_number 0 items are.orders)))
  where
    by : (list : List (Entry Draft)) → AllByRecursion (IsSoundEntry items) list → AreApart list → FamiliesApart (map (finished items) list)
    by list sound apart i j first second a b differ at there is also m =
        elim (order_of i j differ) [
          | inl less ↦ ordered_apart items list i j first second a b sound apart less at there is also m
          | inr less ↦ ordered_apart items list j i second first b a sound apart less there at also is (meet_turned (names_of a) (names_of b) m)
        ]
