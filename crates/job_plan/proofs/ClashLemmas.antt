-- The jobs that entries meet: what is looked up of names is what a search over all earlier entries finds.
use Rattle.std.proofs.Common.{◌≡◌, ℕ, ◌+◌, ◌<◌, List, [], ◌∷◌, ◌++◌, Bool, true, false, cond, Option, Some, None, length, map, take, get_or, if◌then◌else◌, append_assoc, refl, sym, ◌∙◌, ap, subst, arith}
use Rattle.std.specs.Prelude.{Result, Ok, Err, IfOk}
use Rattle.std.specs.List.{position_from}
use Rattle.std.proofs.lemmas.Iterator.Adapters.{position_from-zero}
use Rattle.std.proofs.lemmas.List.{take_more, length-map, get_or-map}
use Rattle.job_plan.specs.Plan.{Entry}
use Rattle.job_names.specs.Text.{Text}
use Rattle.job_names.specs.Family.{Names, exact_names, meets}
use Rattle.job_plan.specs.Draft.{Draft, draft_names}
use Rattle.job_plan.specs.Jobs.{is_met, is_met_by, behind, entry_behind, all_behind}
use Rattle.job_plan.specs.Passes.{met_at, all_met, settled, settled_entry, log_entry, log_of, Follows}
use Rattle.job_plan.specs.Views.{plain_draft, plain_drafted, plain_outcome, IsNamed, HasNames}
use Rattle.job_plan.specs.declared.draft.Draft.{Draft as HeldDraft}
use Rattle.job_plan.specs.declared.draft.Drafted.{Drafted}
use Rattle.job_names.specs.Index.{Log, AreBelow, first_with, IsIndex}
use Rattle.job_names.specs.declared.index.NameIndex.{NameIndex}
use Rattle.job_plan.specs.declared.fault.JobFault.{JobFault}

from_zero : (n : ℕ) → 0 + n ≡ n
from_zero n = omega arith

-- the jobs among entries stand before the place behind them
pub log_below : (place : ℕ) (entries : List (Entry Draft)) → AreBelow (place + length entries) (log_of place entries)
log_below place [] = tt
log_below place (entry ∷ entries) =
    by entry.outcome (subst (λ n. AreBelow n (log_of (place + 1) entries)) (omega arith) (log_below (place + 1) entries))
  where
    by : (r : Result Draft JobFault) → AreBelow (place + length (entry ∷ entries)) (log_of (place + 1) entries) →
        AreBelow (place + length (entry ∷ entries)) (log_entry place r ++ log_of (place + 1) entries)
    by (Err fault) rest = rest
    by (Ok d) rest = (omega arith, rest)

found_from : (d : Draft) (place : ℕ) (entries : List (Entry Draft)) →
    first_with (λ names. meets names (draft_names d)) (log_of place entries) ≡ position_from (is_met_by d) place entries
found_from d place [] = refl
found_from d place (entry ∷ entries) = by entry.outcome (found_from d (place + 1) entries)
  where
    choose : (b : Bool) → first_with (λ names. meets names (draft_names d)) (log_of (place + 1) entries) ≡ position_from (is_met_by d) (place + 1) entries →
        (if b then Some place else first_with (λ names. meets names (draft_names d)) (log_of (place + 1) entries)) ≡ cond b (Some place) (position_from (is_met_by d) (place + 1) entries)
    choose true rest = refl
    choose false rest = rest

    by : (r : Result Draft JobFault) → first_with (λ names. meets names (draft_names d)) (log_of (place + 1) entries) ≡ position_from (is_met_by d) (place + 1) entries →
        first_with (λ names. meets names (draft_names d)) (log_entry place r ++ log_of (place + 1) entries) ≡ cond (is_met d r) (Some place) (position_from (is_met_by d) (place + 1) entries)
    by (Err fault) rest = rest
    by (Ok e) rest = choose (meets (draft_names e) (draft_names d)) rest

-- the first job that a draft meets
pub found_is : (d : Draft) (earlier : List (Entry Draft)) → first_with (λ names. meets names (draft_names d)) (log_of 0 earlier) ≡ met_at earlier (Ok d)
found_is d earlier = found_from d 0 earlier ∙ sym (position_from-zero (is_met_by d) earlier)

log_last : (place : ℕ) (entries : List (Entry Draft)) (entry : Entry Draft) → log_of place (entries ++ entry ∷ []) ≡ log_of place entries ++ log_entry (place + length entries) entry.outcome
log_last place [] entry = append_none (log_entry place entry.outcome) ∙ ap (λ n. log_entry n entry.outcome) (omega arith)
  where
    append_none : (log : Log) → log ++ [] ≡ log
    append_none [] = refl
    append_none (job ∷ log) = ap (λ (l : Log). job ∷ l) (append_none log)
log_last place (first ∷ entries) entry =
    ap (λ (l : Log). log_entry place first.outcome ++ l) (log_last (place + 1) entries entry ∙ ap (λ n. log_of (place + 1) entries ++ log_entry n entry.outcome) (omega arith))
    ∙ sym (append_assoc (log_entry place first.outcome) (log_of (place + 1) entries) (log_entry (place + length (first ∷ entries)) entry.outcome))

length_next : (earlier : List (Entry Draft)) (entry : Entry Draft) (place : ℕ) → length earlier ≡ place → length (earlier ++ entry ∷ []) ≡ place + 1
length_next earlier entry place e = by earlier ∙ ap (λ n. n + 1) e
  where
    by : (list : List (Entry Draft)) → length (list ++ entry ∷ []) ≡ length list + 1
    by [] = refl
    by (x ∷ list) = omega (arith, by list)

-- an entry that is no job adds no names
pub follows_same : (earlier : List (Entry Draft)) (entry : Entry Draft) (place : ℕ) (index : NameIndex) → ((n : ℕ) → log_entry n entry.outcome ≡ []) → Follows earlier place index →
    Follows (earlier ++ entry ∷ []) (place + 1) index
follows_same earlier entry place index none f = record {
  count = length_next earlier entry place f.count;
  index_of = subst (λ log. IsIndex log index)
      (sym (append_none (log_of 0 earlier)) ∙ ap (λ (l : Log). log_of 0 earlier ++ l) (sym (none (0 + length earlier))) ∙ sym (log_last 0 earlier entry)) f.index_of;
}
  where
    append_none : (log : Log) → log ++ [] ≡ log
    append_none [] = refl
    append_none (job ∷ log) = ap (λ (l : Log). job ∷ l) (append_none log)

-- a job adds its names
pub follows_job : (earlier : List (Entry Draft)) (entry : Entry Draft) (d : Draft) (place : ℕ) (old new : NameIndex) → entry.outcome ≡ Ok d → Follows earlier place old →
    IsIndex (log_of 0 earlier ++ (place, draft_names d) ∷ []) new → Follows (earlier ++ entry ∷ []) (place + 1) new
follows_job earlier entry d place old new is f added = record {
  count = length_next earlier entry place f.count;
  index_of = subst (λ log. IsIndex log new)
      (ap (λ n. log_of 0 earlier ++ (n, draft_names d) ∷ []) (sym f.count) ∙ ap (λ r. log_of 0 earlier ++ log_entry (length earlier) r) (sym is)
      ∙ ap (λ n. log_of 0 earlier ++ log_entry n entry.outcome) (sym (from_zero (length earlier))) ∙ sym (log_last 0 earlier entry)) added;
}

-- an entry with the job that it meets is that entry behind the others
pub settled_is : (earlier : List (Entry Draft)) (entry : Entry Draft) → settled_entry entry (met_at earlier entry.outcome) ≡ entry_behind earlier entry
settled_is earlier entry = ap (λ r. record { item = entry.item; outcome = r }) (by entry.outcome)
  where
    by : (r : Result Draft JobFault) → settled r (met_at earlier r) ≡ behind earlier r
    by (Err fault) = refl
    by (Ok d) = refl

behind_last : (earlier entries : List (Entry Draft)) (entry : Entry Draft) →
    all_behind earlier (entries ++ entry ∷ []) ≡ all_behind earlier entries ++ entry_behind (earlier ++ all_behind earlier entries) entry ∷ []
behind_last earlier [] entry = ap (λ (l : List (Entry Draft)). entry_behind l entry ∷ []) (sym (append_none earlier))
  where
    append_none : (list : List (Entry Draft)) → list ++ [] ≡ list
    append_none [] = refl
    append_none (e ∷ list) = ap (λ (l : List (Entry Draft)). e ∷ l) (append_none list)
behind_last earlier (first ∷ entries) entry =
    ap (λ (l : List (Entry Draft)). entry_behind earlier first ∷ l)
    (behind_last (earlier ++ entry_behind earlier first ∷ []) entries entry
    ∙ ap (λ (l : List (Entry Draft)). all_behind (earlier ++ entry_behind earlier first ∷ []) entries ++ entry_behind l entry ∷ [])
    (append_assoc earlier (entry_behind earlier first ∷ []) (all_behind (earlier ++ entry_behind earlier first ∷ []) entries)))

met_last : (earlier entries : List (Entry Draft)) (entry : Entry Draft) →
    all_met earlier (entries ++ entry ∷ []) ≡ all_met earlier entries ++ met_at (earlier ++ all_behind earlier entries) entry.outcome ∷ []
met_last earlier [] entry = ap (λ (l : List (Entry Draft)). met_at l entry.outcome ∷ []) (sym (append_none earlier))
  where
    append_none : (list : List (Entry Draft)) → list ++ [] ≡ list
    append_none [] = refl
    append_none (e ∷ list) = ap (λ (l : List (Entry Draft)). e ∷ l) (append_none list)
met_last earlier (first ∷ entries) entry =
    ap (λ (l : List (Option ℕ)). met_at earlier first.outcome ∷ l)
    (met_last (earlier ++ entry_behind earlier first ∷ []) entries entry
    ∙ ap (λ (l : List (Entry Draft)). all_met (earlier ++ entry_behind earlier first ∷ []) entries ++ met_at l entry.outcome ∷ [])
    (append_assoc earlier (entry_behind earlier first ∷ []) (all_behind (earlier ++ entry_behind earlier first ∷ []) entries)))

-- one more entry is asked
pub behind_more : (entries : List (Entry Draft)) (i : ℕ) (entry : Entry Draft) → i < length entries → get_or entries i entry ≡ entry →
    all_behind [] (take (i + 1) entries) ≡ all_behind [] (take i entries) ++ entry_behind (all_behind [] (take i entries)) entry ∷ []
behind_more entries i entry within at =
    ap (all_behind []) (take_more entries i entry within ∙ ap (λ (e : Entry Draft). take i entries ++ e ∷ []) at) ∙ behind_last [] (take i entries) entry

pub met_more : (entries : List (Entry Draft)) (i : ℕ) (entry : Entry Draft) (before after : List (Option ℕ)) (met : Option ℕ) → i < length entries → get_or entries i entry ≡ entry →
    before ≡ all_met [] (take i entries) → after ≡ before ++ met ∷ [] → met ≡ met_at (all_behind [] (take i entries)) entry.outcome → after ≡ all_met [] (take (i + 1) entries)
met_more entries i entry before after met within at so push is =
    push ∙ (λ k. so k ++ is k ∷ []) ∙ sym (met_last [] (take i entries) entry)
    ∙ sym (ap (all_met []) (take_more entries i entry within ∙ ap (λ (e : Entry Draft). take i entries ++ e ∷ []) at))

no_log : (n : ℕ) (r : Result Draft JobFault) (k : ℕ) → log_entry n (settled r (Some k)) ≡ []
no_log n (Err fault) k = refl
no_log n (Ok d) k = refl

-- an entry that meets a job is none
pub follows_met : (earlier : List (Entry Draft)) (e : Entry Draft) (place k : ℕ) (index : NameIndex) → Some k ≡ met_at earlier e.outcome → Follows earlier place index →
    Follows (earlier ++ settled_entry e (met_at earlier e.outcome) ∷ []) (place + 1) index
follows_met earlier e place k index is f =
    follows_same earlier (settled_entry e (met_at earlier e.outcome)) place index (λ n. ap (λ o. log_entry n (settled e.outcome o)) (sym is) ∙ no_log n e.outcome k) f

-- an entry with a fault of its own is none
pub follows_fault : (earlier : List (Entry Draft)) (e : Entry Draft) (fault : JobFault) (place : ℕ) (index : NameIndex) → e.outcome ≡ Err fault → Follows earlier place index →
    Follows (earlier ++ settled_entry e (met_at earlier e.outcome) ∷ []) (place + 1) index
follows_fault earlier e fault place index is f =
    follows_same earlier (settled_entry e (met_at earlier e.outcome)) place index (λ n. ap (λ r. log_entry n (settled r (met_at earlier e.outcome))) is) f

-- an entry that meets none is a job
pub follows_added : (earlier : List (Entry Draft)) (e : Entry Draft) (d : Draft) (place : ℕ) (old new : NameIndex) → e.outcome ≡ Ok d → None ≡ met_at earlier e.outcome → Follows earlier place old →
    IsIndex (log_of 0 earlier ++ (place, draft_names d) ∷ []) new → Follows (earlier ++ settled_entry e (met_at earlier e.outcome) ∷ []) (place + 1) new
follows_added earlier e d place old new is none f added =
    follows_job earlier (settled_entry e (met_at earlier e.outcome)) d place old new (λ i. settled (is i) (sym none i)) f added

-- the jobs among the entries before a place stand before it
pub below_place : (earlier : List (Entry Draft)) (place : ℕ) (index : NameIndex) → Follows earlier place index → AreBelow place (log_of 0 earlier)
below_place earlier place index f = subst (λ n. AreBelow n (log_of 0 earlier)) (from_zero (length earlier) ∙ f.count) (log_below 0 earlier)

-- the exact names that a draft holds are those of its family
pub names_told : (entry : Drafted) (d : HeldDraft) → HasNames entry → entry.outcome ≡ Ok d → d.exact.items ≡ exact_names (draft_names (plain_draft d))
names_told entry d named is = subst (λ r. IfOk r IsNamed) is named

-- the job that a draft meets, as the names of all jobs tell it
pub first_found : {place : ℕ} {index : NameIndex} {found : Option ℕ} {exact components : List Text} (earlier : List (Entry Draft)) (entry : Drafted) (d : HeldDraft) → HasNames entry → entry.outcome ≡ Ok d →
    Follows earlier place index → exact ≡ d.exact.items → components ≡ d.components.items →
    ((log : Log) (names : Names) → IsIndex log index → exact ≡ exact_names names → components ≡ names.components → found ≡ first_with (λ other. meets other names) log) →
    found ≡ met_at earlier (plain_outcome entry.outcome)
first_found earlier entry d named is f exact components first =
    first (log_of 0 earlier) (draft_names (plain_draft d)) f.index_of (exact ∙ names_told entry d named is) components ∙ found_is (plain_draft d) earlier
    ∙ ap (λ r. met_at earlier (plain_outcome r)) (sym is)

-- one more entry stands behind the others
pub next_follows : (entries : List (Entry Draft)) (i : ℕ) (entry : Entry Draft) (index : NameIndex) → i < length entries → get_or entries i entry ≡ entry →
    Follows (all_behind [] (take i entries) ++ settled_entry entry (met_at (all_behind [] (take i entries)) entry.outcome) ∷ []) (i + 1) index →
    Follows (all_behind [] (take (i + 1) entries)) (i + 1) index
next_follows entries i entry index within at f =
    subst (λ l. Follows l (i + 1) index)
    (ap (λ e. all_behind [] (take i entries) ++ e ∷ []) (settled_is (all_behind [] (take i entries)) entry) ∙ sym (behind_more entries i entry within at)) f

-- an entry as it stands among all, seen as the definitions see it
pub stands_at : (entries : List Drafted) (i : ℕ) (entry : Drafted) → i < length entries → entry ≡ get_or entries i entry → get_or (map plain_drafted entries) i (plain_drafted entry) ≡ plain_drafted entry
stands_at entries i entry within at = get_or-map plain_drafted entries i entry (plain_drafted entry) within ∙ ap plain_drafted (sym at)

pub within_plain : (entries : List Drafted) (i : ℕ) → i < length entries → i < length (map plain_drafted entries)
within_plain entries i within = omega (arith, within, length-map entries plain_drafted)
