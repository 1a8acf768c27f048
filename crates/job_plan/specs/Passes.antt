-- What the passes over drafts hand on.
use Rattle.std.specs.Prelude.{◌≡◌, ℕ, ◌+◌, List, [], ◌∷◌, ◌++◌, length, position, Option, None, Result, Ok, Err}
use Rattle.info_item.specs.Item.{Item}
use Rattle.fmt_sort.specs.Order.{IsBestFirst}
use Rattle.job_plan.specs.Plan.{Plan, Entry}
use Rattle.job_plan.specs.Draft.{Draft, Choice, draft_names}
use Rattle.job_plan.specs.Jobs.{AreOrders, all_entries, entries_of, choices_of, is_met_by, entry_behind, behind_one}
use Rattle.job_names.specs.Index.{Log, IsIndex}
use Rattle.job_names.specs.declared.index.NameIndex.{NameIndex}
use Rattle.job_plan.specs.declared.fault.JobFault.{JobFault}

-- Entries were added for an item at this place, with these choices; each is numbered by its place among all.
abbrev pub Adds : Plan → ℕ → Item → List (Result Choice JobFault) → List (Entry Draft) → List (Entry Draft) → Type 0
Adds plan place item choices old new = new ≡ old ++ entries_of plan (plan.first_number + length old) place item choices

-- The entries of an item at this place were added, whose formats are sorted as is asked for.
pub record AddsItem (plan : Plan) (place : ℕ) (item : Item) (old new : List (Entry Draft)) : Type 0 where
  pub order : List ℕ
  pub sorted : IsBestFirst plan.wish item.formats order
  pub adds : Adds plan place item (choices_of plan item order) old new

-- These are the entries of items by themselves, whose formats are sorted as is asked for.
pub record AreEntries (plan : Plan) (items : List Item) (entries : List (Entry Draft)) : Type 0 where
  pub orders : List (List ℕ)
  pub sorted : AreOrders plan.wish items orders
  pub are : entries ≡ all_entries plan plan.first_number 0 items orders

-- the earlier job that an entry meets
abbrev pub met_at : List (Entry Draft) → Result Draft JobFault → Option ℕ
met_at earlier (Err fault) = None
met_at earlier (Ok d) = position (is_met_by d) earlier

-- for each entry, behind all before it, the earlier job that it meets
abbrev pub all_met : List (Entry Draft) → List (Entry Draft) → List (Option ℕ)
all_met earlier [] = []
all_met earlier (entry ∷ entries) =
    met_at earlier entry.outcome ∷ all_met (earlier ++ entry_behind earlier entry ∷ []) entries

-- what becomes of an outcome that meets the job at this place
abbrev pub settled : Result Draft JobFault → Option ℕ → Result Draft JobFault
settled (Err fault) met = Err fault
settled (Ok d) met = behind_one d met

-- an entry that meets the job at this place
abbrev pub settled_entry : Entry Draft → Option ℕ → Entry Draft
settled_entry entry met = record { item = entry.item; outcome = settled entry.outcome met }

-- entries with the jobs that they meet
abbrev pub all_settled : List (Entry Draft) → List (Option ℕ) → List (Entry Draft)
all_settled [] mets = []
all_settled (entry ∷ entries) [] = []
all_settled (entry ∷ entries) (met ∷ mets) = settled_entry entry met ∷ all_settled entries mets

-- the job of an entry with its names, where it is one
abbrev pub log_entry : ℕ → Result Draft JobFault → Log
log_entry place (Err fault) = []
log_entry place (Ok d) = (place, draft_names d) ∷ []

-- the jobs among entries, the first of which has this place
abbrev pub log_of : ℕ → List (Entry Draft) → Log
log_of place [] = []
log_of place (entry ∷ entries) = log_entry place entry.outcome ++ log_of (place + 1) entries

-- These entries stand before a place, and the index has the names of the jobs among them.
pub record Follows (earlier : List (Entry Draft)) (place : ℕ) (index : NameIndex) : Type 0 where
  pub count : length earlier ≡ place
  pub index_of : IsIndex (log_of 0 earlier) index
