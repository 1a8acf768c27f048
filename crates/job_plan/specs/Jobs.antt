-- The jobs of items: a list of entries, each a job or its first fault.
use Rattle.std.specs.Prelude.{◌≡◌, ℕ, ◌+◌, Bool, false, List, [], ◌∷◌, ◌++◌, map, length, position, slice_get, Option, Some, None, is_some, Result, Ok, Err, if◌then◌else◌}
use Rattle.std.specs.Option.{option_map_or}
use Rattle.info_item.specs.Item.{Item, Format}
use Rattle.info_item.specs.View.{parts_of}
use Rattle.fmt_sort.specs.Order.{IsBestFirst}
use Rattle.fmt_sort.specs.Spec.{Wish}
use Rattle.sel_eval.specs.Answer.{combos, is_large}
use Rattle.job_names.specs.Text.{Text}
use Rattle.job_pieces.specs.Component.{Component}
use Rattle.job_plan.specs.Plan.{Plan, Job, Entry}
use Rattle.job_pieces.specs.Pieces.{pieces_of, fragments_of}
use Rattle.job_names.specs.Family.{meets}
use Rattle.job_plan.specs.Draft.{Draft, Choice, drafted, draft_names}
use Rattle.job_plan.specs.declared.fault.JobFault.{JobFault}
use Rattle.job_plan.specs.declared.fault.JobFault.TheVariants.{NoFormat, Clash, TooMany}
use Rattle.job_plan.specs.declared.fault.ClashWith.TheVariants as with

-- choices, and where there is none the fault that there is none
abbrev pub some_choice : List Choice → List (Result Choice JobFault)
some_choice [] = Err NoFormat ∷ []
some_choice (choice ∷ choices) = map Ok (choice ∷ choices)

-- the choices of an item whose formats stand so from best to worst, or the fault that there are too many, or none
abbrev pub choices_of : Plan → Item → List ℕ → List (Result Choice JobFault)
choices_of plan item order =
    if is_large plan.streams item order plan.sel then Err TooMany ∷ [] else some_choice (combos plan.streams item order plan.sel)

-- what becomes of a choice with this number
abbrev pub outcome_of : Plan → ℕ → Item → Result Choice JobFault → Result Draft JobFault
outcome_of plan count item (Err fault) = Err fault
outcome_of plan count item (Ok choice) = drafted plan count item choice

-- the entries of an item's choices, the first of which has this number
abbrev pub entries_of : Plan → ℕ → ℕ → Item → List (Result Choice JobFault) → List (Entry Draft)
entries_of plan count place item [] = []
entries_of plan count place item (choice ∷ choices) =
    record { item = place; outcome = outcome_of plan count item choice } ∷ entries_of plan (count + 1) place item choices

-- The entries of items, the first of which stands at this place, its first entry having this number. Each entry counts, a fault too.
abbrev pub all_entries : Plan → ℕ → ℕ → List Item → List (List ℕ) → List (Entry Draft)
all_entries plan count place [] orders = []
all_entries plan count place (item ∷ items) [] = []
all_entries plan count place (item ∷ items) (order ∷ orders) =
    let choices = choices_of plan item order in
    entries_of plan count place item choices ++ all_entries plan (count + length choices) (place + 1) items orders

-- what became of an earlier entry is a job whose family meets that of this draft
abbrev pub is_met : Draft → Result Draft JobFault → Bool
is_met d (Ok earlier) = meets (draft_names earlier) (draft_names d)
is_met d (Err fault) = false

-- an earlier entry is such a job
abbrev pub is_met_by : Draft → Entry Draft → Bool
is_met_by d entry = is_met d entry.outcome

-- a draft that meets the entry at this place
abbrev pub behind_one : Draft → Option ℕ → Result Draft JobFault
behind_one d None = Ok d
behind_one d (Some place) = Err (Clash (with.Job place))

-- what becomes of an entry behind earlier ones: it clashes with the first of their jobs that it meets
abbrev pub behind : List (Entry Draft) → Result Draft JobFault → Result Draft JobFault
behind earlier (Err fault) = Err fault
behind earlier (Ok d) = behind_one d (position (is_met_by d) earlier)

-- an entry behind earlier ones
abbrev pub entry_behind : List (Entry Draft) → Entry Draft → Entry Draft
entry_behind earlier entry = record { item = entry.item; outcome = behind earlier entry.outcome }

-- entries, each behind all before it
abbrev pub all_behind : List (Entry Draft) → List (Entry Draft) → List (Entry Draft)
all_behind earlier [] = []
all_behind earlier (entry ∷ entries) =
    entry_behind earlier entry ∷ all_behind (earlier ++ entry_behind earlier entry ∷ []) entries

-- a component of a part with its pieces
abbrev pub component_of : Text → Format → Component
component_of name part =
    record { name = name; pieces = option_map_or (λ pieces. pieces) (pieces_of part.tree) []; fragments = is_some (fragments_of part.tree) }

-- the components of parts
abbrev pub components_of : List Text → List Format → List Component
components_of [] parts = []
components_of (name ∷ names) [] = []
components_of (name ∷ names) (part ∷ parts) = component_of name part ∷ components_of names parts

-- the job of a draft, by the formats of its item
abbrev pub job_of : ℕ → List Format → Draft → Job
job_of place formats d = record {
  item = place;
  parts = d.parts;
  ext = d.ext;
  final_name = d.final_name;
  components = components_of d.components (parts_of formats d.parts);
  steps = d.steps;
  execs = d.execs;
  printed = d.printed;
}

-- a job, or the fault that stands in its place
abbrev pub finished_outcome : ℕ → List Format → Result Draft JobFault → Result Job JobFault
finished_outcome place formats (Err fault) = Err fault
finished_outcome place formats (Ok d) = Ok (job_of place formats d)

-- the formats of the item at a place
abbrev pub formats_at : List Item → ℕ → List Format
formats_at items place = option_map_or (λ item. item.formats) (slice_get items place) []

-- an entry with its pieces
abbrev pub finished : List Item → Entry Draft → Entry Job
finished items entry =
    record { item = entry.item; outcome = finished_outcome entry.item (formats_at items entry.item) entry.outcome }

-- the entries of items whose formats stand in these orders from best to worst
abbrev pub jobs : Plan → List Item → List (List ℕ) → List (Entry Job)
jobs plan items orders = map (finished items) (all_behind [] (all_entries plan plan.first_number 0 items orders))

-- each list of places has the formats of its item from best to worst
abbrev pub AreOrders : Wish → List Item → List (List ℕ) → Type 0
AreOrders wish [] [] = Unit {0}
AreOrders wish [] (order ∷ orders) = ⊥
AreOrders wish (item ∷ items) [] = ⊥
AreOrders wish (item ∷ items) (order ∷ orders) = IsBestFirst wish item.formats order × AreOrders wish items orders

-- These are the entries of items, whose formats are sorted as is asked for.
pub record AreJobs (plan : Plan) (items : List Item) (entries : List (Entry Job)) : Type 0 where
  pub orders : List (List ℕ)
  pub sorted : AreOrders plan.wish items orders
  pub are : entries ≡ jobs plan items orders
