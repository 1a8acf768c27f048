-- The entries of items, one after another.
use Rattle.std.proofs.Common.{◌≡◌, ◌≢◌, ℕ, ◌+◌, ◌<◌, ◌≤◌, List, [], ◌∷◌, ◌++◌, length, map, take, get_or, append_assoc, append-nil, length-append, refl, sym, ◌∙◌, ap, subst, arith}
use Rattle.std.specs.Prelude.{All, Bool, true, false, Result, Ok, Err, if◌then◌else◌}
use Rattle.std.proofs.lemmas.List.{take_more, length-map, length-take-le}
use Rattle.std.proofs.lemmas.List.Elements.{All-nil, All-cons, All-append, All-head, All-tail}
use Rattle.info_item.specs.Item.{Item}
use Rattle.fmt_sort.specs.Order.{IsBestFirst}
use Rattle.fmt_sort.specs.Spec.{Wish}
use Rattle.sel_eval.specs.Answer.{combos, is_large}
use Rattle.job_plan.specs.Plan.{Plan, Job, Entry}
use Rattle.job_plan.specs.Draft.{Draft, Choice, drafted}
use Rattle.job_plan.specs.Jobs.{AreOrders, AreJobs, all_entries, entries_of, choices_of, some_choice, outcome_of, finished, entry_behind, all_behind}
use Rattle.job_plan.specs.Passes.{AreEntries, Adds, AddsItem, all_met, all_settled}
use Rattle.job_plan.specs.declared.fault.JobFault.{JobFault}
use Rattle.job_plan.specs.declared.fault.JobFault.TheVariants.{NoFormat, TooMany}
use Rattle.job_plan.proofs.ClashLemmas.{settled_is}
use Rattle.job_plan.proofs.FewLemmas.{few_entries}

-- ---- the entries of one item

count_of : (plan : Plan) (count place : ℕ) (item : Item) (choices : List (Result Choice JobFault)) → length (entries_of plan count place item choices) ≡ length choices
count_of plan count place item [] = refl
count_of plan count place item (choice ∷ choices) = omega (arith, count_of plan (count + 1) place item choices)

-- a choice with its entry
pub entry_added : (plan : Plan) (count next place : ℕ) (item : Item) (choice : Result Choice JobFault) (choices : List (Result Choice JobFault)) (old new all : List (Entry Draft)) (outcome : Result Draft JobFault) →
    next ≡ count + 1 → outcome ≡ outcome_of plan count item choice → new ≡ old ++ (record { item = place; outcome = outcome }) ∷ [] →
    old ++ entries_of plan count place item (choice ∷ choices) ≡ all → new ++ entries_of plan next place item choices ≡ all
entry_added plan count next place item choice choices old new all outcome more is put so =
    ap (λ (l : List (Entry Draft)). l ++ entries_of plan next place item choices) put
    ∙ append_assoc old ((record { item = place; outcome = outcome }) ∷ []) (entries_of plan next place item choices)
    ∙ ap (λ (r : Result Draft JobFault). old ++ (record { item = place; outcome = r }) ∷ entries_of plan next place item choices) is
    ∙ ap (λ (n : ℕ). old ++ (record { item = place; outcome = outcome_of plan count item choice }) ∷ entries_of plan n place item choices) more ∙ so

-- the same of a combination that was drafted
pub combo_added : (plan : Plan) (count number next place : ℕ) (item : Item) (combo : Choice) (choices : List Choice) (old new all : List (Entry Draft)) (outcome : Result Draft JobFault) →
    number ≡ count → next ≡ count + 1 → outcome ≡ drafted plan number item combo → new ≡ old ++ (record { item = place; outcome = outcome }) ∷ [] →
    old ++ entries_of plan count place item (map Ok (combo ∷ choices)) ≡ all → new ++ entries_of plan next place item (map Ok choices) ≡ all
combo_added plan count number next place item combo choices old new all outcome counted more is put so =
    entry_added plan count next place item (Ok combo) (map Ok choices) old new all outcome more (is ∙ ap (λ (n : ℕ). drafted plan n item combo) counted) put so

-- once no choice is left all entries stand there
pub all_added : (plan : Plan) (first place : ℕ) (item : Item) (left choices : List Choice) (old new : List (Entry Draft)) (next count : ℕ) → left ≡ [] → count ≡ first + length old →
    new ++ entries_of plan next place item (map Ok left) ≡ old ++ entries_of plan count place item (map Ok choices) →
    new ≡ old ++ entries_of plan (first + length old) place item (map Ok choices)
all_added plan first place item left choices old new next count none counted so =
    sym (append-nil new) ∙ ap (λ (l : List Choice). new ++ entries_of plan next place item (map Ok l)) (sym none) ∙ so
    ∙ ap (λ (n : ℕ). old ++ entries_of plan n place item (map Ok choices)) counted

-- where there is a choice
some_is : (choices : List Choice) → length choices ≢ 0 → some_choice choices ≡ map Ok choices
some_is [] none = absurd (none refl)
some_is (choice ∷ choices) some = refl

-- the entries of choices, where there are some, and the one entry where there is none
pub adds_some : (plan : Plan) (place : ℕ) (item : Item) (choices : List Choice) (old new : List (Entry Draft)) → length choices ≢ 0 → Adds plan place item (map Ok choices) old new →
    Adds plan place item (some_choice choices) old new
adds_some plan place item choices old new some added =
    added ∙ ap (λ (cs : List (Result Choice JobFault)). old ++ entries_of plan (plan.first_number + length old) place item cs) (sym (some_is choices some))

pub adds_none : (plan : Plan) (place : ℕ) (item : Item) (choices : List Choice) (old new : List (Entry Draft)) → length choices ≡ 0 → new ≡ old ++ (record { item = place; outcome = Err NoFormat }) ∷ [] →
    Adds plan place item (some_choice choices) old new
adds_none plan place item [] old new none put = put
adds_none plan place item (choice ∷ choices) old new none put = absurd (omega (arith, none))

-- the choices of an item, which are not too many
pub adds_chosen : (plan : Plan) (place : ℕ) (item : Item) (order : List ℕ) (choices : List Choice) (old new : List (Entry Draft)) → is_large plan.streams item order plan.sel ≡ false →
    choices ≡ combos plan.streams item order plan.sel → Adds plan place item (some_choice choices) old new → Adds plan place item (choices_of plan item order) old new
adds_chosen plan place item order choices old new small are added =
    added ∙ ap (λ (cs : List (Result Choice JobFault)). old ++ entries_of plan (plan.first_number + length old) place item cs)
    (ap some_choice are ∙ ap (λ (b : Bool). if b then Err TooMany ∷ [] else some_choice (combos plan.streams item order plan.sel)) (sym small))

-- the entry of an item that has too many
pub adds_too_many : (plan : Plan) (place : ℕ) (item : Item) (order : List ℕ) (old new : List (Entry Draft)) → is_large plan.streams item order plan.sel ≡ true →
    new ≡ old ++ (record { item = place; outcome = Err TooMany }) ∷ [] → Adds plan place item (choices_of plan item order) old new
adds_too_many plan place item order old new large added =
    added ∙ ap (λ (cs : List (Result Choice JobFault)). old ++ entries_of plan (plan.first_number + length old) place item cs)
    (ap (λ (b : Bool). if b then Err TooMany ∷ [] else some_choice (combos plan.streams item order plan.sel)) (sym large))

-- an item adds at most so many
pub few_added : {A : Type 0} (view : A → Entry Draft) (plan : Plan) (place : ℕ) (item : Item) (old new : List A) → AddsItem plan place item (map view old) (map view new) → length new ≤ length old + 10000
few_added view plan place item old new added =
    let choices = choices_of plan item added.order in
    omega (
      arith,
      ap length added.adds,
      length-append (map view old) (entries_of plan (plan.first_number + length (map view old)) place item choices),
      count_of plan (plan.first_number + length (map view old)) place item choices,
      few_entries plan item added.order,
      length-map old view,
      length-map new view,
    )

-- ---- the entries of all items

orders_more : (wish : Wish) (items : List Item) (item : Item) (orders : List (List ℕ)) (order : List ℕ) → AreOrders wish items orders → IsBestFirst wish item.formats order →
    AreOrders wish (items ++ item ∷ []) (orders ++ order ∷ [])
orders_more wish [] item [] order are best = (best, tt)
orders_more wish [] item (other ∷ orders) order are best = absurd are
orders_more wish (first ∷ items) item [] order are best = absurd are
orders_more wish (first ∷ items) item (other ∷ orders) order are best = (are.0, orders_more wish items item orders order are.1 best)

entries_last : (plan : Plan) (wish : Wish) (count place : ℕ) (items : List Item) (item : Item) (orders : List (List ℕ)) (order : List ℕ) → AreOrders wish items orders →
    all_entries plan count place (items ++ item ∷ []) (orders ++ order ∷ [])
    ≡ all_entries plan count place items orders ++ entries_of plan (count + length (all_entries plan count place items orders)) (place + length items) item (choices_of plan item order)
entries_last plan wish count place [] item [] order are =
    append-nil (entries_of plan count place item (choices_of plan item order))
    ∙ ap (λ (n : ℕ). entries_of plan n place item (choices_of plan item order)) (omega arith)
    ∙ ap (λ (n : ℕ). entries_of plan (count + 0) n item (choices_of plan item order)) (omega arith)
entries_last plan wish count place [] item (other ∷ orders) order are = absurd are
entries_last plan wish count place (first ∷ items) item [] order are = absurd are
entries_last plan wish count place (first ∷ items) item (other ∷ orders) order are =
    let choices = choices_of plan first other in
    let own = entries_of plan count place first choices in
    let later = all_entries plan (count + length choices) (place + 1) items orders in
    let number : (count + length choices) + length later ≡ count + length (own ++ later) = omega (arith, length-append own later, count_of plan count place first choices) in
    let behind : (place + 1) + length items ≡ place + length (first ∷ items) = omega arith in
    ap (λ (l : List (Entry Draft)). own ++ l) (entries_last plan wish (count + length choices) (place + 1) items item orders order are.1)
    ∙ ap (λ (n : ℕ). own ++ (later ++ entries_of plan n ((place + 1) + length items) item (choices_of plan item order))) number
    ∙ ap (λ (n : ℕ). own ++ (later ++ entries_of plan (count + length (own ++ later)) n item (choices_of plan item order))) behind
    ∙ sym (append_assoc own later (entries_of plan (count + length (own ++ later)) (place + length (first ∷ items)) item (choices_of plan item order)))

-- before any item
pub no_entries : (plan : Plan) → AreEntries plan [] []
no_entries plan = record { orders = []; sorted = tt; are = refl }

-- an item more
pub entries_more : (plan : Plan) (items : List Item) (place : ℕ) (item : Item) (old new : List (Entry Draft)) → place < length items → get_or items place item ≡ item →
    AreEntries plan (take place items) old → AddsItem plan place item old new → AreEntries plan (take (place + 1) items) new
entries_more plan items place item old new within at are added =
    let more : take (place + 1) items ≡ take place items ++ item ∷ [] = take_more items place item within ∙ ap (λ (i : Item). take place items ++ i ∷ []) at in
    let stands : 0 + length (take place items) ≡ place = omega (arith, length-take-le place items (omega arith)) in
    let counted : plan.first_number + length old ≡ plan.first_number + length (all_entries plan plan.first_number 0 (take place items) are.orders) = ap (λ (l : List (Entry Draft)). plan.first_number + length l) are.are in
    record {
      orders = are.orders ++ added.order ∷ [];
      sorted = subst (λ (l : List Item). AreOrders plan.wish l (are.orders ++ added.order ∷ [])) (sym more) (orders_more plan.wish (take place items) item are.orders added.order are.sorted added.sorted);
      are = added.adds ∙ ap (λ (l : List (Entry Draft)). l ++ entries_of plan (plan.first_number + length old) place item (choices_of plan item added.order)) are.are
          ∙ ap (λ (n : ℕ). all_entries plan plan.first_number 0 (take place items) are.orders ++ entries_of plan n place item (choices_of plan item added.order)) counted
          ∙ ap (λ (n : ℕ). all_entries plan plan.first_number 0 (take place items) are.orders
          ++ entries_of plan (plan.first_number + length (all_entries plan plan.first_number 0 (take place items) are.orders)) n item (choices_of plan item added.order)) (sym stands)
          ∙ sym (entries_last plan plan.wish plan.first_number 0 (take place items) item are.orders added.order are.sorted)
          ∙ ap (λ (l : List Item). all_entries plan plan.first_number 0 l (are.orders ++ added.order ∷ [])) (sym more);
    }

-- ---- each entry is of one of the items

of_one : (plan : Plan) (count place bound : ℕ) (item : Item) (choices : List (Result Choice JobFault)) → place < bound → All (λ (e : Entry Draft). e.item < bound) (entries_of plan count place item choices)
of_one plan count place bound item [] within = All-nil (λ (e : Entry Draft). e.item < bound)
of_one plan count place bound item (choice ∷ choices) within =
    All-cons (λ (e : Entry Draft). e.item < bound) (record { item = place; outcome = outcome_of plan count item choice }) (entries_of plan (count + 1) place item choices) within
    (of_one plan (count + 1) place bound item choices within)

of_items : (plan : Plan) (count place bound : ℕ) (items : List Item) (orders : List (List ℕ)) → place + length items ≤ bound → All (λ (e : Entry Draft). e.item < bound) (all_entries plan count place items orders)
of_items plan count place bound [] orders few = All-nil (λ (e : Entry Draft). e.item < bound)
of_items plan count place bound (item ∷ items) [] few = All-nil (λ (e : Entry Draft). e.item < bound)
of_items plan count place bound (item ∷ items) (order ∷ orders) few =
    let choices = choices_of plan item order in
    All-append (λ (e : Entry Draft). e.item < bound) (entries_of plan count place item choices) (all_entries plan (count + length choices) (place + 1) items orders)
    (of_one plan count place bound item choices (omega arith)) (of_items plan (count + length choices) (place + 1) bound items orders (omega arith))

pub are_within : (plan : Plan) (items : List Item) (entries : List (Entry Draft)) → AreEntries plan items entries → All (λ (e : Entry Draft). e.item < length items) entries
are_within plan items entries are =
    subst (All (λ (e : Entry Draft). e.item < length items)) (sym are.are) (of_items plan plan.first_number 0 (length items) items are.orders (omega arith))

-- what holds of what a list is seen as holds of the list
pub all_seen : {A B : Type 0} (view : A → B) (P : B → Type 0) (xs : List A) → All P (map view xs) → All (λ x. P (view x)) xs
all_seen view P [] all = All-nil (λ x. P (view x))
all_seen view P (x ∷ xs) all =
    All-cons (λ y. P (view y)) x xs (All-head P (view x) (map view xs) all) (all_seen view P xs (All-tail P (view x) (map view xs) all))

-- what holds of what the elements are seen as holds of the list that is seen
pub all_as_seen : {A B : Type 0} (view : A → B) (P : B → Type 0) (xs : List A) → All (λ x. P (view x)) xs → All P (map view xs)
all_as_seen view P [] all = All-nil P
all_as_seen view P (x ∷ xs) all =
    All-cons P (view x) (map view xs) (All-head (λ y. P (view y)) x xs all) (all_as_seen view P xs (All-tail (λ y. P (view y)) x xs all))

-- ---- the passes one after another

-- entries with the jobs that they meet are those behind all before
all_settled_is : (earlier entries : List (Entry Draft)) → all_settled entries (all_met earlier entries) ≡ all_behind earlier entries
all_settled_is earlier [] = refl
all_settled_is earlier (entry ∷ entries) =
    ap (λ (e : Entry Draft). e ∷ all_settled entries (all_met (earlier ++ entry_behind earlier entry ∷ []) entries)) (settled_is earlier entry)
    ∙ ap (λ (l : List (Entry Draft)). entry_behind earlier entry ∷ l) (all_settled_is (earlier ++ entry_behind earlier entry ∷ []) entries)

-- what the last pass leaves are the jobs
pub jobs_are : (plan : Plan) (items : List Item) (entries : List (Entry Draft)) (jobs : List (Entry Job)) → AreEntries plan items entries → jobs ≡ map (finished items) (all_settled entries (all_met [] entries)) →
    AreJobs plan items jobs
jobs_are plan items entries jobs are made = record {
  orders = are.orders;
  sorted = are.sorted;
  are = made ∙ ap (map (finished items)) (all_settled_is [] entries ∙ ap (all_behind []) are.are);
}
