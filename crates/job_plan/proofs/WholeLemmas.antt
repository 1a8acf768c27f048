-- Every job is whole: it was made of a draft without a fault, whose choice takes formats that can be fetched.
use Rattle.std.proofs.Common.{◌≡◌, ◌≢◌, ◌⊎◌, inl, inr, ℕ, zero, suc, ◌+◌, List, [], ◌∷◌, ◌++◌, Bool, true, false, not, cond, Option, Some, None, is_some, length, map, filter_map, codes, refl, sym, ◌∙◌, ap, subst, append_assoc, arith}
use Rattle.std.specs.Prelude.{Result, Ok, Err, IfOk, IfSome, IsTrue, bytes_eq, slice_get, position, option_and_then, if◌then◌else◌}
use Rattle.std.specs.List.{AllByRecursion, cons_option, list_any, position_from}
use Rattle.std.specs.Option.{option_map, option_or, option_map_or}
use Rattle.std.proofs.lemmas.Bool.{or_parts}
use Rattle.std.proofs.lemmas.Iterator.Adapters.{position_from-zero}
use Rattle.info_tree.specs.Tree.{Tree}
use Rattle.info_item.specs.Item.{Item, Format}
use Rattle.info_item.specs.Fields.{text_at}
use Rattle.info_item.specs.View.{parts_of}
use Rattle.name_text.specs.Clean.{cleaned}
use Rattle.name_text.specs.Path.{path_fault}
use Rattle.sel_eval.specs.Answer.{combos, is_large}
use Rattle.tool_chain.specs.Chain.{InputsCome}
use Rattle.tool_chain.specs.Jobs.{OutputsApart}
use Rattle.job_names.specs.Text.{Text}
use Rattle.job_pieces.specs.Component.{Piece}
use Rattle.job_plan.specs.Plan.{Plan, Job, Entry}
use Rattle.job_pieces.specs.Pieces.{pieces_of, urls_by, fragments_of, fragment_urls, fragment_url, base_url, kept_url, is_list_to_fetch, piece_of, can_fetch}
use Rattle.job_names.specs.Family.{Names, exact_names, has_twice, meets_itself, is_piece_of, is_long, meets_archive}
use Rattle.job_names.specs.Naming.{whole_name}
use Rattle.job_steps.specs.Steps.{Step, steps_of}
use Rattle.job_plan.specs.Draft.{Draft, Choice, named_of, name_of, name_of_part, fetched_names, draft_with, draft_of_name, draft_of, draft_names, fault_of, clash_of, when, unless_fault, judged, part_without_pieces, with_pieces, drafted, all_filled, told_pairs, name_pairs, chosen_parts}
use Rattle.job_plan.specs.Jobs.{some_choice, choices_of, outcome_of, entries_of, all_entries, behind, behind_one, entry_behind, all_behind, is_met_by, components_of, job_of, finished_outcome, formats_at, finished, jobs, AreJobs}
use Rattle.job_plan.specs.Laws.{names_of, last_output, IsMade, IsWhole, AreWhole}
use Rattle.job_plan.specs.declared.fault.JobFault.{JobFault}
use Rattle.job_plan.specs.declared.fault.JobFault.TheVariants as faults
use Rattle.job_plan.specs.declared.fault.ClashWith.TheVariants as with
use Rattle.job_names.specs.declared.naming.SplitName.{SplitName}
use Rattle.job_plan.proofs.ChoiceLemmas.{HasPart, combos_have_parts}
use Rattle.job_plan.proofs.StepLemmas.{all_from_each, steps_apart, steps_come, execs_silent, last_has, outputs_once, components_apart}

-- the part can be fetched
abbrev pub CanFetch : Format → Type 0
CanFetch part = is_some (pieces_of part.tree) ≡ true

urls_some : (format : Tree) (fragments : Option (List Tree)) (urls : List Text) → urls_by format fragments ≡ Some urls → urls ≡ [] → ⊥
urls_some format None urls e none = by (text_at format (codes "url")) e
  where
    by : (o : Option Text) → option_map (λ url. kept_url url ∷ []) o ≡ Some urls → ⊥
    by None h = absurd (cc)
    by (Some url) h = absurd (cc)
urls_some format (Some []) urls e none = absurd (cc)
urls_some format (Some (fragment ∷ fragments)) urls e none = by (is_list_to_fetch (fragment ∷ fragments)) e
  where
    one : (url : Text) (more : Option (List Text)) → option_map (λ rest. url ∷ rest) more ≡ Some urls → ⊥
    one url None h = absurd (cc)
    one url (Some rest) h = absurd (cc)

    first : (o : Option Text) (more : Option (List Text)) → option_and_then (λ url. option_map (λ rest. url ∷ rest) more) o ≡ Some urls → ⊥
    first None more h = absurd (cc)
    first (Some url) more h = one url more h

    by : (b : Bool) → (if b then fragment_urls (base_url format) (fragment ∷ fragments) else None) ≡ Some urls → ⊥
    by true h = first (fragment_url (base_url format) fragment) (fragment_urls (base_url format) fragments) h
    by false h = absurd (cc)

pieces_some : (format : Tree) (pieces : List Piece) → pieces_of format ≡ Some pieces → pieces ≡ [] → ⊥
unfolding pieces_of
pieces_some format pieces e none = by (urls_by format (fragments_of format)) refl e
  where
    of : (urls : List Text) → map (piece_of format) urls ≡ [] → urls ≡ []
    of [] h = refl
    of (url ∷ urls) h = absurd (cc)

    by : (o : Option (List Text)) → urls_by format (fragments_of format) ≡ o → option_map (map (piece_of format)) o ≡ Some pieces → ⊥
    by None is h = absurd (cc)
    by (Some urls) is h = urls_some format (fragments_of format) urls is (of urls (cc))

-- no component is without a piece
have_pieces : (names : List Text) (parts : List Format) → AllByRecursion CanFetch parts → AllByRecursion (λ component. component.pieces ≢ []) (components_of names parts)
have_pieces [] parts a = tt
have_pieces (name ∷ names) [] a = tt
have_pieces (name ∷ names) (part ∷ parts) a = (by (pieces_of part.tree) refl a.0, have_pieces names parts a.1)
  where
    by : (o : Option (List Piece)) → pieces_of part.tree ≡ o → is_some o ≡ true → option_map_or (λ pieces. pieces) o [] ≢ []
    by None is has = absurd (cc)
    by (Some pieces) is has = pieces_some part.tree pieces is

-- where no element passes, there is no first that does
pub none_passes : {A : Type 0} (p : A → Bool) (xs : List A) → position p xs ≡ None → AllByRecursion (λ x. p x ≡ false) xs
none_passes {A = A} p xs e = from 0 xs (sym (position_from-zero p xs) ∙ e)
  where
    here : (b : Bool) (n : ℕ) (rest : Option ℕ) → cond b (Some n) rest ≡ None → (b ≡ false) × (rest ≡ None)
    here true n rest h = absurd (cc)
    here false n rest h = (refl, h)

    from : (n : ℕ) (ys : List A) → position_from p n ys ≡ None → AllByRecursion (λ x. p x ≡ false) ys
    from n [] h = tt
    from n (y ∷ ys) h = let two = here (p y) n (position_from p (n + 1) ys) h in (two.0, from (n + 1) ys two.1)

-- the parts at places that can be fetched
parts_fetched : (formats : List Format) (places : List ℕ) → AllByRecursion (λ place. not (can_fetch formats place) ≡ false) places → AllByRecursion CanFetch (parts_of formats places)
parts_fetched formats [] a = tt
parts_fetched formats (k ∷ places) a = by (slice_get formats k) a.0 (parts_fetched formats places a.1)
  where
    truly : (b : Bool) → not b ≡ false → b ≡ true
    truly true h = refl
    truly false h = absurd (cc)

    by : (o : Option Format) → not (option_map_or (λ format. is_some (pieces_of format.tree)) o true) ≡ false → AllByRecursion CanFetch (parts_of formats places) →
        AllByRecursion CanFetch (cons_option o (parts_of formats places))
    by None h rest = rest
    by (Some f) h rest = (truly (is_some (pieces_of f.tree)) h, rest)

-- Of a draft among these formats: what makes its job whole.
pub record IsSound (formats : List Format) (d : Draft) : Type 0 where
  pub alone : meets_itself (draft_names d) ≡ false
  pub apart : OutputsApart d.steps
  pub come : InputsCome (λ name. IsTrue (list_any (bytes_eq name) d.components)) d.steps
  pub made : ((d.steps ≡ []) × (d.components ≡ d.final_name ∷ [])) ⊎ (is_some (last_output d.steps) ≡ true)
  pub named : map (λ component. component.name) (components_of d.components (parts_of formats d.parts)) ≡ d.components
  pub fetched : AllByRecursion CanFetch (parts_of formats d.parts)
  pub silent : AllByRecursion (λ command. command.output ≡ None) d.execs

names_stay : (f : Format → Text) (parts : List Format) → map (λ component. component.name) (components_of (map f parts) parts) ≡ map f parts
names_stay f [] = refl
names_stay f (part ∷ parts) = ap (λ names. f part ∷ names) (names_stay f parts)

fetched_stay : (restricted : Bool) (name : SplitName) (parts : List Format) (steps : List Step) (one : Format) (others : List Format) → parts ≡ one ∷ others →
    map (λ component. component.name) (components_of (fetched_names restricted name parts steps) parts) ≡ fetched_names restricted name parts steps
fetched_stay restricted name parts [] one others are =
    subst (λ ps. map (λ component. component.name) (components_of (whole_name name ∷ []) ps) ≡ whole_name name ∷ []) (sym are) refl
fetched_stay restricted name parts (step ∷ steps) one others are = names_stay (name_of_part restricted name.stem) parts

-- of faults of which the first is none
no_fault : {A : Type 0} (a b : Option A) → option_or a b ≡ None → (a ≡ None) × (b ≡ None)
no_fault None b e = (refl, e)
no_fault (Some x) b e = absurd (cc)

not_mapped : {A B : Type 0} (f : A → B) (o : Option A) → option_map f o ≡ None → o ≡ None
not_mapped f None e = refl
not_mapped f (Some x) e = absurd (cc)

not_when : {A : Type 0} (b : Bool) (x : A) → when b x ≡ None → b ≡ false
not_when true x e = absurd (cc)
not_when false x e = refl

-- a draft without a fault does not clash with itself
no_clash : (plan : Plan) (d : Draft) → fault_of plan d ≡ None → meets_itself (draft_names d) ≡ false
no_clash plan d e =
    let names = draft_names d in
    let clash = option_map (λ found. faults.Clash found) (clash_of plan d) in
    let long = when (is_long names) faults.NameLong in
    let final = option_map (λ fault. faults.Path fault) (path_fault d.final_name) in
    let behind_name = no_fault (option_map (λ fault. faults.Path fault) (path_fault d.name)) (option_or final (option_or long clash)) e in
    let behind_final = no_fault final (option_or long clash) behind_name.1 in
    let none = not_mapped (λ found. faults.Clash found) (clash_of plan d) (no_fault long clash behind_final.1).1 in
    let own = no_fault (when (meets_itself names) with.Own) (when (meets_archive names plan.archive) with.Archive) none in
    not_when (meets_itself names) with.Own own.0

-- so none of its exact names stands twice
once : (names : Names) → meets_itself names ≡ false → has_twice (exact_names names) ≡ false
once names alone = (or_parts (has_twice (exact_names names)) (list_any (is_piece_of names.components) (exact_names names)) alone).0

module _ (plan : Plan) (item : Item) (choice : Choice) (part : HasPart item.formats choice) (can : AllByRecursion CanFetch (parts_of item.formats choice.0)) where
  -- a draft of a name is sound, where it has no fault
  with_sound : (name : SplitName) (steps : List Step) (printed lines : List Text) →
      fault_of plan (draft_with plan choice (chosen_parts item choice) (named_of name steps) printed lines) ≡ None →
      IsSound item.formats (draft_with plan choice (chosen_parts item choice) (named_of name steps) printed lines)
  with_sound name steps printed lines e =
      let parts = chosen_parts item choice in
      let d = draft_with plan choice parts (named_of name steps) printed lines in
      let alone = no_clash plan d e in
      let fetched = fetched_names plan.restricted name parts steps in
      let single = once (draft_names d) alone in
      record {
        alone = alone;
        apart = steps_apart plan.tool parts name.stem 1 fetched steps (components_apart (draft_names d) single) (outputs_once (draft_names d) single);
        come = steps_come plan.tool parts name.stem 1 fetched steps;
        made = by steps;
        named = fetched_stay plan.restricted name parts steps part.one part.others part.are;
        fetched = can;
        silent = execs_silent (named_of name steps).final_name lines;
      }
    where
      by : (steps : List Step) → (((draft_with plan choice (chosen_parts item choice) (named_of name steps) printed lines).steps ≡ [])
          × ((draft_with plan choice (chosen_parts item choice) (named_of name steps) printed lines).components
          ≡ (draft_with plan choice (chosen_parts item choice) (named_of name steps) printed lines).final_name ∷ []))
          ⊎ (is_some (last_output (draft_with plan choice (chosen_parts item choice) (named_of name steps) printed lines).steps) ≡ true)
      by [] = inl (refl, refl)
      by (step ∷ steps) = inr (last_has plan.tool (chosen_parts item choice) name.stem 1 (fetched_names plan.restricted name (chosen_parts item choice) (step ∷ steps)) step steps)

  abbrev Fine : Draft → Type 0
  Fine d = fault_of plan d ≡ None → IsSound item.formats d

  then_some : {A B : Type 0} (f : A → Option B) (o : Option A) (Q : B → Type 0) → ((x : A) → IfSome (f x) Q) → IfSome (option_and_then f o) Q
  then_some f None Q h = tt
  then_some f (Some x) Q h = h x

  map_some : {A B : Type 0} (f : A → B) (o : Option A) (Q : B → Type 0) → ((x : A) → Q (f x)) → IfSome (option_map f o) Q
  map_some f None Q h = tt
  map_some f (Some x) Q h = h x

  name_fine : (ps : List (Text × Tree)) (name : SplitName) (steps : List Step) → IfSome (draft_of_name plan ps choice (chosen_parts item choice) (named_of name steps)) Fine
  name_fine ps name steps =
      then_some _ (all_filled plan.na (told_pairs ps (named_of name steps).final_name) plan.prints) Fine
      (λ printed. map_some _ (all_filled plan.na (told_pairs ps (named_of name steps).final_name) plan.exec) Fine
      (λ lines. with_sound name steps printed lines))

  draft_fine : (count : ℕ) → IfSome (draft_of plan count item choice) Fine
  draft_fine count =
      let ps = name_pairs item choice count in
      let ext = cleaned plan.restricted choice.1 in
      by ps (name_of plan ps ext) (λ name. steps_of plan.audio plan.remux (chosen_parts item choice) choice.1 ext)
    where
      by : (ps : List (Text × Tree)) (o : Option SplitName) (steps : SplitName → List Step) →
          IfSome (option_and_then (draft_of_name plan ps choice (chosen_parts item choice)) (option_map (λ name. named_of name (steps name)) o)) Fine
      by ps None steps = tt
      by ps (Some name) steps = name_fine ps name (steps name)

  judged_sound : (o : Option Draft) → IfSome o Fine → IfOk (judged plan o) (IsSound item.formats)
  judged_sound None fine = tt
  judged_sound (Some d) fine = by (fault_of plan d) refl
    where
      by : (fault : Option JobFault) → fault_of plan d ≡ fault → IfOk (unless_fault d fault) (IsSound item.formats)
      by None e = fine e
      by (Some fault) e = tt

-- a draft of a choice that takes a part is sound
drafted_sound : (plan : Plan) (count : ℕ) (item : Item) (choice : Choice) → HasPart item.formats choice → IfOk (drafted plan count item choice) (IsSound item.formats)
drafted_sound plan count item choice part = by (part_without_pieces item.formats choice.0) refl
  where
    by : (o : Option ℕ) → part_without_pieces item.formats choice.0 ≡ o → IfOk (with_pieces o (judged plan (draft_of plan count item choice))) (IsSound item.formats)
    by None e =
        let can = parts_fetched item.formats choice.0 (none_passes (λ place. not (can_fetch item.formats place)) choice.0 e) in
        judged_sound plan item choice part can (draft_of plan count item choice) (draft_fine plan item choice part can count)
    by (Some k) e = tt

-- an entry that is a draft is sound among the formats of its item
abbrev pub IsSoundEntry : List Item → Entry Draft → Type 0
IsSoundEntry items entry = IfOk entry.outcome (IsSound (formats_at items entry.item))

-- what stands for a choice takes a part, where it is one
abbrev pub TakesPart : List Format → Result Choice JobFault → Type 0
TakesPart formats choice = IfOk choice (HasPart formats)

some_parts : (formats : List Format) (choices : List Choice) → AllByRecursion (HasPart formats) choices → AllByRecursion (TakesPart formats) (some_choice choices)
some_parts formats [] a = (tt, tt)
some_parts formats (choice ∷ choices) a = each (choice ∷ choices) a
  where
    each : (choices : List Choice) → AllByRecursion (HasPart formats) choices → AllByRecursion (TakesPart formats) (map Ok choices)
    each [] a = tt
    each (choice ∷ choices) a = (a.0, each choices a.1)

choices_parts : (plan : Plan) (item : Item) (order : List ℕ) → AllByRecursion (TakesPart item.formats) (choices_of plan item order)
choices_parts plan item order = by (is_large plan.streams item order plan.sel)
  where
    by : (b : Bool) → AllByRecursion (TakesPart item.formats) (if b then Err faults.TooMany ∷ [] else some_choice (combos plan.streams item order plan.sel))
    by true = (tt, tt)
    by false = some_parts item.formats (combos plan.streams item order plan.sel) (combos_have_parts plan.streams item order plan.sel)

item_entries : (plan : Plan) (all : List Item) (count place : ℕ) (item : Item) (choices : List (Result Choice JobFault)) → formats_at all place ≡ item.formats →
    AllByRecursion (TakesPart item.formats) choices → AllByRecursion (IsSoundEntry all) (entries_of plan count place item choices)
item_entries plan all count place item [] at a = tt
item_entries plan all count place item (choice ∷ choices) at a =
    (subst (λ formats. IfOk (outcome_of plan count item choice) (IsSound formats)) (sym at) (by choice a.0), item_entries plan all (count + 1) place item choices at a.1)
  where
    by : (r : Result Choice JobFault) → IfOk r (HasPart item.formats) → IfOk (outcome_of plan count item r) (IsSound item.formats)
    by (Err fault) h = tt
    by (Ok choice) h = drafted_sound plan count item choice h

get_behind : {A : Type 0} (front : List A) (x : A) (rest : List A) → slice_get (front ++ x ∷ rest) (length front) ≡ Some x
get_behind [] x rest = refl
get_behind (y ∷ front) x rest = get_behind front x rest

length_last : {A : Type 0} (front : List A) (x : A) → length (front ++ x ∷ []) ≡ length front + 1
length_last [] x = refl
length_last (y ∷ front) x = omega (arith, length_last front x)

entries_append : (all : List Item) (xs ys : List (Entry Draft)) → AllByRecursion (IsSoundEntry all) xs → AllByRecursion (IsSoundEntry all) ys → AllByRecursion (IsSoundEntry all) (xs ++ ys)
entries_append all [] ys a b = b
entries_append all (x ∷ xs) ys a b = (a.0, entries_append all xs ys a.1 b)

entries_sound : (plan : Plan) (count : ℕ) (front items : List Item) (orders : List (List ℕ)) →
    AllByRecursion (IsSoundEntry (front ++ items)) (all_entries plan count (length front) items orders)
entries_sound plan count front [] orders = tt
entries_sound plan count front (item ∷ items) [] = tt
entries_sound plan count front (item ∷ items) (order ∷ orders) =
    entries_append (front ++ item ∷ items) (entries_of plan count (length front) item (choices_of plan item order)) _
    (item_entries plan (front ++ item ∷ items) count (length front) item (choices_of plan item order)
    (ap (λ o. option_map_or (λ i. i.formats) o []) (get_behind front item items)) (choices_parts plan item order))
    (subst (λ all. AllByRecursion (IsSoundEntry all) (all_entries plan (count + length (choices_of plan item order)) (length front + 1) items orders)) (append_assoc front (item ∷ []) items)
    (subst (λ n. AllByRecursion (IsSoundEntry ((front ++ item ∷ []) ++ items)) (all_entries plan (count + length (choices_of plan item order)) n items orders)) (length_last front item)
    (entries_sound plan (count + length (choices_of plan item order)) (front ++ item ∷ []) items orders)))

-- an entry behind others is as sound as it is by itself
pub behind_sound : (all : List Item) (earlier entries : List (Entry Draft)) → AllByRecursion (IsSoundEntry all) entries → AllByRecursion (IsSoundEntry all) (all_behind earlier entries)
behind_sound all earlier [] a = tt
behind_sound all earlier (entry ∷ entries) a = (by entry.outcome a.0, behind_sound all (earlier ++ entry_behind earlier entry ∷ []) entries a.1)
  where
    one : (d : Draft) (o : Option ℕ) → IsSound (formats_at all entry.item) d → IfOk (behind_one d o) (IsSound (formats_at all entry.item))
    one d None h = h
    one d (Some k) h = tt

    by : (r : Result Draft JobFault) → IfOk r (IsSound (formats_at all entry.item)) → IfOk (behind earlier r) (IsSound (formats_at all entry.item))
    by (Err fault) h = tt
    by (Ok d) h = one d (position (is_met_by d) earlier) h

-- the entries of items, as they stand before they are finished, are sound
pub all_sound : (plan : Plan) (items : List Item) (orders : List (List ℕ)) → AllByRecursion (IsSoundEntry items) (all_behind [] (all_entries plan plan.first_number 0 items orders))
all_sound plan items orders = behind_sound items [] (all_entries plan plan.first_number 0 items orders) (entries_sound plan plan.first_number [] items orders)

-- the names of a sound draft's job are those of the draft
pub same_names : (place : ℕ) (formats : List Format) (d : Draft) → IsSound formats d → names_of (job_of place formats d) ≡ draft_names d
same_names place formats d sound =
    ap (λ (components : List Text). record { final_name = d.final_name; components = components; outputs = filter_map (λ step. step.output) d.steps }) sound.named

job_whole : (place : ℕ) (formats : List Format) (d : Draft) → IsSound formats d → IsWhole (job_of place formats d)
job_whole place formats d sound = record {
  alone = subst (λ (names : Names). meets_itself names ≡ false) (sym (same_names place formats d sound)) sound.alone;
  apart = sound.apart;
  come = subst (λ (names : List Text). InputsCome (λ name. IsTrue (list_any (bytes_eq name) names)) d.steps) (sym sound.named) sound.come;
  made = by sound.made;
  fetched = all_from_each _ (components_of d.components (parts_of formats d.parts)) (have_pieces d.components (parts_of formats d.parts) sound.fetched);
  silent = all_from_each _ d.execs sound.silent;
}
  where
    by : ((d.steps ≡ []) × (d.components ≡ d.final_name ∷ [])) ⊎ (is_some (last_output d.steps) ≡ true) → IsMade (job_of place formats d)
    by (inl none) = inl (none.0, sound.named ∙ none.1)
    by (inr some) = inr some

all_whole : (items : List Item) (entries : List (Entry Draft)) → AllByRecursion (IsSoundEntry items) entries → AllByRecursion (λ entry. IfOk entry.outcome IsWhole) (map (finished items) entries)
all_whole items [] a = tt
all_whole items (entry ∷ entries) a = (by entry.outcome a.0, all_whole items entries a.1)
  where
    by : (r : Result Draft JobFault) → IfOk r (IsSound (formats_at items entry.item)) → IfOk (finished_outcome entry.item (formats_at items entry.item) r) IsWhole
    by (Err fault) h = tt
    by (Ok d) h = job_whole entry.item (formats_at items entry.item) d h

whole_at : (entries : List (Entry Job)) → AllByRecursion (λ entry. IfOk entry.outcome IsWhole) entries → AreWhole entries
whole_at [] a i entry job at is = absurd (cc)
whole_at (e ∷ entries) a zero entry job at is =
    let same : e ≡ entry = cc in
    subst (λ r. IfOk r IsWhole) (ap (λ (x : Entry Job). x.outcome) same ∙ is) a.0
whole_at (e ∷ entries) a (suc i) entry job at is = whole_at entries a.1 i entry job at is

pub jobs_whole : (plan : Plan) (items : List Item) (entries : List (Entry Job)) → AreJobs plan items entries → AreWhole entries
jobs_whole plan items entries are =
    subst AreWhole (sym are.are) (whole_at (jobs plan items are.orders)
    (all_whole items (all_behind [] (all_entries plan plan.first_number 0 items are.orders)) (all_sound plan items are.orders)))
