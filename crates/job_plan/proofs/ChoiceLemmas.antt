-- The choices that selectors stand for: each takes some formats, and only such as are there.
use Rattle.std.proofs.Common.{◌≡◌, ℕ, zero, suc, List, [], ◌∷◌, ◌++◌, Bool, true, false, cond, Option, Some, None, map, reverse, refl, sym, ap, subst}
use Rattle.std.specs.Prelude.{IfSome, filter, find, fold, slice_get, if◌then◌else◌}
use Rattle.std.specs.List.{AllByRecursion, flat_map, filter_map, cons_option}
use Rattle.std.specs.Option.{option_map}
use Rattle.std.proofs.lemmas.List.{reverse-append}
use Rattle.info_item.specs.Item.{Item, Format}
use Rattle.info_item.specs.View.{parts_of}
use Rattle.sel_lang.specs.Plain.{Plain, list, first, merge, narrow, name, Plains, no_plains, a_plain, PlainFilter}
use Rattle.sel_lang.specs.declared.pick.Pick.{Pick}
use Rattle.sel_lang.specs.declared.pick.Pick.TheVariants.{All, MergeAll, Ranked, Ext, Id}
use Rattle.sel_eval.specs.declared.streams.Streams.{Streams}
use Rattle.sel_eval.specs.Placed.{Placed, has_stream, at_places}
use Rattle.sel_eval.specs.Holds.{holds}
use Rattle.sel_eval.specs.Keep.{keep, kept_with, is_dropped}
use Rattle.sel_eval.specs.Picks.{picks, is_choice, alone, at_most_one, nth, ranked, is_candidate, has_ext}
use Rattle.sel_eval.specs.Den.{Choices, den, den_each, joined, first_found, products, merged, meeting}
use Rattle.sel_eval.specs.Answer.{combo_of, combos, have_both, in_order}
use Rattle.job_names.specs.Text.{Text}

each_append : {A : Type 0} (P : A → Type 0) (xs ys : List A) → AllByRecursion P xs → AllByRecursion P ys → AllByRecursion P (xs ++ ys)
each_append P [] ys a b = b
each_append P (x ∷ xs) ys a b = (a.0, each_append P xs ys a.1 b)

each_filter : {A : Type 0} (P : A → Type 0) (q : A → Bool) (xs : List A) → AllByRecursion P xs → AllByRecursion P (filter q xs)
each_filter P q [] a = tt
each_filter P q (x ∷ xs) a = by (q x) (each_filter P q xs a.1)
  where
    by : (b : Bool) → AllByRecursion P (filter q xs) → AllByRecursion P (cond b (x ∷ filter q xs) (filter q xs))
    by true rest = (a.0, rest)
    by false rest = rest

each_reverse : {A : Type 0} (P : A → Type 0) (xs : List A) → AllByRecursion P xs → AllByRecursion P (reverse xs)
each_reverse P [] a = tt
each_reverse P (x ∷ xs) a =
    subst (AllByRecursion P) (sym (reverse-append (x ∷ []) xs)) (each_append P (reverse xs) (x ∷ []) (each_reverse P xs a.1) (a.0, tt))

each_weaker : {A : Type 0} (P Q : A → Type 0) (xs : List A) → ((x : A) → P x → Q x) → AllByRecursion P xs → AllByRecursion Q xs
each_weaker P Q [] weaker a = tt
each_weaker P Q (x ∷ xs) weaker a = (weaker x a.0, each_weaker P Q xs weaker a.1)

each_get : {A : Type 0} (P : A → Type 0) (xs : List A) (n : ℕ) → AllByRecursion P xs → IfSome (slice_get xs n) P
each_get P [] n a = tt
each_get P (x ∷ xs) zero a = a.0
each_get P (x ∷ xs) (suc n) a = each_get P xs n a.1

each_find : {A : Type 0} (P : A → Type 0) (q : A → Bool) (xs : List A) → AllByRecursion P xs → IfSome (find q xs) P
each_find P q [] a = tt
each_find P q (x ∷ xs) a = by (q x) (each_find P q xs a.1)
  where
    by : (b : Bool) → IfSome (find q xs) P → IfSome (cond b (Some x) (find q xs)) P
    by true rest = a.0
    by false rest = rest

each_joined : {A : Type 0} (P : A → Type 0) (all : List (List A)) → AllByRecursion (AllByRecursion P) all → AllByRecursion P (flat_map (λ xs. xs) all)
each_joined P [] a = tt
each_joined P (xs ∷ all) a = each_append P xs (flat_map (λ ys. ys) all) a.0 (each_joined P all a.1)

module _ (P : Placed → Type 0) where
  -- the choice takes a format, and each that it takes is so
  abbrev pub Takes : List Placed → Type 0
  Takes [] = ⊥
  Takes (p ∷ ps) = P p × AllByRecursion P ps

  takes_each : (choice : List Placed) → Takes choice → AllByRecursion P choice
  takes_each [] t = tt
  takes_each (p ∷ ps) t = t

  each_takes : (choices : Choices) → AllByRecursion Takes choices → AllByRecursion (AllByRecursion P) choices
  each_takes choices a = each_weaker Takes (AllByRecursion P) choices takes_each a

  all_takes : (all : List Choices) → AllByRecursion (AllByRecursion Takes) all → AllByRecursion (AllByRecursion (AllByRecursion P)) all
  all_takes all a = each_weaker (AllByRecursion Takes) (AllByRecursion (AllByRecursion P)) all each_takes a

  found_first : (all : List Choices) → AllByRecursion (AllByRecursion Takes) all → AllByRecursion Takes (first_found all)
  found_first [] a = tt
  found_first ([] ∷ all) a = found_first all a.1
  found_first ((c ∷ cs) ∷ all) a = a.0

  row_with : (c : List Placed) (rows : Choices) → AllByRecursion P c → AllByRecursion (AllByRecursion P) rows → AllByRecursion (AllByRecursion P) (map (λ d. c ++ d) rows)
  row_with c [] a b = tt
  row_with c (d ∷ rows) a b = (each_append P c d a b.0, row_with c rows a b.1)

  rows_with : (choices rows : Choices) → AllByRecursion (AllByRecursion P) choices → AllByRecursion (AllByRecursion P) rows →
      AllByRecursion (AllByRecursion P) (flat_map (λ c. map (λ d. c ++ d) rows) choices)
  rows_with [] rows a b = tt
  rows_with (c ∷ choices) rows a b =
      each_append (AllByRecursion P) (map (λ d. c ++ d) rows) (flat_map (λ c. map (λ d. c ++ d) rows) choices) (row_with c rows a.0 b) (rows_with choices rows a.1 b)

  rows_each : (all : List Choices) → AllByRecursion (AllByRecursion (AllByRecursion P)) all → AllByRecursion (AllByRecursion P) (products all)
  rows_each [] a = (tt, tt)
  rows_each (choices ∷ all) a = rows_with choices (products all) a.0 (rows_each all a.1)

  kept_each : (streams : Streams) (kept parts : List Placed) → AllByRecursion P kept → AllByRecursion P parts → AllByRecursion P (fold (kept_with streams) kept parts)
  kept_each streams kept [] a b = a
  kept_each streams kept (p ∷ parts) a b = kept_each streams (kept_with streams kept p) parts (by (is_dropped streams kept p)) b.1
    where
      by : (d : Bool) → AllByRecursion P (if d then kept else kept ++ p ∷ [])
      by true = a
      by false = each_append P kept (p ∷ []) a (b.0, tt)

  all_kept : (streams : Streams) (rows : Choices) → AllByRecursion (AllByRecursion P) rows → AllByRecursion (AllByRecursion P) (map (keep streams) rows)
  all_kept streams [] a = tt
  all_kept streams (row ∷ rows) a = (kept_each streams [] row tt a.0, all_kept streams rows a.1)

  some_taken : (rows : Choices) → AllByRecursion (AllByRecursion P) rows → AllByRecursion Takes (filter is_choice rows)
  some_taken [] a = tt
  some_taken ([] ∷ rows) a = some_taken rows a.1
  some_taken ((p ∷ ps) ∷ rows) a = (a.0, some_taken rows a.1)

  each_alone : (ps : List Placed) → AllByRecursion P ps → AllByRecursion Takes (map alone ps)
  each_alone [] a = tt
  each_alone (p ∷ ps) a = ((a.0, tt), each_alone ps a.1)

  one_taken : (o : Option Placed) → IfSome o P → AllByRecursion Takes (at_most_one o)
  one_taken None a = tt
  one_taken (Some p) a = ((a, tt), tt)

  nth_is : (n : ℕ) (ps : List Placed) → AllByRecursion P ps → IfSome (nth n ps) P
  nth_is zero ps a = tt
  nth_is (suc n) ps a = each_get P ps n a

  from_end : (worst : Bool) (ps : List Placed) → AllByRecursion P ps → AllByRecursion P (if worst then reverse ps else ps)
  from_end true ps a = each_reverse P ps a
  from_end false ps a = a

  picked : (streams : Streams) (both : Bool) (pick : Pick) (ps : List Placed) → AllByRecursion P ps → AllByRecursion Takes (picks streams both pick ps)
  picked streams both All ps a = each_alone (filter has_stream ps) (each_filter P has_stream ps a)
  picked streams both MergeAll ps a = some_taken (keep streams ps ∷ []) (kept_each streams [] ps tt a, tt)
  picked streams both (Ranked worst media star n) ps a =
      one_taken (ranked both media star worst n ps)
      (nth_is n (filter (is_candidate both media star) (if worst then reverse ps else ps))
      (each_filter P (is_candidate both media star) (if worst then reverse ps else ps) (from_end worst ps a)))
  picked streams both (Ext ext) ps a = one_taken (find (has_ext ext) ps) (each_find P (has_ext ext) ps a)
  picked streams both (Id id) ps a = one_taken (find _ ps) (each_find P _ ps a)

module _ (streams : Streams) (both : Bool) where
  den_list : (xs : Plains) (ps : List Placed) → joined (den_each streams both xs ps) ≡ den streams both (list xs) ps
  unfolding den
  den_list xs ps = refl

  den_first : (xs : Plains) (ps : List Placed) → first_found (den_each streams both xs ps) ≡ den streams both (first xs) ps
  unfolding den
  den_first xs ps = refl

  den_merge : (xs : Plains) (ps : List Placed) → merged streams (den_each streams both xs ps) ≡ den streams both (merge xs) ps
  unfolding den
  den_merge xs ps = refl

  den_narrow : (x : Plain) (f : PlainFilter) (ps : List Placed) → den streams both x (meeting f ps) ≡ den streams both (narrow x f) ps
  unfolding den
  den_narrow x f ps = refl

  den_name : (pick : Pick) (ps : List Placed) → picks streams both pick ps ≡ den streams both (name pick) ps
  unfolding den
  den_name pick ps = refl

  den_none : (ps : List Placed) → ◌≡◌ {A = List Choices} [] (den_each streams both no_plains ps)
  unfolding den
  den_none ps = refl

  den_more : (x : Plain) (xs : Plains) (ps : List Placed) → ◌≡◌ {A = List Choices} (den streams both x ps ∷ den_each streams both xs ps) (den_each streams both (a_plain x xs) ps)
  unfolding den
  den_more x xs ps = refl

module _ (P : Placed → Type 0) (streams : Streams) (both : Bool) where
  mutual
    -- each choice of a selector takes a format, and only such as are among these
    pub den_takes : (x : Plain) (ps : List Placed) → AllByRecursion P ps → AllByRecursion (Takes P) (den streams both x ps)
    den_takes (list xs) ps a =
        subst (AllByRecursion (Takes P)) (den_list streams both xs ps) (each_joined (Takes P) (den_each streams both xs ps) (each_den xs ps a))
    den_takes (first xs) ps a =
        subst (AllByRecursion (Takes P)) (den_first streams both xs ps) (found_first P (den_each streams both xs ps) (each_den xs ps a))
    den_takes (merge xs) ps a =
        subst (AllByRecursion (Takes P)) (den_merge streams both xs ps)
        (some_taken P (map (keep streams) (products (den_each streams both xs ps)))
        (all_kept P streams (products (den_each streams both xs ps))
        (rows_each P (den_each streams both xs ps) (all_takes P (den_each streams both xs ps) (each_den xs ps a)))))
    den_takes (narrow x f) ps a =
        subst (AllByRecursion (Takes P)) (den_narrow streams both x f ps) (den_takes x (meeting f ps) (each_filter P (λ p. holds f p.format) ps a))
    den_takes (name pick) ps a = subst (AllByRecursion (Takes P)) (den_name streams both pick ps) (picked P streams both pick ps a)

    each_den : (xs : Plains) (ps : List Placed) → AllByRecursion P ps → AllByRecursion (AllByRecursion (Takes P)) (den_each streams both xs ps)
    each_den no_plains ps a = subst (AllByRecursion (AllByRecursion (Takes P))) (den_none streams both ps) tt
    each_den (a_plain x xs) ps a =
        subst (AllByRecursion (AllByRecursion (Takes P))) (den_more streams both x xs ps) (den_takes x ps a, each_den xs ps a)

-- a format stands at its place
abbrev pub IsPlaced : List Format → Placed → Type 0
IsPlaced formats p = slice_get formats p.place ≡ Some p.format

-- those at places do
placed_each : (formats : List Format) (places : List ℕ) → AllByRecursion (IsPlaced formats) (at_places formats places)
placed_each formats [] = tt
placed_each formats (k ∷ places) = by (slice_get formats k) refl (placed_each formats places)
  where
    by : (o : Option Format) → slice_get formats k ≡ o → AllByRecursion (IsPlaced formats) (at_places formats places) → AllByRecursion (IsPlaced formats) (cons_option (option_map (λ f. record { place = k; format = f }) o) (at_places formats places))
    by None e rest = rest
    by (Some f) e rest = (e, rest)

-- the places of a choice have a part
pub record HasPart (formats : List Format) (choice : List ℕ × Text) : Type 0 where
  pub one : Format
  pub others : List Format
  pub are : parts_of formats choice.0 ≡ one ∷ others

takes_part : (formats : List Format) (streams : Streams) (choice : List Placed) → Takes (IsPlaced formats) choice → HasPart formats (combo_of streams choice)
takes_part formats streams [] t = absurd t
takes_part formats streams (p ∷ ps) t = record {
  one = p.format;
  others = parts_of formats (map (λ p. p.place) ps);
  are = ap (λ o. cons_option o (filter_map (slice_get formats) (map (λ p. p.place) ps))) t.0;
}

take_parts : (formats : List Format) (streams : Streams) (choices : Choices) → AllByRecursion (Takes (IsPlaced formats)) choices → AllByRecursion (HasPart formats) (map (combo_of streams) choices)
take_parts formats streams [] a = tt
take_parts formats streams (c ∷ choices) a = (takes_part formats streams c a.0, take_parts formats streams choices a.1)

-- each combination of a selector has a part
pub combos_have_parts : (streams : Streams) (item : Item) (order : List ℕ) (sel : Plain) → AllByRecursion (HasPart item.formats) (combos streams item order sel)
combos_have_parts streams item order sel =
    take_parts item.formats streams (den streams (have_both item.formats) sel (in_order item order))
    (den_takes (IsPlaced item.formats) streams (have_both item.formats) sel (in_order item order) (placed_each item.formats order))
