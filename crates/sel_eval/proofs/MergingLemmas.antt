-- What rows of choices are as one more part is met.
use Rattle.std.proofs.Common.{◌≡◌, ℕ, zero, suc, ◌+◌, ◌-◌, ◌*◌, ◌^◌, ◌<◌, ◌≤◌, min, List, [], ◌∷◌, ◌++◌, map, fold, filter, length, take, get_or, refl, sym, ap, ◌∙◌, append_assoc, append-nil, arith, false, ⊎_elim}
use Rattle.std.proofs.Math.Nat.{mul_assoc, mul-le-mul_left}
use Rattle.std.proofs.lemmas.Bool.{cases_lt}
use Rattle.std.proofs.lemmas.List.{map-append, map_more, take_all}
use Rattle.std.proofs.lemmas.List.Sums.{fold-append}
use Rattle.std.proofs.lemmas.List.Concat.{flat_map-append}
use Rattle.std.specs.List.{flat_map}
use Rattle.sel_eval.specs.Placed.{Placed}
use Rattle.sel_eval.specs.Keep.{keep, kept_with}
use Rattle.sel_eval.specs.Den.{Choices, products, product_count, merged, is_over}
use Rattle.sel_eval.specs.Picks.{is_choice}
use Rattle.sel_eval.specs.Merging.{spread, IsMerging}
use Rattle.sel_eval.proofs.DenLemmas.{not_over}
use Rattle.sel_eval.specs.declared.streams.Streams.{Streams}
use Rattle.sel_eval.specs.declared.merging.Merging.{Merging}

-- one more part multiplies the count
pub product_count_push : (all : List Choices) (choices : Choices) → product_count (all ++ choices ∷ []) ≡ product_count all * length choices
product_count_push [] choices = omega arith
product_count_push (x ∷ all) choices = rw (product_count_push all choices) (sym (mul_assoc (length x) (product_count all) (length choices)))

-- below the bound a count is as it is, from the bound on it stays there
capped_below : (r l most : ℕ) → r < most → min (min r most * l) most ≡ min (r * l) most
capped_below r l most lt =
    let e : min r most ≡ r = omega arith in
    rw e

capped_above : (r l most : ℕ) → most ≤ r → min (min r most * suc l) most ≡ min (r * suc l) most
capped_above r l most le =
    let e : min r most ≡ most = omega arith in
    let one : 1 ≤ suc l = omega arith in
    let low : most * 1 ≤ most * suc l = mul-le-mul_left most one in
    let high : r * 1 ≤ r * suc l = mul-le-mul_left r one in
    rw e (omega arith)

-- a count that stands still at a bound, multiplied
pub capped_product : (r l most : ℕ) → min (min r most * l) most ≡ min (r * l) most
capped_product r zero most = omega arith
capped_product r (suc l) most = ⊎_elim (capped_below r (suc l) most) (capped_above r l most) (cases_lt r most)

-- each row with each choice behind it
behind : Choices → List Placed → Choices
behind choices row = map (λ c. row ++ c) choices

alone_rows : (choices : Choices) → flat_map (λ c. map (λ d. c ++ d) ([] ∷ [])) choices ≡ map (λ c. [] ++ c) choices ++ []
alone_rows [] = refl
alone_rows (c ∷ cs) = rw (append-nil c) (ap (λ (rest : Choices). c ∷ rest) (alone_rows cs))

behind_more : (front row : List Placed) (choices : Choices) → map (λ d. front ++ d) (map (λ c. row ++ c) choices) ≡ map (λ c. (front ++ row) ++ c) choices
behind_more front row [] = refl
behind_more front row (c ∷ cs) =
    rw (← append_assoc front row c) (ap (λ (rest : Choices). ((front ++ row) ++ c) ∷ rest) (behind_more front row cs))

front_rows : (front : List Placed) (choices all : Choices)
    → map (λ d. front ++ d) (flat_map (λ row. map (λ c. row ++ c) choices) all) ≡ flat_map (λ row. map (λ c. row ++ c) choices) (map (λ d. front ++ d) all)
front_rows front choices [] = refl
front_rows front choices (row ∷ all) =
    map-append (λ (d : List Placed). front ++ d) (map (λ c. row ++ c) choices) (flat_map (λ r. map (λ c. r ++ c) choices) all)
    ∙ (ap (λ (x : Choices). x ++ map (λ d. front ++ d) (flat_map (λ r. map (λ c. r ++ c) choices) all)) (behind_more front row choices)
    ∙ ap (λ (x : Choices). map (λ c. (front ++ row) ++ c) choices ++ x) (front_rows front choices all))

spread_rows : (first choices all : Choices)
    → flat_map (λ c. map (λ d. c ++ d) (flat_map (λ row. map (λ e. row ++ e) choices) all)) first
    ≡ flat_map (λ row. map (λ e. row ++ e) choices) (flat_map (λ c. map (λ d. c ++ d) all) first)
spread_rows [] choices all = refl
spread_rows (c ∷ cs) choices all =
    ap (λ (x : Choices). x ++ flat_map (λ f. map (λ d. f ++ d) (flat_map (λ row. map (λ e. row ++ e) choices) all)) cs) (front_rows c choices all)
    ∙ (ap (λ (x : Choices). flat_map (λ row. map (λ e. row ++ e) choices) (map (λ d. c ++ d) all) ++ x) (spread_rows cs choices all)
    ∙ sym (flat_map-append (λ row. map (λ e. row ++ e) choices) (map (λ d. c ++ d) all) (flat_map (λ f. map (λ d. f ++ d) all) cs)))

-- the rows of one more part: each row with each of its choices behind it
pub products_push : (all : List Choices) (choices : Choices) → products (all ++ choices ∷ []) ≡ flat_map (λ row. map (λ c. row ++ c) choices) (products all)
products_push [] choices = alone_rows choices
products_push (first ∷ all) choices =
    ap (λ (x : Choices). flat_map (λ c. map (λ d. c ++ d) x) first) (products_push all choices)
    ∙ spread_rows first choices (products all)

keep_behind : (streams : Streams) (row : List Placed) (choices : Choices) → map (keep streams) (map (λ c. row ++ c) choices) ≡ map (fold (kept_with streams) (keep streams row)) choices
keep_behind streams row [] = refl
keep_behind streams row (c ∷ cs) =
    ap (λ (x : List Placed). x ∷ map (keep streams) (map (λ d. row ++ d) cs)) (fold-append (kept_with streams) [] row c)
    ∙ ap (λ (x : Choices). fold (kept_with streams) (keep streams row) c ∷ x) (keep_behind streams row cs)

keep_rows : (streams : Streams) (choices all : Choices) → map (keep streams) (flat_map (λ row. map (λ c. row ++ c) choices) all) ≡ spread streams (map (keep streams) all) choices
keep_rows streams choices [] = refl
keep_rows streams choices (row ∷ all) =
    map-append (keep streams) (map (λ c. row ++ c) choices) (flat_map (λ r. map (λ c. r ++ c) choices) all)
    ∙ (ap (λ (x : Choices). x ++ map (keep streams) (flat_map (λ r. map (λ c. r ++ c) choices) all)) (keep_behind streams row choices)
    ∙ ap (λ (x : Choices). map (fold (kept_with streams) (keep streams row)) choices ++ x) (keep_rows streams choices all))

-- what is kept of the rows of one more part
pub kept_products_push : (streams : Streams) (all : List Choices) (choices : Choices)
    → map (keep streams) (products (all ++ choices ∷ [])) ≡ spread streams (map (keep streams) (products all)) choices
kept_products_push streams all choices = ap (map (keep streams)) (products_push all choices) ∙ keep_rows streams choices (products all)

-- of a part without a choice there is no row
pub spread_none : (streams : Streams) (rows : Choices) → spread streams rows [] ≡ []
spread_none streams [] = refl
spread_none streams (row ∷ rows) = spread_none streams rows

spread_known : (streams : Streams) (rows others choices : Choices) (n : ℕ) → (n ≤ 10000 → rows ≡ others) → min (n * length choices) (2 ^ 64 - 1) ≤ 10000
    → spread streams rows choices ≡ spread streams others choices
spread_known streams rows others [] n h few = spread_none streams rows ∙ sym (spread_none streams others)
spread_known streams rows others (c ∷ cs) n h few =
    let one : 1 ≤ suc (length cs) = omega arith in
    let high : n * 1 ≤ n * suc (length cs) = mul-le-mul_left n one in
    ap (λ (x : Choices). spread streams x (c ∷ cs)) (h (omega arith))

-- one more part
pub one_more : (streams : Streams) (parts : List Choices) (choices rows : Choices) (m : Merging) (count : ℕ) → IsMerging streams parts m
    → count ≡ min (m.count * length choices) (2 ^ 64 - 1) → (count ≤ 10000 → rows ≡ spread streams m.rows.items choices)
    → (count ≡ min (product_count (parts ++ choices ∷ [])) (2 ^ 64 - 1)) × (count ≤ 10000 → rows ≡ map (keep streams) (products (parts ++ choices ∷ [])))
one_more streams parts choices rows m count is e h = (
  e ∙ (ap (λ (n : ℕ). min (n * length choices) (2 ^ 64 - 1)) is.count ∙ (capped_product (product_count parts) (length choices) (2 ^ 64 - 1)
      ∙ ap (λ (n : ℕ). min n (2 ^ 64 - 1)) (sym (product_count_push parts choices)))),
  λ few. h few ∙ (spread_known streams m.rows.items (map (keep streams) (products parts)) choices m.count is.rows (rw (← e) few)
      ∙ sym (kept_products_push streams parts choices)),
)

-- the choices of a merge that is done
pub merged_is : (streams : Streams) (parts : List Choices) (m : Merging) (choices : Choices) → IsMerging streams parts m → m.count ≤ 10000
    → choices ≡ filter is_choice m.rows.items → (choices ≡ merged streams parts) × (is_over (product_count parts) ≡ false)
merged_is streams parts m choices is few e =
    let small : product_count parts ≤ 10000 = omega (arith, is.count) in
    (e ∙ ap (filter is_choice) (is.rows few), not_over (product_count parts) small)

-- one more row with each choice behind it
pub spread_more : (streams : Streams) (choices front all rows later total : Choices) (row : List Placed) → all ≡ front ++ map (fold (kept_with streams) row) choices → rows ≡ row ∷ later
    → front ++ spread streams rows choices ≡ total → all ++ spread streams later choices ≡ total
spread_more streams choices front all rows later total row e next h =
    ap (λ (z : Choices). z ++ spread streams later choices) e
    ∙ (append_assoc front (map (fold (kept_with streams) row) choices) (spread streams later choices)
    ∙ (ap (λ (z : Choices). front ++ spread streams z choices) (sym next) ∙ h))

-- no row is left
pub spread_done : (streams : Streams) (choices front rest total : Choices) → rest ≡ [] → front ++ spread streams rest choices ≡ total → front ≡ total
spread_done streams choices front rest total none h = sym (append-nil front) ∙ (ap (λ (z : Choices). front ++ spread streams z choices) (sym none) ∙ h)

-- one more choice behind a row
pub rows_push : (streams : Streams) (row : List Placed) (front all others : Choices) (i : ℕ) (choice made : List Placed) → i < length others → choice ≡ get_or others i choice
    → made ≡ fold (kept_with streams) row choice → all ≡ front ++ map (fold (kept_with streams) row) (take i others)
    → all ++ made ∷ [] ≡ front ++ map (fold (kept_with streams) row) (take (i + 1) others)
rows_push streams row front all others i choice made l is e h =
    let f = fold (kept_with streams) row in
    ap (λ (z : Choices). z ++ made ∷ []) h
    ∙ (append_assoc front (map f (take i others)) (made ∷ [])
    ∙ ap (λ (z : Choices). front ++ z) (ap (λ (z : List Placed). map f (take i others) ++ z ∷ []) (e ∙ ap f is) ∙ sym (map_more f others i choice l)))

-- the last choice behind a row
pub rows_end : (streams : Streams) (row : List Placed) (front all others choices : Choices) (i : ℕ) (last made : List Placed) → length others ≤ i → choices ≡ others ++ last ∷ []
    → made ≡ fold (kept_with streams) row last → all ≡ front ++ map (fold (kept_with streams) row) (take i others)
    → all ++ made ∷ [] ≡ front ++ map (fold (kept_with streams) row) choices
rows_end streams row front all others choices i last made l is e h =
    let f = fold (kept_with streams) row in
    ap (λ (z : Choices). z ++ made ∷ []) (h ∙ ap (λ (z : Choices). front ++ map f z) (take_all i others l))
    ∙ (append_assoc front (map f others) (made ∷ [])
    ∙ ap (λ (z : Choices). front ++ z) (ap (λ (z : List Placed). map f others ++ z ∷ []) e ∙ (sym (map-append f others (last ∷ [])) ∙ ap (map f) (sym is))))

-- no choice behind a row
pub rows_none : (streams : Streams) (row : List Placed) (front choices : Choices) → choices ≡ [] → front ≡ front ++ map (fold (kept_with streams) row) choices
rows_none streams row front choices none = sym (append-nil front) ∙ ap (λ (z : Choices). front ++ map (fold (kept_with streams) row) z) (sym none)
