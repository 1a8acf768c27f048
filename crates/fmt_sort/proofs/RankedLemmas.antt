-- Formats that were sorted by their ranks and places stand from worst to best, and read from the end from best to worst.
use Rattle.std.proofs.Common.{◌≡◌, ◌≢◌, ◌<◌, ◌+◌, ◌-◌, ℕ, zero, suc, List, [], ◌∷◌, ◌++◌, false, map, length, get_or, reverse, Some, eqb, refl, sym, ap, ◌∙◌, arith}
use Rattle.std.specs.Prelude.{slice_get, slice_index, All}
use Rattle.std.specs.List.{range_with_len, IsDistinct}
use Rattle.std.specs.List.Sorted.{IsPermutation, IsSorted}
use Rattle.std.specs.declared.cmp.Ordering.{Ordering}
use Rattle.std.specs.declared.cmp.Ordering.TheVariants.{Less, Equal, Greater}
use Rattle.std.specs.Ordering.{ordering_then, is_lt, nat_cmp, int_cmp}
use Rattle.std.specs.Cmp.Lexicographic.{slice_cmp}
use Rattle.std.proofs.lemmas.Bool.Decides.{nat_tests}
use Rattle.std.proofs.lemmas.Bool.{ne_eqb, eqb-false}
use Rattle.std.proofs.lemmas.List.{length-map, length-reverse, get_or-map, get_or-reverse, map-append}
use Rattle.std.proofs.lemmas.List.Elements.{All-append}
use Rattle.std.proofs.lemmas.List.FromFn.{length-range_with_len, get_or-range_with_len, map-range_with_len_more}
use Rattle.std.proofs.lemmas.List.Sorted.{IsPermutation-map, IsPermutation-reverse, IsPermutation-trans, All-permutation}
use Rattle.std.proofs.lemmas.Map.Keys.{apart_from_distinct, IsDistinct-from_apart, IsDistinct-IsPermutation}
use Rattle.std.proofs.lemmas.Option.{get_or_from_slice_get}
use Rattle.info_item.specs.Item.{Format}
use Rattle.fmt_sort.specs.Order.{ranks_of, compared, Better, IsBestFirst}
use Rattle.fmt_sort.specs.Rank as rank
use Rattle.fmt_sort.specs.Ranked.{HasRanks, AreRanked}
use Rattle.fmt_sort.specs.Spec.{Wish}
use Rattle.fmt_sort.specs.ValueParts.{plain_middle, plain_rank}
use Rattle.fmt_sort.specs.contracts.rank.MiddleOrd.TheImpl as middle_order
use Rattle.fmt_sort.specs.contracts.rank.RankOrd.TheImpl as rank_order
use Rattle.fmt_sort.specs.declared.order.Ranked.{Ranked}
use Rattle.fmt_sort.specs.declared.rank.Middle.{Middle}
use Rattle.fmt_sort.specs.declared.rank.Middle.TheVariants as middle
use Rattle.fmt_sort.specs.declared.rank.Rank.{Rank}

abbrev place : Ranked → ℕ
place r = r.place

map-id : (xs : List ℕ) → map (λ k. k) xs ≡ xs
map-id [] = refl
map-id (x ∷ xs) = ap (λ z. x ∷ z) (map-id xs)

alone : {X : Type 0} (P : X → Type 0) (x : X) → P x → All P (x ∷ [])
alone P x p zero d l = p
alone P x p (suc k) d l = absurd (omega arith)

strict : (o : Ordering) (a b : ℕ) → a ≢ b → is_lt (ordering_then o (nat_cmp a b)) ≡ false → ordering_then o (nat_cmp a b) ≡ Greater
strict Less a b n e = cc
strict Equal a b n e = grind (arith, nat_tests)
strict Greater a b n e = refl

module _ (wish : Wish) (formats : List Format) where
  pub ranked_none : AreRanked wish formats 0 []
  ranked_none = record { ranks = λ k d l. absurd (omega arith); places = refl }

  range_more : (n : ℕ) → range_with_len 0 (n + 1) ≡ range_with_len 0 n ++ n ∷ []
  range_more n = sym (map-id (range_with_len 0 (n + 1))) ∙ (map-range_with_len_more (λ k. k) 0 n n (omega arith) ∙ ap (λ z. z ++ n ∷ []) (map-id (range_with_len 0 n)))

  pub ranked_pushed : (n : ℕ) (old new : List Ranked) (r : Ranked) (f : Format) → AreRanked wish formats n old → new ≡ old ++ r ∷ [] →
      r.place ≡ n → map plain_rank r.ranks.items ≡ ranks_of wish f → f ≡ get_or formats n f → AreRanked wish formats (n + 1) new
  ranked_pushed n old new r f a e p q i =
      let own : HasRanks wish formats r = λ g s. q ∙ ap (ranks_of wish) (i ∙ get_or_from_slice_get formats n g f (ap (slice_get formats) (sym p) ∙ s)) in
      record {
        ranks = rw e (All-append (HasRanks wish formats) old (r ∷ []) a.ranks (alone (HasRanks wish formats) r own));
        places = rw e (map-append place old (r ∷ []) ∙ (ap (λ z. z ++ r.place ∷ []) a.places ∙ (ap (λ z. range_with_len 0 n ++ z ∷ []) p ∙ sym (range_more n))));
      }

  module _ (cmp : Ranked → Ranked → Ordering) (new : List Ranked)
      (same : (r s : Ranked) → cmp r s ≡ ordering_then (slice_cmp rank.rank_cmp (map plain_rank r.ranks.items) (map plain_rank s.ranks.items)) (nat_cmp r.place s.place))
      (all : All (HasRanks wish formats) new) (apart : IsDistinct eqb (map place new)) (sorted : IsSorted cmp new) where
    other_place : (d : Ranked) (j : ℕ) → j + 1 < length new → (get_or new (j + 1) d).place ≢ (get_or new j d).place
    other_place d j l e =
        let m : j + 1 < length (map place new) = rw (length-map new place) l in
        let a = apart_from_distinct eqb (map place new) j (j + 1) 0 apart (omega arith) m in
        let x = get_or-map place new j d 0 (omega arith) in
        let y = get_or-map place new (j + 1) d 0 l in
        let b : eqb (get_or new j d).place (get_or new (j + 1) d).place ≡ false = ap (λ z. eqb z (get_or new (j + 1) d).place) (sym x) ∙ (ap (λ z. eqb (get_or (map place new) j 0) z) (sym y) ∙ a) in
        eqb-false _ _ b (sym e)

    better_next : (d : Ranked) (j : ℕ) → j + 1 < length new → (f g : Format) → slice_get formats (get_or new (j + 1) d).place ≡ Some f →
        slice_get formats (get_or new j d).place ≡ Some g → Better wish f (get_or new (j + 1) d).place g (get_or new j d).place
    better_next d j l f g a b =
        let r = get_or new (j + 1) d in
        let s = get_or new j d in
        let x = all (j + 1) d l f a in
        let y = all j d (omega arith) g b in
        let q : cmp r s ≡ ordering_then (compared wish f g) (nat_cmp r.place s.place) =
        same r s ∙ (λ i. ordering_then (slice_cmp rank.rank_cmp (x i) (y i)) (nat_cmp r.place s.place)) in
        strict (compared wish f g) r.place s.place (other_place d j l) (ap is_lt (sym q) ∙ sorted j d (omega arith) l)

    from_end : (d : Ranked) (k : ℕ) → k < length new → slice_index (map place (reverse new)) k ≡ (get_or new (length new - 1 - k) d).place
    from_end d k l =
        let m : k < length (reverse new) = rw (length-reverse new) l in
        get_or-map place (reverse new) k d 0 m ∙ ap place (get_or-reverse new k d l)

    -- read from the end, each is better than the next
    better_from_end : (d : Ranked) (k : ℕ) (f g : Format) → k + 1 < length new → slice_get formats (slice_index (map place (reverse new)) k) ≡ Some f →
        slice_get formats (slice_index (map place (reverse new)) (k + 1)) ≡ Some g →
        Better wish f (slice_index (map place (reverse new)) k) g (slice_index (map place (reverse new)) (k + 1))
    better_from_end d k f g l a b =
        let n = length new in
        let j = n - 1 - (k + 1) in
        let e : n - 1 - k ≡ j + 1 = omega arith in
        let x = from_end d k (omega arith) ∙ ap (λ z. (get_or new z d).place) e in
        let y = from_end d (k + 1) l in
        let w = better_next d j (omega arith) f g (ap (slice_get formats) (sym x) ∙ a) (ap (slice_get formats) (sym y) ∙ b) in
        rw x (rw y w)

eqb_flips : (x y : ℕ) → eqb x y ≡ eqb y x
eqb_flips x y = grind (arith, nat_tests)

any : (xs : List Ranked) → 0 < length xs → Ranked
any [] l = absurd (omega arith)
any (x ∷ xs) l = x

range_apart : (n : ℕ) → IsDistinct eqb (range_with_len 0 n)
range_apart n = IsDistinct-from_apart eqb (range_with_len 0 n) (λ i j d l m.
    let w : j < n = rw (length-range_with_len 0 n) at m in
    let a = get_or-range_with_len 0 n i d (omega arith) in
    let b = get_or-range_with_len 0 n j d w in
    ne_eqb _ _ (λ e. absurd (omega arith)))

same_ranks : {X Y : Type 0} (C : X → X → Ordering) (D : Y → Y → Ordering) (plain : X → Y) → ((x y : X) → C x y ≡ D (plain x) (plain y)) → (xs ys : List X) →
    slice_cmp C xs ys ≡ slice_cmp D (map plain xs) (map plain ys)
same_ranks C D plain e [] [] = refl
same_ranks C D plain e [] (y ∷ ys) = refl
same_ranks C D plain e (x ∷ xs) [] = refl
same_ranks C D plain e (x ∷ xs) (y ∷ ys) = λ i. ordering_then (e x y i) (same_ranks C D plain e xs ys i)

same_middle : (x y : Middle) → (middle_order.cmp-value).it x y ≡ rank.middle_cmp (plain_middle x) (plain_middle y)
same_middle (middle.Number a) (middle.Number b) = refl
same_middle (middle.Number a) (middle.Text t) = refl
same_middle (middle.Text s) (middle.Number b) = refl
same_middle (middle.Text s) (middle.Text t) = refl

same_rank : (x y : Rank) → (rank_order.cmp-value).it x y ≡ rank.rank_cmp (plain_rank x) (plain_rank y)
same_rank x y = ap (λ z. ordering_then (int_cmp x.group y.group) (ordering_then z (int_cmp x.last y.last))) (same_middle x.middle y.middle)

-- how the program orders formats with their ranks
abbrev pub ranked_order : Ranked → Ranked → Ordering
ranked_order r s = ordering_then (slice_cmp (rank_order.cmp-value).it r.ranks.items s.ranks.items) (nat_cmp r.place s.place)

-- the places of formats that were sorted, from the end on
pub best_first : (wish : Wish) (formats : List Format) (old new : List Ranked) (places : List ℕ) →
    AreRanked wish formats (length formats) old → IsPermutation old new → IsSorted ranked_order new → places ≡ map place (reverse new) → IsBestFirst wish formats places
best_first wish formats old new places ranked moved sorted e =
    let same = λ (r s : Ranked). ap (λ z. ordering_then z (nat_cmp r.place s.place)) (same_ranks (rank_order.cmp-value).it rank.rank_cmp plain_rank same_rank r.ranks.items s.ranks.items) in
    let all = All-permutation (HasRanks wish formats) old new moved ranked.ranks in
    let m = IsPermutation-map place old new moved in
    let p : IsPermutation (range_with_len 0 (length formats)) (map place new) = rw ranked.places at m in
    let apart = IsDistinct-IsPermutation eqb eqb_flips _ _ p (range_apart (length formats)) in
    let r = IsPermutation-map place new (reverse new) (IsPermutation-reverse new) in
    rw e record {
      each_once = IsPermutation-trans _ _ _ p r;
      better = λ k f g l a b.
          let l' : k + 1 < length new = rw (length-reverse new) at (rw (length-map (reverse new) place) at l) in
          better_from_end wish formats ranked_order new same all apart sorted (any new (omega arith)) k f g l' a b;
    }
