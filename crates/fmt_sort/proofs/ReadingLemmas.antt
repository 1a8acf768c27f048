-- Pieces are read from left to right, words too, and fields are put one after the other.
use Rattle.std.proofs.Common.{◌≡◌, ◌≤◌, ◌<◌, ◌+◌, ℕ, zero, suc, List, [], ◌∷◌, ◌++◌, Bool, true, false, ◌||◌, map, take, drop, length, get_or, eqb, Result, Ok, Err, refl, sym, ap, ◌∙◌, arith, add-one, append_assoc, length-drop, drop-cons, inl, inr}
use Rattle.std.specs.Prelude.{fold, reverse}
use Rattle.std.specs.List.{list_any}
use Rattle.std.proofs.lemmas.List.Sums.{fold-append}
use Rattle.std.proofs.lemmas.Bool.{cases_lt}
use Rattle.std.proofs.lemmas.List.{append-nil, reverse-append, reverse-reverse, drop-drop, map-append, take_all as take_whole}
use Rattle.fmt_sort.specs.Pieces.{is_comma, cut}
use Rattle.fmt_sort.specs.Read.{latest_first}
use Rattle.std.specs.Str.{bytes_eq}
use Rattle.fmt_sort.specs.Keys.{name_of}
use Rattle.fmt_sort.specs.Reading.{put, is_there, pieces_of, piece_given, pieces_given, words_given, before_others, behind_others, IsFaultOf}
use Rattle.fmt_sort.specs.Spec.{Given, given_of, Wanted, wanted_of, wanted_when}
use Rattle.fmt_sort.specs.declared.given.GivenField.{GivenField}
use Rattle.fmt_sort.specs.declared.sort_fault.SortFault.{SortFault}
use Rattle.fmt_sort.specs.declared.sort_field.SortField.{SortField}
use Rattle.fmt_sort.specs.declared.sort_fault.SortFault.TheVariants.{Field, Limit, OutOfMemory}

-- ---- folds over what is left of a list

module _ {E W B : Type 0} (f : B → W → B) (view : E → W) where
  pub fold_at : (xs : List E) (i : ℕ) (d : E) (b : B) → i < length xs → fold f b (drop i (map view xs)) ≡ fold f (f b (view (get_or xs i d))) (drop (suc i) (map view xs))
  fold_at [] i d b l = absurd (omega arith)
  fold_at (x ∷ xs) zero d b l = refl
  fold_at (x ∷ xs) (suc i) d b l = fold_at xs i d b (omega arith)

  -- one more element was folded in
  pub fold_on : (xs : List E) (i : ℕ) (d e : E) (all a b : B) → i < length xs → all ≡ fold f a (drop i (map view xs)) → e ≡ get_or xs i d → b ≡ f a (view e) → all ≡ fold f b (drop (i + 1) (map view xs))
  fold_on xs i d e all a b l w p q =
      w ∙ (fold_at xs i d a l ∙ (ap (λ z. fold f z (drop (suc i) (map view xs))) (ap (λ z. f a (view z)) (sym p) ∙ sym q) ∙ rw add-one refl))

  pub fold_done : (xs : List E) (n : ℕ) (b : B) → length xs ≤ n → fold f b (drop n (map view xs)) ≡ b
  fold_done [] zero b l = refl
  fold_done [] (suc n) b l = refl
  fold_done (x ∷ xs) zero b l = absurd (omega arith)
  fold_done (x ∷ xs) (suc n) b l = fold_done xs n b (omega arith)

pub any_mapped : {E W : Type 0} (p : W → Bool) (view : E → W) (xs : List E) → list_any (λ x. p (view x)) xs ≡ list_any p (map view xs)
any_mapped p view [] = refl
any_mapped p view (x ∷ xs) = ap (λ z. p (view x) || z) (any_mapped p view xs)

-- ---- fields, the last first

-- what was read last comes first
pub latest_more : (old new fs : List GivenField) → new ≡ old ++ reverse fs → latest_first new ≡ map given_of fs ++ latest_first old
latest_more old new fs e =
    ap latest_first e ∙ (ap (map given_of) (reverse-append old (reverse fs) ∙ ap (λ z. z ++ reverse old) (reverse-reverse fs))
    ∙ map-append given_of fs (reverse old))

-- ---- the pieces of a text

last_by : (b : ℕ) (bs : List ℕ) (c : Bool) → eqb b 44 ≡ c → cut is_comma (b ∷ bs) ≡ suc (length bs) → (cut is_comma bs ≡ length bs → pieces_of bs ≡ bs ∷ []) →
    pieces_of (b ∷ bs) ≡ (b ∷ bs) ∷ []
last_by b bs true q e more =
    let z : 0 ≡ suc (length bs) = rw q at e in
    absurd (omega arith)
last_by b bs false q e more =
    let z : 1 + cut is_comma bs ≡ suc (length bs) = rw q at e in
    rw q (rw (more (omega arith)) refl)

pub last_piece : (bs : List ℕ) → cut is_comma bs ≡ length bs → pieces_of bs ≡ bs ∷ []
last_piece [] e = refl
last_piece (b ∷ bs) e = last_by b bs (eqb b 44) refl e (last_piece bs)

next_by : (b : ℕ) (bs : List ℕ) (c : Bool) → eqb b 44 ≡ c → cut is_comma (b ∷ bs) < suc (length bs) →
    (cut is_comma bs < length bs → pieces_of bs ≡ take (cut is_comma bs) bs ∷ pieces_of (drop (cut is_comma bs + 1) bs)) →
    pieces_of (b ∷ bs) ≡ take (cut is_comma (b ∷ bs)) (b ∷ bs) ∷ pieces_of (drop (cut is_comma (b ∷ bs) + 1) (b ∷ bs))
next_by b bs true q l more = rw q refl
next_by b bs false q l more =
    let z : 1 + cut is_comma bs < suc (length bs) = rw q at l in
    let n : 1 + cut is_comma bs ≡ suc (cut is_comma bs) = omega arith in
    let m : suc (cut is_comma bs) + 1 ≡ suc (cut is_comma bs + 1) = omega arith in
    rw q (rw n (rw m (rw (more (omega arith)) refl)))

pub next_piece : (bs : List ℕ) → cut is_comma bs < length bs → pieces_of bs ≡ take (cut is_comma bs) bs ∷ pieces_of (drop (cut is_comma bs + 1) bs)
next_piece [] l = absurd (omega arith)
next_piece (b ∷ bs) l = next_by b bs (eqb b 44) refl l (next_piece bs)

pub start_within : (w rest : List ℕ) (s end : ℕ) → rest ≡ drop s w → s ≤ length w → end < length rest → s + (end + 1) ≤ length w
start_within w rest s end r b l = let n = ap length r ∙ length-drop s w in omega arith

-- ---- faults

pub fault_too : {A B : Type 0} (x : Result A SortFault) (y : Result B SortFault) (e : SortFault) → IsFaultOf x e → ((k : SortFault) → x ≡ Err k → y ≡ Err k) → IsFaultOf y e
fault_too x y (Field k) h f = f (Field k) h
fault_too x y (Limit k) h f = f (Limit k) h
fault_too x y OutOfMemory h f = tt

-- ---- outcomes

pub none_before : (x : Result (List Given) SortFault) → x ≡ before_others (Ok []) x
none_before (Ok fs) = refl
none_before (Err e) = refl

pub none_behind : (x : Result (List Given) SortFault) → x ≡ behind_others (Ok []) x
none_behind (Ok fs) = ap (λ z. Ok z) (sym (append-nil fs))
none_behind (Err e) = refl

pub before_both : (fs gs : List Given) (x : Result (List Given) SortFault) → before_others (Ok fs) (before_others (Ok gs) x) ≡ before_others (Ok (fs ++ gs)) x
before_both fs gs (Ok hs) = ap (λ z. Ok z) (sym (append_assoc fs gs hs))
before_both fs gs (Err e) = refl

pub behind_both : (fs gs : List Given) (x : Result (List Given) SortFault) → behind_others (Ok fs) (behind_others (Ok gs) x) ≡ behind_others (Ok (gs ++ fs)) x
behind_both fs gs (Ok hs) = ap (λ z. Ok z) (append_assoc hs gs fs)
behind_both fs gs (Err e) = refl

-- ---- a piece, and a word

module _ (k next s end : ℕ) (w rest piece : List ℕ) (fs : List Given) (r : rest ≡ drop s w) (p : piece ≡ take end rest) (e : end ≡ cut is_comma rest) where
  inner : end < length rest → pieces_of (drop s w) ≡ piece ∷ pieces_of (drop (s + (end + 1)) w)
  inner l =
      let t : drop (end + 1) rest ≡ drop (s + (end + 1)) w = ap (drop (end + 1)) r ∙ drop-drop (end + 1) s w in
      let n : pieces_of rest ≡ take end rest ∷ pieces_of (drop (end + 1) rest) = rw e (next_piece rest (rw e at l)) in
      ap pieces_of (sym r) ∙ (n ∙ (ap (λ z. z ∷ pieces_of (drop (end + 1) rest)) (sym p) ∙ ap (λ z. piece ∷ pieces_of z) t))

  last : end ≡ length rest → pieces_of (drop s w) ≡ piece ∷ []
  last l =
      let t : piece ≡ rest = p ∙ (ap (λ z. take z rest) l ∙ take_whole (length rest) rest (omega arith)) in
      ap pieces_of (sym r) ∙ (last_piece rest (sym e ∙ l) ∙ ap (λ z. z ∷ []) (sym t))

  some_behind : end ≤ length rest → (more : List (List ℕ)) × (pieces_of (drop s w) ≡ piece ∷ more)
  some_behind l = elim (cases_lt end (length rest)) [
    | inl h ↦ (pieces_of (drop (s + (end + 1)) w), inner h)
    | inr h ↦ ([], last (omega arith))
  ]

  module _ (so_far : pieces_given k (pieces_of w) ≡ before_others (Ok fs) (pieces_given next (pieces_of (drop s w)))) where
    pub piece_faulty : end ≤ length rest → (f : SortFault) → piece_given next piece ≡ Err f → pieces_given k (pieces_of w) ≡ Err f
    piece_faulty l f h =
        let (more, m) = some_behind l in
        so_far ∙ (ap (λ z. before_others (Ok fs) (pieces_given next z)) m ∙ ap (λ z. before_others (Ok fs) (before_others z (pieces_given (next + 1) more))) h)

    pub piece_read : end < length rest → (gs : List Given) → piece_given next piece ≡ Ok gs →
        pieces_given k (pieces_of w) ≡ before_others (Ok (fs ++ gs)) (pieces_given (next + 1) (pieces_of (drop (s + (end + 1)) w)))
    piece_read l gs h =
        so_far ∙ (ap (λ z. before_others (Ok fs) (pieces_given next z)) (inner l)
        ∙ (ap (λ z. before_others (Ok fs) (before_others z (pieces_given (next + 1) (pieces_of (drop (s + (end + 1)) w))))) h ∙ before_both fs gs _))

    pub pieces_read : end ≡ length rest → (gs : List Given) → piece_given next piece ≡ Ok gs → pieces_given k (pieces_of w) ≡ Ok (fs ++ gs)
    pieces_read l gs h =
        so_far ∙ (ap (λ z. before_others (Ok fs) (pieces_given next z)) (last l)
        ∙ (ap (λ z. before_others (Ok fs) (before_others z (Ok []))) h ∙ ap (λ z. Ok (fs ++ z)) (append-nil gs)))

  module _ (counted : k + length (pieces_of w) ≡ next + length (pieces_of (drop s w))) where
    pub piece_counted : end < length rest → k + length (pieces_of w) ≡ (next + 1) + length (pieces_of (drop (s + (end + 1)) w))
    piece_counted l = let n = ap length (inner l) in omega arith

    pub pieces_counted : end ≡ length rest → next + 1 ≡ k + length (pieces_of w)
    pieces_counted l = let n = ap length (last l) in omega arith

module _ (next i : ℕ) (ws : List (List ℕ)) (w : List ℕ) (fs : List Given) (l : i < length ws) (e : w ≡ get_or ws i w) (whole : Result (List Given) SortFault)
    (so_far : whole ≡ behind_others (Ok fs) (words_given next (drop i ws))) where
  this_word : drop i ws ≡ w ∷ drop (suc i) ws
  this_word = drop-cons ws i w l ∙ ap (λ z. z ∷ drop (suc i) ws) (sym e)

  pub word_faulty : (f : SortFault) → pieces_given next (pieces_of w) ≡ Err f → whole ≡ Err f
  word_faulty f h =
      so_far ∙ (ap (λ z. behind_others (Ok fs) (words_given next z)) this_word
      ∙ ap (λ z. behind_others (Ok fs) (behind_others z (words_given (next + length (pieces_of w)) (drop (suc i) ws)))) h)

  pub word_read : (gs : List Given) (behind : ℕ) → pieces_given next (pieces_of w) ≡ Ok gs → behind ≡ next + length (pieces_of w) →
      whole ≡ behind_others (Ok (gs ++ fs)) (words_given behind (drop (i + 1) ws))
  word_read gs behind h q =
      so_far ∙ (ap (λ z. behind_others (Ok fs) (words_given next z)) this_word
      ∙ (ap (λ z. behind_others (Ok fs) (behind_others z (words_given (next + length (pieces_of w)) (drop (suc i) ws)))) h
      ∙ (behind_both fs gs _ ∙ (ap (λ z. behind_others (Ok (gs ++ fs)) (words_given z (drop (suc i) ws))) (sym q) ∙ rw add-one refl))))

-- ---- fields put

-- the last given field is put
pub last_put : (free : Bool) (old new : List GivenField) (x : GivenField) (all a b : List Wanted) →
    all ≡ fold put a (map (wanted_when free) (latest_first old)) → old ≡ new ++ x ∷ [] → b ≡ put a (wanted_when free (given_of x)) →
    all ≡ fold put b (map (wanted_when free) (latest_first new))
last_put free old new x all a b w e q =
    w ∙ (ap (λ z. fold put a (map (wanted_when free) z)) (latest_more new old (x ∷ []) e) ∙ ap (λ z. fold put z (map (wanted_when free) (latest_first new))) (sym q))

module _ (fields : List SortField) (f : SortField) (there : Bool) (h : there ≡ list_any (λ g. bytes_eq (name_of g.key) (name_of f.key)) fields) where
  as_wanted : there ≡ is_there (wanted_of f) (map wanted_of fields)
  as_wanted = h ∙ any_mapped (λ g. bytes_eq (name_of g.key) (name_of f.key)) wanted_of fields

  pub put_new : (new : List SortField) → there ≡ false → new ≡ fields ++ f ∷ [] → map wanted_of new ≡ put (map wanted_of fields) (wanted_of f)
  put_new new n e = ap (map wanted_of) e ∙ (map-append wanted_of fields (f ∷ []) ∙ rw (sym as_wanted ∙ n) refl)

  pub put_again : there ≡ true → map wanted_of fields ≡ put (map wanted_of fields) (wanted_of f)
  put_again n = rw (sym as_wanted ∙ n) refl

-- three runs of fields put one after the other
pub put_three : (a b c x y z : List Wanted) → x ≡ fold put [] a → y ≡ fold put x b → z ≡ fold put y c → z ≡ fold put [] (a ++ (b ++ c))
put_three a b c x y z p q r =
    r ∙ (ap (λ v. fold put v c) q ∙ (ap (λ v. fold put (fold put v b) c) p
    ∙ sym (fold-append put [] a (b ++ c) ∙ fold-append put (fold put [] a) b c)))
