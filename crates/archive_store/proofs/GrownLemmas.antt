-- The pieces and lines of an archive's bytes with a line more.
use Rattle.std.proofs.Common.{◌≡◌, ◌⊎◌, inl, inr, ⊎_elim, ℕ, ◌+◌, ◌-◌, ◌<◌, ◌≤◌, Bool, true, false, List, [], ◌∷◌, ◌++◌, length, take, get_or, eqb, refl, sym, ◌∙◌, ap, arith, append_assoc}
use Rattle.std.specs.Prelude.{not, ◌&&◌, ◌||◌, map, filter, position, Option, Some, None, option_map, bytes_eq, if◌then◌else◌, cond}
use Rattle.std.specs.List.{onto_first, list_any, position_or_len}
use Rattle.std.specs.Option.{option_map_or}
use Rattle.std.specs.Str.{is_utf8}
use Rattle.std.proofs.lemmas.Bool.{eqb-true, ne_eqb, lt-ltb, le-ltb, cases_lt}
use Rattle.std.proofs.Common.{eq-eqb, ltb}
use Rattle.std.proofs.lemmas.List.{map-append, take_more, take_all, append-nil, length_push}
use Rattle.std.proofs.lemmas.List.Elements.{filter-append}
use Rattle.std.proofs.lemmas.List.Folds.{position_or_len_push}
use Rattle.std.proofs.lemmas.List.Sums.{prefix_len-le-length}
use Rattle.std.proofs.lemmas.Option.{slice_get-get_or}
use Rattle.std.proofs.lemmas.Str.{is_utf8-from_IsUtf8}
use Rattle.std.proofs.lemmas.Slice.Eq.{bytes_eq-Decides}
use Rattle.archive_store.specs.Lines.{is_feed, pieces_of, trimmed, has_bytes, lines_in, lines_of, bad_line, is_line, is_ended, grown}

-- There is a first piece.
record HasFirst (pieces : List (List ℕ)) : Type 0 where
  first : List ℕ
  rest : List (List ℕ)
  is : pieces ≡ first ∷ rest

has_first : (bytes : List ℕ) → HasFirst (pieces_of bytes)
has_first [] = record { first = []; rest = []; is = refl }
has_first (b ∷ bs) = by (has_first bs) (is_feed b)
  where
    by : HasFirst (pieces_of bs) → (t : Bool) → HasFirst (cond t ([] ∷ pieces_of bs) (onto_first b (pieces_of bs)))
    by more true = record { first = []; rest = pieces_of bs; is = refl }
    by more false = record { first = b ∷ more.first; rest = more.rest; is = ap (onto_first b) more.is }

onto_first_append : (b : ℕ) (pieces more : List (List ℕ)) → HasFirst pieces → onto_first b (pieces ++ more) ≡ onto_first b pieces ++ more
onto_first_append b pieces more has = ap (λ (p : List (List ℕ)). onto_first b (p ++ more)) has.is ∙ sym (ap (λ (p : List (List ℕ)). onto_first b p ++ more) has.is)

-- A line feed parts the pieces.
pub parted : (front back : List ℕ) → pieces_of (front ++ 10 ∷ back) ≡ pieces_of front ++ pieces_of back
parted [] back = refl
parted (b ∷ front) back = by (parted front back) (is_feed b)
  where
    by : pieces_of (front ++ 10 ∷ back) ≡ pieces_of front ++ pieces_of back → (t : Bool) → cond t ([] ∷ pieces_of (front ++ 10 ∷ back)) (onto_first b (pieces_of (front ++ 10 ∷ back))) ≡ cond t ([] ∷ pieces_of front) (onto_first b (pieces_of front)) ++ pieces_of back
    by more true = ap (λ (p : List (List ℕ)). [] ∷ p) more
    by more false = ap (onto_first b) more ∙ onto_first_append b (pieces_of front) (pieces_of back) (has_first front)

-- A text without line feeds is one piece.
pub one_piece : (line : List ℕ) → list_any is_feed line ≡ false → pieces_of line ≡ line ∷ []
one_piece [] none = refl
one_piece (b ∷ bs) none = by (one_piece bs) (is_feed b) none
  where
    by : (list_any is_feed bs ≡ false → pieces_of bs ≡ bs ∷ []) → (t : Bool) → (t || list_any is_feed bs) ≡ false → cond t ([] ∷ pieces_of bs) (onto_first b (pieces_of bs)) ≡ (b ∷ bs) ∷ []
    by more true e = absurd (let x : true ≡ false = e in cc)
    by more false e = ap (onto_first b) (more e)

-- An ended archive is empty, or ends with a line feed.
ended_by : (bytes : List ℕ) → is_ended bytes ≡ true → (bytes ≡ []) ⊎ ((front : List ℕ) × (bytes ≡ front ++ 10 ∷ []))
ended_by [] is = inl refl
ended_by (b ∷ bs) is = inr (
  take (length (b ∷ bs) - 1) (b ∷ bs),
  sym (take_all ((length (b ∷ bs) - 1) + 1) (b ∷ bs) (omega arith)) ∙ take_more (b ∷ bs) (length (b ∷ bs) - 1) 0 (omega arith) ∙ ap (λ (c : ℕ). take (length (b ∷ bs) - 1) (b ∷ bs) ++ c ∷ []) last,
)
  where
    tested : is_feed (get_or (b ∷ bs) (length (b ∷ bs) - 1) 0) ≡ true
    tested = sym (ap (λ (o : Option ℕ). option_map_or is_feed o true) (slice_get-get_or (b ∷ bs) (length (b ∷ bs) - 1) 0 (omega arith))) ∙ is

    last : get_or (b ∷ bs) (length (b ∷ bs) - 1) 0 ≡ 10
    last = eqb-true (get_or (b ∷ bs) (length (b ∷ bs) - 1) 0) 10 tested

-- The pieces with a line more: those of before, but for an empty one at their end, the line, and an empty piece.
record HasLineMore (before after : List (List ℕ)) (line : List ℕ) : Type 0 where
  front : List (List ℕ)
  was : (before ≡ front) ⊎ (before ≡ front ++ [] ∷ [])
  now : after ≡ front ++ line ∷ [] ∷ []

line_alone : (line : List ℕ) → list_any is_feed line ≡ false → pieces_of (line ++ 10 ∷ []) ≡ line ∷ [] ∷ []
line_alone line none = parted line [] ∙ ap (λ (p : List (List ℕ)). p ++ [] ∷ []) (one_piece line none)

more_pieces : (bytes line : List ℕ) → list_any is_feed line ≡ false → HasLineMore (pieces_of bytes) (pieces_of (grown bytes line)) line
more_pieces bytes line none = by (is_ended bytes) refl
  where
    by : (t : Bool) → is_ended bytes ≡ t → HasLineMore (pieces_of bytes) (pieces_of (bytes ++ ((if t then [] else 10 ∷ []) ++ (line ++ 10 ∷ [])))) line
    by false e = record {
      front = pieces_of bytes;
      was = inl refl;
      now = parted bytes (line ++ 10 ∷ []) ∙ ap (λ (p : List (List ℕ)). pieces_of bytes ++ p) (line_alone line none);
    }
    by true e = ⊎_elim
        (λ empty. record {
          front = [];
          was = inr (ap pieces_of empty);
          now = ap (λ (b : List ℕ). pieces_of (b ++ (line ++ 10 ∷ []))) empty ∙ line_alone line none;
        })
        (λ ended. record {
          front = pieces_of ended.0;
          was = inr (ap pieces_of ended.1 ∙ parted ended.0 []);
          now = ap (λ (b : List ℕ). pieces_of (b ++ (line ++ 10 ∷ []))) ended.1
              ∙ ap pieces_of (append_assoc ended.0 (10 ∷ []) (line ++ 10 ∷ []))
              ∙ parted ended.0 (line ++ 10 ∷ [])
              ∙ ap (λ (p : List (List ℕ)). pieces_of ended.0 ++ p) (line_alone line none);
        })
        (ended_by bytes e)

-- the lines in some pieces and others
pub lines_both : (pieces more : List (List ℕ)) → lines_in (pieces ++ more) ≡ lines_in pieces ++ lines_in more
lines_both pieces more = ap (filter has_bytes) (map-append trimmed pieces more) ∙ filter-append has_bytes (map trimmed pieces) (map trimmed more)

-- what makes a line
record IsOne (line : List ℕ) : Type 0 where
  some : has_bytes line ≡ true
  no_feed : list_any is_feed line ≡ false
  same : trimmed line ≡ line

is_one : (line : List ℕ) → is_line line ≡ true → IsOne line
is_one line is = by (has_bytes line) (list_any is_feed line) (bytes_eq (trimmed line) line) refl refl refl is
  where
    by : (a b c : Bool) → has_bytes line ≡ a → list_any is_feed line ≡ b → bytes_eq (trimmed line) line ≡ c → (a && (not b && c)) ≡ true → IsOne line
    by true false true e f g h = record { some = e; no_feed = f; same = (bytes_eq-Decides (trimmed line) line).0 g }
    by true false false e f g h = absurd (let x : false ≡ true = h in cc)
    by true true c e f g h = absurd (let x : false ≡ true = h in cc)
    by false b c e f g h = absurd (let x : false ≡ true = h in cc)

one_line : (line : List ℕ) → IsOne line → lines_in (line ∷ [] ∷ []) ≡ line ∷ []
one_line line one =
    ap (λ (t : List ℕ). filter has_bytes (t ∷ [] ∷ [])) one.same
    ∙ ap (λ (b : Bool). cond b (line ∷ []) []) one.some

-- Law: the lines of before, and the new one.
pub line_behind : (bytes line : List ℕ) → is_line line ≡ true → lines_of (grown bytes line) ≡ lines_of bytes ++ line ∷ []
line_behind bytes line is = ap lines_in more.now ∙ lines_both more.front (line ∷ [] ∷ []) ∙ ap (λ (l : List (List ℕ)). lines_in more.front ++ l) (one_line line one) ∙ ap (λ (l : List (List ℕ)). l ++ line ∷ []) (sym before)
  where
    one : IsOne line
    one = is_one line is

    more : HasLineMore (pieces_of bytes) (pieces_of (grown bytes line)) line
    more = more_pieces bytes line one.no_feed

    before : lines_of bytes ≡ lines_in more.front
    before = ⊎_elim (λ e. ap lines_in e) (λ e. ap lines_in e ∙ lines_both more.front ([] ∷ []) ∙ append-nil (lines_in more.front)) more.was

-- One more that does not pass changes no first place.
one_more : {X : Type 0} (p : X → Bool) (xs : List X) (y : X) → p y ≡ false → position p (xs ++ y ∷ []) ≡ position p xs
one_more {X} p xs y fails = ⊎_elim found missing (cases_lt (position_or_len p xs) (length xs))
  where
    long : length (xs ++ y ∷ []) ≡ length xs + 1
    long = length_push xs y

    place : position_or_len p (xs ++ y ∷ []) ≡ cond (eqb (position_or_len p xs) (length xs)) (length xs + 1) (position_or_len p xs)
    place = position_or_len_push p xs y ∙ ap (λ (b : Bool). cond (eqb (position_or_len p xs) (length xs)) (length xs + cond b 0 1) (position_or_len p xs)) fails

    found : position_or_len p xs < length xs → position p (xs ++ y ∷ []) ≡ position p xs
    found below =
        let same : position_or_len p (xs ++ y ∷ []) ≡ position_or_len p xs = place ∙ ap (λ (b : Bool). cond b (length xs + 1) (position_or_len p xs)) (ne_eqb (position_or_len p xs) (length xs) (λ e. omega (arith, e, below))) in
        ap (λ (n : ℕ). cond (ltb n (length (xs ++ y ∷ []))) (Some n) None) same
        ∙ ap (λ (b : Bool). cond b (Some (position_or_len p xs)) None) (lt-ltb (position_or_len p xs) (length (xs ++ y ∷ [])) (omega (arith, long, below)) ∙ sym (lt-ltb (position_or_len p xs) (length xs) below))

    missing : length xs ≤ position_or_len p xs → position p (xs ++ y ∷ []) ≡ position p xs
    missing past =
        let all : position_or_len p xs ≡ length xs = omega (arith, past, prefix_len-le-length (λ x. not (p x)) xs) in
        let next : position_or_len p (xs ++ y ∷ []) ≡ length xs + 1 = place ∙ ap (λ (b : Bool). cond b (length xs + 1) (position_or_len p xs)) (eq-eqb (position_or_len p xs) (length xs) all) in
        ap (λ (b : Bool). cond b (Some (position_or_len p (xs ++ y ∷ []))) None) (le-ltb (position_or_len p (xs ++ y ∷ [])) (length (xs ++ y ∷ [])) (omega (arith, long, next)))
        ∙ sym (ap (λ (b : Bool). cond b (Some (position_or_len p xs)) None) (le-ltb (position_or_len p xs) (length xs) past))

bad : List ℕ → Bool
bad piece = not (is_utf8 piece)

-- Law: what is at fault stays so.
pub same_fault : (bytes line : List ℕ) → is_utf8 line ≡ true → is_line line ≡ true → bad_line (grown bytes line) ≡ bad_line bytes
unfolding bad
same_fault bytes line utf8 is = ap (option_map (λ place. place + 1)) (ap (position bad) more.now ∙ ap (position bad) (sym (append_assoc more.front (line ∷ []) ([] ∷ []))) ∙ one_more bad (more.front ++ line ∷ []) [] (ap not empty) ∙ one_more bad more.front line (ap not utf8) ∙ sym before)
  where
    more : HasLineMore (pieces_of bytes) (pieces_of (grown bytes line)) line
    more = more_pieces bytes line (is_one line is).no_feed

    empty : is_utf8 [] ≡ true
    empty = is_utf8-from_IsUtf8 [] ([], (refl, refl))

    before : position bad (pieces_of bytes) ≡ position bad more.front
    before = ⊎_elim (λ e. ap (position bad) e) (λ e. ap (position bad) e ∙ one_more bad more.front [] (ap not empty)) more.was
