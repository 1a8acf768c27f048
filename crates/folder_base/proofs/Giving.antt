-- What each part is given of the unsettled name changes, in one pass over them.
use Rattle.std.proofs.Common.{◌≡◌, ◌⊎◌, ⊎_elim, ℕ, zero, suc, ◌<◌, Bool, true, false, not, ◌&&◌, ◌||◌, List, [], ◌∷◌, ◌++◌, map, length, length-append, get_or, refl, sym, ◌∙◌, ap, subst, arith, nat_eq}
use Rattle.std.specs.Prelude.{Some, None, Vec, All, slice_get, slice_set}
use Rattle.std.specs.declared.alloc.Global.{Global}
use Rattle.std.proofs.lemmas.Bool.Decides.{Decides-eqb}
use Rattle.std.proofs.lemmas.List.{append_assoc, map-append, length-map}
use Rattle.std.proofs.lemmas.Option.{slice_get-get_or, slice_get_within, get_or_from_slice_get}
use Rattle.folder_base.specs.Disk.{Name, Names, Disk}
use Rattle.folder_base.specs.Giving.{Gives, GivesEach, ArePartUndos}
use Rattle.folder_base.specs.Handing.{answers, AreOwnChanges, UndoesOwn}
use Rattle.folder_base.specs.Index.{FindsPart}
use Rattle.folder_base.specs.Listing.{listed, IsListed}
use Rattle.folder_base.specs.Merge.{Files}
use Rattle.folder_base.specs.Parts.{AreApart, touches}
use Rattle.folder_base.specs.Split.{AreSplit}
use Rattle.folder_base.specs.Undo.{ArePlain}
use Rattle.folder_base.specs.declared.change.Change.{Change}
use Rattle.folder_base.specs.declared.replay.Replay.{Replay}
use Rattle.folder_base.specs.declared.undo.Undo.{Undo}
use Rattle.folder_base.specs.declared.undo.Undo.TheVariants.{Listed}
use Rattle.folder_base.proofs.Handed.{EachStart, found_is, next_start, undoes_none, undoes_more, undoes_no_more}

-- the names that these changes touched
abbrev pub names_in : List Change → List Name
names_in changes = map (λ change. change.name) changes

-- a part that none of the earlier names is of
abbrev pub is_new : List Name → Name → (Name → Bool) → Bool
is_new earlier name mine = not (touches mine earlier) && mine name

pub touches_more : (mine : Name → Bool) (names : List Name) (name : Name) → touches mine (names ++ name ∷ []) ≡ (touches mine names || mine name)
touches_more mine [] name = by (mine name)
  where
    by : (b : Bool) → (b || false) ≡ b
    by true = refl
    by false = refl
touches_more mine (first ∷ names) name = by (mine first) (touches_more mine names name)
  where
    by : (b : Bool) → touches mine (names ++ name ∷ []) ≡ (touches mine names || mine name)
        → (b || touches mine (names ++ name ∷ [])) ≡ ((b || touches mine names) || mine name)
    by true e = refl
    by false e = e

gives_then : (mine : Name → Bool) (live : Names) (changes : List Change) (given more : Bool) (a b c : List Undo) → Gives mine live changes given a b
    → Gives mine live changes (not given && more) b c → Gives mine live changes (given || more) a c
gives_then mine live changes true more a b c first next = (first.0, first.1, next ∙ first.2)
gives_then mine live changes false true a b c first next = (next.0, next.1, next.2 ∙ ap (λ (l : List Undo). l ++ Listed next.0 ∷ []) first)
gives_then mine live changes false false a b c first next = next ∙ first

same_some : {A : Type 0} (a b : A) → Some a ≡ Some b → a ≡ b
same_some a b e = cc

set_here : {A : Type 0} (l : List A) (at : ℕ) (x before : A) → slice_get l at ≡ Some before → slice_get (slice_set l at x) at ≡ Some x
set_here [] at x before e = absurd (cc)
set_here (y ∷ l) zero x before e = refl
set_here (y ∷ l) (suc at) x before e = set_here l at x before e

set_there : {A : Type 0} (l : List A) (i j : ℕ) (x : A) → (i ≡ j → ⊥) → slice_get (slice_set l i x) j ≡ slice_get l j
set_there [] i j x differs = refl
set_there (y ∷ l) zero zero x differs = absurd (differs refl)
set_there (y ∷ l) zero (suc j) x differs = refl
set_there (y ∷ l) (suc i) zero x differs = refl
set_there (y ∷ l) (suc i) (suc j) x differs = set_there l i j x (λ e. differs (ap suc e))

set_long : {A : Type 0} (l : List A) (i : ℕ) (x : A) → length (slice_set l i x) ≡ length l
set_long [] i x = refl
set_long (y ∷ l) zero x = refl
set_long (y ∷ l) (suc i) x = ap suc (set_long l i x)

both_false : true ≡ false → ⊥
both_false e = absurd (cc)

nothing_new : (b : Bool) → (b && false) ≡ false
nothing_new true = refl
nothing_new false = refl

module _ (stems : List Name) (live : Names) (changes : List Change) where
  -- the first names give nothing
  pub given_first : (lists : List (Vec Undo Global)) → GivesEach stems live changes (λ mine. touches mine []) lists lists
  given_first lists = record {
    many = refl;
    each = λ at before after before_is after_is. ap (λ (own : Vec Undo Global). own.items) (same_some after before (sym after_is ∙ before_is));
  }

  -- a name more
  pub given_more : (front : List Name) (name : Name) (a b c : List (Vec Undo Global)) → GivesEach stems live changes (λ mine. touches mine front) a b
      → GivesEach stems live changes (is_new front name) b c → GivesEach stems live changes (λ mine. touches mine (front ++ name ∷ [])) a c
  given_more front name a b c first next = record {
    many = next.many ∙ first.many;
    each = λ at before after before_is after_is.
        let mine = answers stems (Some at) in
        let within : at < length c = slice_get_within c at after after_is in
        let between : Vec Undo Global = get_or b at after in
        let between_is : slice_get b at ≡ Some between = slice_get-get_or b at after (omega (arith, within, next.many)) in
        subst (λ (given : Bool). Gives mine live changes given before.items after.items) (sym (touches_more mine front name))
        (gives_then mine live changes (touches mine front) (mine name) before.items between.items after.items
        (first.each at before between before_is between_is) (next.each at between after between_is after_is));
  }

  module _ (apart : AreApart stems) (earlier : List Name) (name : Name) (old : List (Vec Undo Global)) where
    as_it_was : ((at : ℕ) → is_new earlier name (answers stems (Some at)) ≡ false) → GivesEach stems live changes (is_new earlier name) old old
    as_it_was none = record {
      many = refl;
      each = λ at before after before_is after_is.
          subst (λ (given : Bool). Gives (answers stems (Some at)) live changes given before.items after.items) (sym (none at))
          (ap (λ (own : Vec Undo Global). own.items) (same_some after before (sym after_is ∙ before_is)));
    }

    not_its : (at : ℕ) → answers stems (Some at) name ≡ false → is_new earlier name (answers stems (Some at)) ≡ false
    not_its at other = ap (λ (b : Bool). not (touches (answers stems (Some at)) earlier) && b) other ∙ nothing_new (not (touches (answers stems (Some at)) earlier))

    -- no part answers for the name
    pub given_none : FindsPart stems name None → GivesEach stems live changes (is_new earlier name) old old
    given_none found = as_it_was (λ at. not_its at (sym (found_is stems apart name None (Some at) found)))

    module _ (place : ℕ) (found : FindsPart stems name (Some place)) where
      its : (at : ℕ) → nat_eq place at ≡ answers stems (Some at) name
      its at = found_is stems apart name (Some place) (Some at) found

      -- the part was given its own before
      pub given_before : touches (answers stems (Some place)) earlier ≡ true → GivesEach stems live changes (is_new earlier name) old old
      given_before touch = as_it_was (λ at. by at (nat_eq place at) refl)
        where
          by : (at : ℕ) (b : Bool) → nat_eq place at ≡ b → is_new earlier name (answers stems (Some at)) ≡ false
          by at true e =
              let same : place ≡ at = (Decides-eqb place at).0 e in
              ap (λ (b : Bool). not b && answers stems (Some at) name) (ap (λ (n : ℕ). touches (answers stems (Some n)) earlier) (sym same) ∙ touch)
          by at false e = not_its at (sym (its at) ∙ e)

      -- it is given its own now
      pub given_now : touches (answers stems (Some place)) earlier ≡ false → (item pushed : Vec Undo Global) (told : Vec Change Global) → slice_get old place ≡ Some item
          → AreOwnChanges (answers stems (Some place)) live changes told.items → pushed.items ≡ item.items ++ Listed told ∷ []
          → GivesEach stems live changes (is_new earlier name) old (slice_set old place pushed)
      given_now none item pushed told item_is are pushed_is = record {
        many = set_long old place pushed;
        each = λ at before after before_is after_is. by at before after before_is after_is (nat_eq place at) refl;
      }
        where
          new_here : is_new earlier name (answers stems (Some place)) ≡ true
          new_here = ap (λ (b : Bool). not b && answers stems (Some place) name) none ∙ sym (its place) ∙ (Decides-eqb place place).1 refl

          here : (before after : Vec Undo Global) → slice_get old place ≡ Some before → slice_get (slice_set old place pushed) place ≡ Some after
              → Gives (answers stems (Some place)) live changes (is_new earlier name (answers stems (Some place))) before.items after.items
          here before after before_is after_is =
              let item_same : item ≡ before = same_some item before (sym item_is ∙ before_is) in
              let pushed_same : after ≡ pushed = same_some after pushed (sym after_is ∙ set_here old place pushed item item_is) in
              subst (λ (given : Bool). Gives (answers stems (Some place)) live changes given before.items after.items) (sym new_here)
              ((told, are, ap (λ (own : Vec Undo Global). own.items) pushed_same ∙ pushed_is ∙ ap (λ (own : Vec Undo Global). own.items ++ Listed told ∷ []) item_same))

          by : (at : ℕ) (before after : Vec Undo Global) → slice_get old at ≡ Some before → slice_get (slice_set old place pushed) at ≡ Some after
              → (b : Bool) → nat_eq place at ≡ b → Gives (answers stems (Some at)) live changes (is_new earlier name (answers stems (Some at))) before.items after.items
          by at before after before_is after_is true e =
              subst (λ (n : ℕ). slice_get old n ≡ Some before → slice_get (slice_set old place pushed) n ≡ Some after
              → Gives (answers stems (Some n)) live changes (is_new earlier name (answers stems (Some n))) before.items after.items)
              ((Decides-eqb place at).0 e) (here before after) before_is after_is
          by at before after before_is after_is false e =
              let differs : place ≡ at → ⊥ = λ same. both_false (sym ((Decides-eqb place at).1 same) ∙ e) in
              let kept : after ≡ before = same_some after before (sym after_is ∙ set_there old place at pushed differs ∙ before_is) in
              subst (λ (given : Bool). Gives (answers stems (Some at)) live changes given before.items after.items) (sym (not_its at (sym (its at) ∙ e)))
              (ap (λ (own : Vec Undo Global). own.items) kept)

module _ (stems : List Name) (live : Names) where
  pub parted_none : (lists : List (Vec Undo Global)) → length lists ≡ length stems → All (λ own. own.items ≡ []) lists → ArePartUndos stems live [] lists
  parted_none lists many none = record {
    many = many;
    each = λ at own is.
        let empty : own.items ≡ [] = ap (λ (l : Vec Undo Global). l.items) (sym (get_or_from_slice_get lists at own own is)) ∙ none at own (slice_get_within lists at own is) in
        subst (λ (l : List Undo). UndoesOwn (answers stems (Some at)) live [] l) (sym empty) (undoes_none (answers stems (Some at)) live);
  }

  -- a change more
  pub parted_more : (front : List (Vec Change Global)) (changes : Vec Change Global) (old new : List (Vec Undo Global)) → ArePartUndos stems live (listed front) old
      → GivesEach stems live changes.items (λ mine. touches mine (names_in changes.items)) old new → ArePartUndos stems live (listed (front ++ changes ∷ [])) new
  parted_more front changes old new parted gives = record {
    many = gives.many ∙ parted.many;
    each = λ at own is.
        let mine = answers stems (Some at) in
        let within : at < length new = slice_get_within new at own is in
        let before : Vec Undo Global = get_or old at own in
        let before_is : slice_get old at ≡ Some before = slice_get-get_or old at own (omega (arith, within, gives.many)) in
        by at before own (touches mine (names_in changes.items)) refl (parted.each at before before_is) (gives.each at before own before_is is);
  }
    where
      by : (at : ℕ) (before own : Vec Undo Global) (b : Bool) → touches (answers stems (Some at)) (names_in changes.items) ≡ b → UndoesOwn (answers stems (Some at)) live (listed front) before.items
          → Gives (answers stems (Some at)) live changes.items b before.items own.items → UndoesOwn (answers stems (Some at)) live (listed (front ++ changes ∷ [])) own.items
      by at before own true e undoes given =
          subst (λ (l : List Undo). UndoesOwn (answers stems (Some at)) live (listed (front ++ changes ∷ [])) l) (sym given.2)
          (undoes_more (answers stems (Some at)) live front before.items changes given.0 e given.1 undoes)
      by at before own false e undoes given =
          subst (λ (l : List Undo). UndoesOwn (answers stems (Some at)) live (listed (front ++ changes ∷ [])) l) (sym given)
          (undoes_no_more (answers stems (Some at)) live front before.items changes e undoes)

seam : {A : Type 0} (front : List A) (x : A) (back : List A) → slice_get (front ++ x ∷ back) (length front) ≡ Some x
seam [] x back = refl
seam (y ∷ front) x back = seam front x back

-- what a loop has still to pass, once it has passed one more
one_passed : {A B : Type 0} (f : A → B) (done : List A) (x : A) (left all : List B) → map f done ++ f x ∷ left ≡ all → map f (done ++ x ∷ []) ++ left ≡ all
one_passed f done x left all e = ap (λ l. l ++ left) (map-append f done (x ∷ [])) ∙ append_assoc (map f done) (f x ∷ []) left ∙ e

all_passed : {A B : Type 0} (f : A → B) (done : List A) (left all : List B) → map f done ++ left ≡ all → length left ≡ 0 → length done ≡ length all
all_passed f done left all e none = omega (arith, length-append (map f done) left, length-map done f, ap length e, none)

-- the files that a part is handed out with, and what undoes its changes
abbrev pub Portion : Type 0
Portion = Files × Vec Undo Global

-- The portions have the first of these files and of these lists, and this is left of both.
pub record AreFirst (portions : List Portion) (later : List Files) (rest : List (Vec Undo Global)) (split : List Files) (lists : List (Vec Undo Global)) : Type 0 where
  pub files : map (λ portion. portion.0) portions ++ later ≡ split
  pub undos : map (λ portion. portion.1) portions ++ rest ≡ lists

module _ (portions : List Portion) (split : List Files) (lists : List (Vec Undo Global)) where
  pub first_left : (portion : Portion) (left later : List Files) (others rest : List (Vec Undo Global)) → AreFirst portions left others split lists
      → left ≡ portion.0 ∷ later → others ≡ portion.1 ∷ rest → AreFirst portions (portion.0 ∷ later) (portion.1 ∷ rest) split lists
  first_left portion left later others rest first left_is others_is = record {
    files = ap (λ (l : List Files). map (λ p. p.0) portions ++ l) (sym left_is) ∙ first.files;
    undos = ap (λ (l : List (Vec Undo Global)). map (λ p. p.1) portions ++ l) (sym others_is) ∙ first.undos;
  }

  pub first_more : (portion : Portion) (later : List Files) (rest : List (Vec Undo Global)) → AreFirst portions (portion.0 ∷ later) (portion.1 ∷ rest) split lists
      → AreFirst (portions ++ portion ∷ []) later rest split lists
  first_more portion later rest first = record {
    files = one_passed (λ (p : Portion). p.0) portions portion later split first.files;
    undos = one_passed (λ (p : Portion). p.1) portions portion rest lists first.undos;
  }

  -- Nothing is left of one of the two, so each part has its portion.
  pub all_first : (count : ℕ) (later : List Files) (rest : List (Vec Undo Global)) → AreFirst portions later rest split lists → length split ≡ count → length lists ≡ count
      → (length later ≡ 0) ⊎ (length rest ≡ 0) → length portions ≡ count
  all_first count later rest first split_long lists_long ended = ⊎_elim
      (λ none. all_passed (λ (p : Portion). p.0) portions later split first.files none ∙ split_long)
      (λ none. all_passed (λ (p : Portion). p.1) portions rest lists first.undos none ∙ lists_long)
      ended

  -- the start of the part that has the next portion
  pub next_portion : (stems : List Name) (live : Names) (disk : Disk) (all : List (Vec Change Global)) (starts : List Replay) (start : Replay) (later : List Files) (rest : List (Vec Undo Global))
      → AreFirst portions (start.files ∷ later) (start.undos ∷ rest) split lists → length starts ≡ length portions → live ≡ disk.live → IsListed disk all → AreSplit stems disk.live split
      → ArePartUndos stems live (listed all) lists → (start.listed ≡ false → ArePlain start.undos.items) → EachStart stems disk starts → EachStart stems disk (starts ++ start ∷ [])
  next_portion stems live disk all starts start later rest first many same are split_is parted plain before =
      let front : List Files = map (λ p. p.0) portions in
      let given : List (Vec Undo Global) = map (λ p. p.1) portions in
      let place : length given ≡ length starts = length-map portions (λ p. p.1) ∙ sym many in
      next_start stems live disk all front later starts start (many ∙ sym (length-map portions (λ p. p.0))) same are
      (subst (λ (l : List Files). AreSplit stems disk.live l) (sym first.files) split_is)
      (subst (λ (n : ℕ). UndoesOwn (answers stems (Some n)) live (listed all) start.undos.items) place
      (parted.each (length given) start.undos (ap (λ (l : List (Vec Undo Global)). slice_get l (length given)) (sym first.undos) ∙ seam given start.undos rest)))
      plain before
