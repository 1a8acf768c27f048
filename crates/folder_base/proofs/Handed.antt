-- What a part, or the rest, has of the unsettled name changes as parts are handed out.
use Rattle.std.proofs.Common.{◌≡◌, ◌⊎◌, inl, inr, ⊎_elim, ℕ, zero, suc, Bool, true, false, not, ◌||◌, List, [], ◌∷◌, ◌++◌, map, length, refl, sym, ◌∙◌, ap, subst, arith, nat_eq}
use Rattle.std.specs.Prelude.{reverse, Option, Some, None, Vec, option_map, option_and_then, if◌then◌else◌, slice_get}
use Rattle.std.specs.Option.{option_map_or, option_eq}
use Rattle.std.specs.declared.alloc.Global.{Global}
use Rattle.std.proofs.lemmas.Bool.Decides.{Decides-eqb}
use Rattle.std.proofs.lemmas.List.{map-append, reverse-append}
use Rattle.folder_base.specs.Disk.{Name, File, Names, Spot, still, lost, Spots, Older, Disk, put, mark}
use Rattle.folder_base.specs.Files.{names_of}
use Rattle.folder_base.specs.Handing.{answers, TellsOwn, IsOwnChange, AreOwnChanges, UndoesOwn, AreStarts}
use Rattle.folder_base.specs.Index.{FindsPart}
use Rattle.folder_base.specs.Listing.{listed, IsListed}
use Rattle.folder_base.specs.Merge.{Files}
use Rattle.folder_base.specs.Parts.{is_part, is_in_some, AreApart, own_spot, own_spots, touches, own_back, within, inside, outside}
use Rattle.folder_base.specs.Split.{AreSplit, part_names, without_all}
use Rattle.folder_base.specs.Stored.{file_of}
use Rattle.folder_base.specs.Undo.{lost_spot, still_spot, was_spot, set_spot, set_spots, touched_by, AreUndone, ArePlain, IsReplayed, IsOwnWas, AreOwnWas}
use Rattle.folder_base.specs.declared.change.Change.{Change}
use Rattle.folder_base.specs.declared.replay.Replay.{Replay}
use Rattle.folder_base.specs.declared.stored.Stored.{Stored}
use Rattle.folder_base.specs.declared.undo.Undo.{Undo}
use Rattle.folder_base.specs.declared.undo.Undo.TheVariants.{Listed}
use Rattle.folder_base.specs.declared.was.Was.{Was}
use Rattle.folder_base.specs.declared.was.Was.TheVariants.{Apart, Lost, Still}
use Rattle.folder_base.proofs.Disjoint.{disjoint, neither_so}
use Rattle.folder_base.proofs.Images.{put_there, put_as_was, same_or_not}
use Rattle.folder_base.proofs.Merging.{in_some}
use Rattle.folder_base.proofs.Rejoining.{own_lost, own_still}
use Rattle.folder_base.proofs.Splitting.{two_parts, left_over, at_seam}
use Rattle.folder_base.proofs.Undoing.{lost_is, set_more}

both_ways : (a b : Bool) → (a ≡ true → b ≡ true) → (b ≡ true → a ≡ true) → a ≡ b
both_ways true b there back = sym (there refl)
both_ways false true there back = back refl
both_ways false false there back = refl

finds_answers : (stems : List Name) (name : Name) (found : Option ℕ) → FindsPart stems name found → answers stems found name ≡ true
finds_answers stems name None none = ap not none
finds_answers stems name (Some at) found = ap (λ (o : Option Name). option_map_or (λ stem. is_part stem name) o false) found.1 ∙ found.2

part_there : (stems : List Name) (at : ℕ) (name : Name) → answers stems (Some at) name ≡ true → FindsPart stems name (Some at)
part_there stems at name answer = by (slice_get stems at) refl answer
  where
    by : (o : Option Name) → slice_get stems at ≡ o → option_map_or (λ stem. is_part stem name) o false ≡ true → FindsPart stems name (Some at)
    by None is e = absurd (cc)
    by (Some stem) is e = (stem, is, e)

not_so : (b : Bool) → not b ≡ true → b ≡ false
not_so true e = absurd (cc)
not_so false e = refl

two_ways : (b : Bool) → b ≡ false → b ≡ true → ⊥
two_ways true e f = absurd (cc)
two_ways false e f = absurd (cc)

-- Where stems are apart, a name has one place.
one_place : (stems : List Name) → AreApart stems → (name : Name) (found place : Option ℕ) → FindsPart stems name found → answers stems place name ≡ true → found ≡ place
one_place stems apart name None None none answer = refl
one_place stems apart name None (Some to) none answer =
    let there = part_there stems to name answer in
    absurd (two_ways (is_in_some stems name) none (in_some stems to there.0 name there.1 there.2))
one_place stems apart name (Some at) None found answer =
    absurd (two_ways (is_in_some stems name) (not_so (is_in_some stems name) answer) (in_some stems at found.0 name found.1 found.2))
one_place stems apart name (Some at) (Some to) found answer =
    let there = part_there stems to name answer in
    ap (λ (n : ℕ). Some n) (two_parts stems (disjoint stems apart) at to found.0 there.0 name found.1 there.1 found.2 there.2)

same_place : (a b : Option ℕ) → option_eq nat_eq a b ≡ true → a ≡ b
same_place None None e = refl
same_place None (Some b) e = absurd (cc)
same_place (Some a) None e = absurd (cc)
same_place (Some a) (Some b) e = ap (λ (n : ℕ). Some n) ((Decides-eqb a b).0 e)

place_same : (a : Option ℕ) → option_eq nat_eq a a ≡ true
place_same None = refl
place_same (Some a) = (Decides-eqb a a).1 refl

-- So the place that is found is this one just where it answers for the name.
pub found_is : (stems : List Name) → AreApart stems → (name : Name) (found place : Option ℕ) → FindsPart stems name found → option_eq nat_eq found place ≡ answers stems place name
found_is stems apart name found place finds = both_ways (option_eq nat_eq found place) (answers stems place name)
    (λ e. ap (λ (p : Option ℕ). answers stems p name) (sym (same_place found place e)) ∙ finds_answers stems name found finds)
    (λ e. ap (option_eq nat_eq found) (sym (one_place stems apart name found place finds e)) ∙ place_same found)

module _ (mine : Name → Bool) where
  pub touches_at : (changes : List Change) (at : ℕ) (change : Change) → slice_get changes at ≡ Some change → mine change.name ≡ true → touches mine (map (λ change. change.name) changes) ≡ true
  touches_at [] at change is own = absurd (cc)
  touches_at (first ∷ changes) zero change is own =
      let same : first ≡ change = cc in
      ap (λ (b : Bool). b || touches mine (map (λ c. c.name) changes)) (ap (λ (c : Change). mine c.name) same ∙ own)
  touches_at (first ∷ changes) (suc at) change is own = by (mine first.name) (touches_at changes at change is own)
    where
      by : (b : Bool) → touches mine (map (λ (c : Change). c.name) changes) ≡ true → (b || touches mine (map (λ c. c.name) changes)) ≡ true
      by true e = refl
      by false e = e

module _ (mine : Name → Bool) (live : Names) where
  pub tells_lost : (file copy : Option Stored) → option_map file_of copy ≡ option_map file_of file → TellsOwn mine live (Lost file) (Lost copy)
  tells_lost file copy same = λ now. own_lost mine live file ∙ lost_is file ∙ ap (option_map lost) (sym same) ∙ sym (lost_is copy)

  pub tells_still : (name : Name) → mine name ≡ true → TellsOwn mine live (Still name) (Still name)
  tells_still name own = λ now. own_still mine live name own

  pub tells_gone : (name : Name) (file : Option Stored) → mine name ≡ false → option_map file_of file ≡ live name → TellsOwn mine live (Still name) (Lost file)
  tells_gone name file other is = λ now.
      ap (λ (b : Bool). if b then Some (still name) else option_map lost (live name)) other ∙ ap (option_map lost) (sym is) ∙ sym (lost_is file)

  own_at : (spots : Spots) (name : Name) → mine name ≡ true → own_spots mine live spots name ≡ option_and_then (own_spot mine live) (spots name)
  own_at spots name own = ap (λ (b : Bool). if b then option_and_then (own_spot mine live) (spots name) else None) own

  other_at : (spots : Spots) (name : Name) → mine name ≡ false → own_spots mine live spots name ≡ None
  other_at spots name other = ap (λ (b : Bool). if b then option_and_then (own_spot mine live) (spots name) else None) other

  own_put : (spots : Spots) (name : Name) (v : Option Spot) → mine name ≡ true → (n : Name)
      → own_spots mine live (put spots name v) n ≡ put (own_spots mine live spots) name (option_and_then (own_spot mine live) v) n
  own_put spots name v own n = elim (same_or_not name n) [
    | inl same ↦
        own_at (put spots name v) n (ap mine (sym same.1) ∙ own)
        ∙ ap (λ (b : Bool). option_and_then (own_spot mine live) (if b then v else spots n)) same.0
        ∙ sym (ap (λ (b : Bool). if b then option_and_then (own_spot mine live) v else own_spots mine live spots n) same.0)
    | inr differs ↦
        ap (λ (o : Option Spot). if mine n then option_and_then (own_spot mine live) o else None) (put_there spots name n v differs)
        ∙ sym (put_there (own_spots mine live spots) name n (option_and_then (own_spot mine live) v) differs)
  ]

  other_put : (spots : Spots) (name : Name) (v : Option Spot) → mine name ≡ false → (n : Name) → own_spots mine live (put spots name v) n ≡ own_spots mine live spots n
  other_put spots name v other n = elim (same_or_not name n) [
    | inl same ↦
        let not_own : mine n ≡ false = ap mine (sym same.1) ∙ other in
        other_at (put spots name v) n not_own ∙ sym (other_at spots n not_own)
    | inr differs ↦ ap (λ (o : Option Spot). if mine n then option_and_then (own_spot mine live) o else None) (put_there spots name n v differs)
  ]

  -- A change of a name of others is not told of.
  other_set : (change : Change) (spots : Spots) → mine change.name ≡ false → own_spots mine live (set_spot change spots) ≡ own_spots mine live spots
  other_set change spots other = λ i n. other_put spots change.name (was_spot change.was (spots change.name)) other n i

  pub own_change_is : (change own : Change) → own.name ≡ change.name → mine change.name ≡ true → TellsOwn mine live change.was own.was → IsOwnChange mine live change own
  own_change_is change own named mine_is tells = record {
    name = named;
    sets = λ spots.
        (λ i n. own_put spots change.name (was_spot change.was (spots change.name)) mine_is n i)
        ∙ ap (put (own_spots mine live spots) change.name) (tells (spots change.name) ∙ ap (was_spot own.was) (sym (own_at spots change.name mine_is)))
        ∙ ap (λ (name : Name). put (own_spots mine live spots) name (was_spot own.was (own_spots mine live spots name))) (sym named);
  }

  pub other_change_is : (change own : Change) → own.name ≡ change.name → mine change.name ≡ false → own.was ≡ Apart → IsOwnChange mine live change own
  other_change_is change own named other apart = record {
    name = named;
    sets = λ spots.
        other_set change spots other ∙ sym (λ i n. put_as_was (own_spots mine live spots) own.name n i)
        ∙ ap (λ (was : Was). put (own_spots mine live spots) own.name (was_spot was (own_spots mine live spots own.name))) (sym apart);
  }

  pub no_own_changes : AreOwnChanges mine live [] []
  no_own_changes = record { names = refl; sets = λ spots. refl }

  pub own_changes_more : (front told : List Change) (change own : Change) → AreOwnChanges mine live front told → IsOwnChange mine live change own → AreOwnChanges mine live (front ++ change ∷ []) (told ++ own ∷ [])
  own_changes_more front told change own are is = record {
    names = map-append (λ (c : Change). c.name) told (own ∷ []) ∙ (λ i. are.names i ++ is.name i ∷ []) ∙ sym (map-append (λ (c : Change). c.name) front (change ∷ []));
    sets = λ spots.
        ap (own_spots mine live) (set_more lost_spot still_spot front change spots) ∙ is.sets (set_spots front spots) ∙ ap (set_spot own) (are.sets spots) ∙ sym (set_more lost_spot still_spot told own (own_spots mine live spots));
  }

  -- Changes of others' names are not told of.
  others_set : (changes : List Change) (spots : Spots) → touches mine (map (λ change. change.name) changes) ≡ false → own_spots mine live (set_spots changes spots) ≡ own_spots mine live spots
  others_set [] spots none = refl
  others_set (change ∷ changes) spots none =
      let parts = neither_so (mine change.name) (touches mine (map (λ c. c.name) changes)) none in
      others_set changes (set_spot change spots) parts.1 ∙ other_set change spots parts.0

  pub undoes_none : UndoesOwn mine live [] []
  undoes_none spots [] are = record { names = tt; touched = refl }
  undoes_none spots (older ∷ back) are = absurd are.names

  last_first : (front : List (Vec Change Global)) (changes : Vec Change Global) → reverse (listed (front ++ changes ∷ [])) ≡ Listed changes ∷ reverse (listed front)
  last_first front changes = ap (λ (l : List Undo). reverse l) (map-append (λ (c : Vec Change Global). Listed c) front (changes ∷ [])) ∙ reverse-append (listed front) (Listed changes ∷ [])

  -- The change before is undone from these names on.
  undone_before : (undo : Undo) (undos : List Undo) (spots : Spots) (older : Older) (back : List Older) → AreUndone (undo ∷ undos) spots (older ∷ back) → AreUndone undos older.names back
  undone_before undo undos spots older back are = record { names = are.names.1; touched = let rest : map touched_by undos ≡ map (λ o. o.touched) back = cc are.touched in rest }

  -- a change that touched an own name
  pub undoes_more : (front : List (Vec Change Global)) (own : List Undo) (changes told : Vec Change Global) → touches mine (map (λ change. change.name) changes.items) ≡ true
      → AreOwnChanges mine live changes.items told.items → UndoesOwn mine live (listed front) own → UndoesOwn mine live (listed (front ++ changes ∷ [])) (own ++ Listed told ∷ [])
  undoes_more front own changes told touch are before spots back all = by back (subst (λ (l : List Undo). AreUndone l spots back) (last_first front changes) all)
    where
      by : (back : List Older) → AreUndone (Listed changes ∷ reverse (listed front)) spots back → AreUndone (reverse (own ++ Listed told ∷ [])) (own_spots mine live spots) (own_back mine live back)
      by [] is = absurd is.names
      by (older ∷ back) is =
          let now = before older.names back (undone_before (Listed changes) (reverse (listed front)) spots older back is) in
          let touched : touched_by (Listed changes) ≡ older.touched = cc is.touched in
          let head : Older = record { touched = older.touched; names = own_spots mine live older.names } in
          let all_is : own_back mine live (older ∷ back) ≡ head ∷ own_back mine live back =
          ap (λ (b : Bool). if b then head ∷ own_back mine live back else own_back mine live back) (ap (touches mine) (sym touched) ∙ touch) in
          subst (λ (l : List Undo). AreUndone l (own_spots mine live spots) (own_back mine live (older ∷ back))) (sym (reverse-append own (Listed told ∷ [])))
          (subst (λ (l : List Older). AreUndone (Listed told ∷ reverse own) (own_spots mine live spots) l) (sym all_is)
          (record {
            names = (ap (own_spots mine live) is.names.0 ∙ are.sets spots, now.names);
            touched = λ i. (are.names ∙ touched) i ∷ now.touched i;
          }))

  -- one that touched none
  pub undoes_no_more : (front : List (Vec Change Global)) (own : List Undo) (changes : Vec Change Global) → touches mine (map (λ change. change.name) changes.items) ≡ false
      → UndoesOwn mine live (listed front) own → UndoesOwn mine live (listed (front ++ changes ∷ [])) own
  undoes_no_more front own changes none before spots back all = by back (subst (λ (l : List Undo). AreUndone l spots back) (last_first front changes) all)
    where
      by : (back : List Older) → AreUndone (Listed changes ∷ reverse (listed front)) spots back → AreUndone (reverse own) (own_spots mine live spots) (own_back mine live back)
      by [] is = absurd is.names
      by (older ∷ back) is =
          let now = before older.names back (undone_before (Listed changes) (reverse (listed front)) spots older back is) in
          let touched : touched_by (Listed changes) ≡ older.touched = cc is.touched in
          let head : Older = record { touched = older.touched; names = own_spots mine live older.names } in
          let all_is : own_back mine live (older ∷ back) ≡ own_back mine live back =
          ap (λ (b : Bool). if b then head ∷ own_back mine live back else own_back mine live back) (ap (touches mine) (sym touched) ∙ none) in
          subst (λ (l : List Older). AreUndone (reverse own) (own_spots mine live spots) l) (sym all_is)
          (subst (λ (s : Spots). AreUndone (reverse own) s (own_back mine live back)) (ap (own_spots mine live) is.names.0 ∙ others_set changes.items spots none) now)

pub are_own_was_more : (P : Name → Type 0) (front : List Change) (change : Change) → AreOwnWas P front → IsOwnWas P change.name change.was → AreOwnWas P (front ++ change ∷ [])
are_own_was_more P [] change are is = (is, tt)
are_own_was_more P (first ∷ front) change are is = (are.0, are_own_was_more P front change are.1 is)

own_mark : (mine : Name → Bool) (live : Names) (n : Name) → own_spots mine live (mark live) n ≡ mark (λ name. if mine name then live name else None) n
own_mark mine live n = by (mine n) refl (live n)
  where
    by : (b : Bool) → mine n ≡ b → (o : Option File) → (if b then option_and_then (own_spot mine live) (option_map (λ _. still n) o) else None) ≡ option_map (λ _. still n) (if b then o else None)
    by true is None = refl
    by true is (Some file) = ap (λ (b : Bool). if b then Some (still n) else option_map lost (live n)) is
    by false is o = refl

-- The names of which something is undone are these alone.
within_undone : (mine : Name → Bool) (live : Names) (disk : Disk) (all : List (Vec Change Global)) (own : List Undo) → live ≡ disk.live → IsListed disk all → UndoesOwn mine live (listed all) own
    → AreUndone (reverse own) (mark (within mine disk).live) (within mine disk).back
within_undone mine live disk all own same are undoes =
    subst (λ (s : Spots). AreUndone (reverse own) s (own_back mine disk.live disk.back)) (λ i n. own_mark mine disk.live n i)
    (subst (λ (names : Names). UndoesOwn mine names (listed all) own) same undoes (mark disk.live) disk.back are)

part_start : (stems : List Name) (live : Names) (disk : Disk) (all : List (Vec Change Global)) (at : ℕ) (stem : Name) (start : Replay) → live ≡ disk.live → IsListed disk all
    → slice_get stems at ≡ Some stem → names_of start.files ≡ part_names stem disk.live → UndoesOwn (answers stems (Some at)) live (listed all) start.undos.items
    → (start.listed ≡ false → ArePlain start.undos.items) → IsReplayed (inside stem disk) start
part_start stems live disk all at stem start same are stands files undoes plain = record {
  live = files;
  back = within_undone (is_part stem) live disk all start.undos.items same are
      (subst (λ (mine : Name → Bool). UndoesOwn mine live (listed all) start.undos.items) (λ i name. option_map_or (λ s. is_part s name) (stands i) false) undoes);
  plain = plain;
}

was_so : (b : Bool) → not b ≡ false → b ≡ true
was_so true e = refl
was_so false e = absurd (cc)

pub none_plain : (undos : List Undo) → not (nat_eq (length undos) 0) ≡ false → ArePlain undos
none_plain [] none = tt
none_plain (undo ∷ undos) none =
    let empty : length (undo ∷ undos) ≡ 0 = (Decides-eqb (length (undo ∷ undos)) 0).0 (was_so (nat_eq (length (undo ∷ undos)) 0) none) in
    absurd (omega (arith, empty))

last_or : {A : Type 0} (l : List A) (x : A) (at : ℕ) (f : A) → slice_get (l ++ x ∷ []) at ≡ Some f → (slice_get l at ≡ Some f) ⊎ ((at ≡ length l) × (x ≡ f))
last_or [] x zero f e = inr (refl, let h : x ≡ f = cc in h)
last_or [] x (suc at) f e = absurd (cc)
last_or (y ∷ l) x zero f e = inl e
last_or (y ∷ l) x (suc at) f e = ⊎_elim (λ before. inl before) (λ last. inr (ap suc last.0, last.1)) (last_or l x at f e)

-- Each start is that of its part.
abbrev pub EachStart : List Name → Disk → List Replay → Type 0
EachStart stems disk starts = (at : ℕ) (stem : Name) (start : Replay) → slice_get stems at ≡ Some stem → slice_get starts at ≡ Some start → IsReplayed (inside stem disk) start

start_more : (stems : List Name) (disk : Disk) (starts : List Replay) (start : Replay) → EachStart stems disk starts
    → ((stem : Name) → slice_get stems (length starts) ≡ Some stem → IsReplayed (inside stem disk) start) → EachStart stems disk (starts ++ start ∷ [])
start_more stems disk starts start before here at stem s stands is = ⊎_elim
    (λ earlier. before at stem s stands earlier)
    (λ last. subst (λ (r : Replay). IsReplayed (inside stem disk) r) last.1 (here stem (ap (slice_get stems) (sym last.0) ∙ stands)))
    (last_or starts start at s is)

-- the start of the part that has the next files
pub next_start : (stems : List Name) (live : Names) (disk : Disk) (all : List (Vec Change Global)) (front later : List Files) (starts : List Replay) (start : Replay) → length starts ≡ length front
    → live ≡ disk.live → IsListed disk all → AreSplit stems disk.live (front ++ start.files ∷ later) → UndoesOwn (answers stems (Some (length starts))) live (listed all) start.undos.items
    → (start.listed ≡ false → ArePlain start.undos.items) → EachStart stems disk starts → EachStart stems disk (starts ++ start ∷ [])
next_start stems live disk all front later starts start many same are split undoes plain before = start_more stems disk starts start before
    (λ stem stands. part_start stems live disk all (length starts) stem start same are stands
    (split.each (length starts) stem start.files stands (ap (slice_get (front ++ start.files ∷ later)) many ∙ at_seam front start.files later)) undoes plain)

start_names : (stems : List Name) (disk : Disk) (starts : List Replay) → length starts ≡ length stems → EachStart stems disk starts
    → map (λ start. names_of start.files) starts ≡ map (λ stem. part_names stem disk.live) stems
start_names [] disk [] many each = refl
start_names [] disk (start ∷ starts) many each = absurd (omega (arith, many))
start_names (stem ∷ stems) disk [] many each = absurd (omega (arith, many))
start_names (stem ∷ stems) disk (start ∷ starts) many each = λ i.
    (each 0 stem start refl refl).live i ∷ start_names stems disk starts (omega (arith, many)) (λ at s r a b. each (suc at) s r a b) i

-- What the starts leave of the files, and of the changes what touches no part's names.
pub rest_left : (stems : List Name) (live : Names) (disk : Disk) (all : List (Vec Change Global)) (starts : List Replay) (rest : Replay) → live ≡ disk.live → IsListed disk all → AreStarts stems disk starts
    → names_of rest.files ≡ without_all (map (λ start. names_of start.files) starts) live → UndoesOwn (answers stems None) live (listed all) rest.undos.items
    → (rest.listed ≡ false → ArePlain rest.undos.items) → IsReplayed (outside stems disk) rest
rest_left stems live disk all starts rest same are begun files undoes plain = record {
  live = files ∙ (λ i. without_all (start_names stems disk starts begun.many begun.each i) (same i))
      ∙ left_over stems disk.live disk.live (λ n. inl refl) ∙ (λ i n. turn (is_in_some stems n) (disk.live n) i);
  back = within_undone (λ name. not (is_in_some stems name)) live disk all rest.undos.items same are undoes;
  plain = plain;
}
  where
    turn : (b : Bool) (o : Option File) → (if b then None else o) ≡ (if not b then o else None)
    turn true o = refl
    turn false o = refl
