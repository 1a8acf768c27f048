-- What undoes name changes tells the names before them.
use Rattle.std.proofs.Common.{◌≡◌, ◌≤◌, arith, inl, inr, ℕ, suc, Bool, true, false, List, [], ◌∷◌, ◌++◌, map, length, refl, sym, ◌∙◌, ap, subst}
use Rattle.std.specs.Prelude.{Option, Some, None, option_map, option_and_then, bytes_eq, nat_lt, reverse, if◌then◌else◌, Vec}
use Rattle.std.specs.declared.alloc.Global.{Global}
use Rattle.std.proofs.lemmas.List.{reverse-append, length-reverse}
use Rattle.folder_base.specs.Disk.{Name, File, Names, Spot, still, lost, Spots, Older, Disk, as_now, spot_file, put, mark, freed_spot, freed, moved_spot, taken_over, named, changed, renamed_names}
use Rattle.folder_base.specs.Files.{names_of}
use Rattle.folder_base.specs.Stop.{first_kept, kept_names}
use Rattle.folder_base.specs.Stored.{file_of}
use Rattle.folder_base.specs.Retold.{retold, told_each, AreRetold}
use Rattle.folder_base.specs.Undo.{was_by, set_by, set_all_by, undone_by, lost_spot, still_spot, undone, undone_names, first_done, touched_by, Undoes, AreUndone, IsPlain, ArePlain, IsReplayed}
use Rattle.folder_base.specs.declared.change.Change.{Change}
use Rattle.folder_base.specs.declared.replay.Replay.{Replay}
use Rattle.folder_base.specs.declared.stored.Stored.{Stored}
use Rattle.folder_base.specs.declared.undo.Undo.{Undo}
use Rattle.folder_base.specs.declared.undo.Undo.TheVariants.{Freed, Moved, Listed}
use Rattle.folder_base.specs.declared.was.Was.{Was}
use Rattle.folder_base.specs.declared.was.Was.TheVariants.{Apart, Lost, Still}
use Rattle.folder_base.proofs.Images.{marked, same_or_not, same_name, put_here, put_there, put_elim, if_through, put_through}
use Rattle.folder_base.proofs.Retelling.{undos_more}

-- What is told anew name by name is undone in the same way.
module _ {V W : Type 0} (value : Option Stored → Option V) (value' : Option Stored → Option W) (there : Name → Option V) (there' : Name → Option W) (t : Option V → Option W)
    (keeps : (file : Option Stored) → t (value file) ≡ value' file) (keeps_there : (name : Name) → t (there name) ≡ there' name) where
  was_through : (was : Was) (now : Option V) → t (was_by value there was now) ≡ was_by value' there' was (t now)
  was_through Apart now = refl
  was_through (Lost file) now = keeps file
  was_through (Still name) now = keeps_there name

  set_through : (change : Change) (m : Name → Option V) → (λ n. t (set_by value there change m n)) ≡ set_by value' there' change (λ n. t (m n))
  set_through change m =
      put_through t m change.name (was_by value there change.was (m change.name)) ∙ ap (put (λ n. t (m n)) change.name) (was_through change.was (m change.name))

  set_all_through : (changes : List Change) (m : Name → Option V) → (λ n. t (set_all_by value there changes m n)) ≡ set_all_by value' there' changes (λ n. t (m n))
  set_all_through [] m = refl
  set_all_through (change ∷ changes) m = set_all_through changes (set_by value there change m) ∙ ap (set_all_by value' there' changes) (set_through change m)

  undone_through : (undo : Undo) (m : Name → Option V) → (λ n. t (undone_by value there undo m n)) ≡ undone_by value' there' undo (λ n. t (m n))
  undone_through (Freed name file) m = put_through t m name (value file) ∙ ap (put (λ n. t (m n)) name) (keeps file)
  undone_through (Moved from to file) m =
      put_through t (put m to (value file)) from (m to)
      ∙ ap (λ (k : Name → Option W). put k from (t (m to))) (put_through t m to (value file) ∙ ap (put (λ n. t (m n)) to) (keeps file))
  undone_through (Listed changes) m = set_all_through changes.items m

-- one name more
pub set_more : {V : Type 0} (value : Option Stored → Option V) (there : Name → Option V) (changes : List Change) (change : Change) (m : Name → Option V)
    → set_all_by value there (changes ++ change ∷ []) m ≡ set_by value there change (set_all_by value there changes m)
set_more value there [] change m = refl
set_more value there (first ∷ changes) change m = set_more value there changes change (set_by value there first m)

lost_now : (live : Names) (file : Option Stored) → option_and_then (spot_file live) (lost_spot file) ≡ option_map file_of file
lost_now live None = refl
lost_now live (Some stored) = refl

undone_now : (live : Names) (undo : Undo) (spots : Spots) → as_now live (undone undo spots) ≡ undone_names live undo (as_now live spots)
undone_now live = undone_through lost_spot (option_map file_of) still_spot live (option_and_then (spot_file live)) (lost_now live) (λ name. refl)

undoes_many : (undos : List Undo) (spots : Spots) (back : List Older) → Undoes undos spots back → length undos ≡ length back
undoes_many [] spots [] h = refl
undoes_many [] spots (older ∷ back) h = absurd h
undoes_many (undo ∷ undos) spots [] h = absurd h
undoes_many (undo ∷ undos) spots (older ∷ back) h = ap (λ (n : ℕ). suc n) (undoes_many undos older.names back h.1)

-- So the first changes alone hold, once the others are undone.
pub kept_done : (kept : ℕ) (live : Names) (undos : List Undo) (spots : Spots) (back : List Older) → Undoes undos spots back
    → as_now live (first_kept kept spots back) ≡ first_done live kept undos (as_now live spots)
kept_done kept live [] spots [] h = refl
kept_done kept live [] spots (older ∷ back) h = absurd h
kept_done kept live (undo ∷ undos) spots [] h = absurd h
kept_done kept live (undo ∷ undos) spots (older ∷ back) h =
    if_through (as_now live) (nat_lt (length back) kept) spots (first_kept kept older.names back)
    ∙ (λ i. if nat_lt (sym (undoes_many undos older.names back h.1) i) kept then as_now live spots else kept_done kept live undos older.names back h.1 i)
    ∙ ap (λ (names : Names). if nat_lt (length undos) kept then as_now live spots else first_done live kept undos names) (ap (as_now live) h.0 ∙ undone_now live undo spots)

abbrev pub told_older : (Option Spot → Option Spot) → Older → Older
told_older t older = record { touched = older.touched; names = told_each t older.names }

-- The names before earlier changes, told anew.
module _ (t : Option Spot → Option Spot) where
  undoes_told : (olds news : List Undo) (spots : Spots) (back : List Older) → AreRetold t olds news → Undoes olds spots back → Undoes news (told_each t spots) (map (told_older t) back)
  undoes_told [] [] spots [] r h = h
  undoes_told [] [] spots (older ∷ back) r h = absurd h
  undoes_told [] (new ∷ news) spots back r h = absurd r
  undoes_told (old ∷ olds) [] spots back r h = absurd r
  undoes_told (old ∷ olds) (new ∷ news) spots [] r h = absurd h
  undoes_told (old ∷ olds) (new ∷ news) spots (older ∷ back) r h =
      (ap (told_each t) h.0 ∙ r.0.undoes spots, undoes_told olds news older.names back r.1 h.1)

  touched_told : (olds news : List Undo) (back : List Older) → AreRetold t olds news → map touched_by olds ≡ map (λ older. older.touched) back
      → map touched_by news ≡ map (λ older. older.touched) (map (told_older t) back)
  touched_told olds news back r h = same olds news r ∙ h ∙ kept back
    where
      same : (olds news : List Undo) → AreRetold t olds news → map touched_by news ≡ map touched_by olds
      same [] [] r = refl
      same [] (new ∷ news) r = absurd r
      same (old ∷ olds) [] r = absurd r
      same (old ∷ olds) (new ∷ news) r = λ i. r.0.touched i ∷ same olds news r.1 i

      kept : (back : List Older) → map (λ older. older.touched) back ≡ map (λ older. older.touched) (map (told_older t) back)
      kept [] = refl
      kept (older ∷ back) = ap (λ (l : List (List Name)). older.touched ∷ l) (kept back)

  undone_told : (olds news : List Undo) (spots : Spots) (back : List Older) → AreRetold t olds news → AreUndone olds spots back → AreUndone news (told_each t spots) (map (told_older t) back)
  undone_told olds news spots back r h = record { names = undoes_told olds news spots back r h.names; touched = touched_told olds news back r h.touched }

  retold_reverse : (olds news : List Undo) → AreRetold t olds news → AreRetold t (reverse olds) (reverse news)
  retold_reverse [] [] r = tt
  retold_reverse [] (new ∷ news) r = absurd r
  retold_reverse (old ∷ olds) [] r = absurd r
  retold_reverse (old ∷ olds) (new ∷ news) r =
      subst (λ (l : List Undo). AreRetold t l (reverse (new ∷ news))) (sym (reverse-append (old ∷ []) olds))
      (subst (λ (l : List Undo). AreRetold t (reverse olds ++ old ∷ []) l) (sym (reverse-append (new ∷ []) news))
      (undos_more t (reverse olds) (reverse news) old new (retold_reverse olds news r.1) r.0))

  retold_plain : (olds news : List Undo) → AreRetold t olds news → ArePlain olds → ArePlain news
  retold_plain [] [] r h = tt
  retold_plain [] (new ∷ news) r h = absurd r
  retold_plain (old ∷ olds) [] r h = absurd r
  retold_plain (old ∷ olds) (new ∷ news) r h = (r.0.plain h.0, retold_plain olds news r.1 h.1)

pub lost_is : (file : Option Stored) → lost_spot file ≡ option_map lost (option_map file_of file)
lost_is None = refl
lost_is (Some stored) = refl

freed_here : (live : Names) (name : Name) (o : Option File) → live name ≡ o → option_and_then (freed_spot live name) (option_map (λ _. still name) o) ≡ option_map lost o
freed_here live name None is = refl
freed_here live name (Some file) is = ap (λ (b : Bool). if b then option_map lost (live name) else Some (still name)) (same_name name) ∙ ap (option_map lost) is

freed_there : (live : Names) (name n : Name) (o : Option File) → bytes_eq name n ≡ false → option_and_then (freed_spot live name) (option_map (λ _. still n) o) ≡ option_map (λ _. still n) o
freed_there live name n None differs = refl
freed_there live name n (Some file) differs = ap (λ (b : Bool). if b then option_map lost (live name) else Some (still n)) differs

-- Where another file, or none, was put under the name.
freed_mark_at : (live : Names) (name : Name) (v : Option File) (file : Option Stored) → option_map file_of file ≡ live name → (n : Name)
    → freed live name (mark live) n ≡ undone (Freed name file) (mark (put live name v)) n
freed_mark_at live name v file was n = elim (same_or_not name n) [
  | inl same ↦
      ap (freed live name (mark live)) (sym same.1) ∙ freed_here live name (live name) refl ∙ sym (lost_is file ∙ ap (option_map lost) was)
      ∙ sym (ap (λ (b : Bool). if b then lost_spot file else mark (put live name v) n) same.0)
  | inr differs ↦
      freed_there live name n (live n) differs ∙ sym (ap (option_map (λ _. still n)) (put_there live name n v differs))
      ∙ sym (put_there (mark (put live name v)) name n (lost_spot file) differs)
]

swap_apart : (a b : Name) → bytes_eq a b ≡ false → bytes_eq b a ≡ false
swap_apart a b e = elim (same_or_not b a) [
  | inl same ↦ let f : bytes_eq a b ≡ true = ap (λ (x : Name). bytes_eq x b) (sym same.1) ∙ same_name b in absurd (cc)
  | inr differs ↦ differs
]

moved_here : (from to : Name) (o : Option File) → option_map (moved_spot from to) (option_map (λ _. still from) o) ≡ option_map (λ _. still to) o
moved_here from to None = refl
moved_here from to (Some file) = ap (λ (b : Bool). Some (if b then still to else still from)) (same_name from)

moved_there : (from to n : Name) (o : Option File) → bytes_eq from n ≡ false → option_map (moved_spot from to) (option_map (λ _. still n) o) ≡ option_map (λ _. still n) o
moved_there from to n None differs = refl
moved_there from to n (Some file) differs = ap (λ (b : Bool). Some (if b then still to else still n)) differs

moved_gone : (from to : Name) (o : Option File) → option_map (moved_spot from to) (option_map lost o) ≡ option_map lost o
moved_gone from to None = refl
moved_gone from to (Some file) = refl

-- Where the file of one name was put under another.
moved_mark_at : (live : Names) (from to : Name) → bytes_eq from to ≡ false → (file : Option Stored) → option_map file_of file ≡ live to → (n : Name)
    → taken_over live from to (mark live) n ≡ undone (Moved from to file) (mark (renamed_names from to live)) n
moved_mark_at live from to apart file was n = elim (same_or_not from n) [
  | inl same ↦
      ap (taken_over live from to (mark live)) (sym same.1)
      ∙ ap (option_map (moved_spot from to)) (freed_there live to from (live from) (swap_apart from to apart)) ∙ moved_here from to (live from)
      ∙ sym (ap (option_map (λ _. still to)) (put_here (put live from None) to (live from)))
      ∙ sym (ap (λ (b : Bool). if b then mark (renamed_names from to live) to else put (mark (renamed_names from to live)) to (lost_spot file) n) same.0)
  | inr differs ↦ elim (same_or_not to n) [
    | inl same ↦
        ap (taken_over live from to (mark live)) (sym same.1)
        ∙ ap (option_map (moved_spot from to)) (freed_here live to (live to) refl) ∙ moved_gone from to (live to) ∙ sym (lost_is file ∙ ap (option_map lost) was)
        ∙ sym (put_there (put (mark (renamed_names from to live)) to (lost_spot file)) from n (mark (renamed_names from to live) to) differs
        ∙ ap (λ (b : Bool). if b then lost_spot file else mark (renamed_names from to live) n) same.0)
    | inr other ↦
        ap (option_map (moved_spot from to)) (freed_there live to n (live n) other) ∙ moved_there from to n (live n) differs
        ∙ sym (ap (option_map (λ _. still n)) (put_there (put live from None) to n (live from) other ∙ put_there live from n None differs))
        ∙ sym (put_there (put (mark (renamed_names from to live)) to (lost_spot file)) from n (mark (renamed_names from to live) to) differs
        ∙ put_there (mark (renamed_names from to live)) to n (lost_spot file) other)
  ]
]

plain_push : (undos : List Undo) (undo : Undo) → ArePlain undos → IsPlain undo → ArePlain (undos ++ undo ∷ [])
plain_push [] undo h last = (last, tt)
plain_push (first ∷ undos) undo h last = (h.0, plain_push undos undo h.1 last)

-- One more at the end is the first to be undone.
module _ (t : Option Spot → Option Spot) (disk : Disk) (old new : Replay) (told : List Undo) (undo : Undo) (retells : AreRetold t old.undos.items told) (pushed : new.undos.items ≡ told ++ undo ∷ [])
    (h : IsReplayed disk old) (live : Names) (touched : List Name) where
  more_undone : touched_by undo ≡ touched → told_each t (mark disk.live) ≡ undone undo (mark live)
      → AreUndone (reverse new.undos.items) (mark live) (record { touched = touched; names = told_each t (mark disk.live) } ∷ map (told_older t) disk.back)
  more_undone touches undoes =
      subst (λ (l : List Undo). AreUndone l (mark live) (record { touched = touched; names = told_each t (mark disk.live) } ∷ map (told_older t) disk.back))
      (sym (ap (λ (l : List Undo). reverse l) pushed ∙ reverse-append told (undo ∷ [])))
      (let earlier = undone_told t (reverse old.undos.items) (reverse told) (mark disk.live) disk.back (retold_reverse t old.undos.items told retells) h.back in
      record { names = (undoes, earlier.names); touched = λ i. touches i ∷ earlier.touched i })

  more_plain : IsPlain undo → new.listed ≡ old.listed → new.listed ≡ false → ArePlain new.undos.items
  more_plain plain same none =
      subst (λ (l : List Undo). ArePlain l) (sym pushed) (plain_push told undo (retold_plain t old.undos.items told retells (h.plain (sym same ∙ none))) plain)

pub put_replayed : (disk : Disk) (made : Spots → Spots) (old new : Replay) (name : Name) (v : Option File) (file : Option Stored) (told : List Undo)
    → names_of new.files ≡ put (names_of old.files) name v → option_map file_of file ≡ names_of old.files name
    → AreRetold (retold disk.live name None) old.undos.items told → new.undos.items ≡ told ++ Freed name file ∷ [] → new.listed ≡ old.listed
    → IsReplayed disk old → IsReplayed (named (name ∷ []) (put disk.live name v) (freed disk.live name) made disk) new
put_replayed disk made old new name v file told changes was retells pushed same h = record {
  live = changes ∙ ap (λ (m : Names). put m name v) h.live;
  back = more_undone (retold disk.live name None) disk old new told (Freed name file) retells pushed h (put disk.live name v) (name ∷ []) refl
      (λ i n. freed_mark_at disk.live name v file (was ∙ ap (λ (m : Names). m name) h.live) n i);
  plain = more_plain (retold disk.live name None) disk old new told (Freed name file) retells pushed h (put disk.live name v) (name ∷ []) tt same;
}

pub moved_replayed : (disk : Disk) (made : Spots → Spots) (old new : Replay) (from to : Name) → bytes_eq from to ≡ false → (file : Option Stored) (told : List Undo)
    → names_of new.files ≡ renamed_names from to (names_of old.files) → option_map file_of file ≡ names_of old.files to
    → AreRetold (retold disk.live to (Some from)) old.undos.items told → new.undos.items ≡ told ++ Moved from to file ∷ [] → new.listed ≡ old.listed
    → IsReplayed disk old → IsReplayed (named (to ∷ from ∷ []) (renamed_names from to disk.live) (taken_over disk.live from to) made disk) new
moved_replayed disk made old new from to apart file told changes was retells pushed same h = record {
  live = changes ∙ ap (renamed_names from to) h.live;
  back = more_undone (retold disk.live to (Some from)) disk old new told (Moved from to file) retells pushed h (renamed_names from to disk.live) (to ∷ from ∷ []) refl
      (λ i n. moved_mark_at disk.live from to apart file (was ∙ ap (λ (m : Names). m to) h.live) n i);
  plain = more_plain (retold disk.live to (Some from)) disk old new told (Moved from to file) retells pushed h (renamed_names from to disk.live) (to ∷ from ∷ []) tt same;
}

mark_changed_at : (live : Names) (name : Name) (change : File → File) (n : Name) → mark (put live name (option_map change (live name))) n ≡ mark live n
mark_changed_at live name change n = put_elim (λ o. option_map (λ _. still n) o ≡ mark live n) live name (option_map change (live name)) n
    (λ same. ap (λ (m : Name). option_map (λ _. still n) (option_map change (live m))) same ∙ by (live n)) (λ differs. refl)
  where
    by : (o : Option File) → option_map (λ (_ : File). still n) (option_map change o) ≡ option_map (λ _. still n) o
    by None = refl
    by (Some file) = refl

-- A change of one file leaves the names as they were.
pub changed_replayed : (disk : Disk) (old new : Replay) (name : Name) (change : File → File)
    → names_of new.files ≡ put (names_of old.files) name (option_map change (names_of old.files name)) → new.undos ≡ old.undos → new.listed ≡ old.listed
    → IsReplayed disk old → IsReplayed (changed name change disk) new
changed_replayed disk old new name change changes same listed h = record {
  live = changes ∙ ap (λ (m : Names). put m name (option_map change (m name))) h.live;
  back = subst (λ (spots : Spots). AreUndone (reverse new.undos.items) spots disk.back) (sym (λ i n. mark_changed_at disk.live name change n i))
      (subst (λ (undos : Vec Undo Global). AreUndone (reverse undos.items) (mark disk.live) disk.back) (sym same) h.back);
  plain = λ none. subst (λ (undos : Vec Undo Global). ArePlain undos.items) (sym same) (h.plain (sym listed ∙ none));
}

-- So what is left of the names is found.
pub kept_replayed : (kept : ℕ) (disk : Disk) (replay : Replay) (live : Names) → live ≡ names_of replay.files → IsReplayed disk replay
    → first_done live kept (reverse replay.undos.items) (names_of replay.files) ≡ kept_names kept disk
kept_replayed kept disk replay live is h =
    (λ i. first_done ((is ∙ h.live) i) kept (reverse replay.undos.items) ((h.live ∙ sym (λ i n. marked disk.live n i)) i))
    ∙ sym (kept_done kept disk.live (reverse replay.undos.items) (mark disk.live) disk.back h.back.names)

first_done_all : (live : Names) (kept : ℕ) (undos : List Undo) (names : Names) → length undos ≤ kept → first_done live kept undos names ≡ names
first_done_all live kept [] names few = refl
first_done_all live kept (undo ∷ undos) names few =
    ap (λ (b : Bool). if b then names else first_done live kept undos (undone_names live undo names)) (let f : nat_lt (length undos) kept ≡ true = grind arith in f)

-- Where there are no more than are kept, nothing is undone.
pub kept_all : (live : Names) (kept : ℕ) (undos : List Undo) (names : Names) → length undos ≤ kept → first_done live kept (reverse undos) names ≡ names
kept_all live kept undos names few = first_done_all live kept (reverse undos) names (subst (λ (n : ℕ). n ≤ kept) (sym (length-reverse undos)) few)

-- Else the last one is undone first.
pub undone_last : (live : Names) (kept : ℕ) (old new : List Undo) (undo : Undo) (names : Names) → old ≡ new ++ undo ∷ [] → kept ≤ length new
    → first_done live kept (reverse old) names ≡ first_done live kept (reverse new) (undone_names live undo names)
undone_last live kept old new undo names is many =
    ap (λ (l : List Undo). first_done live kept l names) (ap (λ (l : List Undo). reverse l) is ∙ reverse-append new (undo ∷ []))
    ∙ ap (λ (b : Bool). if b then names else first_done live kept (reverse new) (undone_names live undo names))
    (let n_is : length (reverse new) ≡ length new = length-reverse new in let f : nat_lt (length (reverse new)) kept ≡ false = grind (arith, n_is) in f)
