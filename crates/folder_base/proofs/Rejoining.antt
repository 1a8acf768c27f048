-- What undoes the changes of a folder and of a part, once the part is back.
use Rattle.std.proofs.Common.{◌≡◌, ◌⊎◌, ⊎_elim, inl, inr, Bool, true, false, not, ◌||◌, List, [], ◌∷◌, ◌++◌, map, refl, sym, ◌∙◌, ap, subst}
use Rattle.std.specs.Prelude.{is_some, reverse, Option, Some, None, option_map, option_and_then, if◌then◌else◌}
use Rattle.std.proofs.lemmas.List.{reverse-append, map-append}
use Rattle.folder_base.specs.Disk.{Name, File, Names, Spot, still, lost, Spots, Older, Disk, put, mark}
use Rattle.folder_base.specs.Parts.{own_spot, own_spots, join, oldest, joined}
use Rattle.folder_base.specs.Undo.{lost_spot, still_spot, was_spot, set_spot, set_spots, undone, touched_by, Undoes, AreUndone, ArePlain, IsOwnWas, AreOwnWas, IsOwn, AreOwn, HoldsOnly, IsReplayed}
use Rattle.folder_base.specs.declared.change.Change.{Change}
use Rattle.folder_base.specs.Files.{names_of, or_else, over}
use Rattle.folder_base.specs.declared.replay.Replay.{Replay}
use Rattle.folder_base.specs.declared.stored.Stored.{Stored}
use Rattle.folder_base.specs.declared.undo.Undo.{Undo}
use Rattle.folder_base.specs.declared.undo.Undo.TheVariants.{Freed, Moved, Listed}
use Rattle.folder_base.specs.declared.was.Was.{Was}
use Rattle.folder_base.specs.declared.was.Was.TheVariants.{Apart, Lost, Still}
use Rattle.folder_base.proofs.Disjoint.{neither_so}
use Rattle.folder_base.proofs.Images.{same_or_not, put_as_was}

-- Own names are told by `t`, and the others are as in `c`.
module _ (mine : Name → Bool) (t : Option Spot → Option Spot) (keeps : (file : Option Stored) → t (lost_spot file) ≡ lost_spot file)
    (keeps_still : (name : Name) → mine name ≡ true → t (still_spot name) ≡ still_spot name) (c : Spots) where
  abbrev told_own : Spots → Spots
  told_own spots = λ n. if mine n then t (spots n) else c n

  put_own : (spots : Spots) (name : Name) (v w : Option Spot) → t v ≡ w → mine name ≡ true → (n : Name) → told_own (put spots name v) n ≡ put (told_own spots) name w n
  put_own spots name v w e own n = elim (same_or_not name n) [
    | inl same ↦
        ap (λ (b : Bool). if b then t (put spots name v n) else c n) (ap mine (sym same.1) ∙ own) ∙ ap (λ (b : Bool). t (if b then v else spots n)) same.0 ∙ e
        ∙ sym (ap (λ (b : Bool). if b then w else told_own spots n) same.0)
    | inr differs ↦
        ap (λ (b : Bool). if mine n then t (if b then v else spots n) else c n) differs ∙ sym (ap (λ (b : Bool). if b then w else told_own spots n) differs)
  ]

  set_own : (name : Name) (was : Was) (spots : Spots) → IsOwnWas (λ n. mine n ≡ true) name was → (n : Name)
      → told_own (put spots name (was_spot was (spots name))) n ≡ put (told_own spots) name (was_spot was (told_own spots name)) n
  set_own name Apart spots own n = ap (λ (o : Option Spot). if mine n then t o else c n) (put_as_was spots name n) ∙ sym (put_as_was (told_own spots) name n)
  set_own name (Lost file) spots own n = put_own spots name (lost_spot file) (lost_spot file) (keeps file) own n
  set_own name (Still now) spots own n = put_own spots name (still_spot now) (still_spot now) (keeps_still now own.1) own.0 n

  set_all_own : (changes : List Change) (spots : Spots) → AreOwnWas (λ n. mine n ≡ true) changes → told_own (set_spots changes spots) ≡ set_spots changes (told_own spots)
  set_all_own [] spots own = refl
  set_all_own (change ∷ changes) spots own =
      set_all_own changes (set_spot change spots) own.1 ∙ ap (set_spots changes) (λ i n. set_own change.name change.was spots own.0 n i)

  undone_own : (undo : Undo) (spots : Spots) → IsOwn (λ n. mine n ≡ true) undo → told_own (undone undo spots) ≡ undone undo (told_own spots)
  undone_own (Freed name file) spots own = λ i n. put_own spots name (lost_spot file) (lost_spot file) (keeps file) own n i
  undone_own (Moved from to file) spots own =
      (λ i n. put_own (put spots to (lost_spot file)) from (spots to) (told_own spots to) (sym (ap (λ (b : Bool). if b then t (spots to) else c to) own.1)) own.0 n i)
      ∙ ap (λ (m : Spots). put m from (told_own spots to)) (λ i n. put_own spots to (lost_spot file) (lost_spot file) (keeps file) own.1 n i)
  undone_own (Listed changes) spots own = set_all_own changes.items spots own

-- Earlier names told anew, where that and undoing commute.
module _ (mine : Name → Bool) (anew : Spots → Spots) (commutes : (undo : Undo) (spots : Spots) → IsOwn (λ n. mine n ≡ true) undo → anew (undone undo spots) ≡ undone undo (anew spots)) where
  undoes_anew : (undos : List Undo) (spots : Spots) (back : List Older) → AreOwn (λ n. mine n ≡ true) undos → Undoes undos spots back
      → Undoes undos (anew spots) (map (λ older. record { touched = older.touched; names = anew older.names }) back)
  undoes_anew [] spots [] own h = h
  undoes_anew [] spots (older ∷ back) own h = absurd h
  undoes_anew (undo ∷ undos) spots [] own h = absurd h
  undoes_anew (undo ∷ undos) spots (older ∷ back) own h = (ap anew h.0 ∙ commutes undo spots own.0, undoes_anew undos older.names back own.1 h.1)

  touched_anew : (back : List Older) → map (λ (older : Older). older.touched) (map (λ (older : Older). record { touched = older.touched; names = anew older.names }) back) ≡ map (λ (older : Older). older.touched) back
  touched_anew [] = refl
  touched_anew (older ∷ back) = ap (λ (l : List (List Name)). older.touched ∷ l) (touched_anew back)

  oldest_anew : (spots : Spots) (back : List Older) → oldest (anew spots) (map (λ older. record { touched = older.touched; names = anew older.names }) back) ≡ anew (oldest spots back)
  oldest_anew spots [] = refl
  oldest_anew spots (older ∷ back) = oldest_anew older.names back

undoes_both : (undos others : List Undo) (spots : Spots) (back older : List Older) → Undoes undos spots back → Undoes others (oldest spots back) older → Undoes (undos ++ others) spots (back ++ older)
undoes_both [] others spots [] older h k = k
undoes_both [] others spots (o ∷ back) older h k = absurd h
undoes_both (undo ∷ undos) others spots [] older h k = absurd h
undoes_both (undo ∷ undos) others spots (o ∷ back) older h k = (h.0, undoes_both undos others o.names back older h.1 k)

pub own_lost : (mine : Name → Bool) (live : Names) (file : Option Stored) → option_and_then (own_spot mine live) (lost_spot file) ≡ lost_spot file
own_lost mine live None = refl
own_lost mine live (Some stored) = refl

pub own_still : (mine : Name → Bool) (live : Names) (name : Name) → mine name ≡ true → option_and_then (own_spot mine live) (still_spot name) ≡ still_spot name
own_still mine live name own = ap (λ (b : Bool). if b then Some (still name) else option_map lost (live name)) own

twice : {V : Type 0} (b : Bool) (v w : V) (other : V) → (if b then (if b then v else other) else w) ≡ (if b then v else w)
twice true v w other = refl
twice false v w other = refl

else_not : {V : Type 0} (b : Bool) (v w : V) (other : V) → (if b then v else (if not b then w else other)) ≡ (if not b then w else v)
else_not true v w other = refl
else_not false v w other = refl

own_mark : (mine : Name → Bool) (live : Names) (n : Name) (b : Bool) → mine n ≡ b → (o : Option File) → (if b then option_and_then (own_spot mine live) (option_map (λ _. still n) o) else None) ≡ (if b then option_map (λ _. still n) o else None)
own_mark mine live n true is None = refl
own_mark mine live n true is (Some file) = ap (λ (b : Bool). if b then Some (still n) else option_map lost (live n)) is
own_mark mine live n false is o = refl

module _ (mine : Name → Bool) (part rest : Disk) where
  abbrev others : Name → Bool
  others = λ n. not (mine n)

  abbrev of_part : Spots → Spots
  of_part = own_spots mine part.live

  abbrev of_rest : Spots → Spots
  of_rest = own_spots others rest.live

  -- the part's names as they were, or the rest's
  abbrev behind : Spots → Spots
  behind spots = join mine (of_part spots) (of_rest (mark rest.live))

  abbrev before : Spots → Spots
  before spots = join mine (of_part (oldest (mark part.live) part.back)) (of_rest spots)

  behind_undone : (undo : Undo) (spots : Spots) → IsOwn (λ n. mine n ≡ true) undo → behind (undone undo spots) ≡ undone undo (behind spots)
  behind_undone undo spots own =
      let is : (s : Spots) → behind s ≡ told_own mine (option_and_then (own_spot mine part.live)) (own_lost mine part.live) (own_still mine part.live) (of_rest (mark rest.live)) s =
      λ s i n. twice (mine n) (option_and_then (own_spot mine part.live) (s n)) (of_rest (mark rest.live) n) None i in
      is (undone undo spots) ∙ undone_own mine (option_and_then (own_spot mine part.live)) (own_lost mine part.live) (own_still mine part.live) (of_rest (mark rest.live)) undo spots own ∙ ap (undone undo) (sym (is spots))

  before_undone : (undo : Undo) (spots : Spots) → IsOwn (λ n. others n ≡ true) undo → before (undone undo spots) ≡ undone undo (before spots)
  before_undone undo spots own =
      let old = of_part (oldest (mark part.live) part.back) in
      let is : (s : Spots) → before s ≡ told_own others (option_and_then (own_spot others rest.live)) (own_lost others rest.live) (own_still others rest.live) old s =
      λ s i n. else_not (mine n) (old n) (option_and_then (own_spot others rest.live) (s n)) None i in
      is (undone undo spots) ∙ undone_own others (option_and_then (own_spot others rest.live)) (own_lost others rest.live) (own_still others rest.live) old undo spots own ∙ ap (undone undo) (sym (is spots))

  joined_mark_at : (n : Name) → behind (mark part.live) n ≡ mark (joined mine part rest).live n
  joined_mark_at n = by (mine n) refl
    where
      by : (b : Bool) → mine n ≡ b
          → (if b then (if b then option_and_then (own_spot mine part.live) (mark part.live n) else None) else (if not b then option_and_then (own_spot others rest.live) (mark rest.live n) else None))
          ≡ option_map (λ _. still n) (if b then part.live n else rest.live n)
      by true is = own_mark mine part.live n true is (part.live n)
      by false is = own_mark others rest.live n true (ap not is) (rest.live n)

  joined_names : (undos olds : List Undo) → AreOwn (λ n. mine n ≡ true) undos → AreOwn (λ n. others n ≡ true) olds → Undoes undos (mark part.live) part.back → Undoes olds (mark rest.live) rest.back
      → Undoes (undos ++ olds) (mark (joined mine part rest).live) (joined mine part rest).back
  joined_names undos olds own own_olds h k =
      let marked : behind (mark part.live) ≡ mark (joined mine part rest).live = λ i n. joined_mark_at n i in
      subst (λ (s : Spots). Undoes (undos ++ olds) s (joined mine part rest).back) marked
      (undoes_both undos olds (behind (mark part.live)) (map (λ older. record { touched = older.touched; names = behind older.names }) part.back)
      (map (λ older. record { touched = older.touched; names = before older.names }) rest.back)
      (undoes_anew mine behind behind_undone undos (mark part.live) part.back own h)
      (subst (λ (s : Spots). Undoes olds s (map (λ older. record { touched = older.touched; names = before older.names }) rest.back))
      (sym (oldest_anew mine behind behind_undone (mark part.live) part.back))
      (undoes_anew others before before_undone olds (mark rest.live) rest.back own_olds k)))

  -- The part's changes are undone first, and then the rest's.
  pub joined_undone : (undos olds : List Undo) → AreOwn (λ n. mine n ≡ true) undos → AreOwn (λ n. others n ≡ true) olds → AreUndone undos (mark part.live) part.back → AreUndone olds (mark rest.live) rest.back
      → AreUndone (undos ++ olds) (mark (joined mine part rest).live) (joined mine part rest).back
  joined_undone undos olds own own_olds h k = record {
    names = joined_names undos olds own own_olds h.names k.names;
    touched = map-append touched_by undos olds
        ∙ (λ i. (h.touched ∙ sym (touched_anew mine behind behind_undone part.back)) i ++ (k.touched ∙ sym (touched_anew others before before_undone rest.back)) i)
        ∙ sym (map-append (λ (older : Older). older.touched) (map (λ older. record { touched = older.touched; names = behind older.names }) part.back)
        (map (λ older. record { touched = older.touched; names = before older.names }) rest.back));
  }

pub are_own_push : (P : Name → Type 0) (undos : List Undo) (undo : Undo) → AreOwn P undos → IsOwn P undo → AreOwn P (undos ++ undo ∷ [])
are_own_push P [] undo own last = (last, tt)
are_own_push P (first ∷ undos) undo own last = (own.0, are_own_push P undos undo own.1 last)

are_own_reverse : (P : Name → Type 0) (undos : List Undo) → AreOwn P undos → AreOwn P (reverse undos)
are_own_reverse P [] own = tt
are_own_reverse P (undo ∷ undos) own = subst (λ (l : List Undo). AreOwn P l) (sym (reverse-append (undo ∷ []) undos)) (are_own_push P (reverse undos) undo (are_own_reverse P undos own.1) own.0)

pub are_own_both : (P : Name → Type 0) (undos others : List Undo) → AreOwn P undos → AreOwn P others → AreOwn P (undos ++ others)
are_own_both P [] others own k = k
are_own_both P (undo ∷ undos) others own k = (own.0, are_own_both P undos others own.1 k)

pub are_own_weaker : (P Q : Name → Type 0) → ((name : Name) → P name → Q name) → (undos : List Undo) → AreOwn P undos → AreOwn Q undos
are_own_weaker P Q so [] own = tt
are_own_weaker P Q so (Freed name file ∷ undos) own = (so name own.0, are_own_weaker P Q so undos own.1)
are_own_weaker P Q so (Moved from to file ∷ undos) own = ((so from own.0.0, so to own.0.1), are_own_weaker P Q so undos own.1)
are_own_weaker P Q so (Listed changes ∷ undos) own = (each changes.items own.0, are_own_weaker P Q so undos own.1)
  where
    one : (name : Name) (was : Was) → IsOwnWas P name was → IsOwnWas Q name was
    one name Apart h = tt
    one name (Lost file) h = so name h
    one name (Still now) h = (so name h.0, so now h.1)

    each : (changes : List Change) → AreOwnWas P changes → AreOwnWas Q changes
    each [] h = tt
    each (change ∷ changes) h = (one change.name change.was h.0, each changes h.1)

plain_both : (undos others : List Undo) → ArePlain undos → ArePlain others → ArePlain (undos ++ others)
plain_both [] others h k = k
plain_both (undo ∷ undos) others h k = (h.0, plain_both undos others h.1 k)

no_file : (o : Option File) → (is_some o ≡ true → ⊥) → o ≡ None
no_file None h = refl
no_file (Some file) h = absurd (h refl)

over_is : (b : Bool) (a c : Option File) → (b ≡ false → a ≡ None) → (b ≡ true → c ≡ None) → or_else a c ≡ (if b then a else c)
over_is true a c first second = ap (or_else a) (second refl) ∙ by a
  where
    by : (o : Option File) → or_else o None ≡ o
    by None = refl
    by (Some file) = refl
over_is false a c first second = ap (λ (o : Option File). or_else o c) (first refl)

not_true : (b : Bool) → b ≡ false → b ≡ true → ⊥
not_true true e f = absurd (cc)
not_true false e f = absurd (cc)

not_own : (b : Bool) → b ≡ true → not b ≡ true → ⊥
not_own true e f = absurd (cc)
not_own false e f = absurd (cc)

-- A part is back among names of which none is its own.
pub joined_replayed : (mine : Name → Bool) (disk rest : Disk) (part old new : Replay) → IsReplayed disk part → IsReplayed rest old
    → HoldsOnly (λ n. mine n ≡ true) part → HoldsOnly (λ n. not (mine n) ≡ true) old
    → names_of new.files ≡ over (names_of part.files) (names_of old.files) → new.undos.items ≡ old.undos.items ++ part.undos.items → new.listed ≡ (old.listed || part.listed)
    → IsReplayed (joined mine disk rest) new
joined_replayed mine disk rest part old new h k own others files undos listed = record {
  live = files ∙ (λ i n. over_is (mine n) (names_of part.files n) (names_of old.files n)
      (λ e. no_file (names_of part.files n) (λ stands. not_true (mine n) e (own.files n stands)))
      (λ e. no_file (names_of old.files n) (λ stands. not_own (mine n) e (others.files n stands))) i)
      ∙ (λ i. join mine (h.live i) (k.live i));
  plain = λ none.
      let both = neither_so old.listed part.listed (sym listed ∙ none) in
      subst (λ (l : List Undo). ArePlain l) (sym undos) (plain_both old.undos.items part.undos.items (k.plain both.0) (h.plain both.1));
  back = subst (λ (l : List Undo). AreUndone l (mark (joined mine disk rest).live) (joined mine disk rest).back)
      (sym (ap (λ (l : List Undo). reverse l) undos ∙ reverse-append old.undos.items part.undos.items))
      (joined_undone mine disk rest (reverse part.undos.items) (reverse old.undos.items)
      (are_own_reverse (λ n. mine n ≡ true) part.undos.items own.undos) (are_own_reverse (λ n. not (mine n) ≡ true) old.undos.items others.undos) h.back k.back);
}

over_some : (a c : Option File) → is_some (or_else a c) ≡ true → (is_some a ≡ true) ⊎ (is_some c ≡ true)
over_some None c h = inr h
over_some (Some file) c h = inl refl

pub joined_holds : (P : Name → Type 0) (part old new : Replay) → HoldsOnly P part → HoldsOnly P old
    → names_of new.files ≡ over (names_of part.files) (names_of old.files) → new.undos.items ≡ old.undos.items ++ part.undos.items → HoldsOnly P new
joined_holds P part old new own others files undos = record {
  files = λ n stands. ⊎_elim (own.files n) (others.files n)
      (over_some (names_of part.files n) (names_of old.files n) (sym (ap (λ (m : Names). is_some (m n)) files) ∙ stands));
  undos = subst (λ (l : List Undo). AreOwn P l) (sym undos) (are_own_both P old.undos.items part.undos.items others.undos own.undos);
}

pub holds_weaker : (P Q : Name → Type 0) (replay : Replay) → ((name : Name) → P name → Q name) → HoldsOnly P replay → HoldsOnly Q replay
holds_weaker P Q replay so h = record {
  files = λ n stands. so n (h.files n stands);
  undos = are_own_weaker P Q so replay.undos.items h.undos;
}
