-- Lists of what names had undo the changes that they stand for.
use Rattle.std.proofs.Common.{◌≡◌, Bool, true, false, List, [], ◌∷◌, ◌++◌, map, refl, sym, ◌∙◌, ap, subst, append_assoc, Vec, String, BTreeMap}
use Rattle.std.specs.Prelude.{Option, Some, bytes_eq, reverse, if◌then◌else◌}
use Rattle.std.specs.BTreeMap.{UpdatesBy, get_by_text}
use Rattle.std.specs.String.{string_cmp, string_bytes}
use Rattle.std.specs.Ordering.{nat_cmp}
use Rattle.std.specs.Cmp.Lexicographic.{slice_cmp}
use Rattle.std.specs.declared.alloc.Global.{Global}
use Rattle.std.proofs.lemmas.Map.Text.{btree_map_updates_text}
use Rattle.std.proofs.lemmas.List.{append-nil, map-append, reverse-append, reverse-reverse}
use Rattle.folder_base.specs.Disk.{Name, Names, Spot, Spots, Older, put, mark}
use Rattle.folder_base.specs.Listing.{seen_spot, seen_spots, listed, IsExplained, Explains}
use Rattle.folder_base.specs.Undo.{lost_spot, was_spot, set_spot, set_spots, undone, touched_by, Undoes, AreUndone}
use Rattle.folder_base.specs.declared.change.Change.{Change}
use Rattle.folder_base.specs.declared.stored.Stored.{Stored}
use Rattle.folder_base.specs.declared.undo.Undo.{Undo}
use Rattle.folder_base.specs.declared.undo.Undo.TheVariants.{Freed, Moved, Listed}
use Rattle.folder_base.specs.declared.was.Was.{Was}
use Rattle.folder_base.specs.declared.was.Was.TheVariants.{Apart, Lost, Still}
use Rattle.folder_base.proofs.Images.{put_elim}

-- What one change touched is seen.
pub set_apart : (change : Change) (spots : Spots) → change.was ≡ Apart → spots ≡ set_spot change spots
set_apart change spots apart = sym (λ i n. put_elim (λ o. o ≡ spots n) spots change.name (was_spot change.was (spots change.name)) n
    (λ same. ap (λ (was : Was). was_spot was (spots change.name)) apart ∙ ap spots same) (λ differs. refl) i)

-- What is told of a name does not hang on what stands there else.
pub told_is : (was : Was) → (was ≡ Apart → ⊥) → (now other : Option Spot) → was_spot was now ≡ was_spot was other
told_is Apart told now other = absurd (told refl)
told_is (Lost file) told now other = refl
told_is (Still name) told now other = refl

pub seen_set : (live : Names) (change : Change) (name : Name) (old new : BTreeMap (String Global) Was) (was : Was) → name ≡ change.name
    → ((now : Option Spot) → was_spot was now ≡ was_spot change.was (seen_spots live old change.name))
    → UpdatesBy string_cmp (λ k. slice_cmp nat_cmp name (string_bytes k)) old new (Some was) → seen_spots live new ≡ set_spot change (seen_spots live old)
seen_set live change name old new was same_name is updates =
    (λ i n. (ap (λ (o : Option Was). seen_spot o (mark live n)) (btree_map_updates_text name old new (Some was) updates n) ∙ by (bytes_eq name n) (get_by_text old n) (mark live n)) i)
    ∙ ap (λ (m : Name). put (seen_spots live old) m (was_spot change.was (seen_spots live old change.name))) same_name
  where
    by : (b : Bool) (o : Option Was) (now : Option Spot)
        → seen_spot (if b then Some was else o) now ≡ (if b then was_spot change.was (seen_spots live old change.name) else seen_spot o now)
    by true o now = is now
    by false o now = refl

-- One change is explained.
pub freed_explained : (spots : Spots) (name : Name) (file : Option Stored) (changes : Vec Change Global)
    → changes.items ≡ record { name = name; was = Lost file } ∷ [] → IsExplained spots (Freed name file) changes
freed_explained spots name file changes is = record {
  touched = ap (λ (l : List Change). map (λ change. change.name) l) is;
  undoes = ap (λ (l : List Change). set_spots l spots) is;
}

pub moved_explained : (spots : Spots) (from to : Name) (file : Option Stored) (moved : Was) (changes : Vec Change Global)
    → changes.items ≡ record { name = to; was = Lost file } ∷ record { name = from; was = moved } ∷ []
    → ((now : Option Spot) → was_spot moved now ≡ spots to) → IsExplained spots (Moved from to file) changes
moved_explained spots from to file moved changes is was = record {
  touched = ap (λ (l : List Change). map (λ change. change.name) l) is;
  undoes = ap (λ (l : List Change). set_spots l spots) is
      ∙ ap (λ (o : Option Spot). put (put spots to (lost_spot file)) from o) (was (put spots to (lost_spot file) from));
}

-- what names stood for, once these are undone
abbrev pub reached : List Undo → Spots → Spots
reached [] spots = spots
reached (undo ∷ undos) spots = reached undos (undone undo spots)

reached_more : (undos : List Undo) (undo : Undo) (spots : Spots) → reached (undos ++ undo ∷ []) spots ≡ undone undo (reached undos spots)
reached_more [] undo spots = refl
reached_more (first ∷ undos) undo spots = reached_more undos undo (undone first spots)

-- In place of one another that undoes the same
other_undoes : (front rest : List Undo) (old new : Undo) (spots : Spots) (back : List Older) → undone new (reached front spots) ≡ undone old (reached front spots)
    → Undoes (front ++ old ∷ rest) spots back → Undoes (front ++ new ∷ rest) spots back
other_undoes [] rest old new spots [] same h = absurd h
other_undoes [] rest old new spots (older ∷ back) same h = (h.0 ∙ sym same, h.1)
other_undoes (undo ∷ front) rest old new spots [] same h = absurd h
other_undoes (undo ∷ front) rest old new spots (older ∷ back) same h =
    (h.0, other_undoes front rest old new older.names back (subst (λ (s : Spots). undone new (reached front s) ≡ undone old (reached front s)) (sym h.0) same) h.1)

other_touched : (front rest : List Undo) (old new : Undo) → touched_by new ≡ touched_by old → map touched_by (front ++ new ∷ rest) ≡ map touched_by (front ++ old ∷ rest)
other_touched [] rest old new same = λ i. same i ∷ map touched_by rest
other_touched (undo ∷ front) rest old new same = λ i. touched_by undo ∷ other_touched front rest old new same i

listed_more : (all : List (Vec Change Global)) (changes : Vec Change Global) → listed (all ++ changes ∷ []) ≡ listed all ++ Listed changes ∷ []
listed_more all changes = map-append (λ (c : Vec Change Global). Listed c) all (changes ∷ [])

-- What names had before one change more was seen.
pub seen_next : (live : Names) (old new : BTreeMap (String Global) Was) (all : List (Vec Change Global)) (changes : Vec Change Global)
    → seen_spots live new ≡ set_spots changes.items (seen_spots live old) → seen_spots live old ≡ reached (listed all) (mark live)
    → seen_spots live new ≡ reached (listed (all ++ changes ∷ [])) (mark live)
seen_next live old new all changes sets was =
    sets ∙ ap (set_spots changes.items) was
    ∙ sym (ap (λ (l : List Undo). reached l (mark live)) (listed_more all changes) ∙ reached_more (listed all) (Listed changes) (mark live))

pub explained_next : (live : Names) (seen : BTreeMap (String Global) Was) (all : List (Vec Change Global)) (changes : Vec Change Global) (undos later : List Undo) (undo : Undo)
    → undos ≡ later ++ undo ∷ [] → seen_spots live seen ≡ reached (listed all) (mark live) → IsExplained (seen_spots live seen) undo changes
    → (back : List Older) → AreUndone (listed all ++ reverse undos) (mark live) back → AreUndone (listed (all ++ changes ∷ []) ++ reverse later) (mark live) back
explained_next live seen all changes undos later undo popped was explained back h =
    let now : AreUndone (listed all ++ undo ∷ reverse later) (mark live) back =
    subst (λ (l : List Undo). AreUndone (listed all ++ l) (mark live) back) (ap (λ (l : List Undo). reverse l) popped ∙ reverse-append later (undo ∷ [])) h in
    subst (λ (l : List Undo). AreUndone l (mark live) back)
    (sym (ap (λ (l : List Undo). l ++ reverse later) (listed_more all changes) ∙ append_assoc (listed all) (Listed changes ∷ []) (reverse later)))
    (record {
      names = other_undoes (listed all) (reverse later) undo (Listed changes) (mark live) back
          (subst (λ (s : Spots). undone (Listed changes) s ≡ undone undo s) was explained.undoes) now.names;
      touched = other_touched (listed all) (reverse later) undo (Listed changes) explained.touched ∙ now.touched;
    })

listed_reverse : (all : List (Vec Change Global)) → listed (reverse all) ≡ reverse (listed all)
listed_reverse [] = refl
listed_reverse (changes ∷ all) =
    ap (λ (l : List (Vec Change Global)). listed l) (reverse-append (changes ∷ []) all) ∙ listed_more (reverse all) changes
    ∙ ap (λ (l : List Undo). l ++ Listed changes ∷ []) (listed_reverse all) ∙ sym (reverse-append (Listed changes ∷ []) (listed all))

-- All are explained, the last one first.
pub all_explained : (live : Names) (olds undos : List Undo) (all turned : List (Vec Change Global)) → undos ≡ [] → turned ≡ reverse all
    → ((back : List Older) → AreUndone (reverse olds) (mark live) back → AreUndone (listed all ++ reverse undos) (mark live) back) → Explains live olds turned
all_explained live olds undos all turned none is h back k =
    subst (λ (l : List Undo). AreUndone l (mark live) back)
    (ap (λ (l : List Undo). listed all ++ reverse l) none ∙ append-nil (listed all)
    ∙ sym (ap (λ (l : List (Vec Change Global)). reverse (listed l)) is ∙ ap (λ (l : List Undo). reverse l) (listed_reverse all) ∙ reverse-reverse (listed all)))
    (h back k)
