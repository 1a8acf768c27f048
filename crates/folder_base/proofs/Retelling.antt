-- What is listed of earlier names, told again, undoes what was told before, told again.
use Rattle.std.proofs.Common.{◌≡◌, List, [], ◌∷◌, ◌++◌, map, refl, sym, ◌∙◌, ap, Vec}
use Rattle.std.specs.Prelude.{Option, Some, None}
use Rattle.std.specs.declared.alloc.Global.{Global}
use Rattle.folder_base.specs.Disk.{Name, Names, Spot, Spots, put}
use Rattle.folder_base.specs.Retold.{retold, told_each, IsRetoldChange, AreRetoldChanges, IsRetold, AreRetold}
use Rattle.folder_base.specs.Undo.{lost_spot, was_spot, set_spot, set_spots, IsPlain, ArePlain}
use Rattle.folder_base.specs.declared.change.Change.{Change}
use Rattle.folder_base.specs.declared.stored.Stored.{Stored}
use Rattle.folder_base.specs.declared.undo.Undo.{Undo}
use Rattle.folder_base.specs.declared.undo.Undo.TheVariants.{Freed, Moved, Listed}
use Rattle.folder_base.proofs.Images.{put_through}

module _ (t : Option Spot → Option Spot) where
  change_told : (old new : Change) → IsRetoldChange t old new → (spots : Spots) → told_each t (set_spot old spots) ≡ set_spot new (told_each t spots)
  change_told old new h spots =
      put_through t spots old.name (was_spot old.was (spots old.name))
      ∙ ap (put (told_each t spots) old.name) (h.was (spots old.name))
      ∙ ap (λ (name : Name). put (told_each t spots) name (was_spot new.was (t (spots name)))) (sym h.name)

  changes_told : (olds news : List Change) → AreRetoldChanges t olds news → (spots : Spots) → told_each t (set_spots olds spots) ≡ set_spots news (told_each t spots)
  changes_told [] [] h spots = refl
  changes_told [] (new ∷ news) h spots = absurd h
  changes_told (old ∷ olds) [] h spots = absurd h
  changes_told (old ∷ olds) (new ∷ news) h spots = changes_told olds news h.1 (set_spot old spots) ∙ ap (set_spots news) (change_told old new h.0 spots)

  changes_touch : (olds news : List Change) → AreRetoldChanges t olds news → map (λ change. change.name) news ≡ map (λ change. change.name) olds
  changes_touch [] [] h = refl
  changes_touch [] (new ∷ news) h = absurd h
  changes_touch (old ∷ olds) [] h = absurd h
  changes_touch (old ∷ olds) (new ∷ news) h = λ i. h.0.name i ∷ changes_touch olds news h.1 i

  pub listed_told : (olds news : Vec Change Global) → AreRetoldChanges t olds.items news.items → IsRetold t (Listed olds) (Listed news)
  listed_told olds news h = record {
    touched = changes_touch olds.items news.items h;
    plain = λ no. absurd no;
    undoes = changes_told olds.items news.items h;
  }

  pub changes_more : (olds news : List Change) (old new : Change) → AreRetoldChanges t olds news → IsRetoldChange t old new → AreRetoldChanges t (olds ++ old ∷ []) (news ++ new ∷ [])
  changes_more [] [] old new h last = (last, tt)
  changes_more [] (n ∷ news) old new h last = absurd h
  changes_more (o ∷ olds) [] old new h last = absurd h
  changes_more (o ∷ olds) (n ∷ news) old new h last = (h.0, changes_more olds news old new h.1 last)

  pub undos_more : (olds news : List Undo) (old new : Undo) → AreRetold t olds news → IsRetold t old new → AreRetold t (olds ++ old ∷ []) (news ++ new ∷ [])
  undos_more [] [] old new h last = (last, tt)
  undos_more [] (n ∷ news) old new h last = absurd h
  undos_more (o ∷ olds) [] old new h last = absurd h
  undos_more (o ∷ olds) (n ∷ news) old new h last = (h.0, undos_more olds news old new h.1 last)

  -- What is not listed names no file by its name of now.
  pub plain_told : ((file : Option Stored) → t (lost_spot file) ≡ lost_spot file) → (undo : Undo) → IsPlain undo → IsRetold t undo undo
  plain_told keeps (Freed name file) plain = record {
    touched = refl;
    plain = λ so. so;
    undoes = λ spots. put_through t spots name (lost_spot file) ∙ ap (put (told_each t spots) name) (keeps file);
  }
  plain_told keeps (Moved from to file) plain = record {
    touched = refl;
    plain = λ so. so;
    undoes = λ spots. put_through t (put spots to (lost_spot file)) from (spots to)
        ∙ ap (λ (m : Spots). put m from (t (spots to))) (put_through t spots to (lost_spot file) ∙ ap (put (told_each t spots) to) (keeps file));
  }
  plain_told keeps (Listed changes) plain = absurd plain

-- A file that has no name any more stays so.
pub retold_lost : (live : Names) (name : Name) (from : Option Name) (file : Option Stored) → retold live name from (lost_spot file) ≡ lost_spot file
retold_lost live name None None = refl
retold_lost live name None (Some stored) = refl
retold_lost live name (Some from) None = refl
retold_lost live name (Some from) (Some stored) = refl

pub not_listed : (undo : Undo) → ((changes : Vec Change Global) → undo ≡ Listed changes → ⊥) → IsPlain undo
not_listed (Freed name file) not = tt
not_listed (Moved from to file) not = tt
not_listed (Listed changes) not = absurd (not changes refl)

pub all_plain_told : (live : Names) (name : Name) (from : Option Name) (undos : List Undo) → ArePlain undos → AreRetold (retold live name from) undos undos
all_plain_told live name from [] plain = tt
all_plain_told live name from (undo ∷ undos) plain =
    (plain_told (retold live name from) (retold_lost live name from) undo plain.0, all_plain_told live name from undos plain.1)
