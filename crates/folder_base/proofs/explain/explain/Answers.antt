use Rattle.std.proofs.Common.{◌≡◌, ◌∙◌, ◌++◌, ◌∷◌, [], List, Vec, sym, ap, subst}
use Rattle.std.specs.Prelude.{Option}
use Rattle.std.specs.declared.alloc.Global.{Global}
use Rattle.folder_base.specs.Disk.{Spot, Spots}
use Rattle.folder_base.specs.Files.{names_of}
use Rattle.folder_base.specs.Listing.{seen_spots, IsExplained}
use Rattle.folder_base.specs.Undo.{was_spot}
use Rattle.folder_base.specs.declared.change.Change.{Change}
use Rattle.folder_base.specs.declared.undo.Undo.{Undo}
use Rattle.folder_base.specs.declared.was.Was.TheVariants.{Lost}
use Rattle.folder_base.proofs.Explaining.{freed_explained, moved_explained}
use Rattle.folder_base.proofs.explain.explain.Goals.{in-Freed+in_ok-push-in-Freed, in-Moved+in_ok-moved-in-Moved+in_ok-push-in-Moved+in_ok-push-in-Moved-2}
use Rattle.folder_base.proofs.explain.explain.Goals as goal

pub returns : goal.returns
returns c =
    let spots : Spots = seen_spots (names_of c.args.files.now) c.args.seen.now in
    let changes : Vec Change Global = c.match-undo.changes in
    elim c.match-undo.branch [
      | in-Freed+in_ok-push-in-Freed w ↦
          let is : changes.items ≡ record { name = w.in-Freed.name; was = Lost w.in-Freed.file } ∷ [] =
          ap (λ (v : Vec Change Global). v.items) w.changes-is ∙ w.in_ok-push-in-Freed.ensures.items
          ∙ ap (λ (l : List Change). l ++ record { name = w.in-Freed.name; was = Lost w.in-Freed.file } ∷ []) c.new-changes.ensures.items in
          subst (λ (undo : Undo). IsExplained spots undo changes) (sym w.in-Freed.is) (freed_explained spots w.in-Freed.name w.in-Freed.file changes is)
      | in-Moved+in_ok-moved-in-Moved+in_ok-push-in-Moved+in_ok-push-in-Moved-2 w ↦
          let moved = w.in_ok-moved-in-Moved.moved in
          let first : Change = record { name = w.in-Moved.to; was = Lost w.in-Moved.file } in
          let second : Change = record { name = w.in-Moved.from; was = moved } in
          let is : changes.items ≡ first ∷ second ∷ [] =
          ap (λ (v : Vec Change Global). v.items) w.changes-is ∙ w.in_ok-push-in-Moved-2.ensures.items
          ∙ ap (λ (l : List Change). l ++ second ∷ []) (w.in_ok-push-in-Moved.ensures.items ∙ ap (λ (l : List Change). l ++ first ∷ []) c.new-changes.ensures.items) in
          let was : (now : Option Spot) → was_spot moved now ≡ spots w.in-Moved.to = λ now. w.in_ok-moved-in-Moved.ensures now ∙ ap spots w.as_str.ensures in
          subst (λ (undo : Undo). IsExplained spots undo changes) (sym w.in-Moved.is)
          (moved_explained spots w.in-Moved.from w.in-Moved.to w.in-Moved.file moved changes is was)
    ]
