use Rattle.std.proofs.Common.{◌≡◌, ◌∙◌, ◌++◌, ◌∷◌, [], List, Vec, sym, ap, subst, rules, arith}
use Rattle.std.specs.Prelude.{reverse}
use Rattle.std.specs.declared.alloc.Global.{Global}
use Rattle.std.proofs.lemmas.Grind.{common_steps}
use Rattle.folder_base.specs.Disk.{Names, mark}
use Rattle.folder_base.specs.Files.{names_of}
use Rattle.folder_base.specs.Listing.{listed}
use Rattle.folder_base.specs.Undo.{AreUndone}
use Rattle.folder_base.specs.declared.change.Change.{Change}
use Rattle.folder_base.specs.declared.undo.Undo.{Undo}
use Rattle.folder_base.proofs.Explaining.{reached, seen_next, explained_next, all_explained}
use Rattle.folder_base.proofs.explain.explain_all.Goals as goal

pub loop-undo-preserved : goal.loop-undo-preserved
loop-undo-preserved c =
    let live : Names = names_of c.args.files.now in
    let all : List (Vec Change Global) = c.loop-undo.all.items in
    let changes : Vec Change Global = c.in_ok-changes.changes in
    let undo : Undo = c.in-Some.undo in
    let later : List Undo = c.pop.new.self.items in
    let popped : c.loop-undo.undos.items ≡ later ++ undo ∷ [] = first_of (search rules, grind (arith, common_steps)) in
    let pushed : c.push.new.self.items ≡ all ++ changes ∷ [] = c.in_ok-push.ensures.items in
    record {
      seen = seen_next live c.loop-undo.seen c.set_seen.new.seen all changes (c.in_ok-set_seen.ensures live) c.loop-undo.invariant.seen
          ∙ ap (λ (l : List (Vec Change Global)). reached (listed l) (mark live)) (sym pushed);
      undoes = λ back h. subst (λ (l : List (Vec Change Global)). AreUndone (listed l ++ reverse later) (mark live) back) (sym pushed)
          (explained_next live c.loop-undo.seen all changes c.loop-undo.undos.items later undo popped c.loop-undo.invariant.seen c.in_ok-changes.ensures back
          (c.loop-undo.invariant.undoes back h));
    }

pub returns : goal.returns
returns c =
    let none : c.loop-undo.undos.items ≡ [] = first_of (search rules, grind (arith, common_steps)) in
    all_explained (names_of c.args.files.now) c.args.undos.items c.loop-undo.undos.items c.loop-undo.all.items c.reverse.new.self.items none c.reverse.ensures.items
    c.loop-undo.invariant.undoes
