use Rattle.std.proofs.Common.{◌≡◌, ◌++◌, ◌∷◌, ◌∙◌, [], List, sym, ap, subst, option_map, rules, arith}
use Rattle.std.specs.Prelude.{Option}
use Rattle.std.proofs.lemmas.Grind.{common_steps}
use Rattle.std.proofs.lemmas.List.{append-nil}
use Rattle.std.specs.Vec.Iter.{into_iter_items}
use Rattle.folder_base.specs.Disk.{Names, Spot}
use Rattle.folder_base.specs.Retold.{AreRetold, retold}
use Rattle.folder_base.specs.declared.undo.Undo.{Undo}
use Rattle.folder_base.proofs.Retelling.{undos_more}
use Rattle.folder_base.proofs.retell.retell_all.Goals as goal

pub loop-undo-preserved : goal.loop-undo-preserved
loop-undo-preserved c =
    let undo : Undo = c.in-Some.undo in
    let t : Names → Option Spot → Option Spot = λ live. retold live c.args.name.now (option_map (λ text. text.now) c.args.from) in
    let pushed : c.push.new.self.items ≡ c.loop-undo.told.items ++ c.in_ok-retell.field-0 ∷ [] = c.in_ok-push.ensures.items in
    record {
      told = λ live was. subst (λ (l : List Undo). AreRetold (t live) (c.loop-undo.yielded ++ undo ∷ []) l) (sym pushed)
          (undos_more (t live) c.loop-undo.yielded c.loop-undo.told.items undo c.in_ok-retell.field-0 (c.loop-undo.invariant.told live was)
          (c.in_ok-retell.ensures live was));
      rest = first_of (search rules, grind (arith, common_steps));
    }

pub returns : goal.returns
returns c = λ live was.
    let ended : into_iter_items c.loop-undo.undo-iterator ≡ [] = first_of (search rules, grind (arith, common_steps)) in
    let begun : into_iter_items c.into_iter-undo-iterator.result ≡ c.args.undos.items = first_of (search rules, grind (arith, common_steps)) in
    let whole : c.loop-undo.yielded ≡ c.args.undos.items =
    sym (append-nil c.loop-undo.yielded) ∙ ap (λ (l : List Undo). c.loop-undo.yielded ++ l) (sym ended) ∙ c.loop-undo.invariant.rest ∙ begun in
    subst (λ (l : List Undo). AreRetold (retold live c.args.name.now (option_map (λ text. text.now) c.args.from)) l c.loop-undo.told.items) whole
    (c.loop-undo.invariant.told live was)
