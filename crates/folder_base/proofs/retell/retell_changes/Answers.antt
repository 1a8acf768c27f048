use Rattle.std.proofs.Common.{◌≡◌, ◌++◌, ◌∷◌, ◌∙◌, [], List, sym, ap, subst, refl, option_map, rules, arith}
use Rattle.std.specs.Prelude.{Option}
use Rattle.std.proofs.lemmas.Grind.{common_steps}
use Rattle.std.proofs.lemmas.List.{append-nil}
use Rattle.std.specs.Vec.Iter.{into_iter_items}
use Rattle.folder_base.specs.Disk.{Names, Spot}
use Rattle.folder_base.specs.Retold.{AreRetoldChanges, retold}
use Rattle.folder_base.specs.declared.change.Change.{Change}
use Rattle.folder_base.proofs.Retelling.{changes_more}
use Rattle.folder_base.proofs.retell.retell_changes.Goals as goal

pub loop-change-preserved : goal.loop-change-preserved
loop-change-preserved c =
    let change : Change = c.in-Some.change in
    let told : Change = record { name = change.name; was = c.in_ok-was.was' } in
    let t : Names → Option Spot → Option Spot = λ live. retold live c.args.name.now (option_map (λ text. text.now) c.args.from) in
    let pushed : c.push.new.self.items ≡ c.loop-change.told.items ++ told ∷ [] = c.in_ok-push.ensures.items in
    record {
      told = λ live was. subst (λ (l : List Change). AreRetoldChanges (t live) (c.loop-change.yielded ++ change ∷ []) l) (sym pushed)
          (changes_more (t live) c.loop-change.yielded c.loop-change.told.items change told (c.loop-change.invariant.told live was)
          (record { name = refl; was = c.in_ok-was.ensures live was }));
      rest = first_of (search rules, grind (arith, common_steps));
    }

pub returns : goal.returns
returns c = λ live was.
    let ended : into_iter_items c.loop-change.change-iterator ≡ [] = first_of (search rules, grind (arith, common_steps)) in
    let begun : into_iter_items c.into_iter-change-iterator.result ≡ c.args.changes.items = first_of (search rules, grind (arith, common_steps)) in
    let whole : c.loop-change.yielded ≡ c.args.changes.items =
    sym (append-nil c.loop-change.yielded) ∙ ap (λ (l : List Change). c.loop-change.yielded ++ l) (sym ended) ∙ c.loop-change.invariant.rest ∙ begun in
    subst (λ (l : List Change). AreRetoldChanges (retold live c.args.name.now (option_map (λ text. text.now) c.args.from)) l c.loop-change.told.items) whole
    (c.loop-change.invariant.told live was)
