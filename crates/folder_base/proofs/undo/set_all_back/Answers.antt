use Rattle.std.proofs.Common.{◌≡◌, ◌∙◌, ◌++◌, ◌∷◌, [], List, option_map, sym, ap, append_assoc, rules, arith}
use Rattle.std.proofs.lemmas.Grind.{common_steps}
use Rattle.std.proofs.lemmas.List.{append-nil}
use Rattle.std.specs.Vec.Iter.{into_iter_items}
use Rattle.folder_base.specs.Files.{names_of}
use Rattle.folder_base.specs.Stored.{file_of}
use Rattle.folder_base.specs.Undo.{set_name, set_names}
use Rattle.folder_base.specs.declared.change.Change.{Change}
use Rattle.folder_base.proofs.Undoing.{set_more}
use Rattle.folder_base.proofs.undo.set_all_back.Goals as goal

pub loop-change-preserved : goal.loop-change-preserved
loop-change-preserved c =
    let change : Change = c.in-Some.change in
    let later : List Change = into_iter_items c.next.new.self in
    let next_is : into_iter_items c.loop-change.change-iterator ≡ change ∷ later = first_of (search rules, grind (arith, common_steps)) in
    record {
      set = c.in_ok-set_back.ensures ∙ ap (set_name (names_of c.args.live.now) change) c.loop-change.invariant.set
          ∙ sym (set_more (option_map file_of) (names_of c.args.live.now) c.loop-change.yielded change (names_of c.args.files.now));
      rest = append_assoc c.loop-change.yielded (change ∷ []) later ∙ ap (λ (l : List Change). c.loop-change.yielded ++ l) (sym next_is) ∙ c.loop-change.invariant.rest;
    }

pub returns : goal.returns
returns c =
    let ended : into_iter_items c.loop-change.change-iterator ≡ [] = first_of (search rules, grind (arith, common_steps)) in
    let begun : into_iter_items c.into_iter-change-iterator.result ≡ c.args.changes.items = first_of (search rules, grind (arith, common_steps)) in
    c.loop-change.invariant.set
    ∙ ap (λ (l : List Change). set_names (names_of c.args.live.now) l (names_of c.args.files.now))
    (sym (append-nil c.loop-change.yielded) ∙ ap (λ (l : List Change). c.loop-change.yielded ++ l) (sym ended) ∙ c.loop-change.invariant.rest ∙ begun)
