use Rattle.std.proofs.Common.{◌≡◌, ◌⊎◌, inl, inr, ◌∷◌, ◌∙◌, [], List, Vec, not, nat_eq, sym, ap, subst, length, length-append, rules, arith}
use Rattle.std.specs.Iterator.Adapters.{zip_first, zip_second}
use Rattle.std.specs.Vec.Iter.{into_iter_items}
use Rattle.std.specs.declared.alloc.Global.{Global}
use Rattle.std.proofs.lemmas.Grind.{common_steps}
use Rattle.folder_base.specs.Files.{names_of}
use Rattle.folder_base.specs.Giving.{ArePartUndos}
use Rattle.folder_base.specs.Listing.{listed}
use Rattle.folder_base.specs.Merge.{Files}
use Rattle.folder_base.specs.Split.{AreSplit}
use Rattle.folder_base.specs.declared.replay.Replay.{Replay}
use Rattle.folder_base.specs.declared.undo.Undo.{Undo}
use Rattle.folder_base.proofs.Giving.{Portion, AreFirst, first_left, first_more, all_first, next_portion}
use Rattle.folder_base.proofs.Handed.{EachStart, none_plain}
use Rattle.folder_base.proofs.starts.start_all.Goals as goal

pub loop-files-preserved : goal.loop-files-preserved
loop-files-preserved c =
    let portions : List Portion = c.loop-files.yielded in
    let portion : Portion = (c.in-Some.files, c.in-Some.undos) in
    let later : List Files = into_iter_items (zip_first c.next.new.self) in
    let rest : List (Vec Undo Global) = into_iter_items (zip_second c.next.new.self) in
    let split : List Files = into_iter_items (zip_first c.into_iter-files-iterator.result) in
    let lists : List (Vec Undo Global) = into_iter_items (zip_second c.into_iter-files-iterator.result) in
    let starts : List Replay = c.loop-files.starts.items in
    let start : Replay = record { files = portion.0; undos = portion.1; listed = not c.is_empty-listed.result } in
    let many = c.loop-files.invariant.many in
    let first : AreFirst portions (portion.0 ∷ later) (portion.1 ∷ rest) split lists =
    first_left portions split lists portion (into_iter_items (zip_first c.loop-files.files-iterator)) later (into_iter_items (zip_second c.loop-files.files-iterator)) rest
    c.loop-files.invariant.first c.in-Some.ensures.steps.0.0 c.in-Some.ensures.steps.1.0 in
    let emptied : c.is_empty-listed.result ≡ nat_eq (length portion.1.items) 0 = first_of (search rules, grind (arith, common_steps)) in
    record {
      each = λ stems disk same are is parted.
          subst (λ (l : List Replay). EachStart stems disk l) (sym c.in_ok-push.ensures.items)
          (next_portion portions split lists stems (names_of c.args.live.now) disk c.args.all.now.items starts start later rest first many same are is parted
          (λ none. none_plain portion.1.items (ap not (sym emptied) ∙ none)) (c.loop-files.invariant.each stems disk same are is parted));
      many = omega (arith, length-append portions (portion ∷ []), c.in_ok-push.ensures.len, many);
      first = first_more portions split lists portion later rest first;
    }

pub returns : goal.returns
returns c = λ stems disk is apart same are split.
    let live = names_of c.args.live.now in
    let all = c.args.all.now.items in
    let later : List Files = into_iter_items (zip_first c.loop-files.files-iterator) in
    let rest : List (Vec Undo Global) = into_iter_items (zip_second c.loop-files.files-iterator) in
    let begun : into_iter_items (zip_first c.into_iter-files-iterator.result) ≡ c.args.split.items = first_of (search rules, grind (arith, common_steps)) in
    let given : into_iter_items (zip_second c.into_iter-files-iterator.result) ≡ c.in_ok-lists.lists.items = first_of (search rules, grind (arith, common_steps)) in
    let parted : ArePartUndos stems live (listed all) c.in_ok-lists.lists.items = c.in_ok-lists.ensures stems is apart (omega (arith, split.many)) in
    let ended : (length later ≡ 0) ⊎ (length rest ≡ 0) = elim c.in-None.ensures.steps [ inl first ↦ inl (omega (arith, first.1.0)) | inr second ↦ inr (omega (arith, second.1.0)) ] in
    record {
      many = c.loop-files.invariant.many ∙ all_first c.loop-files.yielded _ _ (length stems) later rest c.loop-files.invariant.first (ap length begun ∙ split.many) (ap length given ∙ parted.many) ended;
      each = c.loop-files.invariant.each stems disk same are (subst (λ (l : List Files). AreSplit stems disk.live l) (sym begun) split)
          (subst (λ (l : List (Vec Undo Global)). ArePartUndos stems live (listed all) l) (sym given) parted);
    }
