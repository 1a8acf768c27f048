use Rattle.std.proofs.Common.{◌∙◌, ap, sym, arith, string_bytes}
use Rattle.std.proofs.lemmas.Result.{err_from_is_err_and}
use Rattle.folder_base.specs.Disk.{Name}
use Rattle.keep_store.specs.Promise.{promise_name}
use Rattle.keep_store.specs.State.{seen}
use Rattle.keep_store.specs.TookLaws.{took_none}
use Rattle.keep_store.proofs.Appended.{own_current}
use Rattle.keep_store.proofs.Promised.{own_part, part_refused, part_done, part_ready}
use Rattle.keep_store.proofs.taking.promise_all.Goals as goal

pub returns-then-state-clause-taken : goal.returns-then-state-clause-taken
returns-then-state-clause-taken g c = took_none (seen (g.F.Folder.world c.args.folder.now) c.args.state.now)

pub move_synced-requires-clause-from_own : goal.move_synced-requires-clause-from_own
move_synced-requires-clause-from_own g c = own_current _ _ _ c.as_str-2.ensures.value c.requires.holds c.requires.is_ready c.requires.without_fault c.requires.part (omega arith)

pub move_synced-requires-clause-to_own : goal.move_synced-requires-clause-to_own
move_synced-requires-clause-to_own g c =
    let to_is = c.as_str-3.ensures.value ∙ c.write_promise.ensures.bytes ∙ ap (λ (stem : Name). promise_name stem c.args.state.now.size) c.as_str.ensures in
    own_part _ _ _ c.as_str-2.ensures.value c.requires.holds c.requires.is_ready c.requires.without_fault c.requires.part (omega arith) _ to_is c.if-state.false

pub returns-in_err-move_synced-clause-part_taken : goal.returns-in_err-move_synced-clause-part_taken
returns-in_err-move_synced-clause-part_taken g c =
    let to_is = c.as_str-3.ensures.value ∙ c.write_promise.ensures.bytes ∙ ap (λ (stem : Name). promise_name stem c.args.state.now.size) c.as_str.ensures in
    let p = err_from_is_err_and c.from_residual.result c.from_residual.ensures.1 in
    rw (p.1, p.2) (part_refused _ _ _ c.as_str-2.ensures.value c.requires.holds c.requires.is_ready c.requires.without_fault c.requires.part (omega arith) _ to_is c.if-state.false
    (g.F.Folder.world c.move_synced.new.folder) c.move_synced.ensures.kept c.move_synced.ensures.moved _ c.in_err-move_synced.ensures.refused)

pub returns-clause-taken : goal.returns-clause-taken
returns-clause-taken g c =
    let to_is = c.as_str-3.ensures.value ∙ c.write_promise.ensures.bytes ∙ ap (λ (stem : Name). promise_name stem c.args.state.now.size) c.as_str.ensures in
    part_done _ _ _ c.as_str-2.ensures.value c.requires.holds c.requires.is_ready c.requires.without_fault c.requires.part (omega arith) _ to_is c.if-state.false
    (g.F.Folder.world c.move_synced.new.folder) c.move_synced.ensures.kept c.move_synced.ensures.moved (λ t. c.in_ok-move_synced.ensures.done t)

pub returns-clause-is_ready : goal.returns-clause-is_ready
returns-clause-is_ready g c =
    let to_is = c.as_str-3.ensures.value ∙ c.write_promise.ensures.bytes ∙ ap (λ (stem : Name). promise_name stem c.args.state.now.size) c.as_str.ensures in
    part_ready _ _ _ c.as_str-2.ensures.value c.requires.holds c.requires.is_ready c.requires.without_fault c.requires.part (omega arith) _ to_is c.if-state.false
    (g.F.Folder.world c.move_synced.new.folder) c.move_synced.ensures.kept c.move_synced.ensures.moved (λ t. c.in_ok-move_synced.ensures.done t) c.swap.new.x c.swap.new.y (ap string_bytes c.swap.ensures.x_after ∙ sym c.as_str-3.ensures.value)
