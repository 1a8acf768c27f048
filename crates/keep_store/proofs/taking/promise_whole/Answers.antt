use Rattle.std.proofs.Common.{◌∙◌, ap, sym, string_bytes}
use Rattle.std.proofs.lemmas.Result.{err_from_is_err_and}
use Rattle.keep_store.proofs.Appended.{own_current}
use Rattle.keep_store.proofs.Promised.{own_whole, whole_refused, whole_done, whole_ready}
use Rattle.keep_store.proofs.taking.promise_whole.Goals as goal

pub move_synced-requires-clause-from_own : goal.move_synced-requires-clause-from_own
move_synced-requires-clause-from_own g c = own_current _ _ _ c.as_str-2.ensures.value c.requires.holds c.requires.is_ready c.requires.without_fault c.requires.part c.requires.holds.small

pub move_synced-requires-clause-to_own : goal.move_synced-requires-clause-to_own
move_synced-requires-clause-to_own g c =
    let to_is = c.as_str-3.ensures.value ∙ c.write_whole.ensures.bytes ∙ c.as_str.ensures in
    own_whole _ _ _ c.as_str-2.ensures.value c.requires.holds c.requires.is_ready c.requires.without_fault c.requires.part c.requires.holds.small _ to_is

pub returns-in_err-move_synced-clause-part_taken : goal.returns-in_err-move_synced-clause-part_taken
returns-in_err-move_synced-clause-part_taken g c =
    let to_is = c.as_str-3.ensures.value ∙ c.write_whole.ensures.bytes ∙ c.as_str.ensures in
    let p = err_from_is_err_and c.from_residual.result c.from_residual.ensures.1 in
    rw (p.1, p.2) (whole_refused _ _ _ c.as_str-2.ensures.value c.requires.holds c.requires.is_ready c.requires.without_fault c.requires.part c.requires.holds.small _ to_is
    (g.F.Folder.world c.move_synced.new.folder) c.move_synced.ensures.kept c.move_synced.ensures.moved _ c.in_err-move_synced.ensures.refused)

pub returns-clause-taken : goal.returns-clause-taken
returns-clause-taken g c =
    let to_is = c.as_str-3.ensures.value ∙ c.write_whole.ensures.bytes ∙ c.as_str.ensures in
    whole_done _ _ _ c.as_str-2.ensures.value c.requires.holds c.requires.is_ready c.requires.without_fault c.requires.part c.requires.holds.small _ to_is
    (g.F.Folder.world c.move_synced.new.folder) c.move_synced.ensures.kept c.move_synced.ensures.moved (λ t. c.in_ok-move_synced.ensures.done t)

pub returns-clause-is_ready : goal.returns-clause-is_ready
returns-clause-is_ready g c =
    let to_is = c.as_str-3.ensures.value ∙ c.write_whole.ensures.bytes ∙ c.as_str.ensures in
    whole_ready _ _ _ c.as_str-2.ensures.value c.requires.holds c.requires.is_ready c.requires.without_fault c.requires.part c.requires.holds.small _ to_is
    (g.F.Folder.world c.move_synced.new.folder) c.move_synced.ensures.kept c.move_synced.ensures.moved (λ t. c.in_ok-move_synced.ensures.done t) c.swap.new.x c.swap.new.y (ap string_bytes c.swap.ensures.x_after ∙ sym c.as_str-3.ensures.value)
