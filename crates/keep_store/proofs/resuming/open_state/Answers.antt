use Rattle.std.proofs.Common.{◌≡◌, ◌+◌, ◌≤◌, ◌∙◌, IsTrue, sym, ap, subst, List, length, String, string_bytes}
use Rattle.std.specs.String.{string_capacity}
use Rattle.std.specs.declared.alloc.Global.{Global}
use Rattle.std.proofs.lemmas.Result.{err_from_is_err_and}
use Rattle.folder_base.specs.Disk.{Name}
use Rattle.folder_base.specs.Names.{Lists}
use Rattle.folder_base.specs.Story.{Story}
use Rattle.folder_base.specs.declared.store_fault.StoreFault.{StoreFault}
use Rattle.keep_store.specs.Promise.{promise_prefix}
use Rattle.keep_store.specs.Opening.{OwnsPromises, AllStand, Finds, found_name, Removes, Secures}
use Rattle.keep_store.specs.Opens.{KeepsPromise, NotOpened}
use Rattle.keep_store.specs.Lane.{IsLaneFolder}
use Rattle.keep_store.specs.State.{seen}
use Rattle.keep_store.specs.TookLaws.{stays_both, refusal_later}
use Rattle.keep_store.specs.declared.lane_state.LaneState.{LaneState}
use Rattle.keep_store.proofs.Naming.{owns_after, folder_after}
use Rattle.keep_store.proofs.Resumed.{all_stand, keeps_secured, opens, is_lane, stays_asked, opens_asked, none_opened, names_refused, later_refused, others_removed}
use Rattle.keep_store.proofs.resuming.open_state.Goals as goal

pub returns-in_default-clause-refused : goal.returns-in_default-clause-refused
returns-in_default-clause-refused g c = none_opened c.args.stem.now (g.F.Folder.world c.args.folder.now)

pub returns-in_default-new_state-clause-refused : goal.returns-in_default-new_state-clause-refused
returns-in_default-new_state-clause-refused g c = none_opened c.args.stem.now (g.F.Folder.world c.args.folder.now)

pub returns-in-Err-clause-refused : goal.returns-in-Err-clause-refused
returns-in-Err-clause-refused g c =
    subst (λ (f : StoreFault). NotOpened c.args.stem.now (g.F.Folder.world c.args.folder.now) (g.F.Folder.world c.names.new.self) f) (sym c.store_fault.ensures)
    (names_refused c.args.stem.now (g.F.Folder.world c.args.folder.now) (g.F.Folder.world c.names.new.self) c.in-Err.fault c.names.result c.in-Err.is c.names.ensures.cause c.names.ensures.same)

pub returns-in_err-find_piece-clause-refused : goal.returns-in_err-find_piece-clause-refused
returns-in_err-find_piece-clause-refused g c =
    let p = err_from_is_err_and c.from_residual.result c.from_residual.ensures.1 in
    rw (p.1, p.2) (later_refused c.args.stem.now c.in-Ok-new_state.state.stem (g.F.Folder.world c.args.folder.now) (g.F.Folder.world c.names.new.self) (g.F.Folder.world c.find_piece.new.folder) _
    c.in-Ok-new_state.ensures.piece (stays_asked c.names.ensures.cause c.names.ensures.same) c.names.ensures.same.story c.find_piece.ensures.kept c.in_err-find_piece.ensures.refused c.find_piece.ensures.moments c.find_piece.ensures.others)

pub remove_others-requires-clause-own : goal.remove_others-requires-clause-own
remove_others-requires-clause-own g c =
    subst (λ (p : Name). OwnsPromises p (g.F.Folder.world c.find_piece.new.folder)) (sym (c.as_str-3.ensures.value ∙ c.in-Ok.ensures))
    (owns_after c.args.stem.now (g.F.Folder.world c.args.folder.now) (g.F.Folder.world c.find_piece.new.folder) (stays_both (stays_asked c.names.ensures.cause c.names.ensures.same) c.find_piece.ensures.kept) c.requires)

pub remove_others-requires-clause-stand : goal.remove_others-requires-clause-stand
remove_others-requires-clause-stand g c t =
    let t1 = c.find_piece.ensures.kept.tells t in
    let listed = subst (λ (s : Story). Lists c.as_str.result.now s.now.live c.in-Ok-names.names.items) (sym (c.names.ensures.same.story t1)) (c.in-Ok-names.ensures.told t1) in
    subst (λ (l : List Name). AllStand (g.F.Folder.world c.find_piece.new.folder).story.now.live l) (sym c.deref-2.ensures.value)
    (all_stand c.in-Ok-new_state.state.stem c.as_str.result.now (string_bytes c.find_piece.new.state.current) c.find_piece.new.state.complete c.find_piece.new.state.size
    (g.F.Folder.world c.names.new.self).story (g.F.Folder.world c.find_piece.new.folder).story c.in-Ok-names.names.items listed (c.in_ok-find_piece.ensures.found t))

pub returns-in_err-remove_others-clause-refused : goal.returns-in_err-remove_others-clause-refused
returns-in_err-remove_others-clause-refused g c =
    let p = err_from_is_err_and c.from_residual-in_err-remove_others.result c.from_residual-in_err-remove_others.ensures.1 in
    rw (p.1, p.2) (later_refused c.args.stem.now c.in-Ok-new_state.state.stem (g.F.Folder.world c.args.folder.now) (g.F.Folder.world c.names.new.self) (g.F.Folder.world c.remove_others.new.folder) _
    c.in-Ok-new_state.ensures.piece (stays_asked c.names.ensures.cause c.names.ensures.same) c.names.ensures.same.story (stays_both c.find_piece.ensures.kept c.remove_others.ensures.kept)
    (refusal_later c.find_piece.ensures.kept c.in_err-remove_others.ensures.refused)
    (λ t. let t2 = c.remove_others.ensures.kept.tells t in keeps_secured c.in-Ok-new_state.state.stem (string_bytes c.find_piece.new.state.current) c.find_piece.new.state.complete c.find_piece.new.state.size
    (g.F.Folder.world c.names.new.self).story (g.F.Folder.world c.find_piece.new.folder).story (g.F.Folder.world c.remove_others.new.folder).story (c.in_ok-find_piece.ensures.found t2)
    (subst (λ (n : Name). Secures n (g.F.Folder.world c.find_piece.new.folder).story (g.F.Folder.world c.remove_others.new.folder).story) c.as_str-4.ensures.value (c.remove_others.ensures.secured t)) (c.find_piece.ensures.moments t2))
    (λ t. others_removed c.in-Ok-new_state.state.stem c.as_str-3.result.now c.as_str-4.result.now (g.F.Folder.world c.names.new.self) (g.F.Folder.world c.find_piece.new.folder) (g.F.Folder.world c.remove_others.new.folder)
    (c.as_str-3.ensures.value ∙ c.in-Ok.ensures ∙ ap (λ (n : Name). promise_prefix n) (sym c.in-Ok-new_state.ensures.piece)) (c.find_piece.ensures.others (c.remove_others.ensures.kept.tells t)) (c.remove_others.ensures.others t)))

pub returns : goal.returns
returns g c =
    let was = c.in-Ok-new_state.state in
    let state = c.find_piece.new.state in
    let same : state ≡ record was { current = state.current; size = state.size; promised = state.promised; complete = state.complete } = c.find_piece.ensures.same in
    let mid = g.F.Folder.world c.names.new.self in
    let found = g.F.Folder.world c.find_piece.new.folder in
    let new = g.F.Folder.world c.remove_others.new.folder in
    let asked = stays_asked c.names.ensures.cause c.names.ensures.same in
    let same_stem : was.stem ≡ state.stem = sym (ap (λ (s : LaneState). s.stem) same) in
    let named : state.stem ≡ c.args.stem.now = sym same_stem ∙ c.in-Ok-new_state.ensures.piece in
    let prefix_is = c.as_str-3.ensures.value ∙ c.in-Ok.ensures ∙ ap (λ (n : Name). promise_prefix n) (sym named) in
    let name_is = c.in_ok-find_piece.ensures.named ∙ ap (λ (n : Name). found_name n state.complete state.size) same_stem in
    let listed = λ (t : IsTrue new.tells). subst (λ (p : Name). Lists p mid.story.now.live c.deref-2.result.now) (c.as_str.ensures.value ∙ sym c.as_str-3.ensures.value)
    (subst (λ (l : List Name). Lists c.as_str.result.now mid.story.now.live l) (sym c.deref-2.ensures.value)
    (subst (λ (s : Story). Lists c.as_str.result.now s.now.live c.in-Ok-names.names.items) (sym (c.names.ensures.same.story (c.find_piece.ensures.kept.tells (c.remove_others.ensures.kept.tells t))))
    (c.in-Ok-names.ensures.told (c.find_piece.ensures.kept.tells (c.remove_others.ensures.kept.tells t))))) in
    let finds = λ (t : IsTrue new.tells). subst (λ (n : Name). Finds n (string_bytes state.current) state.complete state.size mid.story found.story) same_stem (c.in_ok-find_piece.ensures.found (c.remove_others.ensures.kept.tells t)) in
    let removes = λ (t : IsTrue new.tells). subst (λ (n : Name). Removes c.as_str-3.result.now n c.deref-2.result.now (length c.deref-2.result.now) found.story.now new.story.now) c.as_str-4.ensures.value (c.in_ok-remove_others.ensures.removed t) in
    let secures = λ (t : IsTrue new.tells). subst (λ (n : Name). Secures n found.story new.story) c.as_str-4.ensures.value (c.remove_others.ensures.secured t) in
    let keeps = λ (t : IsTrue new.tells). subst (λ (n : Name). KeepsPromise n mid.story found.story) same_stem (c.find_piece.ensures.moments (c.remove_others.ensures.kept.tells t)) in
    let no_fault = ap (λ (s : LaneState). s.fault) same ∙ c.in-Ok-new_state.ensures.ready in
    let stays = stays_both c.find_piece.ensures.kept c.remove_others.ensures.kept in
    let room = subst (λ (n : Name). length n + 22 ≤ string_capacity state.current) same_stem c.find_piece.ensures.room in
    let next_is : was.next ≡ state.next = sym (ap (λ (s : LaneState). s.next) same) in
    let next_room = subst (λ (n : String Global). length state.stem + 22 ≤ string_capacity n) next_is (subst (λ (n : Name). length n + 22 ≤ string_capacity was.next) (sym named) c.in-Ok-new_state.ensures.next_room) in
    record {
      opened = opens_asked (g.F.Folder.world c.args.folder.now) mid c.args.number c.args.stem.now (seen new state) asked c.names.ensures.same.story
          (opens mid new found.story state c.as_str-3.result.now c.deref-2.result.now prefix_is name_is c.in_ok-find_piece.ensures.sizes.0 c.in_ok-find_piece.ensures.sizes.1 no_fault stays listed finds removes secures keeps
          c.args.number c.args.stem.now (ap (λ (s : LaneState). s.number) same ∙ c.in-Ok-new_state.ensures.number) named);
      lane = is_lane mid new found.story state c.as_str-3.result.now c.deref-2.result.now prefix_is name_is c.in_ok-find_piece.ensures.sizes.0 c.in_ok-find_piece.ensures.sizes.1 no_fault stays listed finds removes secures keeps
          room next_room (λ t. folder_after state.stem (g.F.Folder.world c.args.folder.now) mid asked (subst (λ (n : Name). IsLaneFolder n (g.F.Folder.world c.args.folder.now)) (sym named) (c.requires (asked.tells t))));
      refused = tt;
    }
