use Rattle.std.proofs.Common.{◌≡◌, inl, inr, ℕ, ◌<◌, [], ◌∷◌, ◌++◌, map, length, take, List, refl, sym, ◌∙◌, ap, subst, arith, length-append}
use Rattle.std.specs.Prelude.{Option, Some, None, IfNone, IfSome, slice_index_or, vec_capacity}
use Rattle.std.specs.Vec.Iter.{into_iter_items}
use Rattle.folder_base.specs.Disk.{Name}
use Rattle.folder_base.specs.declared.store_fault.StoreFault.{StoreFault}
use Rattle.keep_store.specs.Seen.{lane_seen}
use Rattle.component_turn.proofs.TriedLemmas.{rest_next, folder_next, tried_next, left_next, opens_as, refused_as, why_here, why_before}
use Rattle.component_turn.specs.Lanes.{WasRefused}
use Rattle.component_turn.proofs.lanes.open_all.Goals.{in-None-refusal+in-Ok, in-None-refusal+in-Err, in-Some-refusal}
use Rattle.component_turn.proofs.lanes.open_all.Goals as goal

none_left : {X : Type 0} (o : Option StoreFault) (left : List X) → IfNone o (left ≡ []) → o ≡ None → left ≡ []
none_left None left all is = all
none_left (Some fault) left all is = absurd (cc)

pub open-requires : goal.open-requires
open-requires g c =
    let world = g.F.Folder.world in
    let name : slice_index_or c.args.stems.now.items (length c.loop-part.yielded) c.index.result.now ≡ c.as_str.result.now =
    ap (λ (n : ℕ). slice_index_or c.args.stems.now.items n c.index.result.now) (sym c.loop-part.invariant.at) ∙ sym c.index.ensures ∙ sym c.as_str.ensures in
    λ t. subst (λ (s : Name). Rattle.keep_store.specs.Lane.IsLaneFolder s (world c.in-Some.part)) name
    (folder_next world (lane_seen {folder = g.F.Folder}) c.index.result.now c.args.stems.now.items c.loop-part.yielded c.in-Some.part _ _ c.args.parts.items
    c.requires.folders (c.loop-part.invariant.rest ∙ c.into_iter-part-iterator.ensures.into_iter_gives.0) c.in-Some.ensures.steps.0 t)

pub push_reserved-requires : goal.push_reserved-requires
push_reserved-requires g c = omega (arith, c.loop-part.invariant.many, c.loop-part.invariant.room, ap length c.in-Some.ensures.steps.0)

pub push_reserved-requires-in-Err : goal.push_reserved-requires-in-Err
push_reserved-requires-in-Err g c = omega (arith, c.loop-part.invariant.many, c.loop-part.invariant.left_room, ap length c.in-Some.ensures.steps.0)

pub push_reserved-requires-in-Some-refusal : goal.push_reserved-requires-in-Some-refusal
push_reserved-requires-in-Some-refusal g c = omega (arith, c.loop-part.invariant.many, c.loop-part.invariant.left_room, ap length c.in-Some.ensures.steps.0)

pub loop-part-preserved : goal.loop-part-preserved
loop-part-preserved g c =
    let lt : length c.loop-part.yielded < length c.args.stems.now.items = omega (
      arith,
      c.requires.many,
      ap length (c.loop-part.invariant.rest ∙ c.into_iter-part-iterator.ensures.into_iter_gives.0),
      length-append c.loop-part.yielded (into_iter_items c.loop-part.part-iterator),
      ap length c.in-Some.ensures.steps.0,
    ) in
    record {
      tried = elim c.match-refusal.branch [
        | in-None-refusal+in-Ok w ↦ tried_next g.F.Folder.world (lane_seen {folder = g.F.Folder}) w.index.result.now c.args.stems.now.items c.loop-part.yielded c.in-Some.part
            c.loop-part.lanes.items c.match-refusal.lanes.items _ c.loop-part.left.items c.match-refusal.left.items (ap (λ v. v.items) w.left-is) c.loop-part.invariant.tried
            (none_left c.loop-part.refusal c.loop-part.left.items c.loop-part.invariant.all w.in-None-refusal.is) lt
            (opens_as c.loop-part.invariant.at (w.as_str.ensures ∙ w.index.ensures ∙ ap (λ (n : ℕ). slice_index_or c.args.stems.now.items n w.index.result.now) c.loop-part.invariant.at) w.in-Ok.ensures.opened)
            (ap (λ v. v.items) w.lanes-is ∙ w.push_reserved.ensures.items)
        | in-None-refusal+in-Err w ↦ left_next g.F.Folder.world (lane_seen {folder = g.F.Folder}) w.index.result.now c.args.stems.now.items c.loop-part.yielded c.in-Some.part
            c.loop-part.lanes.items c.match-refusal.lanes.items c.loop-part.left.items c.match-refusal.left.items _ (ap (λ v. v.items) w.lanes-is) c.loop-part.invariant.tried lt
            (inl (_, refused_as (w.as_str.ensures ∙ w.index.ensures ∙ ap (λ (n : ℕ). slice_index_or c.args.stems.now.items n w.index.result.now) c.loop-part.invariant.at) w.in-Err.ensures.refused))
            (ap (λ v. v.items) w.left-is ∙ w.push_reserved-in-Err.ensures.items)
        | in-Some-refusal w ↦ left_next g.F.Folder.world (lane_seen {folder = g.F.Folder}) [] c.args.stems.now.items c.loop-part.yielded c.in-Some.part
            c.loop-part.lanes.items c.match-refusal.lanes.items c.loop-part.left.items c.match-refusal.left.items c.in-Some.part (ap (λ v. v.items) w.lanes-is) c.loop-part.invariant.tried lt
            (inr refl)
            (ap (λ v. v.items) w.left-is ∙ w.push_reserved-in-Some-refusal.ensures.items)
      ];
      why = elim c.match-refusal.branch [
        | in-None-refusal+in-Ok w ↦ subst (λ (o : Option StoreFault). IfSome o (λ fault. WasRefused fault (take (length (c.loop-part.yielded ++ c.in-Some.part ∷ [])) c.args.stems.now.items) (map g.F.Folder.world (c.loop-part.yielded ++ c.in-Some.part ∷ [])) (map (λ lane. (lane_seen {folder = g.F.Folder} lane).world) c.match-refusal.lanes.items ++ map g.F.Folder.world c.match-refusal.left.items))) (sym (w.refusal-is ∙ w.in-None-refusal.is)) tt
        | in-None-refusal+in-Err w ↦ subst (λ (o : Option StoreFault). IfSome o (λ fault. WasRefused fault (take (length (c.loop-part.yielded ++ c.in-Some.part ∷ [])) c.args.stems.now.items) (map g.F.Folder.world (c.loop-part.yielded ++ c.in-Some.part ∷ [])) (map (λ lane. (lane_seen {folder = g.F.Folder} lane).world) c.match-refusal.lanes.items ++ map g.F.Folder.world c.match-refusal.left.items))) (sym w.refusal-is)
            (why_here g.F.Folder.world (lane_seen {folder = g.F.Folder}) w.index.result.now c.args.stems.now.items c.loop-part.yielded c.in-Some.part c.loop-part.lanes.items c.match-refusal.lanes.items c.loop-part.left.items c.match-refusal.left.items w.in-Err.refused.folder
            (ap (λ v. v.items) w.lanes-is) (ap (λ v. v.items) w.left-is ∙ w.push_reserved-in-Err.ensures.items) lt w.in-Err.refused.fault c.loop-part.invariant.tried
            (refused_as (w.as_str.ensures ∙ w.index.ensures ∙ ap (λ (n : ℕ). slice_index_or c.args.stems.now.items n w.index.result.now) c.loop-part.invariant.at) w.in-Err.ensures.refused))
        | in-Some-refusal w ↦ subst (λ (o : Option StoreFault). IfSome o (λ fault. WasRefused fault (take (length (c.loop-part.yielded ++ c.in-Some.part ∷ [])) c.args.stems.now.items) (map g.F.Folder.world (c.loop-part.yielded ++ c.in-Some.part ∷ [])) (map (λ lane. (lane_seen {folder = g.F.Folder} lane).world) c.match-refusal.lanes.items ++ map g.F.Folder.world c.match-refusal.left.items))) (sym (w.refusal-is ∙ w.in-Some-refusal.is))
            (why_before g.F.Folder.world (lane_seen {folder = g.F.Folder}) [] c.args.stems.now.items c.loop-part.yielded c.in-Some.part c.loop-part.lanes.items c.match-refusal.lanes.items c.loop-part.left.items c.match-refusal.left.items c.in-Some.part
            (ap (λ v. v.items) w.lanes-is) (ap (λ v. v.items) w.left-is ∙ w.push_reserved-in-Some-refusal.ensures.items) lt _
            (subst (λ (o : Option StoreFault). IfSome o (λ fault. WasRefused fault (take (length c.loop-part.yielded) c.args.stems.now.items) (map g.F.Folder.world c.loop-part.yielded) (map (λ lane. (lane_seen {folder = g.F.Folder} lane).world) c.loop-part.lanes.items ++ map g.F.Folder.world c.loop-part.left.items))) w.in-Some-refusal.is c.loop-part.invariant.why))
      ];
      kept = elim c.match-refusal.branch [
        | in-None-refusal+in-Ok w ↦ ap vec_capacity w.left-is ∙ c.loop-part.invariant.kept
        | in-None-refusal+in-Err w ↦ ap vec_capacity w.left-is ∙ w.push_reserved-in-Err.ensures.capacity ∙ c.loop-part.invariant.kept
        | in-Some-refusal w ↦ ap vec_capacity w.left-is ∙ w.push_reserved-in-Some-refusal.ensures.capacity ∙ c.loop-part.invariant.kept
      ];
      all = elim c.match-refusal.branch [
        | in-None-refusal+in-Ok w ↦ subst (λ (o : Option StoreFault). IfNone o (c.match-refusal.left.items ≡ [])) (sym (w.refusal-is ∙ w.in-None-refusal.is))
            (ap (λ v. v.items) w.left-is ∙ none_left c.loop-part.refusal c.loop-part.left.items c.loop-part.invariant.all w.in-None-refusal.is)
        | in-None-refusal+in-Err w ↦ subst (λ (o : Option StoreFault). IfNone o (c.match-refusal.left.items ≡ [])) (sym w.refusal-is) tt
        | in-Some-refusal w ↦ subst (λ (o : Option StoreFault). IfNone o (c.match-refusal.left.items ≡ [])) (sym (w.refusal-is ∙ w.in-Some-refusal.is)) tt
      ];
      many = elim c.match-refusal.branch [
        | in-None-refusal+in-Ok w ↦ omega (arith, c.loop-part.invariant.many, ap (λ v. length v.items) w.lanes-is, ap length w.push_reserved.ensures.items, length-append c.loop-part.lanes.items (w.in-Ok.lane ∷ []), ap (λ v. length v.items) w.left-is, length-append c.loop-part.yielded (c.in-Some.part ∷ []))
        | in-None-refusal+in-Err w ↦ omega (arith, c.loop-part.invariant.many, ap (λ v. length v.items) w.lanes-is, ap length w.push_reserved-in-Err.ensures.items, length-append c.loop-part.left.items (w.in-Err.refused.folder ∷ []), ap (λ v. length v.items) w.left-is, length-append c.loop-part.yielded (c.in-Some.part ∷ []))
        | in-Some-refusal w ↦ omega (arith, c.loop-part.invariant.many, ap (λ v. length v.items) w.lanes-is, ap length w.push_reserved-in-Some-refusal.ensures.items, length-append c.loop-part.left.items (c.in-Some.part ∷ []), ap (λ v. length v.items) w.left-is, length-append c.loop-part.yielded (c.in-Some.part ∷ []))
      ];
      at = omega (arith, c.loop-part.invariant.at, length-append c.loop-part.yielded (c.in-Some.part ∷ []));
      rest = rest_next c.loop-part.yielded c.in-Some.part _ _ _ c.loop-part.invariant.rest c.in-Some.ensures.steps.0;
      room = elim c.match-refusal.branch [
        | in-None-refusal+in-Ok w ↦ omega (arith, c.loop-part.invariant.room, ap vec_capacity w.lanes-is, w.push_reserved.ensures.capacity, length-append c.loop-part.yielded (c.in-Some.part ∷ []), ap length c.in-Some.ensures.steps.0)
        | in-None-refusal+in-Err w ↦ omega (arith, c.loop-part.invariant.room, ap vec_capacity w.lanes-is, length-append c.loop-part.yielded (c.in-Some.part ∷ []), ap length c.in-Some.ensures.steps.0)
        | in-Some-refusal w ↦ omega (arith, c.loop-part.invariant.room, ap vec_capacity w.lanes-is, length-append c.loop-part.yielded (c.in-Some.part ∷ []), ap length c.in-Some.ensures.steps.0)
      ];
      left_room = elim c.match-refusal.branch [
        | in-None-refusal+in-Ok w ↦ omega (arith, c.loop-part.invariant.left_room, ap vec_capacity w.left-is, length-append c.loop-part.yielded (c.in-Some.part ∷ []), ap length c.in-Some.ensures.steps.0)
        | in-None-refusal+in-Err w ↦ omega (arith, c.loop-part.invariant.left_room, ap vec_capacity w.left-is, w.push_reserved-in-Err.ensures.capacity, length-append c.loop-part.yielded (c.in-Some.part ∷ []), ap length c.in-Some.ensures.steps.0)
        | in-Some-refusal w ↦ omega (arith, c.loop-part.invariant.left_room, ap vec_capacity w.left-is, w.push_reserved-in-Some-refusal.ensures.capacity, length-append c.loop-part.yielded (c.in-Some.part ∷ []), ap length c.in-Some.ensures.steps.0)
      ];
    }
