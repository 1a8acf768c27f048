use Rattle.std.proofs.Common.{[], ◌∷◌, ◌++◌, map, length, List, sym, ◌∙◌, ap, arith, length-append, append_assoc}
use Rattle.std.proofs.lemmas.List.{map-append}
use Rattle.folder_base.specs.Story.{World}
use Rattle.keep_store.specs.Seen.{lane_seen}
use Rattle.component_turn.proofs.TriedLemmas.{rest_next}
use Rattle.component_turn.proofs.lanes.close_all.Goals as goal

pub push_reserved-requires : goal.push_reserved-requires
push_reserved-requires g c = omega (arith, c.loop-lane.invariant.room, ap length c.in-Some.ensures.steps.0)

pub loop-lane-preserved : goal.loop-lane-preserved
loop-lane-preserved g c = record {
  made = ap (map g.F.Folder.world) c.push_reserved.ensures.items ∙ map-append g.F.Folder.world c.loop-lane.back.items (c.into_folder.result ∷ [])
      ∙ (λ i. c.loop-lane.invariant.made i ++ c.into_folder.ensures i ∷ [])
      ∙ append_assoc (map g.F.Folder.world c.args.back.now.items) (map (λ lane. (lane_seen {folder = g.F.Folder} lane).world) c.loop-lane.yielded) ((lane_seen {folder = g.F.Folder} c.in-Some.lane).world ∷ [])
      ∙ ap (λ (l : List World). map g.F.Folder.world c.args.back.now.items ++ l) (sym (map-append (λ lane. (lane_seen {folder = g.F.Folder} lane).world) c.loop-lane.yielded (c.in-Some.lane ∷ [])));
  rest = rest_next c.loop-lane.yielded c.in-Some.lane _ _ _ c.loop-lane.invariant.rest c.in-Some.ensures.steps.0;
  kept = c.push_reserved.ensures.capacity ∙ c.loop-lane.invariant.kept;
  room = omega (arith, ap length c.push_reserved.ensures.items, length-append c.loop-lane.back.items (c.into_folder.result ∷ []), ap length c.in-Some.ensures.steps.0, c.loop-lane.invariant.room, c.push_reserved.ensures.capacity);
}
