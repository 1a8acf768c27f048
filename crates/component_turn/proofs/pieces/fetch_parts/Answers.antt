use Rattle.std.proofs.Common.{inl, inr, ◌++◌, map, take, length, refl, ◌∙◌, ap, arith}
use Rattle.folder_base.specs.declared.store_fault.StoreFault.TheVariants.{OutOfMemory}
use Rattle.keep_store.specs.Seen.{lane_seen}
use Rattle.component_turn.proofs.PartLemmas.{count, all_tried, behind, behind_many, alone, idle_retained, idle_none, are_ready, parts_retained, parts_fetched}
use Rattle.component_turn.proofs.pieces.fetch_parts.Goals as goal

-- ---- a lane was refused
pub close_all-requires : goal.close_all-requires
close_all-requires g c =
    omega (
      arith,
      c.requires.many.0,
      ap length c.args.room.none.2,
      c.args.room.back_room,
      count g.F.Folder.world (lane_seen {folder = g.F.Folder}) c.args.room.stems.items c.args.parts.items c.open_all.new.left.items c.open_all.new.lanes.items c.open_all.ensures.tried,
    )

pub put_all-requires : goal.put_all-requires
put_all-requires g c =
    omega (
      arith,
      c.requires.many.0,
      c.args.room.back_room,
      c.close_all.ensures.room,
      behind_many g.F.Folder.world (lane_seen {folder = g.F.Folder}) c.args.room.stems.items c.args.parts.items c.open_all.new.left.items c.open_all.new.lanes.items c.open_all.ensures.tried
          c.args.room.back.items c.close_all.new.back.items c.args.room.none.2 c.close_all.ensures.folders,
    )

pub returns-in-Some-clause-back : goal.returns-in-Some-clause-back
returns-in-Some-clause-back g c =
    idle_retained g.F.Folder.world (lane_seen {folder = g.F.Folder}) c.args.room.stems.items c.args.parts.items c.open_all.new.left.items c.open_all.new.lanes.items c.open_all.ensures.tried
    (map g.F.Folder.world c.put_all.new.back.items)
    (behind g.F.Folder.world (lane_seen {folder = g.F.Folder}) c.args.room.stems.items c.args.parts.items c.open_all.new.left.items c.open_all.new.lanes.items c.open_all.ensures.tried
    c.args.room.back.items c.close_all.new.back.items c.put_all.new.back.items c.args.room.none.2 c.close_all.ensures.folders c.put_all.ensures)

pub returns-in-Some-clause-refused : goal.returns-in-Some-clause-refused
returns-in-Some-clause-refused g c =
    idle_none g.F.Folder.world (lane_seen {folder = g.F.Folder}) c.args.room.stems.items c.args.parts.items c.open_all.new.left.items c.open_all.new.lanes.items c.open_all.ensures.tried
    (map g.F.Folder.world c.put_all.new.back.items)
    (behind g.F.Folder.world (lane_seen {folder = g.F.Folder}) c.args.room.stems.items c.args.parts.items c.open_all.new.left.items c.open_all.new.lanes.items c.open_all.ensures.tried
    c.args.room.back.items c.close_all.new.back.items c.put_all.new.back.items c.args.room.none.2 c.close_all.ensures.folders c.put_all.ensures)
    c.in-Some.fault (inr c.in-Some.ensures.why)

-- ---- the crew
pub fetch_all-requires-clause-pieces : goal.fetch_all-requires-clause-pieces
fetch_all-requires-clause-pieces g c κs within =
    let all = count g.F.Folder.world (lane_seen {folder = g.F.Folder}) c.args.room.stems.items c.args.parts.items c.open_all.new.left.items c.open_all.new.lanes.items c.open_all.ensures.tried in (
      omega (arith, all, ap length c.in_default.ensures.all, c.requires.many.1, c.open_all.new.lanes.ok.0),
      omega (arith, all, ap length c.in_default.ensures.all, c.requires.many.1, c.open_all.new.lanes.ok.0, c.requires.few, c.requires.workers.1),
    )

pub fetch_all-requires-clause-ready : goal.fetch_all-requires-clause-ready
fetch_all-requires-clause-ready g c κs within =
    are_ready c.args.room.stems.items (map g.F.Folder.world c.args.parts.items) c.open_all.new.lanes.items
    (all_tried g.F.Folder.world (lane_seen {folder = g.F.Folder}) c.args.room.stems.items c.args.parts.items c.open_all.new.left.items c.open_all.new.lanes.items c.open_all.ensures.tried c.in_default.ensures.all)

pub close_all-requires-in-Ok : goal.close_all-requires-in-Ok
close_all-requires-in-Ok g c =
    omega (
      arith,
      c.requires.many.0,
      ap length c.args.room.none.2,
      c.args.room.back_room,
      c.in-Ok.ensures.fetched.many.0,
      count g.F.Folder.world (lane_seen {folder = g.F.Folder}) c.args.room.stems.items c.args.parts.items c.open_all.new.left.items c.open_all.new.lanes.items c.open_all.ensures.tried,
    )

pub returns-in-Ok-clause-back : goal.returns-in-Ok-clause-back
returns-in-Ok-clause-back g c =
    parts_retained {folder = g.F.Folder} g.D.Dialer.wire g.F.Folder.world c.args.room.stems.items c.args.parts.items c.open_all.new.left.items c.args.pieces.now.items c.args.retries c.open_all.new.lanes.items
    c.in-Ok.field-0.lanes.items c.in-Ok.field-0.ends.items (take c.args.workers c.args.dialers.now.items) (take c.args.workers c.fetch_all.new.dialers.items) c.args.room.back.items c.close_all-in-Ok.new.back.items
    c.open_all.ensures.tried c.in_default.ensures.all c.args.room.none.2 c.close_all-in-Ok.ensures.folders c.in-Ok.ensures.fetched

pub returns-in-Ok-clause-fetched : goal.returns-in-Ok-clause-fetched
returns-in-Ok-clause-fetched g c =
    parts_fetched {folder = g.F.Folder} g.D.Dialer.wire g.F.Folder.world c.args.room.stems.items c.args.parts.items c.open_all.new.left.items c.args.pieces.now.items c.args.retries c.open_all.new.lanes.items
    c.in-Ok.field-0.lanes.items c.in-Ok.field-0.ends.items (take c.args.workers c.args.dialers.now.items) (take c.args.workers c.fetch_all.new.dialers.items) c.args.room.back.items c.close_all-in-Ok.new.back.items
    c.open_all.ensures.tried c.in_default.ensures.all c.args.room.none.2 c.close_all-in-Ok.ensures.folders c.in-Ok.ensures.fetched
    c.requires.many.0 (omega (arith, c.requires.many.1, c.args.pieces.now.ok.0))

-- ---- the crew had no memory
pub close_all-requires-in-Err : goal.close_all-requires-in-Err
close_all-requires-in-Err g c =
    omega (
      arith,
      c.requires.many.0,
      ap length c.args.room.none.2,
      c.args.room.back_room,
      ap length c.in-Err.ensures.refused,
      count g.F.Folder.world (lane_seen {folder = g.F.Folder}) c.args.room.stems.items c.args.parts.items c.open_all.new.left.items c.open_all.new.lanes.items c.open_all.ensures.tried,
    )

pub returns-clause-back : goal.returns-clause-back
returns-clause-back g c =
    idle_retained g.F.Folder.world (lane_seen {folder = g.F.Folder}) c.args.room.stems.items c.args.parts.items c.open_all.new.left.items c.open_all.new.lanes.items c.open_all.ensures.tried
    (map g.F.Folder.world c.close_all-in-Err.new.back.items)
    (alone g.F.Folder.world (lane_seen {folder = g.F.Folder}) c.args.room.stems.items c.args.parts.items c.open_all.new.left.items c.open_all.new.lanes.items c.open_all.ensures.tried
    c.args.room.back.items c.close_all-in-Err.new.back.items c.args.room.none.2
    (c.close_all-in-Err.ensures.folders ∙ ap (λ lanes. map g.F.Folder.world c.args.room.back.items ++ map (λ lane. (lane_seen {folder = g.F.Folder} lane).world) lanes) c.in-Err.ensures.refused)
    c.in_default.ensures.all)

pub returns-clause-refused : goal.returns-clause-refused
returns-clause-refused g c =
    idle_none g.F.Folder.world (lane_seen {folder = g.F.Folder}) c.args.room.stems.items c.args.parts.items c.open_all.new.left.items c.open_all.new.lanes.items c.open_all.ensures.tried
    (map g.F.Folder.world c.close_all-in-Err.new.back.items)
    (alone g.F.Folder.world (lane_seen {folder = g.F.Folder}) c.args.room.stems.items c.args.parts.items c.open_all.new.left.items c.open_all.new.lanes.items c.open_all.ensures.tried
    c.args.room.back.items c.close_all-in-Err.new.back.items c.args.room.none.2
    (c.close_all-in-Err.ensures.folders ∙ ap (λ lanes. map g.F.Folder.world c.args.room.back.items ++ map (λ lane. (lane_seen {folder = g.F.Folder} lane).world) lanes) c.in-Err.ensures.refused)
    c.in_default.ensures.all)
    OutOfMemory (inl refl)
