use Rattle.std.proofs.Common.{◌≡◌, ℕ, List, map, take, length, refl, sym, ◌∙◌, ap, subst, arith}
use Rattle.std.proofs.lemmas.List.{length-map}
use Rattle.folder_base.specs.Disk.{Name}
use Rattle.folder_base.specs.Parts.{AreApart}
use Rattle.component_turn.specs.Component.{name_of, count_of}
use Rattle.component_turn.specs.Crew.{MayFail, Fetches, FetchesNone}
use Rattle.component_turn.specs.Plan.{stems_from}
use Rattle.component_turn.proofs.CrewLemmas.{gather_asks, parts_folders}
use Rattle.component_turn.proofs.FetchLemmas.{lent_of, memory_fails, fan_fails, are_apart, keeps_same, sound_same, crew_keeps, crews_none, crews, if_ok, if_err}
use Rattle.component_turn.proofs.StemLemmas.{stems_many}
use Rattle.component_turn.proofs.pieces.fetch_pieces.Goals as goal

-- The stems are those of the component's pieces.
stems_are : {stems : List Name} (one other : Name) (count many : ℕ) → stems ≡ stems_from one 0 count → one ≡ other → count ≡ many → stems ≡ stems_from other 0 many
stems_are one other count many is same equal = is ∙ (λ i. stems_from (same i) 0 (equal i))

-- ---- there was no room
pub returns-in_default-clause-keeps : goal.returns-in_default-clause-keeps
returns-in_default-clause-keeps g c t = keeps_same c.args.component.now (g.F.Folder.world c.args.folder.now) (g.F.Folder.world c.args.folder.now) refl

pub returns-in_default-clause-refused : goal.returns-in_default-clause-refused
returns-in_default-clause-refused g c = record {
  why = memory_fails refl;
  sound = λ t web. sound_same c.args.component.now web (g.F.Folder.world c.args.folder.now) (g.F.Folder.world c.args.folder.now) refl;
}

-- ---- `fan`
pub fan-requires-clause-apart : goal.fan-requires-clause-apart
fan-requires-clause-apart g c =
    subst AreApart (sym (stems_are c.as_str.result.now (name_of c.args.component.now) c.len.result (count_of c.args.component.now) c.in-Ok.ensures c.as_str.ensures.value (omega (arith, c.len.ensures, c.args.component.now.pieces.ok.0))))
    (are_apart c.args.component.now)

pub returns-in-Err-clause-keeps : goal.returns-in-Err-clause-keeps
returns-in-Err-clause-keeps g c t = keeps_same c.args.component.now (g.F.Folder.world c.args.folder.now) (g.F.Folder.world c.fan.new.self) (c.in-Err.ensures.refused.story t)

pub returns-in-Err-clause-refused : goal.returns-in-Err-clause-refused
returns-in-Err-clause-refused g c = record {
  why = subst (MayFail (g.F.Folder.world c.args.folder.now) (g.F.Folder.world c.fan.new.self)) (sym c.store_fault.ensures) (fan_fails c.fan.result c.in-Err.fault c.in-Err.is c.fan.ensures.cause);
  sound = λ t web. sound_same c.args.component.now web (g.F.Folder.world c.args.folder.now) (g.F.Folder.world c.fan.new.self) (c.in-Err.ensures.refused.story t);
}

-- ---- the parts go out
pub fetch_parts-back-requires-clause-many : goal.fetch_parts-back-requires-clause-many
fetch_parts-back-requires-clause-many g c κs within = (
  omega (arith, c.in-Ok-fan.ensures.begun.one_each, length-map c.in-Ok-fan.parts.items g.F.Folder.world),
  omega (arith, c.in-Ok-fan.ensures.begun.one_each, length-map c.in-Ok-fan.parts.items g.F.Folder.world, ap length c.in-Ok.ensures, stems_many c.as_str.result.now 0 c.len.result, c.len.ensures, c.args.component.now.pieces.ok.0),
)

pub fetch_parts-back-requires-clause-folders : goal.fetch_parts-back-requires-clause-folders
fetch_parts-back-requires-clause-folders g c κs within =
    parts_folders (g.F.Folder.world c.args.folder.now) c.in-Ok.room.stems.items (map g.F.Folder.world c.in-Ok-fan.parts.items) c.in-Ok-fan.ensures.begun
    (λ t. (c.in-Ok-fan.ensures.told (c.fan.ensures.cause.still_tells t)).handed)

-- ---- and come back
pub gather-requires : goal.gather-requires
gather-requires g c t =
    gather_asks g.F.Folder.world (g.F.Folder.world c.args.folder.now) (g.F.Folder.world c.fan.new.self) c.in-Ok.room.stems.items c.in-Ok-fan.parts.items c.fetch_parts-back.result.back.items
    (c.in-Ok-fan.ensures.told t) c.fetch_parts-back.ensures.back

pub returns-clause-keeps : goal.returns-clause-keeps
returns-clause-keeps g c t = crew_keeps c.args.component.now (g.F.Folder.world c.args.folder.now) (g.F.Folder.world c.fan.new.self) (g.F.Folder.world c.gather.new.self) (map g.F.Folder.world c.in-Ok-fan.parts.items) (map g.F.Folder.world c.fetch_parts-back.result.back.items)
    (lent_of (stems_are c.as_str.result.now (name_of c.args.component.now) c.len.result (count_of c.args.component.now) c.in-Ok.ensures c.as_str.ensures.value (omega (arith, c.len.ensures, c.args.component.now.pieces.ok.0)))
    c.fan.ensures.cause c.in-Ok-fan.ensures.begun c.in-Ok-fan.ensures.told c.gather.ensures.kept c.gather.ensures.told c.fetch_parts-back.ensures.back) t

pub returns-clause-fetched : goal.returns-clause-fetched
returns-clause-fetched g c = if_ok c.fetch_parts-back.result.ends c.fetch_parts-back.ensures.fetched (λ ends fetches.
    crews c.args.component.now (g.F.Folder.world c.args.folder.now) (g.F.Folder.world c.fan.new.self) (g.F.Folder.world c.gather.new.self) (map g.F.Folder.world c.in-Ok-fan.parts.items) (map g.F.Folder.world c.fetch_parts-back.result.back.items)
    (lent_of (stems_are c.as_str.result.now (name_of c.args.component.now) c.len.result (count_of c.args.component.now) c.in-Ok.ensures c.as_str.ensures.value (omega (arith, c.len.ensures, c.args.component.now.pieces.ok.0)))
    c.fan.ensures.cause c.in-Ok-fan.ensures.begun c.in-Ok-fan.ensures.told c.gather.ensures.kept c.gather.ensures.told c.fetch_parts-back.ensures.back)
    g.D.Dialer.wire c.args.retries ends.items (take c.args.workers c.args.dialers.now.items) (take c.args.workers c.fetch_parts-back.new.dialers.items)
    (subst (λ (names : List Name). Fetches {D = g.row.D.Denot} g.D.Dialer.wire names c.args.component.now.pieces.items c.args.retries (map g.F.Folder.world c.in-Ok-fan.parts.items) (map g.F.Folder.world c.fetch_parts-back.result.back.items) ends.items (take c.args.workers c.args.dialers.now.items) (take c.args.workers c.fetch_parts-back.new.dialers.items))
    (stems_are c.as_str.result.now (name_of c.args.component.now) c.len.result (count_of c.args.component.now) c.in-Ok.ensures c.as_str.ensures.value (omega (arith, c.len.ensures, c.args.component.now.pieces.ok.0))) fetches))

pub returns-clause-refused : goal.returns-clause-refused
returns-clause-refused g c = if_err c.fetch_parts-back.result.ends c.fetch_parts-back.ensures.refused (λ fault none.
    crews_none c.args.component.now (g.F.Folder.world c.args.folder.now) (g.F.Folder.world c.fan.new.self) (g.F.Folder.world c.gather.new.self) (map g.F.Folder.world c.in-Ok-fan.parts.items) (map g.F.Folder.world c.fetch_parts-back.result.back.items)
    (lent_of (stems_are c.as_str.result.now (name_of c.args.component.now) c.len.result (count_of c.args.component.now) c.in-Ok.ensures c.as_str.ensures.value (omega (arith, c.len.ensures, c.args.component.now.pieces.ok.0)))
    c.fan.ensures.cause c.in-Ok-fan.ensures.begun c.in-Ok-fan.ensures.told c.gather.ensures.kept c.gather.ensures.told c.fetch_parts-back.ensures.back) fault
    (subst (λ (names : List Name). FetchesNone names (map g.F.Folder.world c.in-Ok-fan.parts.items) (map g.F.Folder.world c.fetch_parts-back.result.back.items) fault)
    (stems_are c.as_str.result.now (name_of c.args.component.now) c.len.result (count_of c.args.component.now) c.in-Ok.ensures c.as_str.ensures.value (omega (arith, c.len.ensures, c.args.component.now.pieces.ok.0))) none))
