use Rattle.std.proofs.Common.{◌≡◌, ℕ, ◌+◌, ◌++◌, ◌∷◌, [], List, length, sym, ◌∙◌, ap, arith}
use Rattle.folder_base.specs.Disk.{Name}
use Rattle.plan_record.specs.Names.{stem_of}
use Rattle.component_turn.specs.Plan.{stems_from}
use Rattle.component_turn.proofs.StemLemmas.{stems_more, stems_many}
use Rattle.component_turn.proofs.stems.stems.Goals as goal

pub push_reserved-requires : goal.push_reserved-requires
push_reserved-requires c = omega (arith, ap length c.loop-piece.invariant.made, stems_many c.args.component.now 0 c.loop-piece.piece, c.loop-piece.invariant.room)

pub loop-piece-preserved : goal.loop-piece-preserved
loop-piece-preserved c = record {
  made = c.push_reserved.ensures.items ∙ ap (λ (l : List Name). l ++ c.in_ok-new.field-0 ∷ []) c.loop-piece.invariant.made
      ∙ ap (λ (n : Name). stems_from c.args.component.now 0 c.loop-piece.piece ++ n ∷ []) (c.in_ok-new.ensures ∙ c.as_str.ensures.value ∙ c.write_stem.ensures.bytes)
      ∙ ap (λ (n : ℕ). stems_from c.args.component.now 0 c.loop-piece.piece ++ stem_of c.args.component.now n ∷ []) (let e : c.loop-piece.piece ≡ 0 + c.loop-piece.piece = omega arith in e)
      ∙ sym (stems_more c.args.component.now 0 c.loop-piece.piece);
  room = omega (arith, c.loop-piece.invariant.room, c.push_reserved.ensures.capacity);
  name_room = c.write_stem.ensures.room;
}
