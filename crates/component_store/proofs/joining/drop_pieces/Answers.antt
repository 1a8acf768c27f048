use Rattle.std.proofs.Common.{◌≡◌, ◌∙◌, ap, sym, subst, refl, arith, ◌+◌, ◌≤◌, length, ℕ, suc}
use Rattle.std.specs.Prelude.{string_bytes, IsSome}
use Rattle.std.specs.String.{string_capacity}
use Rattle.folder_base.specs.Disk.{Name, begins}
use Rattle.keep_store.specs.TookLaws.{stays_both, stays_none}
use Rattle.folder_steps.proofs.RemovalLemmas.{unchanged}
use Rattle.plan_record.specs.Names.{stem_of, pieces_of}
use Rattle.component_store.proofs.JoinLemmas.{IsGone, one_gone, still_stands, piece_step}
use Rattle.std.proofs.lemmas.Result.{err_from_is_err_and}
use Rattle.folder_steps.proofs.RefusalLemmas.{err_later}
use Rattle.component_store.proofs.joining.drop_pieces.Goals as goal

pub loop-piece-init : goal.loop-piece-init
loop-piece-init g c = record {
  kept = stays_none (g.F.Folder.world c.args.folder.now);
  calm = refl;
  room = c.requires.room;
  gone = λ t n. refl;
  moments = λ t. unchanged (begins (pieces_of (string_bytes c.args.target.now.name))) refl;
}

pub drop_standing-requires-clause-stands : goal.drop_standing-requires-clause-stands
drop_standing-requires-clause-stands g c t =
    let C = string_bytes c.args.target.now.name in
    let is_stem = c.as_str-in-loop-piece.ensures.value ∙ c.write_stem.ensures.bytes ∙ ap (λ (n : Name). stem_of n c.loop-piece.piece) c.as_str.ensures.value in
    subst (λ (n : Name). IsSome ((g.F.Folder.world c.loop-piece.folder).story.now.live n)) (sym is_stem)
    (still_stands C c.loop-piece.piece c.args.target.now.count (g.F.Folder.world c.args.folder.now).story.now.live (g.F.Folder.world c.loop-piece.folder).story.now.live (omega arith) (omega arith) (c.requires.complete (c.loop-piece.invariant.kept.tells t)) (c.loop-piece.invariant.gone t))

pub loop-piece-preserved : goal.loop-piece-preserved
loop-piece-preserved g c =
    let C = string_bytes c.args.target.now.name in
    let is_stem = c.as_str-in-loop-piece.ensures.value ∙ c.write_stem.ensures.bytes ∙ ap (λ (n : Name). stem_of n c.loop-piece.piece) c.as_str.ensures.value in
    let next : suc c.loop-piece.piece ≡ c.loop-piece.piece + 1 = omega arith in
    record {
      kept = stays_both c.loop-piece.invariant.kept c.drop_standing.ensures.kept;
      calm = c.in_ok-drop_standing.ensures.blames.calm ∙ c.loop-piece.invariant.calm;
      room = subst (λ (n : Name). length n + 52 ≤ string_capacity c.write_stem.new.name) c.as_str.ensures.value c.write_stem.ensures.room;
      gone = λ t. subst (λ (k : ℕ). IsGone C k (g.F.Folder.world c.args.folder.now).story.now.live (g.F.Folder.world c.drop_standing.new.folder).story.now.live) next (one_gone C c.loop-piece.piece (g.F.Folder.world c.args.folder.now).story.now.live (g.F.Folder.world c.loop-piece.folder).story.now.live (g.F.Folder.world c.drop_standing.new.folder).story.now.live is_stem (c.loop-piece.invariant.gone (c.drop_standing.ensures.kept.tells t)) (c.in_ok-drop_standing.ensures.gone t));
      moments = λ t. piece_step C c.loop-piece.piece is_stem (c.loop-piece.invariant.moments (c.drop_standing.ensures.kept.tells t)) (c.drop_standing.ensures.moments t);
    }

pub returns-in_err-drop_standing-clause-moments : goal.returns-in_err-drop_standing-clause-moments
returns-in_err-drop_standing-clause-moments g c t =
    let C = string_bytes c.args.target.now.name in
    let is_stem = c.as_str-in-loop-piece.ensures.value ∙ c.write_stem.ensures.bytes ∙ ap (λ (n : Name). stem_of n c.loop-piece.piece) c.as_str.ensures.value in
    piece_step C c.loop-piece.piece is_stem (c.loop-piece.invariant.moments (c.drop_standing.ensures.kept.tells t)) (c.drop_standing.ensures.moments t)

pub returns-in_err-drop_standing-clause-blames : goal.returns-in_err-drop_standing-clause-blames
returns-in_err-drop_standing-clause-blames g c =
    let p = err_from_is_err_and c.from_residual.result c.from_residual.ensures.1 in
    rw (p.1, p.2) (err_later c.loop-piece.invariant.kept c.loop-piece.invariant.calm c.in_err-drop_standing.ensures.blames)
