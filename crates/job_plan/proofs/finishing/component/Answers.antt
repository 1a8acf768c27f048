use Rattle.std.proofs.Common.{List, map, subst, sym, Vec, Global}
use Rattle.std.specs.Prelude.{All, IfSome, Option}
use Rattle.std.proofs.lemmas.List.Elements.{All-nil}
use Rattle.link_http.specs.declared.piece.Piece.{Piece as HeldPiece}
use Rattle.job_pieces.specs.Kept.{IsKept}
use Rattle.job_pieces.specs.Component.{Piece}
use Rattle.job_pieces.specs.Views.{plain_piece}
use Rattle.job_plan.proofs.EntryLemmas.{all_as_seen}
use Rattle.job_plan.proofs.finishing.component.Goals.{in-Some, in-None}
use Rattle.job_plan.proofs.finishing.component.Goals as goal

pub returns-clause-kept : goal.returns-clause-kept
returns-clause-kept c =
    elim c.match-branch-2.branch [
      | in-Some w ↦ subst (λ (v : Vec HeldPiece Global). All (λ (p : Piece). IsKept p.url) (map plain_piece v.items)) (sym w.pieces-is)
          (all_as_seen plain_piece (λ (p : Piece). IsKept p.url) w.in-Some.pieces.items
          (subst (λ (o : Option (Vec HeldPiece Global)). IfSome o (λ v. All (λ (p : HeldPiece). IsKept p.url) v.items)) w.in-Some.is c.in_ok-pieces.ensures.kept))
      | in-None w ↦ subst (λ (v : Vec HeldPiece Global). All (λ (p : Piece). IsKept p.url) (map plain_piece v.items)) (sym w.pieces-is)
          (subst (λ (l : List HeldPiece). All (λ (p : Piece). IsKept p.url) (map plain_piece l)) (sym w.new-pieces.ensures.items) (All-nil (λ (p : Piece). IsKept p.url)))
    ]
