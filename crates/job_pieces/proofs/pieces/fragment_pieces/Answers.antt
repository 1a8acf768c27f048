use Rattle.std.proofs.Common.{◌≡◌, [], ◌∷◌, ◌++◌, map, Some, None, ap, sym, subst, ◌∙◌}
use Rattle.std.specs.Prelude.{All}
use Rattle.std.proofs.lemmas.List.{map_push}
use Rattle.std.proofs.lemmas.List.Elements.{All-push}
use Rattle.info_tree.specs.Plain.{plain}
use Rattle.link_http.specs.declared.piece.Piece.{Piece as HeldPiece}
use Rattle.job_pieces.specs.Component.{Piece}
use Rattle.job_pieces.specs.Pieces.{base_url, fragment_url, is_list_to_fetch, piece_of}
use Rattle.job_pieces.specs.Kept.{IsKept}
use Rattle.job_pieces.specs.Views.{plain_piece}
use Rattle.job_pieces.proofs.PieceLemmas.{pieces_next, pieces_none}
use Rattle.job_pieces.proofs.pieces.fragment_pieces.Goals as goal

pub returns-in_default-clause-pieces : goal.returns-in_default-clause-pieces
returns-in_default-clause-pieces c =
    let none : fragment_url (base_url (plain c.args.format.now)) (plain c.tree_at.result.now) ≡ None =
    sym (rw c.loop-place.invariant.base at c.in_ok-url.ensures.text) ∙ c.in_default.is in
    pieces_none (base_url (plain c.args.format.now)) (plain c.args.format.now) c.args.fragments.now c.loop-place.place (plain c.tree_at.result.now)
    (map plain_piece c.loop-place.pieces.items) (is_list_to_fetch c.args.fragments.now) c.tree_at.ensures none c.loop-place.invariant.pieces

pub loop-place-preserved : goal.loop-place-preserved
loop-place-preserved c =
    let url : fragment_url (base_url (plain c.args.format.now)) (plain c.tree_at.result.now) ≡ Some c.in-Some.url =
    sym (rw c.loop-place.invariant.base at c.in_ok-url.ensures.text) ∙ c.in-Some.is in
    let front = map plain_piece c.loop-place.pieces.items in
    let made : plain_piece c.in_ok-piece_of.field-0 ≡ piece_of (plain c.args.format.now) c.in-Some.url = c.in_ok-piece_of.ensures in
    let pushed : map plain_piece c.push.new.self.items ≡ front ++ piece_of (plain c.args.format.now) c.in-Some.url ∷ [] =
    ap (map plain_piece) c.in_ok-push.ensures.items ∙ map_push plain_piece c.loop-place.pieces.items c.in_ok-piece_of.field-0 ∙ ap (λ (p : Piece). front ++ p ∷ []) made in
    let kept_url : IsKept c.in-Some.url = rw c.in-Some.is at c.in_ok-url.ensures.kept in
    let kept : IsKept c.in_ok-piece_of.field-0.url = subst IsKept (sym (ap (λ (p : Piece). p.url) made)) kept_url in
    record {
      base = c.loop-place.invariant.base;
      pieces = pieces_next (base_url (plain c.args.format.now)) (plain c.args.format.now) c.args.fragments.now c.loop-place.place (plain c.tree_at.result.now) c.in-Some.url
          front (map plain_piece c.push.new.self.items) _ c.tree_at.ensures url pushed c.loop-place.invariant.pieces;
      kept = subst (All (λ (p : HeldPiece). IsKept p.url)) (sym c.in_ok-push.ensures.items)
          (All-push (λ (p : HeldPiece). IsKept p.url) c.loop-place.pieces.items c.in_ok-piece_of.field-0 c.loop-place.invariant.kept kept);
    }
