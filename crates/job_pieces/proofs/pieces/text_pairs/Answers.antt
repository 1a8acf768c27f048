use Rattle.std.proofs.Common.{◌≡◌, [], ◌∷◌, ◌++◌, map, ap, ◌∙◌}
use Rattle.std.proofs.lemmas.List.{map_push}
use Rattle.info_tree.specs.Plain.{plain}
use Rattle.link_http.specs.declared.header.Header.{Header}
use Rattle.job_pieces.specs.Component.{Text}
use Rattle.job_pieces.proofs.PieceLemmas.{pairs_put, pairs_passed}
use Rattle.job_pieces.proofs.pieces.text_pairs.Goals as goal
use Rattle.job_pieces.proofs.pieces.text_pairs.Goals.{in-Some+in_ok-new+in_ok-new-2+in_ok-push, in_default}

pub loop-place-preserved : goal.loop-place-preserved
loop-place-preserved c =
    let name : Text = c.pair_at.result.0.now in
    let value = plain c.pair_at.result.1.now in
    let fields : Header → Text × Text = λ h. (h.name, h.value) in
    elim c.match-as_text.branch [
      | in-Some+in_ok-new+in_ok-new-2+in_ok-push w ↦
          let field : (w.in_ok-new.field-0, w.in_ok-new-2.field-0) ≡ (name, w.in-Some.value.now) =
          ap (λ (t : Text). (t, w.in_ok-new-2.field-0)) w.in_ok-new.ensures ∙ ap (λ (t : Text). (name, t)) w.in_ok-new-2.ensures in
          pairs_put c.args.pairs.now c.loop-place.place name w.in-Some.value.now value (map fields c.loop-place.headers.items) (map fields c.match-as_text.headers.items)
          c.pair_at.ensures w.in-Some.ensures c.loop-place.invariant
          (ap (λ v. map fields v.items) w.headers-is ∙ ap (map fields) w.in_ok-push.ensures.items ∙ map_push fields c.loop-place.headers.items _
          ∙ ap (λ (p : Text × Text). map fields c.loop-place.headers.items ++ p ∷ []) field)
      | in_default w ↦
          ap (λ v. map fields v.items) w.headers-is ∙ pairs_passed c.args.pairs.now c.loop-place.place name value (map fields c.loop-place.headers.items) c.pair_at.ensures w.in_default.ensures c.loop-place.invariant
    ]
