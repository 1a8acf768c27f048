use Rattle.std.proofs.Common.{◌≡◌, List, [], map, ap, subst, unwrap_or}
use Rattle.std.specs.Prelude.{IfOk}
use Rattle.job_pieces.specs.Component.{Text}
use Rattle.job_pieces.specs.Pieces.{text_pairs}
use Rattle.job_pieces.proofs.pieces.headers_of.Goals as goal

pub returns-in-Some : goal.returns-in-Some
returns-in-Some c =
    subst (λ (l : List (Text × Text)). IfOk c.text_pairs.result (λ v. map (λ h. (h.name, h.value)) v.items ≡ l)) (ap (λ o. text_pairs (unwrap_or o [])) c.in-Some.ensures) c.text_pairs.ensures
