use Rattle.std.proofs.Common.{List, ℕ, ap, ◌∙◌, codes, nat_eq}
use Rattle.std.specs.List.{starts_with}
use Rattle.job_names.proofs.NamingLemmas.{piece_begins, piece_not_begun}
use Rattle.job_names.proofs.family.is_piece.Goals as goal

pub returns-in-Some : goal.returns-in-Some
returns-in-Some c =
    let h = c.in-Some.ensures.cases in
    c.starts_with.ensures.value ∙ ap (λ (t : List ℕ). starts_with nat_eq t (codes ".part-Frag")) c.as_bytes.ensures.value
    ∙ piece_begins c.args.component.now c.args.name.now _ h.0 h.1.1 h.2

pub returns-in-None : goal.returns-in-None
returns-in-None c = piece_not_begun c.args.component.now c.args.name.now c.in-None.ensures.cases
