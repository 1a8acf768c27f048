use Rattle.std.proofs.Common.{◌≡◌, ◌++◌, ◌∷◌, List, ℕ, ap, subst, ◌∙◌, arith}
use Rattle.std.specs.Prelude.{IfOk}
use Rattle.std.proofs.lemmas.Str.{len_utf8_ascii}
use Rattle.field_text.specs.Frame.{first_chars}
use Rattle.job_names.proofs.NamingLemmas.{cut_behind, cut_whole}
use Rattle.job_names.proofs.naming.cut.Goals as goal

pub returns-in_default : goal.returns-in_default
returns-in_default c =
    subst (λ (t : List ℕ). IfOk c.first_chars.result (λ made. made ≡ t)) (cut_whole c.args.count c.args.name.now c.in_default.ensures.cases) c.first_chars.ensures

pub returns : goal.returns
returns c =
    let h = c.in-Some.ensures.cases in
    let last : c.as_str.result.now ≡ first_chars c.args.count c.in-Some.last.now = c.as_str.ensures ∙ c.in_ok-last.ensures in
    subst (λ (t : List ℕ). IfOk c.name_in.result (λ made. made ≡ t))
    (ap (λ (l : List ℕ). c.in-Some.folder.now ++ 47 ∷ l) last
    ∙ cut_behind c.args.count c.args.name.now c.in-Some.folder.now c.in-Some.last.now h.0 h.1 (omega (arith, h.2.1.ends, len_utf8_ascii 47 (omega arith))) (omega (arith, h.7))
    (h.2.1.byte (omega arith)) h.2.0 h.3 h.4)
    c.name_in.ensures
