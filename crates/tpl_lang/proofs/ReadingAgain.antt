-- A template that is spelled so is accepted.
use Rattle.std.proofs.Common.{◌≡◌, ℕ, false, List, [], ◌++◌, length, take, drop, Result, Ok, refl, sym, ap, ◌∙◌, append-nil, inl, inr}
use Rattle.std.specs.Prelude.{codes}
use Rattle.std.specs.List.{prefix_len}
use Rattle.read_base.specs.Reads.{◌>>=◌, placed, is_at, all_at}
use Rattle.tpl_lang.specs.declared.tpl_kind.TplKind.{TplKind}
use Rattle.tpl_lang.specs.declared.template.Part.{Part}
use Rattle.tpl_lang.specs.declared.template.Part.TheVariants as parts
use Rattle.tpl_lang.specs.Reading.{is_plain, percent_at, part_at, is_left, whole_at, fault_at, template_of}
use Rattle.tpl_lang.specs.Spelled.{IsPart, IsSpelled}
use Rattle.tpl_lang.specs.Fields.{FieldView}
use Rattle.tpl_lang.proofs.ReadingSpells.{part_some}
use Rattle.read_base.proofs.StepLemmas.{run_len}
use Rattle.tpl_lang.proofs.AgainLemmas.{AgainSo, taken, cond_no, third_of_three, run_no_mark, cut_is, all_again}
use Rattle.tpl_lang.proofs.FieldAgain.{field_again}

abbrev plain_cut : ℕ → List ℕ → Result (Part × List ℕ) (TplKind × ℕ)
plain_cut n t = Ok (parts.Literal (take n t), drop n t)

plain_is : (n : ℕ) (s r : List ℕ) → length s ≡ n → plain_cut n (s ++ r) ≡ taken (parts.Literal s) r
plain_is n s r e = ap (λ (q : List ℕ × List ℕ). taken (parts.Literal q.0) q.1) (cut_is s r n e)

sign_alone : (r : List ℕ) → is_at 40 r ≡ false → is_at 37 r ≡ false → percent_at r ≡ taken (parts.Literal (codes "%")) r
unfolding percent_at
sign_alone r h k = third_of_three (is_at 40 r) (is_at 37 r) _ _ _ h k

abbrev fielded : Result (FieldView × List ℕ) (TplKind × ℕ) → Result (Part × List ℕ) (TplKind × ℕ)
fielded z = z >>= λ field. Ok (parts.Field field.0, field.1)

part_again : AgainSo part_at IsPart
unfolding part_at percent_at
part_again s r (parts.Literal run) h = elim h [
  | inl a ↦
      let n = prefix_len is_plain (s ++ r) in
      let len : n ≡ length s = run_len is_plain s r a.1.0 a.1.1 in
      cond_no (is_at 37 (s ++ r)) (percent_at (drop 1 (s ++ r))) (plain_cut n (s ++ r)) (run_no_mark is_plain 37 s r refl a.0 a.1.0) ∙ plain_is n s r (sym len) ∙ ap (λ (l : List ℕ). taken (parts.Literal l) r) (sym a.1.2)
  | inr b ↦ elim b [
    | inl c ↦ ap (λ (l : List ℕ). part_at (l ++ r)) c.0 ∙ ap (λ (l : List ℕ). taken (parts.Literal l) r) (sym c.1)
    | inr d ↦ ap (λ (l : List ℕ). part_at (l ++ r)) d.2 ∙ sign_alone r d.1 d.0 ∙ ap (λ (l : List ℕ). taken (parts.Literal l) r) (sym d.3)
  ]
]
part_again s r (parts.Field field) h = ap (λ (l : List ℕ). part_at (l ++ r)) h.2 ∙ ap fielded (field_again h.0 r field h.1)

abbrev whole_of : Result (List Part × List ℕ) (TplKind × ℕ) → Result (List Part) (TplKind × ℕ)
whole_of z = z >>= λ parts. Ok parts.0

whole_again : (t : List ℕ) (xs : List Part) → IsSpelled t xs → whole_at t ≡ Ok xs
unfolding whole_at
whole_again t xs h =
    let all = all_again is_left part_at IsPart part_some part_again t [] xs h in
    ap whole_of (ap (all_at is_left part_at) (sym (append-nil t)) ∙ all)

-- what is spelled so is accepted
pub template_again : (t : List ℕ) (xs : List Part) → IsSpelled t xs → template_of t ≡ Ok xs
template_again t xs h = ap (placed fault_at t) (whole_again t xs h)
