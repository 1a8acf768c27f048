-- A template that is cut where its fault stands has no fault before its end.
use Rattle.std.proofs.Common.{◌≡◌, ℕ, ◌-◌, ◌≤◌, cond, List, ◌++◌, length, take, drop, Option, Some, Result, Ok, Err, refl, sym, ap, subst, ◌∙◌, arith, inl, inr}
use Rattle.std.specs.Prelude.{codes}
use Rattle.std.specs.List.{prefix_len}
use Rattle.std.proofs.lemmas.List.{length-append}
use Rattle.read_base.specs.Reads.{◌>>=◌, Or, placed, is_at, all_at}
use Rattle.read_base.proofs.OpensLemmas.{placed_err}
use Rattle.tpl_lang.specs.declared.tpl_kind.TplKind.{TplKind}
use Rattle.tpl_lang.specs.declared.tpl_kind.TplKind.TheVariants as kinds
use Rattle.tpl_lang.specs.declared.fault.TplFault.{TplFault}
use Rattle.tpl_lang.specs.declared.template.Part.{Part}
use Rattle.tpl_lang.specs.declared.template.Part.TheVariants as parts
use Rattle.tpl_lang.specs.FieldReading.{field_at}
use Rattle.tpl_lang.specs.Reading.{is_plain, percent_at, part_at, is_left, whole_at, fault_at, template_of}
use Rattle.tpl_lang.specs.Spelled.{IsPart}
use Rattle.tpl_lang.specs.Places.{place_of, IsOpen}
use Rattle.tpl_lang.proofs.ReadingSpells.{part_some, part_spells}
use Rattle.tpl_lang.proofs.FieldOpen.{field_cuts}
use Rattle.tpl_lang.proofs.OpenLemmas.{Reading, AtEnd, Less, CutsTo, Cuts, pure_cuts, drop_cuts, Head, cond_cuts, at_head, then_cuts, cut_run, run_cuts, all_cuts, takes_some}

percent_cuts : Cuts percent_at
unfolding percent_at
percent_cuts = cond_cuts (is_at 40) (λ t. field_at (drop 1 t) >>= λ field. Ok (parts.Field field.0, field.1)) (λ t. cond (is_at 37 t) (Ok (parts.Literal (codes "%"), drop 1 t)) (Ok (parts.Literal (codes "%"), t))) (at_head 40)
    (drop_cuts (λ t. field_at t >>= λ field. Ok (parts.Field field.0, field.1)) (then_cuts field_at (λ field r. Ok (parts.Field field, r)) field_cuts (λ field. pure_cuts (parts.Field field))))
    (cond_cuts (is_at 37) (λ t. Ok (parts.Literal (codes "%"), drop 1 t)) (λ t. Ok (parts.Literal (codes "%"), t)) (at_head 37) (drop_cuts (λ t. Ok (parts.Literal (codes "%"), t)) (pure_cuts (parts.Literal (codes "%")))) (pure_cuts (parts.Literal (codes "%"))))

part_cuts : Cuts part_at
unfolding part_at
part_cuts = cond_cuts (is_at 37) (λ t. percent_at (drop 1 t)) (λ t. Ok (parts.Literal (take (prefix_len is_plain t) t), drop (prefix_len is_plain t) t)) (at_head 37) (drop_cuts percent_at percent_cuts)
    (then_cuts (λ t. cut_run (prefix_len is_plain t) t) (λ run r. Ok (parts.Literal run, r)) (run_cuts is_plain) (λ run. pure_cuts (parts.Literal run)))

left_head : Head is_left
left_head b r r' = refl

parts_cuts : Cuts (all_at is_left part_at)
parts_cuts = all_cuts is_left part_at refl (takes_some is_left part_at IsPart part_some part_spells) left_head part_cuts

place_is : (k : TplKind) (n : ℕ) → place_of (fault_at k n) ≡ Some n
place_is kinds.Syntax n = refl
place_is kinds.Brace n = refl
place_is kinds.Step n = refl
place_is kinds.TypeLetter n = refl
place_is kinds.Directive n = refl

some_is : (n m : ℕ) → ◌≡◌ {A = Option ℕ} (Some n) (Some m) → n ≡ m
some_is n m e = cc

abbrev pub whole_of : Reading (List Part) → Or TplKind (List Part)
whole_of z = z >>= λ parts. Ok parts.0

abbrev failed : TplKind × ℕ → Reading (List Part)
failed d = Err d

abbrev placed_at : List ℕ → Or TplKind (List Part) → Result (List Part) TplFault
placed_at t z = placed fault_at t z

open_by : (t : List ℕ) (z : Reading (List Part)) → all_at is_left part_at t ≡ z → AtEnd z → IsOpen t
unfolding whole_at
open_by t (Ok p) e end = inl (p.0, ap (λ (z : Reading (List Part)). placed_at t (whole_of z)) e)
open_by t (Err d) e end =
    let here : length t - d.1 ≡ length t = omega (arith, end) in
    inr (fault_at d.0 (length t - d.1), ap (λ (z : Reading (List Part)). placed_at t (whole_of z)) e, place_is d.0 (length t - d.1) ∙ ap (λ (n : ℕ). Some n) here)

left_by : (front rest : List ℕ) (d : ℕ) → d ≤ length (front ++ rest) → length (front ++ rest) - d ≡ length front → d ≡ length rest
left_by front rest d le e = omega (arith, le, e, length-append front rest)

pub err_of : (z : Reading (List Part)) (d : TplKind × ℕ) → whole_of z ≡ Err d → z ≡ Err d
err_of (Ok p) d e = absurd cc
err_of (Err c) d e = cc

-- the text before the place of a fault is accepted, or its fault stands at its end
pub front_open : (front rest : List ℕ) (fault : TplFault) → template_of (front ++ rest) ≡ Err fault → place_of fault ≡ Some (length front) → IsOpen front
unfolding whole_at
front_open front rest fault e h =
    let t = front ++ rest in
    let d = placed_err fault_at t (whole_at t) fault e in
    let place : length t - d.0.1 ≡ length front = some_is (length t - d.0.1) (length front) (sym (place_is d.0.0 (length t - d.0.1)) ∙ ap place_of d.2 ∙ h) in
    let fails : all_at is_left part_at t ≡ Err d.0 = err_of (all_at is_left part_at t) d.0 d.1 in
    let less : Less t (failed d.0) = subst (Less t) fails (parts_cuts.less t) in
    let cut : CutsTo rest (failed d.0) (all_at is_left part_at front) = subst (λ (z : Reading (List Part)). CutsTo rest z (all_at is_left part_at front)) fails (parts_cuts.cuts front rest) in
    open_by front (all_at is_left part_at front) refl (cut (left_by front rest d.0.1 less place))
