-- A settled fault of a template stays.
use Rattle.std.proofs.Common.{◌≡◌, ℕ, ◌+◌, ◌-◌, true, false, cond, List, [], ◌∷◌, ◌++◌, length, take, drop, Ok, Err, refl, sym, ap, subst, ◌∙◌, arith}
use Rattle.std.specs.List.{prefix_len}
use Rattle.read_base.specs.Reads.{◌>>=◌, is_at, all_at}
use Rattle.tpl_lang.specs.declared.tpl_kind.TplKind.{TplKind}
use Rattle.tpl_lang.specs.declared.template.Part.{Part}
use Rattle.tpl_lang.specs.declared.template.Part.TheVariants as parts
use Rattle.tpl_lang.specs.FieldReading.{field_at}
use Rattle.tpl_lang.specs.Reading.{is_plain, percent_at, part_at, is_left, whole_at}
use Rattle.tpl_lang.specs.Spelled.{IsPart}
use Rattle.tpl_lang.proofs.ReadingSpells.{part_some, part_spells}
use Rattle.std.specs.Prelude.{codes}
use Rattle.std.specs.List.{prefix_len}
use Rattle.read_base.specs.Reads.{◌>>=◌, is_at, all_at}
use Rattle.read_base.proofs.LocalLemmas.{pure_local, cond_local, drop_local, then_local, all_local, is_at_near, head_near}
use Rattle.read_base.specs.Laws.{Within, Moved}
use Rattle.tpl_lang.specs.Places.{settling}
use Rattle.tpl_lang.proofs.StayLemmas.{Stays, Near_here, Twins, total_local}
use Rattle.tpl_lang.specs.Places.{is_free, is_settled}
use Rattle.tpl_lang.proofs.OpenLemmas.{Reading, takes_some}
use Rattle.tpl_lang.proofs.ReadingOpen.{whole_of, err_of}
use Rattle.tpl_lang.proofs.FieldStays.{field_local}

percent_local : Stays percent_at
unfolding percent_at
percent_local = cond_local settling (is_at 40) (λ t. field_at (drop 1 t) >>= λ field. Ok (parts.Field field.0, field.1)) (λ t. cond (is_at 37 t) (Ok (parts.Literal (codes "%"), drop 1 t)) (Ok (parts.Literal (codes "%"), t))) (is_at_near settling 40)
    (drop_local settling 1 (λ t. field_at t >>= λ field. Ok (parts.Field field.0, field.1)) (then_local settling field_at (λ field r. Ok (parts.Field field, r)) field_local (λ field. pure_local settling (parts.Field field))))
    (cond_local settling (is_at 37) (λ t. Ok (parts.Literal (codes "%"), drop 1 t)) (λ t. Ok (parts.Literal (codes "%"), t)) (is_at_near settling 37) (drop_local settling 1 (λ t. Ok (parts.Literal (codes "%"), t)) (pure_local settling (parts.Literal (codes "%")))) (pure_local settling (parts.Literal (codes "%"))))

part_local : Stays part_at
unfolding part_at
part_local = cond_local settling (is_at 37) (λ t. percent_at (drop 1 t)) (λ t. Ok (parts.Literal (take (prefix_len is_plain t) t), drop (prefix_len is_plain t) t)) (is_at_near settling 37) (drop_local settling 1 percent_at percent_local) (total_local is_plain (λ x. parts.Literal x))

left_near : Near_here is_left
left_near = head_near settling false is_left refl (λ b r r'. refl)

parts_local : Stays (all_at is_left part_at)
parts_local = all_local settling is_left part_at refl (takes_some is_left part_at IsPart part_some part_spells) left_near part_local

twins_of : (a b e : ℕ) (rest more : List ℕ) → is_free a ≡ true → Twins (a ∷ b ∷ e ∷ rest) (a ∷ b ∷ e ∷ more)
twins_of a b e rest more h = record { a = a; w = b ∷ e ∷ []; u = rest; v = more; one = refl; other = refl; wide = omega arith; solid = h }

-- a settled fault stays, whatever follows the three bytes that settle it
pub fault_stays : (front : List ℕ) (a b e : ℕ) (rest more : List ℕ) (kind : TplKind) → is_free a ≡ true → is_settled kind ≡ true → whole_at (front ++ a ∷ b ∷ e ∷ rest) ≡ Err (kind, length (a ∷ b ∷ e ∷ rest)) → whole_at (front ++ a ∷ b ∷ e ∷ more) ≡ Err (kind, length (a ∷ b ∷ e ∷ more))
unfolding whole_at
fault_stays front a b e rest more kind free settled h =
    let c = a ∷ b ∷ e ∷ rest in
    let d = a ∷ b ∷ e ∷ more in
    let fails : all_at is_left part_at (front ++ c) ≡ Err (kind, length c) = err_of (all_at is_left part_at (front ++ c)) (kind, length c) h in
    let within : Within settling c (all_at is_left part_at (front ++ c)) = subst (Within settling c) (sym fails) (settled, omega arith) in
    let moved : Moved c d (Err (kind, length c)) (all_at is_left part_at (front ++ d)) = subst (λ (z : Reading (List Part)). Moved c d z (all_at is_left part_at (front ++ d))) fails (parts_local.moves front c d (twins_of a b e rest more free) within) in
    let place : length c - length c + length d ≡ length d = omega arith in
    ap whole_of (moved ∙ ap (λ (n : ℕ). Err (kind, n)) place)
