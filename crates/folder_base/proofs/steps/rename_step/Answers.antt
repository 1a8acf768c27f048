use Rattle.std.proofs.Common.{◌≡◌, ◌∙◌, rules, refl, true, false, is_some}
use Rattle.std.specs.BTreeMap.{get_by_text}
use Rattle.folder_base.specs.Disk.{renamed, renamed_names}
use Rattle.folder_base.specs.Steps.{is_there}
use Rattle.folder_base.specs.declared.step.Step.TheVariants.{Renamed}
use Rattle.folder_base.proofs.Stepping.{done_so, some_true, renamed_live, renamed_same}
use Rattle.folder_base.proofs.steps.rename_step.Goals as goal
use Rattle.std.specs.Prelude.{bytes_eq}

pub returns-then-eq : goal.returns-then-eq
returns-then-eq c =
    let stood : is_some (get_by_text c.args.files.now c.args.from.now) ≡ true = search rules in
    let same : bytes_eq c.args.from.now c.args.to.now ≡ true = search rules in
    done_so (is_there c.args.from.now) (renamed c.args.from.now c.args.to.now) c.args.steps.now.items c.push.new.self.items c.args.files.now c.args.files.now true
    (Renamed c.in_ok-new.field-0 c.in_ok-new-2.field-0) (λ i. renamed (c.in_ok-new.ensures i) (c.in_ok-new-2.ensures i)) c.in_ok-push.ensures.items
    (λ m. m) (renamed_same c.args.from.now c.args.to.now same) refl (some_true c.args.files.now c.args.from.now stood) refl

pub returns-in-Ok : goal.returns-in-Ok
returns-in-Ok c =
    let stood : is_some (get_by_text c.args.files.now c.args.from.now) ≡ true = search rules in
    let there = some_true c.args.files.now c.args.from.now stood in
    let apart : bytes_eq c.args.from.now c.args.to.now ≡ false = search rules in
    done_so (is_there c.args.from.now) (renamed c.args.from.now c.args.to.now) c.args.steps.now.items c.push.new.self.items c.args.files.now c.move_file.new.files true
    (Renamed c.in_ok-new.field-0 c.in_ok-new-2.field-0) (λ i. renamed (c.in_ok-new.ensures i) (c.in_ok-new-2.ensures i)) c.in_ok-push.ensures.items
    (renamed_names c.args.from.now c.args.to.now) (renamed_live c.args.from.now c.args.to.now apart) (c.in-Ok.ensures.names (c.in-Ok.ensures.stood ∙ there)) there refl
