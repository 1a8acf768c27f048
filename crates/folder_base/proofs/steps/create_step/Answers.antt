use Rattle.std.proofs.Common.{◌≡◌, rules, refl, ap, true, false, Some, is_some}
use Rattle.std.specs.BTreeMap.{get_by_text}
use Rattle.folder_base.specs.Disk.{created, put, empty_file}
use Rattle.folder_base.specs.Steps.{is_free}
use Rattle.folder_base.specs.declared.step.Step.TheVariants.{Created}
use Rattle.folder_base.proofs.Stepping.{done_so, none_true}
use Rattle.folder_base.proofs.steps.create_step.Goals as goal

pub returns-in-Ok : goal.returns-in-Ok
returns-in-Ok c =
    let free : is_some (get_by_text c.args.files.now c.args.name.now) ≡ false = search rules in
    done_so (is_free c.args.name.now) (created c.args.name.now) c.args.steps.now.items c.push.new.self.items c.args.files.now c.create_file.new.files true
    (Created c.in_ok-new.field-0) (ap created c.in_ok-new.ensures) c.in_ok-push.ensures.items (λ m. put m c.args.name.now (Some empty_file)) (λ d. refl)
    c.in-Ok.ensures.names (none_true c.args.files.now c.args.name.now free) refl
