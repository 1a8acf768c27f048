use Rattle.std.proofs.Common.{◌≡◌, ◌∙◌, rules, refl, ap, true, None, is_some}
use Rattle.std.specs.BTreeMap.{get_by_text}
use Rattle.folder_base.specs.Disk.{removed, put}
use Rattle.folder_base.specs.Steps.{is_there}
use Rattle.folder_base.specs.declared.step.Step.TheVariants.{Removed}
use Rattle.folder_base.proofs.Stepping.{done_so, some_true}
use Rattle.folder_base.proofs.steps.remove_step.Goals as goal

pub returns : goal.returns
returns c =
    let stood : is_some (get_by_text c.args.files.now c.args.name.now) ≡ true = search rules in
    done_so (is_there c.args.name.now) (removed c.args.name.now) c.args.steps.now.items c.push.new.self.items c.args.files.now c.remove_file.new.files (c.remove_file.result)
    (Removed c.in_ok-new.field-0) (ap removed c.in_ok-new.ensures) c.in_ok-push.ensures.items (λ m. put m c.args.name.now None) (λ d. refl) c.remove_file.ensures.names (some_true c.args.files.now c.args.name.now stood) (c.remove_file.ensures.stood ∙ some_true c.args.files.now c.args.name.now stood)
