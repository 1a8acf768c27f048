use Rattle.std.proofs.Common.{◌≡◌, ◌∙◌, rules, refl, ap, true, is_some}
use Rattle.std.specs.BTreeMap.{get_by_text}
use Rattle.folder_base.specs.Disk.{Name, cut_to, shorter}
use Rattle.folder_base.specs.Files.{changed_name}
use Rattle.folder_base.specs.Steps.{is_there}
use Rattle.folder_base.specs.declared.step.Step.TheVariants.{Cut}
use Rattle.folder_base.proofs.Stepping.{done_so, some_true}
use Rattle.folder_base.proofs.steps.cut_step.Goals as goal

pub returns : goal.returns
returns c =
    let stood : is_some (get_by_text c.args.files.now c.args.name.now) ≡ true = search rules in
    done_so (is_there c.args.name.now) (cut_to c.args.name.now c.args.len) c.args.steps.now.items c.push.new.self.items c.args.files.now c.cut_file.new.files (c.cut_file.result)
    (Cut c.in_ok-new.field-0 c.args.len) (ap (λ (m : Name). cut_to m c.args.len) c.in_ok-new.ensures) c.in_ok-push.ensures.items (changed_name c.args.name.now (shorter c.args.len)) (λ d. refl) c.cut_file.ensures.names (some_true c.args.files.now c.args.name.now stood) (c.cut_file.ensures.stood ∙ some_true c.args.files.now c.args.name.now stood)
