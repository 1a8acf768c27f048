use Rattle.std.proofs.Common.{◌≡◌, ◌∙◌, rules, refl, ap, true, is_some}
use Rattle.std.specs.BTreeMap.{get_by_text}
use Rattle.folder_base.specs.Disk.{synced, firm}
use Rattle.folder_base.specs.Files.{changed_name}
use Rattle.folder_base.specs.Steps.{is_there}
use Rattle.folder_base.specs.declared.step.Step.TheVariants.{Synced}
use Rattle.folder_base.proofs.Stepping.{done_so, some_true}
use Rattle.folder_base.proofs.steps.sync_step.Goals as goal

pub returns : goal.returns
returns c =
    let stood : is_some (get_by_text c.args.files.now c.args.name.now) ≡ true = search rules in
    done_so (is_there c.args.name.now) (synced c.args.name.now) c.args.steps.now.items c.push.new.self.items c.args.files.now c.sync_file.new.files (c.sync_file.result)
    (Synced c.in_ok-new.field-0) (ap synced c.in_ok-new.ensures) c.in_ok-push.ensures.items (changed_name c.args.name.now firm) (λ d. refl) c.sync_file.ensures.names (some_true c.args.files.now c.args.name.now stood) (c.sync_file.ensures.stood ∙ some_true c.args.files.now c.args.name.now stood)
