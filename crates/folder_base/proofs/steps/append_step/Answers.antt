use Rattle.std.proofs.Common.{◌≡◌, rules, refl, true, is_some, arith}
use Rattle.std.proofs.lemmas.Grind.{common_steps}
use Rattle.std.specs.BTreeMap.{get_by_text}
use Rattle.folder_base.specs.Disk.{appended, longer}
use Rattle.folder_base.specs.Files.{changed_name}
use Rattle.folder_base.specs.Steps.{is_there}
use Rattle.folder_base.specs.declared.step.Step.TheVariants.{Appended}
use Rattle.folder_base.proofs.Stepping.{done_so, some_true}
use Rattle.folder_base.proofs.steps.append_step.Goals as goal

pub returns-in-Ok : goal.returns-in-Ok
returns-in-Ok c =
    let stood : is_some (get_by_text c.args.files.now c.args.name.now) ≡ true = search rules in
    let copied : c.in_ok-to_vec.field-0.items ≡ c.args.bytes.now = first_of (search rules, grind (arith, common_steps)) in
    done_so (is_there c.args.name.now) (appended c.args.name.now c.args.bytes.now) c.args.steps.now.items c.push.new.self.items c.args.files.now c.extend_file.new.files (true)
    (Appended c.in_ok-new.field-0 c.in_ok-to_vec.field-0) (λ i. appended (c.in_ok-new.ensures i) (copied i)) c.in_ok-push.ensures.items (changed_name c.args.name.now (longer c.args.bytes.now)) (λ d. refl) c.in-Ok.ensures.names (some_true c.args.files.now c.args.name.now stood) (refl)
