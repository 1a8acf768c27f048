use Rattle.std.proofs.Common.{refl, true}
use Rattle.folder_base.specs.Disk.{settled}
use Rattle.folder_base.specs.Steps.{is_any}
use Rattle.folder_base.specs.declared.step.Step.TheVariants.{Settled}
use Rattle.folder_base.proofs.Stepping.{done_so}
use Rattle.folder_base.proofs.steps.settle_step.Goals as goal

pub returns : goal.returns
returns c =
    done_so is_any settled c.args.steps.now.items c.push.new.self.items c.args.files.now c.args.files.now true
    Settled refl c.in_ok-push.ensures.items (λ m. m) (λ d. refl) refl refl refl
