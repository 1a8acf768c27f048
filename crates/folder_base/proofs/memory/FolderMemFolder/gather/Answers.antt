use Rattle.std.proofs.Common.{◌∙◌, ap}
use Rattle.folder_base.specs.Memory.{world_of, is_steady}
use Rattle.folder_base.specs.Plan.{plans_nothing}
use Rattle.folder_base.specs.Story.{World}
use Rattle.folder_base.proofs.Gathering.{roses_with}
use Rattle.folder_base.proofs.memory.FolderMemFolder.gather.Goals as goal

pub returns-clause-kept : goal.returns-clause-kept
returns-clause-kept c =
    let old = world_of c.args.self.now in
    let new = world_of c.count_back.new.self in
    let parts = c.args.parts.items in
    record {
      tells = λ e. e;
      still_tells = λ e. e;
      steady = λ e. ap is_steady c.count_back.ensures.same ∙ ap plans_nothing c.take_parts.ensures.plan ∙ e;
      faults = roses_with (λ (w : World). w.faults) parts old new c.have_faults-faulty.result c.have_faults-faulty.ensures c.count_back.ensures.faults c.count_back.ensures.later;
      refusals = roses_with (λ (w : World). w.refusals) parts old new c.have_refusals-refused.result c.have_refusals-refused.ensures c.count_back.ensures.refusals c.count_back.ensures.refused_later;
    }
