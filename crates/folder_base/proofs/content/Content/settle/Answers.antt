use Rattle.folder_base.specs.Disk.{settled}
use Rattle.folder_base.specs.Steps.{is_any}
use Rattle.folder_base.proofs.Contents.{content_done}
use Rattle.folder_base.proofs.content.Content.settle.Goals as goal
use Rattle.std.proofs.Common.{refl}

pub returns : goal.returns
returns c =
    content_done (is_any) (settled) c.settle.result c.args.self.now c.merge.new.self _ c.merge.ensures.same c.merge.ensures.plan c.in_ok-merge.ensures.merged.empty refl c.settle.ensures
