use Rattle.folder_base.specs.Disk.{removed}
use Rattle.folder_base.specs.Steps.{is_there}
use Rattle.folder_base.proofs.Contents.{line_owns_it, content_done}
use Rattle.folder_base.proofs.content.Content.remove.Goals as goal
use Rattle.std.proofs.Common.{refl}

pub remove-requires : goal.remove-requires
remove-requires c = line_owns_it c.args.self.now c.merge.new.self c.args.name.now c.merge.ensures.same c.in_ok-merge.ensures.merged.empty c.requires

pub returns : goal.returns
returns c =
    content_done (is_there c.args.name.now) (removed c.args.name.now) c.remove.result c.args.self.now c.merge.new.self _ c.merge.ensures.same c.merge.ensures.plan c.in_ok-merge.ensures.merged.empty refl c.remove.ensures
