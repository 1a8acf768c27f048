use Rattle.folder_base.specs.Disk.{created}
use Rattle.folder_base.specs.Steps.{is_free}
use Rattle.folder_base.proofs.Contents.{line_owns_it, content_done}
use Rattle.folder_base.proofs.content.Content.create.Goals as goal
use Rattle.std.proofs.Common.{refl}

pub create-requires : goal.create-requires
create-requires c = line_owns_it c.args.self.now c.merge.new.self c.args.name.now c.merge.ensures.same c.in_ok-merge.ensures.merged.empty c.requires

pub returns : goal.returns
returns c =
    content_done (is_free c.args.name.now) (created c.args.name.now) c.create.result c.args.self.now c.merge.new.self _ c.merge.ensures.same c.merge.ensures.plan c.in_ok-merge.ensures.merged.empty refl c.create.ensures
