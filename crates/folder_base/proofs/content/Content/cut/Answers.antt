use Rattle.folder_base.specs.Disk.{cut_to}
use Rattle.folder_base.specs.Steps.{is_there}
use Rattle.folder_base.proofs.Contents.{line_owns_it, content_done}
use Rattle.folder_base.proofs.content.Content.cut.Goals as goal
use Rattle.std.proofs.Common.{refl}

pub cut-requires : goal.cut-requires
cut-requires c = line_owns_it c.args.self.now c.merge.new.self c.args.name.now c.merge.ensures.same c.in_ok-merge.ensures.merged.empty c.requires

pub returns : goal.returns
returns c =
    content_done (is_there c.args.name.now) (cut_to c.args.name.now c.args.len) c.cut.result c.args.self.now c.merge.new.self _ c.merge.ensures.same c.merge.ensures.plan c.in_ok-merge.ensures.merged.empty refl c.cut.ensures
