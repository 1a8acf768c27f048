use Rattle.folder_base.specs.Disk.{renamed}
use Rattle.folder_base.specs.Steps.{is_there}
use Rattle.folder_base.proofs.Contents.{line_owns_it, content_done}
use Rattle.folder_base.proofs.content.Content.rename.Goals as goal
use Rattle.std.proofs.Common.{refl}

pub rename-requires-clause-from_own : goal.rename-requires-clause-from_own
rename-requires-clause-from_own c = line_owns_it c.args.self.now c.merge.new.self c.args.from.now c.merge.ensures.same c.in_ok-merge.ensures.merged.empty c.requires.from_own

pub rename-requires-clause-to_own : goal.rename-requires-clause-to_own
rename-requires-clause-to_own c = line_owns_it c.args.self.now c.merge.new.self c.args.to.now c.merge.ensures.same c.in_ok-merge.ensures.merged.empty c.requires.to_own

pub returns : goal.returns
returns c =
    content_done (is_there c.args.from.now) (renamed c.args.from.now c.args.to.now) c.rename.result c.args.self.now c.merge.new.self _ c.merge.ensures.same c.merge.ensures.plan c.in_ok-merge.ensures.merged.empty refl c.rename.ensures
