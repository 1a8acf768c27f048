use Rattle.folder_base.specs.Disk.{renamed}
use Rattle.folder_base.specs.Line.{line_owns}
use Rattle.folder_base.specs.Lines.{start}
use Rattle.folder_base.specs.Steps.{is_there}
use Rattle.folder_base.proofs.Owned.{own_after, renamed_leaves}
use Rattle.folder_base.proofs.line.Line.rename.Goals as goal

pub invariant_of-self : goal.invariant_of-self
invariant_of-self c =
    let line = c.args.self.now in
    let begun = start line.log.value line.side in
    let after = c.rename_step.ensures begun line.agrees in
    record {
      agrees = after.0;
      own = own_after (line_owns line) (is_there c.args.from.now) (renamed c.args.from.now c.args.to.now) line.steps.items c.rename_step.new.steps.items line.files c.rename_step.new.files c.rename_step.result begun line.agrees after.0 after.1 (renamed_leaves (line_owns line) c.args.from.now c.args.to.now c.requires.from_own c.requires.to_own) line.own;
    }
