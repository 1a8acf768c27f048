use Rattle.folder_base.specs.Disk.{created}
use Rattle.folder_base.specs.Line.{line_owns}
use Rattle.folder_base.specs.Lines.{start}
use Rattle.folder_base.specs.Steps.{is_free}
use Rattle.folder_base.proofs.Owned.{own_after, created_leaves}
use Rattle.folder_base.proofs.line.Line.create.Goals as goal

pub invariant_of-self : goal.invariant_of-self
invariant_of-self c =
    let line = c.args.self.now in
    let begun = start line.log.value line.side in
    let after = c.create_step.ensures begun line.agrees in
    record {
      agrees = after.0;
      own = own_after (line_owns line) (is_free c.args.name.now) (created c.args.name.now) line.steps.items c.create_step.new.steps.items line.files c.create_step.new.files c.create_step.result begun line.agrees after.0 after.1 (created_leaves (line_owns line) c.args.name.now c.requires) line.own;
    }
