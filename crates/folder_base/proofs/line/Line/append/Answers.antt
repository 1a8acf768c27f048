use Rattle.folder_base.specs.Disk.{appended, longer}
use Rattle.folder_base.specs.Line.{line_owns}
use Rattle.folder_base.specs.Lines.{start}
use Rattle.folder_base.specs.Steps.{is_there}
use Rattle.folder_base.proofs.Owned.{own_after, changed_leaves}
use Rattle.folder_base.proofs.line.Line.append.Goals as goal

pub invariant_of-self : goal.invariant_of-self
invariant_of-self c =
    let line = c.args.self.now in
    let begun = start line.log.value line.side in
    let after = c.append_step.ensures begun line.agrees in
    record {
      agrees = after.0;
      own = own_after (line_owns line) (is_there c.args.name.now) (appended c.args.name.now c.args.bytes.now) line.steps.items c.append_step.new.steps.items line.files c.append_step.new.files c.append_step.result begun line.agrees after.0 after.1 (changed_leaves (line_owns line) c.args.name.now (longer c.args.bytes.now) c.requires) line.own;
    }
