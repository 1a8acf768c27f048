use Rattle.folder_base.specs.Disk.{cut_to, shorter}
use Rattle.folder_base.specs.Line.{line_owns}
use Rattle.folder_base.specs.Lines.{start}
use Rattle.folder_base.specs.Steps.{is_there}
use Rattle.folder_base.proofs.Owned.{own_after, changed_leaves}
use Rattle.folder_base.proofs.line.Line.cut.Goals as goal

pub invariant_of-self : goal.invariant_of-self
invariant_of-self c =
    let line = c.args.self.now in
    let begun = start line.log.value line.side in
    let after = c.cut_step.ensures begun line.agrees in
    record {
      agrees = after.0;
      own = own_after (line_owns line) (is_there c.args.name.now) (cut_to c.args.name.now c.args.len) line.steps.items c.cut_step.new.steps.items line.files c.cut_step.new.files c.cut_step.result begun line.agrees after.0 after.1 (changed_leaves (line_owns line) c.args.name.now (shorter c.args.len) c.requires) line.own;
    }
