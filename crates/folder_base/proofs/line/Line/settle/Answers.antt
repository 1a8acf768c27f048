use Rattle.folder_base.specs.Disk.{settled}
use Rattle.folder_base.specs.Line.{line_owns}
use Rattle.folder_base.specs.Lines.{start}
use Rattle.folder_base.specs.Steps.{is_any}
use Rattle.folder_base.proofs.Owned.{own_after, settled_leaves}
use Rattle.folder_base.proofs.line.Line.settle.Goals as goal

pub invariant_of-self : goal.invariant_of-self
invariant_of-self c =
    let line = c.args.self.now in
    let begun = start line.log.value line.side in
    let after = c.settle_step.ensures begun line.agrees in
    record {
      agrees = after.0;
      own = own_after (line_owns line) (is_any) (settled) line.steps.items c.settle_step.new.steps.items line.files c.settle_step.new.files c.settle_step.result begun line.agrees after.0 after.1 (settled_leaves (line_owns line)) line.own;
    }
