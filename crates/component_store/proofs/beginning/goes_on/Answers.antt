use Rattle.std.proofs.Common.{◌∙◌, ap, sym, Bool}
use Rattle.std.specs.Prelude.{string_bytes, not, ◌&&◌}
use Rattle.keep_store.specs.Safe.{reads}
use Rattle.folder_steps.specs.Reading.{has_bytes}
use Rattle.plan_record.specs.Names.{record_of}
use Rattle.component_store.proofs.beginning.goes_on.Goals as goal

pub returns-then-fresh-clause-told : goal.returns-then-fresh-clause-told
returns-then-fresh-clause-told g c t =
    sym (ap (λ (b : Bool). not b && has_bytes (reads (g.F.Folder.world c.args.folder.now).story.now (record_of (string_bytes c.args.target.now.name))) c.args.plan.now) c.if-fresh.true)

pub returns-clause-told : goal.returns-clause-told
returns-clause-told g c t =
    c.in_ok-same.ensures.same t
    ∙ sym (ap (λ (b : Bool). not b && has_bytes (reads (g.F.Folder.world c.args.folder.now).story.now (record_of (string_bytes c.args.target.now.name))) c.args.plan.now) c.if-fresh.false)
