use Rattle.std.proofs.Common.{◌≡◌}
use Rattle.std.specs.String.{string_bytes}
use Rattle.job_plan.specs.Views.{plain_job}
use Rattle.ytdl_core.specs.Lines.{each_line}
use Rattle.ytdl_core.proofs.LineLemmas.{quiet_lines, loud_lines}
use Rattle.ytdl_core.proofs.lines.job_lines.Goals as goal

pub returns-then-quiet : goal.returns-then-quiet
returns-then-quiet c =
    let job = plain_job c.args.job.now in
    let printed : string_bytes c.push_lines.new.lines ≡ each_line job.printed =
    rw (c.new-lines.ensures.bytes, c.deref.ensures.value) at c.in_ok-push_lines.ensures in
    quiet_lines c.args.quiet job (string_bytes c.push_lines.new.lines) c.if-quiet.true printed

pub returns : goal.returns
returns c =
    let job = plain_job c.args.job.now in
    let printed : string_bytes c.push_lines.new.lines ≡ each_line job.printed =
    rw (c.new-lines.ensures.bytes, c.deref.ensures.value) at c.in_ok-push_lines.ensures in
    loud_lines c.args.quiet job (string_bytes c.push_lines.new.lines) (string_bytes c.push_str.new.self) (string_bytes c.push_line.new.lines)
    c.if-quiet.false printed c.in_ok-push_str.ensures.bytes (rw c.as_str.ensures at c.in_ok-push_line.ensures)
