use Rattle.std.proofs.Common.{◌≡◌, ◌+◌, ◌++◌, ap, append_assoc}
use Rattle.std.specs.Prelude.{codes, decimal}
use Rattle.ytdl_core.specs.declared.run_fault.Which.TheVariants as which
use Rattle.ytdl_core.specs.Lines.{all_to}
use Rattle.ytdl_core.specs.Texts.{job_line, job_text}
use Rattle.ytdl_core.proofs.lines.chunk_of.Goals as goal

pub returns-in_ok-format-in-Fault : goal.returns-in_ok-format-in-Fault
returns-in_ok-format-in-Fault c =
    let item = c.in-Fault.item in
    let fault = c.in-Fault.fault in
    let parts : codes "ERROR: item " ++ (decimal (item + 1) ++ (codes ": " ++ (job_text fault ++ codes "\n"))) ≡ job_line item fault =
    simp append_assoc in
    rw (c.in_ok-format-in-Fault.ensures.ok, c.job_text-text.ensures, c.in-Fault.is) (ap (λ bytes. all_to which.Err bytes) parts)
