-- What is printed of a job, text by text.
use Rattle.std.proofs.Common.{◌≡◌, ℕ, List, ◌++◌, Bool, true, false, sym, append_assoc}
use Rattle.std.specs.Prelude.{codes}
use Rattle.std.proofs.lemmas.List.{append-nil}
use Rattle.job_plan.specs.Plan.{Job}
use Rattle.ytdl_core.specs.Lines.{each_line, job_lines, own_line}

-- a quiet run prints its texts alone
pub quiet_lines : (quiet : Bool) (job : Job) (printed : List ℕ) → quiet ≡ true → printed ≡ each_line job.printed → printed ≡ job_lines quiet job
quiet_lines quiet job printed is same = rw (is, same) (sym (append-nil (each_line job.printed)))

-- one that is not quiet says that the name was simulated
pub loud_lines : (quiet : Bool) (job : Job) (printed begun all : List ℕ) → quiet ≡ false → printed ≡ each_line job.printed →
    begun ≡ printed ++ codes "[simulate] " → all ≡ begun ++ own_line job.final_name → all ≡ job_lines quiet job
loud_lines quiet job printed begun all is same begins ends =
    rw (is, ends, begins, same) (append_assoc (each_line job.printed) (codes "[simulate] ") (own_line job.final_name))
