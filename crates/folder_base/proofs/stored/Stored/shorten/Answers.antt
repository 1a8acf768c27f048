use Rattle.std.proofs.Common.{◌≡◌, ◌∙◌, arith, ap, Some, ℕ}
use Rattle.folder_base.specs.Disk.{shorter}
use Rattle.folder_base.specs.Stored.{split_file, file_of}
use Rattle.folder_base.proofs.Cutting.{shorten_is}
use Rattle.folder_base.proofs.stored.Stored.shorten.Goals as goal

pub returns-then-len-had : goal.returns-then-len-had
returns-then-len-had c =
    let same : c.in-Ok.len ≡ c.args.len = omega (arith, c.in-Ok.ensures) in
    (λ i. split_file (c.truncate.ensures.items i) (Some (c.least.ensures i)))
    ∙ shorten_is c.args.self.now.bytes.items c.args.self.now.sure c.in-Ok.len c.args.self.now.in_bytes (omega arith)
    ∙ ap (λ (len : ℕ). shorter len (file_of c.args.self.now)) same
