use Rattle.http_reply.proofs.LineLemmas.{size_complete, size_longer, size_partial, size_invalid}
use Rattle.http_reply.proofs.chunk_line.read_size.Goals as goal

pub returns-then-len-line : goal.returns-then-len-line
returns-then-len-line c =
    let said = rw c.in-Ok-Complete.field-0-is at c.in-Ok-Complete.ensures in
    size_complete c.args.line.now c.in-Ok-Complete.len c.in-Ok-Complete.size said.complete c.if-len-line.true

pub returns-else-len-line : goal.returns-else-len-line
returns-else-len-line c =
    let said = rw c.in-Ok-Complete.field-0-is at c.in-Ok-Complete.ensures in
    size_longer c.args.line.now c.in-Ok-Complete.len c.in-Ok-Complete.size said.complete c.if-len-line.false

pub returns-in-Ok-Partial : goal.returns-in-Ok-Partial
returns-in-Ok-Partial c =
    let said = rw c.in-Ok-Partial.field-0-is at c.in-Ok-Partial.ensures in
    size_partial c.args.line.now said.partial

pub returns-in-Err : goal.returns-in-Err
returns-in-Err c = size_invalid c.args.line.now c.in-Err.ensures.invalid
