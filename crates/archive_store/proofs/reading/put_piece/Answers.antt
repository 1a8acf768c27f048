use Rattle.std.proofs.Common.{◌∙◌, sym}
use Rattle.std.specs.BTreeSet.{contains_text}
use Rattle.archive_store.proofs.LineLemmas.{is_trimmed, no_line, put_its_line}
use Rattle.archive_store.proofs.reading.put_piece.Goals as goal

pub returns-then-is_empty : goal.returns-then-is_empty
returns-then-is_empty c other =
    no_line c.args.piece.now c.trim_ascii-line.result.now other (contains_text c.args.lines.now other)
    (is_trimmed c.args.piece.now c.trim_ascii-line.result.now c.trim_ascii-line.ensures.value) (sym c.is_empty.ensures ∙ c.if-is_empty.true)

pub returns : goal.returns
returns c =
    put_its_line c.args.piece.now c.trim_ascii-line.result.now _ _ c.put.result
    (is_trimmed c.args.piece.now c.trim_ascii-line.result.now c.trim_ascii-line.ensures.value) (sym c.is_empty.ensures ∙ c.if-is_empty.false) c.put.ensures.put
