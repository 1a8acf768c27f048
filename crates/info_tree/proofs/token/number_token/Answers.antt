use Rattle.std.proofs.Common.{◌≡◌, ◌<◌, length, drop, arith, ◌∙◌, ap}
use Rattle.text_base.specs.Number.{number_of}
use Rattle.text_base.specs.Reading.{spelling_at}
use Rattle.info_tree.proofs.Lexing.{number_boundary, lexed_number, number_out_of_range, number_too_long}
use Rattle.std.specs.Prelude.{Err}
use Rattle.info_tree.proofs.token.number_token.Goals as goal

pub range_from-requires : goal.range_from-requires
range_from-requires c = λ h.
    let bytes = c.as_bytes.ensures.value in
    let some : 0 < length (spelling_at c.args.text.now 0) = rw bytes at c.in-Ok.ensures.begins in
    let place : c.in-Ok.end ≡ length (spelling_at c.args.text.now 0) = omega (arith, rw bytes at c.in-Ok.ensures.place) in
    rw place (number_boundary c.args.text.now c.utf8.text some)

pub returns-in-Ok-clause-token : goal.returns-in-Ok-clause-token
returns-in-Ok-clause-token c =
    let bytes = c.as_bytes.ensures.value in
    let place : c.in-Ok.end ≡ length (spelling_at c.args.text.now 0) = omega (arith, rw bytes at c.in-Ok.ensures.place) in
    lexed_number c.args.text.now c.range_from.result.now (number_of c.in-Ok.number) (rw bytes at c.in-Ok.ensures.begins) (rw bytes at c.in-Ok.ensures.number)
    (c.range_from.ensures.value ∙ ap (λ n. drop n c.args.text.now) place)

pub returns-in-NumberRange-clause-fault : goal.returns-in-NumberRange-clause-fault
returns-in-NumberRange-clause-fault c =
    rw c.in-NumberRange.is (number_out_of_range c.args.text.now (rw c.as_bytes.ensures.value at (c.in-Err.ensures.range.0 (ap Err c.in-NumberRange.is))))

pub returns-in-NumberLong-clause-fault : goal.returns-in-NumberLong-clause-fault
returns-in-NumberLong-clause-fault c =
    rw c.in-NumberLong.is (number_too_long c.args.text.now (rw c.as_bytes.ensures.value at (c.in-Err.ensures.long.0 (ap Err c.in-NumberLong.is))))
