use Rattle.std.proofs.Common.{ap, ◌∙◌}
use Rattle.std.specs.Option.{option_map}
use Rattle.text_base.specs.Number.{number_of}
use Rattle.field_text.proofs.NumberLemmas.{number_read, refused}
use Rattle.field_text.proofs.plain.number_of_text.Goals as goal

pub returns-in-Ok : goal.returns-in-Ok
returns-in-Ok c =
    let text = c.as_bytes.ensures.value in
    ap (option_map number_of) c.whole.ensures
    ∙ number_read c.args.text.now c.in-Ok.num c.in-Ok.end (rw text at c.in-Ok.ensures.number) (rw text at c.in-Ok.ensures.place) (rw text at c.in-Ok.ensures.begins)

pub returns-in-Err : goal.returns-in-Err
returns-in-Err c =
    rw (← c.as_bytes.ensures.value)
    (refused c.as_bytes.result.now c.read_num.result c.in-Err.field-0 c.in-Err.is c.read_num.ensures.not_number.0 c.read_num.ensures.long.0 (λ e. (c.read_num.ensures.range.0 e).2))
