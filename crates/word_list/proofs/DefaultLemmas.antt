-- The templates without words are templates.
use Rattle.std.proofs.Common.{refl}
use Rattle.std.specs.Prelude.{IsOk, codes}
use Rattle.read_base.specs.Reads.{more}
use Rattle.tpl_lang.specs.ExprReading.{operand_at, operation_at, date_part_at, date_format_at, expr_at, exprs_at}
use Rattle.tpl_lang.specs.FieldReading.{value_at, replacement_part_at, replacement_at, short_at, precision_at, conv_at, field_at}
use Rattle.tpl_lang.specs.Ints.{int_length, int_at}
use Rattle.tpl_lang.specs.Keys.{braces_at, bound_at, step_at, slice_behind, int_key_at, key_at, path_behind, path_at}
use Rattle.tpl_lang.specs.Reading.{template_of, percent_at, part_at, whole_at}

pub usual_name : IsOk (template_of (codes "%(title)s [%(id)s].%(ext)s"))
unfolding more operand_at operation_at date_part_at date_format_at expr_at exprs_at value_at replacement_part_at replacement_at short_at precision_at conv_at field_at int_length int_at braces_at bound_at step_at slice_behind int_key_at key_at path_behind path_at percent_at part_at whole_at
usual_name = refl

pub restricted_name : IsOk (template_of (codes "%(title)s-[%(id)s].%(ext)s"))
unfolding more operand_at operation_at date_part_at date_format_at expr_at exprs_at value_at replacement_part_at replacement_at short_at precision_at conv_at field_at int_length int_at braces_at bound_at step_at slice_behind int_key_at key_at path_behind path_at percent_at part_at whole_at
restricted_name = refl
