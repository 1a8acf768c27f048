-- The moment of a date and a second of its day.
use Rattle.std.specs.Prelude.{ℕ, ◌/◌, ◌%◌, unsigned_abs}
use Rattle.jiff_core.specs.declared.civil.date.Date.{Date}
use Rattle.jiff_core.specs.Date.{ordinal}
use Rattle.field_text.specs.declared.moment.Moment.{Moment}

-- a second of a date's day
abbrev pub on_date : Date → ℕ → Moment
on_date date second = record {
  year = unsigned_abs date.year;
  month = date.month;
  day = date.day;
  day_of_year = ordinal date;
  hour = second / 3600;
  minute = second / 60 % 60;
  second = second % 60;
}
