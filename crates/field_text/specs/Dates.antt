-- The day and the time of day that a text or a number stands for, in UTC, in the years 1 to 9999.
use Rattle.std.specs.Prelude.{ℕ, zero, suc, ◌+◌, ◌-◌, ◌/◌, ◌%◌, ◌^◌, List, length, take, drop, Bool, ◌&&◌, ◌||◌, ◌==◌, nat_lt, nat_le, int_lt, if◌then◌else◌, ℤ, pos, ◌-ℤ◌, unsigned_abs, Option, Some, None}
use Rattle.std.specs.Char.{is_ascii_digit}
use Rattle.std.specs.Int.{int_div_euclid, int_rem_euclid}
use Rattle.std.specs.List.{list_all}
use Rattle.jiff_core.specs.Calendar.{days_in_year, days_in_month, day_of_year, days_from_civil}
use Rattle.text_base.specs.Number.{Number}
use Rattle.text_base.specs.Arithmetic.{nano_of}
use Rattle.text_base.specs.Value.{digits_value}
use Rattle.field_text.specs.declared.moment.Moment.{Moment}

-- where a day falls, of years or months of these lengths, and its place there; the day is counted from the first day of one of them on, and at most n are passed
unfoldable pub walk : (ℕ → ℕ) → ℕ → ℕ → ℕ → ℕ × ℕ
walk length_of zero at day = (at, day)
walk length_of (suc n) at day =
    if nat_lt day (length_of at) then (at, day) else walk length_of n (at + 1) (day - length_of at)

-- a day that is counted from 1 January of the year 1 on, and a second of it
unfoldable pub moment_at : ℕ → ℕ → Moment
moment_at days second =
    let in_year = walk (λ year. days_in_year (pos year)) 9998 1 days in
    let in_month = walk (days_in_month (pos in_year.0)) 11 1 in_year.1 in
    record {
      year = in_year.0;
      month = in_month.0;
      day = in_month.1 + 1;
      day_of_year = in_year.1 + 1;
      hour = second / 3600;
      minute = second / 60 % 60;
      second = second % 60;
    }

-- the day of a second that is counted from 1970 on: 0 for 1 January 1970
abbrev pub day_of : ℤ → ℤ
day_of seconds = int_div_euclid seconds (pos 86400)

-- the moment of a second that is counted from 1970 on
unfoldable pub moment_of_seconds : ℤ → Option Moment
moment_of_seconds seconds =
    let first = days_from_civil (pos 1) 1 1 in
    let last = days_from_civil (pos 9999) 12 31 in
    if int_lt (day_of seconds) first || int_lt last (day_of seconds) then None
    else Some (moment_at (unsigned_abs (day_of seconds -ℤ first)) (unsigned_abs (int_rem_euclid seconds (pos 86400))))

-- the moment of a number of seconds, rounded down
abbrev pub moment_of_number : Number → Option Moment
moment_of_number n = moment_of_seconds (int_div_euclid (nano_of n) (pos (10 ^ 9)))

-- whether the calendar has this day, in the years 1 to 9999
abbrev pub is_day : ℕ → ℕ → ℕ → Bool
is_day year month day =
    nat_le 1 year && nat_le year 9999 && nat_le 1 month && nat_le month 12 && nat_le 1 day && nat_le day (days_in_month (pos year) month)

-- the first second of a day
abbrev pub midnight : ℕ → ℕ → ℕ → Moment
midnight year month day = record {
  year = year;
  month = month;
  day = day;
  day_of_year = day_of_year (pos year) month day;
  hour = 0;
  minute = 0;
  second = 0;
}

-- the first second of a day, where the calendar has it
abbrev pub midnight_of : ℕ → ℕ → ℕ → Option Moment
midnight_of year month day = if is_day year month day then Some (midnight year month day) else None

-- the moment of a day in digits: four of the year, two of the month, two of the day
unfoldable pub moment_of_digits : List ℕ → Option Moment
moment_of_digits t = midnight_of (digits_value (take 4 t)) (digits_value (take 2 (drop 4 t))) (digits_value (drop 6 t))

-- the moment of a text of eight digits
abbrev pub moment_of_text : List ℕ → Option Moment
moment_of_text t = if length t == 8 && list_all is_ascii_digit t then moment_of_digits t else None
