-- From the count of a day to its year, month and day.
use Rattle.std.proofs.Common.{◌≡◌, ℕ, zero, suc, ◌+◌, ◌-◌, ◌/◌, ◌%◌, ◌<◌, ◌≤◌, Bool, true, false, cond, ltb, refl, ap, ◌∙◌, arith, ℤ, pos, negsuc, neg_ℤ, ◌+ℤ◌, ◌-ℤ◌, ◌≤ℤ◌, ◌<ℤ◌, unsigned_abs, ◌||◌, ◌⊎◌, inl, inr}
use Rattle.std.specs.Prelude.{Option, Some, None, int_lt}
use Rattle.std.specs.Int.{int_rem_euclid}
use Rattle.std.proofs.lemmas.Int.{by_lt_z}
use Rattle.std.proofs.lemmas.Bool.Decides.{nat_tests}
use Rattle.jiff_core.specs.declared.civil.date.Date.{Date}
use Rattle.jiff_core.specs.Calendar.{days_in_year, days_in_month, days_of_months, day_of_year, day_count, days_from_civil, IsCivilDate, IsDate}
use Rattle.jiff_core.specs.Date.{epoch_day}
use Rattle.jiff_core.proofs.CalendarLemmas.{day_count-epoch, days_from_civil-day_count, day_count-lt_year, day_count-next_year, day_count-day_of_year, days_of_months_more, days_of_months-zero, day_of_year_bound}
use Rattle.jiff_core.proofs.DateLemmas.{civil, days_from_civil-max}
use Rattle.jiff_core.proofs.MarchLemmas.{day_count-early}
use Rattle.jiff_core.proofs.SignedLemmas.{signed_arith}
use Rattle.field_text.specs.declared.moment.Moment.{Moment}
use Rattle.field_text.specs.Dates.{walk, moment_at, day_of, moment_of_seconds, is_day, midnight_of}
use Rattle.field_text.specs.Moments.{on_date}
use borrow.Author.Differences.{up, down, lt-true, lt-false}
use borrow.Author.Tests.{lt-ltb, le-ltb}

-- the lengths of k of them, from one on
abbrev pub lengths : (ℕ → ℕ) → ℕ → ℕ → ℕ
lengths length_of at zero = 0
lengths length_of at (suc k) = length_of at + lengths length_of (at + 1) k

-- a walk passes those whose days lie before
pub walk_passes : (length_of : ℕ → ℕ) (k n at day : ℕ) → k ≤ n → day < length_of (at + k) → walk length_of n at (lengths length_of at k + day) ≡ (at + k, day)
unfolding walk
walk_passes length_of zero zero at day few h =
    let a : at + 0 ≡ at = omega arith in
    let d : 0 + day ≡ day = omega arith in
    rw (a, d) refl
walk_passes length_of zero (suc n) at day few h =
    let a : at + 0 ≡ at = omega arith in
    let d : 0 + day ≡ day = omega arith in
    let here : ltb day (length_of at) ≡ true = lt-ltb day (length_of at) (rw a at h) in
    rw (a, d, here) refl
walk_passes length_of (suc k) zero at day few h = absurd (omega arith)
walk_passes length_of (suc k) (suc n) at day few h =
    let more = lengths length_of (at + 1) k in
    let there : at + suc k ≡ at + 1 + k = omega arith in
    let past : ltb (length_of at + more + day) (length_of at) ≡ false = le-ltb (length_of at + more + day) (length_of at) (omega arith) in
    let left : length_of at + more + day - length_of at ≡ more + day = omega arith in
    rw (past, left, there) (walk_passes length_of k n (at + 1) day (omega arith) (rw there at h))

-- the days before a year
pub days_before_year : (k y : ℕ) → day_count (pos (y + k)) 1 1 ≡ day_count (pos y) 1 1 + lengths (λ n. days_in_year (pos n)) y k
days_before_year zero y = let e : y + 0 ≡ y = omega arith in rw e (omega arith)
days_before_year (suc k) y =
    let e : y + suc k ≡ y + 1 + k = omega arith in
    let next = day_count-next_year (pos y) (pos (y + 1)) (omega (arith, signed_arith)) (omega (arith, signed_arith)) in
    rw e (omega (arith, days_before_year k (y + 1), next))

-- the days before a month
pub days_before_month : (z : ℤ) (k m : ℕ) → days_of_months z (m + k) ≡ days_of_months z m + lengths (days_in_month z) (m + 1) k
days_before_month z zero m = let e : m + 0 ≡ m = omega arith in rw e (omega arith)
days_before_month z (suc k) m =
    let e : m + suc k ≡ m + 1 + k = omega arith in
    let back : m + 1 - 1 ≡ m = omega arith in
    let next = rw back at (days_of_months_more z (m + 1) (omega arith)) in
    rw e (omega (arith, days_before_month z k (m + 1), next))

-- the year of a date, and its place in the year
pub year_of_date : (y m d : ℕ) → 1 ≤ y → y ≤ 9999 → 1 ≤ d → day_of_year (pos y) m d - 1 < days_in_year (pos y) →
    walk (λ n. days_in_year (pos n)) 9998 1 (day_count (pos y) m d - day_count (pos 1) 1 1) ≡ (y, day_of_year (pos y) m d - 1)
year_of_date y m d low high first inside =
    let e : 1 + (y - 1) ≡ y = omega arith in
    let before = rw e at (days_before_year (y - 1) 1) in
    let whole = day_count-day_of_year (pos y) m d first in
    let some : 1 ≤ day_of_year (pos y) m d = omega arith in
    let count : day_count (pos y) m d - day_count (pos 1) 1 1 ≡ lengths (λ n. days_in_year (pos n)) 1 (y - 1) + (day_of_year (pos y) m d - 1) = omega (arith, before, whole) in
    let passed = walk_passes (λ n. days_in_year (pos n)) (y - 1) 9998 1 (day_of_year (pos y) m d - 1) (omega arith) (rw e inside) in
    rw count (rw e at passed)

-- the month of a date, and its place in the month
pub month_of_date : (y m d : ℕ) → 1 ≤ m → m ≤ 12 → 1 ≤ d → d ≤ days_in_month (pos y) m →
    walk (days_in_month (pos y)) 11 1 (day_of_year (pos y) m d - 1) ≡ (m, d - 1)
month_of_date y m d low high first last =
    let e : 1 + (m - 1) ≡ m = omega arith in
    let z : 0 + (m - 1) ≡ m - 1 = omega arith in
    let before = rw z at (days_before_month (pos y) (m - 1) 0) in
    let none = days_of_months-zero (pos y) in
    let count : day_of_year (pos y) m d - 1 ≡ lengths (days_in_month (pos y)) 1 (m - 1) + (d - 1) = omega (arith, before, none) in
    let inside : d - 1 < days_in_month (pos y) m = omega arith in
    let passed = walk_passes (days_in_month (pos y)) (m - 1) 11 1 (d - 1) (omega arith) (rw e inside) in
    rw count (rw e at passed)

-- 1 January of the year 1
pub first_count : day_count (pos 1) 1 1 ≡ 3_652_791
first_count = day_count-early (pos 1) 10000 1 1 refl (omega arith) (omega arith) (omega arith)

pub first_day : days_from_civil (pos 1) 1 1 ≡ neg_ℤ (pos 719_162)
first_day = omega (arith, signed_arith, days_from_civil-day_count, first_count)

-- the moment of a day that is counted from 1 January of the year 1 on is that of its date
at_parts : (y m d n second : ℕ) → IsCivilDate (pos y) m d → 1 ≤ y → y ≤ 9999 → n ≡ day_count (pos y) m d - day_count (pos 1) 1 1 →
    moment_at n second ≡ record {
      year = y;
      month = m;
      day = d;
      day_of_year = day_of_year (pos y) m d;
      hour = second / 3600;
      minute = second / 60 % 60;
      second = second % 60;
    }
unfolding moment_at
at_parts y m d n second civil low high e =
    let some : 1 ≤ day_of_year (pos y) m d = omega (arith, civil.2.0) in
    let inside : day_of_year (pos y) m d - 1 < days_in_year (pos y) = omega (arith, day_of_year_bound (pos y) m d civil) in
    let back : d - 1 + 1 ≡ d = omega (arith, civil.2.0) in
    let ordinal_back : day_of_year (pos y) m d - 1 + 1 ≡ day_of_year (pos y) m d = omega arith in
    rw (e, year_of_date y m d low high civil.2.0 inside, month_of_date y m d civil.1.0 civil.1.1 civil.2.0 civil.2.1, back, ordinal_back) refl

at_year : (z : ℤ) (m d n second : ℕ) → IsCivilDate z m d → pos 1 ≤ℤ z → z ≤ℤ pos 9999 → n ≡ day_count z m d - day_count (pos 1) 1 1 →
    moment_at n second ≡ record {
      year = unsigned_abs z;
      month = m;
      day = d;
      day_of_year = day_of_year z m d;
      hour = second / 3600;
      minute = second / 60 % 60;
      second = second % 60;
    }
at_year (pos y) m d n second civil low high e = at_parts y m d n second civil (omega (arith, signed_arith)) (omega (arith, signed_arith)) e
at_year (negsuc y) m d n second civil low high e = absurd (omega (arith, signed_arith))

-- the size of a number that is not negative
size_of : (z : ℤ) → down z ≤ up z → unsigned_abs z + down z ≡ up z
size_of (pos n) h = omega arith
size_of (negsuc n) h = absurd (omega arith)

pub moment_of_date : (d : Date) (day : ℤ) (second : ℕ) → epoch_day d ≡ day → pos 1 ≤ℤ d.year → neg_ℤ (pos 719_162) ≤ℤ day →
    moment_at (unsigned_abs (day -ℤ days_from_civil (pos 1) 1 1)) second ≡ on_date d second
moment_of_date d day second e low first =
    let z = day -ℤ days_from_civil (pos 1) 1 1 in
    let here = days_from_civil-day_count d.year d.month d.day in
    let start = days_from_civil-day_count (pos 1) 1 1 in
    let above : down (day -ℤ days_from_civil (pos 1) 1 1) ≤ up (day -ℤ days_from_civil (pos 1) 1 1) = omega (arith, signed_arith, first, start, first_count) in
    let count : unsigned_abs (day -ℤ days_from_civil (pos 1) 1 1) ≡ day_count d.year d.month d.day - day_count (pos 1) 1 1 =
    omega (arith, signed_arith, ap up e, ap down e, here, start, first_count, size_of (day -ℤ days_from_civil (pos 1) 1 1) above) in
    at_year d.year d.month d.day (unsigned_abs (day -ℤ days_from_civil (pos 1) 1 1)) second (civil d) low d.year_in.1 count

-- a date of these days is of the year 1 or a later one
pub year_from_first : (d : Date) → neg_ℤ (pos 719_162) ≤ℤ epoch_day d → pos 1 ≤ℤ d.year
year_from_first d h = by_lt_z d.year (pos 1)
    (λ before. absurd (omega (arith, signed_arith, days_from_civil-day_count d.year d.month d.day, first_count, day_count-lt_year d.year d.month d.day (pos 1) 1 1 (civil d) (omega arith) before)))
    (λ later. later)

is_before : (a b : ℤ) → a <ℤ b → int_lt a b ≡ true
is_before a b h = step (int_lt a b) refl
  where
    step : (t : Bool) → int_lt a b ≡ t → t ≡ true
    step true e = refl
    step false e = absurd (omega (arith, signed_arith, lt-false a b e))

not_before : (a b : ℤ) → b ≤ℤ a → int_lt a b ≡ false
not_before a b h = step (int_lt a b) refl
  where
    step : (t : Bool) → int_lt a b ≡ t → t ≡ false
    step true e = absurd (omega (arith, signed_arith, lt-true a b e))
    step false e = refl

-- a day outside these years has no moment
pub no_moment : (seconds : ℤ) → (day_of seconds <ℤ neg_ℤ (pos 719_162)) ⊎ (pos 2_932_896 <ℤ day_of seconds) → moment_of_seconds seconds ≡ None
unfolding moment_of_seconds
no_moment seconds (inl early) = rw (first_day, is_before (day_of seconds) (neg_ℤ (pos 719_162)) early) refl
no_moment seconds (inr late) = rw (first_day, days_from_civil-max, is_before (pos 2_932_896) (day_of seconds) late) (either _ (int_lt (day_of seconds) (neg_ℤ (pos 719_162))))
  where
    either : (x : Option Moment) (t : Bool) → cond (t || true) None x ≡ None
    either x true = refl
    either x false = refl

-- and one inside has the moment of its date
pub a_moment : (seconds : ℤ) (d : Date) → epoch_day d ≡ day_of seconds → neg_ℤ (pos 719_162) ≤ℤ day_of seconds → day_of seconds ≤ℤ pos 2_932_896 → pos 1 ≤ℤ d.year →
    moment_of_seconds seconds ≡ Some (on_date d (unsigned_abs (int_rem_euclid seconds (pos 86400))))
unfolding moment_of_seconds
a_moment seconds d e low high year =
    let here = moment_of_date d (day_of seconds) (unsigned_abs (int_rem_euclid seconds (pos 86400))) e year low in
    let early = not_before (day_of seconds) (neg_ℤ (pos 719_162)) low in
    let late = not_before (pos 2_932_896) (day_of seconds) high in
    rw (here, days_from_civil-max, late) (rw (first_day, early) refl)

-- 1 January 1970 is the day 0
pub epoch_is_day_0 : (d : Date) → d.year ≡ pos 1970 → pos d.month ≡ pos 1 → pos d.day ≡ pos 1 → epoch_day d ≡ pos 0
epoch_is_day_0 d y m k =
    let month : d.month ≡ 1 = ap up m in
    let day : d.day ≡ 1 = ap up k in
    let same : epoch_day d ≡ days_from_civil (pos 1970) 1 1 = rw (y, month, day) refl in
    same ∙ omega (arith, signed_arith, days_from_civil-day_count (pos 1970) 1 1, day_count-epoch)

-- a date of the calendar, in the years 1 to 9999
pub a_day : (y m k : ℕ) (d : Date) → d.year ≡ pos y → pos d.month ≡ pos m → pos d.day ≡ pos k → 1 ≤ y → y ≤ 9999 → Some (on_date d 0) ≡ midnight_of y m k
a_day y m k d year month day low high =
    let month_is : d.month ≡ m = ap up month in
    let day_is : d.day ≡ k = ap up day in
    let months : (1 ≤ m) × (m ≤ 12) = rw month_is at d.month_in in
    let days : (1 ≤ k) × (k ≤ days_in_month (pos y) m) = rw (year, month_is, day_is) at d.day_in in
    let is : is_day y m k ≡ true = and_all y m k low high months days in
    rw is (rw (year, month_is, day_is) refl)
  where
    and_all : (y m k : ℕ) → 1 ≤ y → y ≤ 9999 → (1 ≤ m) × (m ≤ 12) → (1 ≤ k) × (k ≤ days_in_month (pos y) m) → is_day y m k ≡ true
    and_all y m k low high months days = grind (arith, nat_tests)

-- a year 0 has no day
pub no_year : (y m k : ℕ) → y ≡ 0 → None ≡ midnight_of y m k
no_year y m k e = rw e refl

-- what the calendar does not have is no day
pub no_day : (y m k : ℕ) → (IsDate (pos y) (pos m) (pos k) → ⊥) → None ≡ midnight_of y m k
no_day y m k never = step (is_day y m k) refl
  where
    is_date : (y m k : ℕ) → is_day y m k ≡ true → IsDate (pos y) (pos m) (pos k)
    is_date y m k e =
        let low : 1 ≤ y = grind (arith, nat_tests) in
        let high : y ≤ 9999 = grind (arith, nat_tests) in
        let month_low : 1 ≤ m = grind (arith, nat_tests) in
        let month_high : m ≤ 12 = grind (arith, nat_tests) in
        let day_low : 1 ≤ k = grind (arith, nat_tests) in
        let day_high : k ≤ days_in_month (pos y) m = grind (arith, nat_tests) in
        ((omega (arith, signed_arith), omega (arith, signed_arith)), (omega (arith, signed_arith), omega (arith, signed_arith)), (omega (arith, signed_arith), omega (arith, signed_arith)))

    step : (t : Bool) → is_day y m k ≡ t → None ≡ midnight_of y m k
    step true e = absurd (never (is_date y m k e))
    step false e = rw e refl

-- days from the day 0 on
pub from_day_0 : (z day : ℤ) → z ≡ pos 0 → z +ℤ day ≡ day
from_day_0 z (pos n) e = rw e (omega (arith, signed_arith))
from_day_0 z (negsuc n) e = rw e (omega (arith, signed_arith))
