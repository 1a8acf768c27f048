-- A value as a date, by a format.
use Rattle.std.specs.Prelude.{ℕ, List, codes, Option, flat_map}
use Rattle.std.specs.Option.{option_map}
use Rattle.info_tree.specs.Tree.{Tree}
use Rattle.tpl_lang.specs.declared.date_format.DatePart.{DatePart}
use Rattle.tpl_lang.specs.declared.date_format.DatePart.TheVariants.{Text, Directive as Told}
use Rattle.tpl_lang.specs.declared.date_format.Directive.{Directive}
use Rattle.tpl_lang.specs.declared.date_format.Directive.TheVariants.{Year, Month, Day, Hour, Minute, Second, ShortYear, YearDay, Percent}
use Rattle.field_text.specs.Numbers.{last_digits}
use Rattle.field_text.specs.Plain.{moment_of}
use Rattle.field_text.specs.declared.moment.Moment.{Moment}

-- what a directive prints of a day and a time
abbrev pub directive_text : Moment → Directive → List ℕ
directive_text m Year = last_digits 4 m.year
directive_text m Month = last_digits 2 m.month
directive_text m Day = last_digits 2 m.day
directive_text m Hour = last_digits 2 m.hour
directive_text m Minute = last_digits 2 m.minute
directive_text m Second = last_digits 2 m.second
directive_text m ShortYear = last_digits 2 m.year
directive_text m YearDay = last_digits 3 m.day_of_year
directive_text m Percent = codes "%"

-- what a part of a format prints
abbrev pub date_part : Moment → DatePart → List ℕ
date_part m (Text t) = t
date_part m (Told d) = directive_text m d

-- the text of a value by a format; none where it stands for no day and time
abbrev pub dated : List DatePart → Tree → Option (List ℕ)
dated format value = option_map (λ m. flat_map (date_part m) format) (moment_of value)
