-- The time of day in UTC, by the calendar of `jiff`.
use Rattle.std.specs.Prelude.{ℕ, zero, suc, ◌+◌, ◌-◌, ◌*◌, ◌/◌, ◌%◌, Bool, if◌then◌else◌, nat_le}
use Rattle.std.specs.Prelude.{min}
use Rattle.std.specs.Prelude.{Some, List, ◌++◌, codes, pos}
use Rattle.jiff_core.specs.Calendar.{day_count}
use Rattle.jiff_fmt.specs.Text.{fraction_part, pad2, year_text}

-- the last number up to n that passes a test, or 0
unfoldable pub last_up_to : ℕ → (ℕ → Bool) → ℕ
last_up_to zero test = zero
last_up_to (suc n) test = if test (suc n) then suc n else last_up_to n test

-- the last year, and the last of its months, that began by a day; days count as in `day_count`
abbrev pub year_of : ℕ → ℕ
year_of day = last_up_to 9999 (λ year. nat_le (day_count (pos year) 1 1) day)

abbrev pub month_of : ℕ → ℕ → ℕ
month_of year day = last_up_to 12 (λ month. nat_le (day_count (pos year) month 1) day)

abbrev pub date_in : ℕ → ℕ → ℕ → List ℕ
date_in day year month =
    year_text (pos year) ++ codes "-" ++ pad2 month ++ codes "-"
    ++ pad2 (day - day_count (pos year) month 1 + 1)

-- a day, as 2001-09-09
unfoldable pub date_text : ℕ → List ℕ
date_text day = date_in day (year_of day) (month_of (year_of day) day)

-- a moment of a day in milliseconds, as 01:46:40.250
abbrev pub clock_text : ℕ → List ℕ
clock_text ms =
    pad2 (ms / 3_600_000) ++ codes ":" ++ pad2 (ms / 60_000 % 60) ++ codes ":"
    ++ pad2 (ms / 1000 % 60) ++ fraction_part (Some 3) (ms % 1000 * 1_000_000)

abbrev pub text_at : ℕ → List ℕ
text_at ms =
    date_text (day_count (pos 1970) 1 1 + ms / 86_400_000) ++ codes "T"
    ++ clock_text (ms % 86_400_000) ++ codes "Z"

-- The time of day at this many milliseconds after 1970: 2001-09-09T01:46:40.250Z. The last one is
-- the end of the year 9999.
unfoldable pub time_text : ℕ → List ℕ
time_text ms = text_at (min ms 253_402_300_799_999)
