-- The date and the time of day that `jiff` prints.
use Rattle.std.proofs.Common.{◌≡◌, ◌<◌, ◌≤◌, ◌+◌, ◌-◌, ◌*◌, ◌/◌, ◌%◌, ◌++◌, ℕ, zero, suc, pos, Bool}
use Rattle.std.proofs.Common.{true, false, refl, ap, sym, ◌∙◌, arith, ◌∷◌, Some, codes}
use Rattle.std.proofs.Common.{append_assoc, inl, inr}
use Rattle.std.specs.Prelude.{if◌then◌else◌}
use Rattle.std.proofs.lemmas.Bool.{cases_order, false≢true, le-leb}
use Rattle.std.proofs.lemmas.Bool.Decides.{nat_tests}
use Rattle.std.proofs.lemmas.Int.{by_lt_z}
use Rattle.jiff_core.specs.Calendar.{day_count}
use Rattle.jiff_core.specs.Date.{epoch_day}
use Rattle.jiff_core.specs.DateTime.{civil_nanos}
use Rattle.jiff_core.specs.Time.{time_nanos}
use Rattle.jiff_core.specs.declared.civil.date.Date.{Date}
use Rattle.jiff_core.specs.declared.civil.datetime.DateTime.{DateTime}
use Rattle.jiff_core.specs.declared.civil.time.Time.{Time}
use Rattle.jiff_core.proofs.CalendarLemmas.{day_count-day, day_count-day_of_year, day_count-epoch}
use Rattle.jiff_core.proofs.CalendarLemmas.{day_count-lt_month, day_count-lt_year}
use Rattle.jiff_core.proofs.CalendarLemmas.{days_from_civil-day_count}
use Rattle.jiff_core.proofs.DateLemmas.{civil}
use Rattle.jiff_core.proofs.DateTimeLemmas.{civil_nanos-parts, time_nanos_bound}
use Rattle.jiff_core.proofs.SignedLemmas.{signed_arith}
use Rattle.jiff_fmt.specs.Text.{pad2, year_text}
use Rattle.jiff_fmt.specs.Text as jiff
use Rattle.ddcmp_log.specs.Day.{clock_text, date_in, date_text, last_up_to, month_of, text_at}
use Rattle.ddcmp_log.specs.Day.{year_of}
use borrow.Author.Differences.{up, down}

-- the last number that passes a test, if no later one does
chosen : (n k : ℕ) (b : Bool) (rest : ℕ) → (b ≡ true → suc n ≡ k) → (b ≡ false → rest ≡ k)
    → (if b then suc n else rest) ≡ k
chosen n k true rest here before = here refl
chosen n k false rest here before = before refl

last-is : (n k : ℕ) (test : ℕ → Bool) → k ≤ n → test k ≡ true
    → ((j : ℕ) → k < j → test j ≡ false) → last_up_to n test ≡ k
unfolding last_up_to
last-is zero k test within passes fails = omega arith
last-is (suc n) k test within passes fails =
    elim (cases_order k (suc n)) [
      | inl same ↦ chosen n k (test (suc n)) (last_up_to n test) (λ is. sym same)
          (λ is. absurd (false≢true (sym is ∙ ap test (sym same) ∙ passes)))
      | inr (inl less) ↦ chosen n k (test (suc n)) (last_up_to n test)
          (λ is. absurd (false≢true (sym (fails (suc n) less) ∙ is)))
          (λ is. last-is n k test (omega arith) passes fails)
      | inr (inr more) ↦ omega arith
    ]

-- the parts of a date, from its day as it is counted from the year -10000
module _ (d : Date) (year day : ℕ) (is-year : d.year ≡ pos year)
    (is-day : day_count d.year d.month d.day ≡ day) where
  counted : day_count (pos year) d.month d.day ≡ day
  counted = ap (λ y. day_count y d.month d.day) (sym is-year) ∙ is-day

  year-is : year_of day ≡ year
  year-is =
      let from-first = day_count-day_of_year (pos year) d.month d.day d.day_in.0 in
      last-is 9999 year _ (omega (arith, signed_arith, d.year_in))
      (le-leb _ _ (omega (arith, counted, from-first)))
      (λ j later. let before =
      day_count-lt_year d.year d.month d.day (pos j) 1 1 (civil d) (omega arith)
      (omega (arith, signed_arith)) in
      grind (arith, nat_tests, is-day))

  month-is : month_of year day ≡ d.month
  month-is =
      let in-month = day_count-day (pos year) d.month 1 d.day (omega arith) d.day_in.0 in
      last-is 12 d.month _ d.month_in.1 (le-leb _ _ (omega (arith, counted, in-month)))
      (λ j later. let before =
      day_count-lt_month d.year d.month d.day j 1 (civil d) (omega arith) later in
      grind (arith, nat_tests, is-day))

  day-is : day - day_count (pos year) d.month 1 + 1 ≡ d.day
  day-is =
      let in-month = day_count-day (pos year) d.month 1 d.day (omega arith) d.day_in.0 in
      omega (arith, counted, d.day_in.0)

  date-is : jiff.date_text d ≡ date_text day
  unfolding date_text
  date-is =
      ap (λ y. year_text y ++ codes "-" ++ pad2 d.month ++ codes "-" ++ pad2 d.day) is-year
      ∙ ap (λ n. year_text (pos year) ++ codes "-" ++ pad2 d.month ++ codes "-" ++ pad2 n)
      (sym day-is)
      ∙ ap (date_in day year) (sym month-is)
      ∙ ap (λ y. date_in day y (month_of y day)) (sym year-is)

-- a time of day, and its milliseconds
clock-is : (t : Time) (ms : ℕ) → time_nanos t ≡ ms * 1_000_000
    → jiff.time_text (Some 3) t ≡ clock_text ms
clock-is t ms e =
    let hour : t.hour ≡ ms / 3_600_000 = omega arith in
    let minute : t.minute ≡ ms / 60_000 % 60 = omega arith in
    let second : t.second ≡ ms / 1000 % 60 = omega arith in
    let part : t.subsec_nanosecond ≡ ms % 1000 * 1_000_000 = omega arith in
    rw (hour, minute, second, part) refl

-- what is printed of a moment after 1970
pub printed : (at : DateTime) (ms : ℕ) → civil_nanos at ≡ pos (ms * 1_000_000)
    → jiff.datetime_text false 84 (Some 3) at ++ codes "Z" ≡ text_at ms
unfolding date_text
printed at ms e =
    let parts = civil_nanos-parts at in
    let within = time_nanos_bound at.time in
    let day : epoch_day at.date ≡ pos (ms / 86_400_000) = omega (arith, signed_arith) in
    let time : time_nanos at.time ≡ ms % 86_400_000 * 1_000_000 = omega (arith, signed_arith) in
    let counted = days_from_civil-day_count at.date.year at.date.month at.date.day in
    let is-day : day_count at.date.year at.date.month at.date.day
    ≡ day_count (pos 1970) 1 1 + ms / 86_400_000 =
    omega (arith, signed_arith, day_count-epoch, counted) in
    let is-year : at.date.year ≡ pos (up at.date.year - down at.date.year) =
    by_lt_z at.date.year (pos 1970)
    (λ less. absurd (omega (
      arith,
      is-day,
      day_count-lt_year at.date.year at.date.month at.date.day
          (pos 1970) 1 1 (civil at.date) (omega arith) less,
    )))
    (λ more. omega (arith, signed_arith)) in
    let joined : jiff.datetime_text false 84 (Some 3) at ++ codes "Z"
    ≡ jiff.date_text at.date ++ 84 ∷ (jiff.time_text (Some 3) at.time ++ codes "Z") =
    append_assoc (jiff.date_text at.date) (84 ∷ jiff.time_text (Some 3) at.time) (codes "Z") in
    joined
    ∙ ap (λ d. d ++ 84 ∷ (jiff.time_text (Some 3) at.time ++ codes "Z"))
    (date-is at.date _ _ is-year is-day)
    ∙ ap (λ c. date_text (day_count (pos 1970) 1 1 + ms / 86_400_000) ++ 84 ∷ (c ++ codes "Z"))
    (clock-is at.time (ms % 86_400_000) time)
