-- A session wakes in time.
use Rattle.std.proofs.Common.{◌≡◌, ◌≤◌, ap, arith, refl, ℕ, Bool, true, false, Some}
use Rattle.ddcmp_station.specs.Linking.{wakes_at as timer_at}
use Rattle.ddcmp_session.specs.Session.{SessionView}
use Rattle.ddcmp_session.specs.Timing.{is_done, next_timeout, or_never}
use Rattle.ddcmp_session.specs.Timing.{unless_done, wakes_at}

-- not later than the next timeout
sooner : (moment : ℕ) (s : SessionView) → unless_done moment s ≤ moment
sooner moment s = by (is_done s) refl
  where
    by : (b : Bool) → is_done s ≡ b → unless_done moment s ≤ moment
    by true e = rw e (grind arith)
    by false e = rw e (grind arith)

pub wakes-by-timer : (s : SessionView) (moment : ℕ) → timer_at s.link ≡ Some moment
    → wakes_at s ≤ moment
wakes-by-timer s moment e =
    let at : or_never (timer_at s.link) ≡ moment = ap or_never e in
    let soon = sooner (next_timeout s) s in
    grind (arith, soon, at)

pub wakes-by-pause : (s : SessionView) (moment : ℕ) → s.course.pause ≡ Some moment
    → wakes_at s ≤ moment
wakes-by-pause s moment e =
    let at : or_never s.course.pause ≡ moment = ap or_never e in
    let soon = sooner (next_timeout s) s in
    grind (arith, soon, at)

pub wakes-by-nak-pause : (s : SessionView) (moment : ℕ) → s.course.nak_pause ≡ Some moment
    → wakes_at s ≤ moment
wakes-by-nak-pause s moment e =
    let at : or_never s.course.nak_pause ≡ moment = ap or_never e in
    let soon = sooner (next_timeout s) s in
    grind (arith, soon, at)
