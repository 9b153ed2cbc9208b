-- When a session leaves its line, how long it waits, and when it opens a line again.
use Rattle.std.specs.Prelude.{◌≡◌, ◌⊎◌, ℕ, ◌-◌, ◌*◌, Bool, true, false, ◌&&◌, ◌||◌, not, ◌==◌}
use Rattle.std.specs.Prelude.{nat_le, nat_lt}
use Rattle.std.specs.Prelude.{min, max, if◌then◌else◌, Option, None, Some}
use Rattle.ddcmp_core.specs.Table.{is_halted, is_running}
use Rattle.ddcmp_station.specs.Driving.{later}
use Rattle.ddcmp_station.specs.Linking.{wakes_at as timer_at}
use Rattle.ddcmp_io.specs.LineKinds.{is_connection}
use Rattle.ddcmp_io.specs.declared.line_kind.LineKind.{LineKind}
use Rattle.ddcmp_io.specs.declared.line_kind.LineKind.TheVariants.{Listen}
use Rattle.ddcmp_session.specs.declared.session.EndReason.{EndReason}
use Rattle.ddcmp_session.specs.declared.session.EndReason.TheVariants.{Done, Time, Restarted}
use Rattle.ddcmp_session.specs.declared.session.EndReason.TheVariants.{GivenUp}
use Rattle.ddcmp_session.specs.Course.{after_opening_failed, never}
use Rattle.ddcmp_session.specs.Session.{SessionView, after_time, is_awaited, is_delivered}

-- ---- the end

-- a link that listens and has read no message, nor a command to end
abbrev pub is_listener : LineKind → Bool
is_listener Listen = true
is_listener _ = false

abbrev pub had_input : SessionView → Bool
had_input s = (nat_lt 0 s.link.totals.sent || s.was_refused) || s.course.quits

-- the session continues after all of the input was delivered
abbrev pub stays : SessionView → Bool
stays s = s.options.stay || (is_listener s.kind && not (had_input s))

-- all of the input was read, and nothing of it is left: it was delivered, or what wasn't is lost
-- with a line that has ended
abbrev pub is_spent : SessionView → Bool
is_spent s = is_delivered s || (s.is_read && (s.course.has_run && not s.has_line))

-- all is done, except that a peer may have more to send
abbrev pub is_done : SessionView → Bool
is_done s = is_spent s && (not (is_awaited s) && not (stays s))

abbrev pub lingers_until : SessionView → ℕ
lingers_until s = later s.course.quiet_since s.options.linger_ms

-- The most tries. By default they are seven until the station runs; 0 is no limit.
abbrev pub most_tries : ℕ → Bool → ℕ
most_tries attempts runs =
    if attempts == 4294967295 then (if runs then 0 else 7) else attempts

abbrev pub too_many : ℕ → ℕ → Bool
too_many most tries = nat_lt 0 most && nat_le most tries

-- A line that doesn't report its end, and seven tries in a row without a byte of the peer: all of
-- the input was read, so only the peer can go on.
abbrev pub is_silent : SessionView → Bool
is_silent s = not (is_connection s.kind) && nat_le 7 s.course.unanswered

-- By default such a peer is given up five minutes after the first of these tries.
abbrev pub is_gone : SessionView → Bool
is_gone s =
    s.options.attempts == 4294967295
    && is_silent s
    && nat_le (later s.course.unanswered_since 300000) s.course.moment

-- Too many tries in a row were without progress, before the station ran or since the peer refuses
-- messages, or without a byte of the peer since then; or such a peer is gone.
abbrev pub is_given_up : SessionView → Bool
is_given_up s =
    too_many (most_tries s.options.attempts (is_running s.link.station.core.station.state))
    (max s.course.tries s.course.unheard)
    || is_gone s

-- The seventh try has just expired, and it isn't the last one.
abbrev pub is_first_silence : Bool → SessionView → Bool
is_first_silence has_expired s =
    has_expired && is_silent s && s.course.unanswered == 7 && not (is_given_up s)

-- the moment when the run ends
abbrev pub run_ends_at : SessionView → ℕ
run_ends_at s = 1000 * s.options.seconds

-- why the line is to be left
abbrev pub end : SessionView → Option EndReason
end s =
    if nat_le (run_ends_at s) s.course.moment then Some Time
    else if s.has_line && s.course.leaves then Some Restarted
    else if s.has_line && is_given_up s then Some GivenUp
    else if is_done s && nat_le (lingers_until s) s.course.moment then Some Done
    else None

-- ---- when the timers are to be handled at the latest

abbrev pub or_never : Option ℕ → ℕ
or_never None = never
or_never (Some moment) = moment

-- the end of the run, the reply timer, the end of a pause of messages or of NAKs, or a report
abbrev pub next_timeout : SessionView → ℕ
next_timeout s =
    min
    (min (min (min (run_ends_at s) (or_never (timer_at s.link))) (or_never s.course.pause))
    (or_never s.course.nak_pause))
    s.course.report_at

-- this moment, or if all else is done the moment when the peer was quiet for long enough, if that
-- is earlier
abbrev pub unless_done : ℕ → SessionView → ℕ
unless_done moment s = if is_done s then min moment (lingers_until s) else moment

abbrev pub wakes_at : SessionView → ℕ
wakes_at s = unless_done (next_timeout s) s

-- the milliseconds from the last moment that was passed until then
abbrev pub wait_ms : SessionView → ℕ
wait_ms s = wakes_at s - s.course.moment

-- ---- without a line

-- a wait ends when the run ends, when a report is due, or when the line is to be opened
abbrev pub wakes_without_line_at : ℕ → SessionView → ℕ
wakes_without_line_at now s =
    let first = unless_done (min (run_ends_at s) s.course.report_at) s in
    if nat_lt now s.course.opens_at then min first s.course.opens_at else first

-- The peer restarted while received messages weren't written, and this end is to restart with it:
-- it does once they are, over the same line.
abbrev pub restarts : SessionView → Bool
restarts s =
    s.link.station.core.limits.restart && s.course.leaves
    && is_halted s.link.station.core.station.state

-- a line that was left is opened again, or kept, or opened once a command starts the link
abbrev pub reopens : SessionView → Bool
reopens s =
    s.options.again
    || (((is_listener s.kind && not s.course.peer_has_started) || restarts s) || s.course.halted)

-- the pause after a line: none if the station ran on it or the session listens
abbrev pub after_line : SessionView → SessionView
after_line s = record s {
  course =
      if s.course.has_run_here
      then record s.course { retry_seconds = 0; opens_at = 0; quiet_since = s.course.moment }
      else if is_listener s.kind then s.course
      else after_opening_failed s.course;
}

abbrev pub seconds_after_line : SessionView → Option ℕ
seconds_after_line s =
    if s.course.has_run_here || is_listener s.kind then None
    else Some (after_opening_failed s.course).retry_seconds

-- a line couldn't be opened
abbrev pub after_failure : SessionView → SessionView
after_failure s = record s { course = after_opening_failed s.course }

-- A moment passed without a line; then a line couldn't be opened, or one that was left is to be
-- opened again. Nothing else changes.
pub record PassesTime (old new : SessionView) : Type 0 where
  pub now : ℕ
  pub course : (new.course ≡ (after_time now old).course)
      ⊎ ((new.course ≡ (after_failure (after_time now old)).course)
      ⊎ (new.course ≡ (after_line (after_time now old)).course))
  pub stays : new ≡ record old { course = new.course }
