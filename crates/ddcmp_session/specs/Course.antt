-- How the run of a session proceeds: what its line has done, in moments and in tries.
use Rattle.std.specs.Prelude.{ℕ, ◌+◌, ◌-◌, ◌*◌, ◌/◌, ◌%◌, Bool, true, false, ◌&&◌, ◌||◌, not, ◌==◌}
use Rattle.std.specs.Prelude.{nat_le, nat_lt, if◌then◌else◌, min, max, List, [], ◌∷◌, length}
use Rattle.std.specs.Prelude.{Option, Some, None, is_none, is_some}
use Rattle.ddcmp_frame.specs.declared.nak.Nak.{Nak}
use Rattle.ddcmp_frame.specs.declared.nak.Nak.TheVariants as nak
use Rattle.ddcmp_core.specs.declared.counters.NakCounts.{NakCounts}
use Rattle.ddcmp_core.specs.declared.notice.Notice.{Notice}
use Rattle.ddcmp_core.specs.declared.notice.Notice.TheVariants as notice
use Rattle.ddcmp_core.specs.declared.state.State.{State}
use Rattle.ddcmp_core.specs.declared.state.State.TheVariants.{Halted, IStart, AStart, Running}
use Rattle.ddcmp_core.specs.declared.state.State.TheVariants.{Maintenance}
use Rattle.ddcmp_station.specs.Driving.{is_due, later}
use Rattle.ddcmp_station.specs.Linking.{LinkView, delivered, is_needed, state_of, total_plus}
use Rattle.ddcmp_session.specs.declared.course.Course.{Course}
use Rattle.ddcmp_session.specs.declared.course.start.Unstarted.{Unstarted}
use Rattle.ddcmp_session.specs.declared.course.start.Unstarted.TheVariants.{Silence, Noise}
use Rattle.ddcmp_session.specs.declared.course.progress.Progress.{Progress}

abbrev pub never : ℕ
never = 18446744073709551615

-- that of a new session, which reports its counters every `report_ms` milliseconds, if that isn't 0
abbrev pub course_begun : ℕ → Course
course_begun report_ms = record {
  moment = 0;
  report_at = if report_ms == 0 then never else report_ms;
  quiet_since = 0;
  replies = 0;
  tries = 0;
  refusal = None;
  unheard = 0;
  unanswered = 0;
  unanswered_since = 0;
  progress = None;
  acknowledged = 0;
  is_refused = false;
  pause = None;
  pause_ms = 0;
  naks = 0;
  nak_pause = None;
  nak_pause_ms = 0;
  told_too_long = false;
  told_damaged = false;
  starts = 0;
  read = 0;
  read_before = 0;
  told_refused_long = 0;
  refused_long_at = 0;
  no_buffer_at = 0;
  silence_at = 0;
  noise_at = 0;
  written = 0;
  written_then = 0;
  sends_until = 0;
  retry_seconds = 0;
  opens_at = 0;
  peer_has_started = false;
  has_run_here = false;
  has_run = false;
  leaves = false;
  unready = 0;
  ready_ahead = false;
  quits = false;
  halted = false;
  lost = 0;
}

-- ---- moments

abbrev pub reports_at : ℕ → ℕ → Course → Bool
reports_at report_ms now c = not (report_ms == 0) && nat_le c.report_at now

-- The next report is due a whole number of periods after the last.
abbrev pub after_moment : ℕ → ℕ → Course → Course
after_moment report_ms now c = record c {
  moment = now;
  report_at =
      if reports_at report_ms now c
      then later (now - (now - c.report_at) % report_ms) report_ms
      else c.report_at;
}

-- a pause ends when it is due
abbrev pub pause_at : ℕ → Option ℕ → Option ℕ
pause_at now pause = if is_due now pause then None else pause

abbrev pub after_pauses : Course → Course
after_pauses c = record c {
  pause = pause_at c.moment c.pause;
  nak_pause = pause_at c.moment c.nak_pause;
}

-- how many milliseconds a line of this speed needs for bytes, of which the system holds at most
-- 4096
abbrev pub sending_ms : ℕ → ℕ → ℕ
sending_ms baud bytes = 10000 * min bytes 4096 / baud

-- This many bytes were written since the link was made: the last ones may be underway yet.
abbrev pub after_writing : ℕ → ℕ → Course → Course
after_writing baud written c = record c {
  written = written;
  sends_until =
      min (later (max c.sends_until c.moment) (sending_ms baud (written - c.written)))
      (later c.moment (sending_ms baud 4096));
}

-- ---- a line

abbrev pub after_connecting : Course → Course
after_connecting c = record c {
  tries = 0;
  refusal = None;
  unheard = 0;
  unanswered = 0;
  progress = None;
  is_refused = false;
  pause = None;
  pause_ms = 0;
  nak_pause = None;
  nak_pause_ms = 0;
  starts = 0;
  read_before = c.read;
  peer_has_started = false;
  has_run_here = false;
  leaves = false;
  quiet_since = c.moment;
}

-- The station entered maintenance mode, or was refused that; there is no startup handshake.
abbrev pub after_entering : Bool → Course → Course
after_entering enters c = record (after_connecting c) {
  has_run = enters || c.has_run;
}

-- one more try, and the reason if the peer refused it
abbrev pub try_counted : Option Nak → Course → Course
try_counted refusal c = record c { tries = min (c.tries + 1) 4294967295; refusal = refusal }

-- one more try of a running station without a byte of the peer
abbrev pub silence_counted : Course → Course
silence_counted c = record c { unheard = min (c.unheard + 1) 4294967295; refusal = None }

-- An expiry of the reply timer is a try; while the station runs only one of silence, since its peer
-- may reply and acknowledge nothing yet. Once all of the input was read it is noted since when the
-- timer has expired without a byte of the peer.
abbrev pub expiry_counted : Bool → Bool → Course → Course
expiry_counted runs is_read c =
    let tried = if runs then silence_counted c else try_counted None c in if is_read
    then record tried {
      unanswered = min (c.unanswered + 1) 4294967295;
      unanswered_since = if c.unanswered == 0 then c.moment else c.unanswered_since;
    }
    else tried

-- The line isn't read, so the peer isn't heard: it counts neither as quiet nor as silent.
abbrev pub after_unheard : Course → Course
after_unheard c = record c { quiet_since = c.moment; unheard = 0; unanswered = 0 }

-- The peer waits for an acknowledgement, if `waits`, and doesn't count as quiet.
abbrev pub after_awaited : Bool → Course → Course
after_awaited waits c = record c { quiet_since = if waits then c.moment else c.quiet_since }

-- Bytes were received, with which there were this many.
abbrev pub after_heard : ℕ → Course → Course
after_heard read c = record c { unheard = 0; unanswered = 0; read = read }

-- The reason of a NAK, other than a reply to REP, that was received between these two counts.
abbrev pub refusal_between : NakCounts → NakCounts → Option Nak
refusal_between before now =
    if not (before.too_long == now.too_long) then Some nak.TooLong
    else if not (before.no_buffer == now.no_buffer) then Some nak.NoBuffer
    else if not (before.overrun == now.overrun) then Some nak.Overrun
    else if not (before.format == now.format) then Some nak.Format
    else if not (before.header_check == now.header_check) then Some nak.HeaderCheck
    else if not (before.data_check == now.data_check) then Some nak.DataCheck
    else if not (before.other == now.other) then Some (nak.Other 0)
    else None

-- an acknowledged message ends a pause, and the next one is short again
abbrev pub after_acknowledged : ℕ → Course → Course
after_acknowledged acknowledged c =
    if acknowledged == c.acknowledged then c
    else record c { acknowledged = acknowledged; is_refused = false; pause = None; pause_ms = 0 }

-- A pause lasts 10 ms at first, then twice as long as the last one, and as long as the reply timer
-- at most.
abbrev pub next_pause : ℕ → ℕ → ℕ
next_pause timer_ms last = min (max (2 * min last timer_ms) 10) timer_ms

-- A pause as long as the reply timer counts as a try from its beginning on.
abbrev pub pause_begun : ℕ → Option Nak → Course → Course
pause_begun timer_ms refusal c =
    let ms = next_pause timer_ms c.pause_ms in
    record (if ms == timer_ms then try_counted refusal c else c) {
      pause = Some (later c.moment ms);
      pause_ms = ms;
    }

-- From the second refusal on messages are held back for a while. A refusal during such a pause
-- changes nothing.
abbrev pub after_refusal : ℕ → Option Nak → Course → Course
after_refusal timer_ms None c = c
after_refusal timer_ms (Some reason) c =
    if not c.is_refused then record c { is_refused = true }
    else if is_none c.pause then pause_begun timer_ms (Some reason) c
    else c

-- how far the startup handshake is
abbrev pub step_of : State → ℕ
step_of Halted = 0
step_of IStart = 1
step_of AStart = 2
step_of Running = 3
step_of Maintenance = 4

-- the progress of a link
abbrev pub progress_of : LinkView → Progress
progress_of d = record {
  step = step_of (state_of d).state;
  acknowledged = d.totals.acknowledged;
  received = d.station.core.counters.messages_up;
}

abbrev pub is_at : Progress → Option Progress → Bool
is_at p None = false
is_at p (Some before) =
    p.step == before.step && p.acknowledged == before.acknowledged && p.received == before.received

-- whether since the last progress the handshake made a step or a message was received; true at
-- first
abbrev pub goes_on : Progress → Option Progress → Bool
goes_on p None = true
goes_on p (Some before) = not (p.step == before.step && p.received == before.received)

-- the NAKs of frames that came damaged or too long
abbrev pub naks_of : NakCounts → ℕ
naks_of n = n.header_check + n.data_check + n.too_long + n.format

-- Each such NAK holds the next one back for a while, unless there was progress meanwhile.
abbrev pub after_naks : ℕ → ℕ → Progress → Course → Course
after_naks timer_ms naks p c =
    if not (is_at p c.progress)
    then record c { naks = naks; nak_pause = None; nak_pause_ms = 0 }
    else if naks == c.naks || is_some c.nak_pause then c
    else
    (let ms = next_pause timer_ms c.nak_pause_ms in
    record c { naks = naks; nak_pause = Some (later c.moment ms); nak_pause_ms = ms })

-- The line isn't quiet just after the first bytes, a step of the handshake or a received message,
-- nor while the peer isn't done: it is in the middle of a frame, or a reply to it is pending. Once
-- all messages of this end are acknowledged, seven such replies count, until the peer brings
-- something new.
abbrev pub after_noise : LinkView → Progress → Course → Course
after_noise d p c =
    if goes_on p c.progress then record c { quiet_since = c.moment; replies = 0 }
    else if not (is_needed d) then c
    else if nat_lt 0 (length d.station.core.station.out)
    then record c { quiet_since = c.moment; replies = 0 }
    else if delivered d then record c { quiet_since = c.moment }
    else if nat_lt c.replies 7
    then record c { quiet_since = c.moment; replies = c.replies + 1 }
    else c

-- any progress resets the number of tries, as any byte does that of silence
abbrev pub after_progress : Progress → Course → Course
after_progress p c =
    if is_at p c.progress then c
    else record c { progress = Some p; tries = 0; refusal = None }

abbrev pub after_state : State → Course → Course
after_state Running c =
    record c { peer_has_started = true; has_run_here = true; has_run = true }
after_state Maintenance c =
    record c { peer_has_started = true; has_run_here = true; has_run = true }
after_state AStart c = record c { peer_has_started = true }
after_state _ c = c

-- the course after a link was fed, which had received these NAKs before
unfoldable pub after_looked : ℕ → NakCounts → LinkView → Course → Course
after_looked timer_ms before d c =
    after_state (state_of d).state
    (after_progress (progress_of d)
    (after_noise d (progress_of d)
    (after_naks timer_ms (naks_of d.station.core.counters.nak_sent) (progress_of d)
    (after_refusal timer_ms (refusal_between before d.station.core.counters.nak_received)
    (after_acknowledged d.totals.acknowledged (after_heard d.totals.read c))))))

-- ---- what the peer refuses

-- There were more NAKs for length than when that was reported, which it is each minute at most.
abbrev pub tells_refused_long : NakCounts → Course → Bool
tells_refused_long n c =
    not (n.too_long == c.told_refused_long) && nat_le c.refused_long_at c.moment

abbrev pub is_no_buffer : Option Nak → Bool
is_no_buffer (Some nak.NoBuffer) = true
is_no_buffer _ = false

-- What was sent again after a pause was refused for want of a buffer.
abbrev pub tells_no_buffer : Course → Bool
tells_no_buffer c = is_no_buffer c.refusal && nat_le c.no_buffer_at c.moment

abbrev pub after_refusals_told : NakCounts → Course → Course
after_refusals_told n c = record c {
  told_refused_long = if tells_refused_long n c then n.too_long else c.told_refused_long;
  refused_long_at = if tells_refused_long n c then later c.moment 60000 else c.refused_long_at;
  no_buffer_at = if tells_no_buffer c then later c.moment 60000 else c.no_buffer_at;
}

-- ---- before the peer's start

-- The station has sent STRT, and no STRT or STACK was received.
abbrev pub has_asked : State → Bool
has_asked IStart = true
has_asked _ = false

-- how many bytes were received over this line
abbrev pub heard_here : Course → ℕ
heard_here c = c.read - c.read_before

-- What is received of a peer that doesn't start is reported after four STRTs, and then each minute:
-- silence, or that the bytes, 16 or more, are neither STRT nor STACK.
abbrev pub unstarted : Course → Option Unstarted
unstarted c =
    if nat_lt c.starts 4 then None
    else if nat_lt (heard_here c) 16
    then (if nat_le c.silence_at c.moment then Some Silence else None)
    else if nat_le c.noise_at c.moment then Some Noise
    else None

abbrev pub is_silence : Option Unstarted → Bool
is_silence (Some Silence) = true
is_silence _ = false

abbrev pub is_noise : Option Unstarted → Bool
is_noise (Some Noise) = true
is_noise _ = false

-- this was reported, if anything was
abbrev pub after_unstarted : Option Unstarted → Course → Course
after_unstarted it c = record c {
  silence_at = if is_silence it then later c.moment 60000 else c.silence_at;
  noise_at = if is_noise it then later c.moment 60000 else c.noise_at;
}

-- the reply timer expired after one more STRT, if `counts`
abbrev pub start_counted : Bool → Course → Course
start_counted counts c = record c {
  starts = if counts then min (c.starts + 1) 4294967295 else c.starts;
}

-- messages that were read and will never be acknowledged
abbrev pub lost_more : ℕ → Course → Course
lost_more n c = record c { lost = total_plus c.lost n }

-- One more event begins an incarnation, which the program is to acknowledge, if it hasn't done so
-- already; and an acknowledgement of the first such event, or of the next one while nothing runs.
abbrev pub one_unready : Course → Course
one_unready c = record c {
  unready = if c.ready_ahead then c.unready else total_plus c.unready 1;
  ready_ahead = false;
}

abbrev pub one_ready : Bool → Course → Course
one_ready is_idle c = record c {
  unready = c.unready - 1;
  ready_ahead = c.ready_ahead || (is_idle && c.unready == 0);
}

-- if the notice begins an incarnation
abbrev pub unready_by : Notice → Course → Course
unready_by notice.Running c = one_unready c
unready_by notice.RunningAndHandedUp c = one_unready c
unready_by (notice.Restarted count) c = one_unready c
unready_by _ c = c

-- The peer restarted, and with `--restart` the messages that this station had accepted are lost by
-- that.
abbrev pub noted_by : Notice → Course → Course
noted_by notice.PeerRestarted c = record c { leaves = true }
noted_by (notice.Restarted count) c = lost_more count c
noted_by _ c = c

abbrev pub after_notice : Notice → Course → Course
after_notice n c = noted_by n (unready_by n c)

unfoldable pub after_notices : List Notice → Course → Course
after_notices [] c = c
after_notices (notice ∷ rest) c = after_notices rest (after_notice notice c)

-- ---- no line

-- The pause before the line is opened again doubles, from 1 second to 30.
abbrev pub after_opening_failed : Course → Course
after_opening_failed c =
    let seconds = min (max (2 * min c.retry_seconds 30) 1) 30 in record c {
      retry_seconds = seconds;
      opens_at = later c.moment (1000 * seconds);
    }
