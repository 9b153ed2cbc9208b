-- A session that hasn't been connected: it is halted and holds nothing, and its calls add nothing
-- to its history.
use Rattle.std.proofs.Common.{◌≡◌, ◌∙◌, ap, sym, subst, refl, ℕ, zero, suc}
use Rattle.std.proofs.Common.{Bool, true, false, cond, List, [], ◌++◌, drop, take, Some, None}
use Rattle.std.proofs.Common.{◌⊎◌, inl, inr}
use Rattle.std.specs.Prelude.{◌&&◌, ◌||◌, not}
use Rattle.std.proofs.Math.Seq.{drop-nil}
use Rattle.ddcmp_window.specs.Store.{first_message}
use Rattle.ddcmp_core.specs.Core.{CoreView}
use Rattle.ddcmp_core.specs.declared.state.State.TheVariants.{Halted}
use Rattle.ddcmp_core.specs.declared.state.Timer.{Timer}
use Rattle.ddcmp_core.specs.declared.state.Timer.TheVariants as timer
use Rattle.ddcmp_core.specs.Table.{StationState, after_expire_in, after_expire_with, after_halt}
use Rattle.ddcmp_core.specs.Table.{is_on, is_running, next, next_by, next_frame}
use Rattle.ddcmp_proto.specs.Bytes.{items_added, notices_of_piece}
use Rattle.ddcmp_station.specs.Driving.{core_after_expire, core_after_take_arm, deadline_at, is_due}
use Rattle.ddcmp_station.specs.Linking.{LinkView, after_frame, after_frames, after_polled}
use Rattle.ddcmp_station.specs.Linking.{after_sent, after_wake, frame_of_link, polls}
use Rattle.ddcmp_station.specs.Driving.{frame_bytes}
use Rattle.ddcmp_station.specs.Linking.{with_state}
use Rattle.ddcmp_streams.specs.Messages.{after_input, entries_of_input}
use Rattle.ddcmp_session.specs.declared.course.Course.{Course}
use Rattle.ddcmp_session.specs.Course.{after_awaited}
use Rattle.ddcmp_session.specs.Course.{after_looked, after_moment, after_notices}
use Rattle.ddcmp_session.specs.Course.{after_opening_failed, after_pauses, after_unheard}
use Rattle.ddcmp_session.specs.Course.{after_writing}
use Rattle.ddcmp_session.specs.Course.{expiry_counted}
use Rattle.ddcmp_session.specs.Session.{SessionView, after_last_line, after_time, after_timeout}
use Rattle.ddcmp_session.specs.Session.{after_told, after_tried, after_unfinished}
use Rattle.ddcmp_session.specs.Session.{after_output, awaits_peer, is_awaited, taken_when_written}
use Rattle.ddcmp_laws.proofs.Holding.{takes_none}
use Rattle.ddcmp_session.specs.Session.{expires, form_of, is_deaf, is_sending, unless_read}
use Rattle.ddcmp_session.specs.Session.{course_tried, wants_line}
use Rattle.ddcmp_streams.specs.Options.{report_ms, speed_of}
use Rattle.ddcmp_session.specs.Timing.{after_failure, after_line, is_listener}
use Rattle.ddcmp_session.specs.Calls.{Closed, Connected, Delivered, Filled, HasDelivered}
use Rattle.ddcmp_session.specs.Calls.{HasReceived, HasReadInput, InputEnded, LineEnded, LineTook}
use Rattle.ddcmp_session.specs.Calls.{OutputTook, Received, SessionCall, SessionDoes, TimePassed}
use Rattle.ddcmp_session.specs.Calls.{TimedOut, InputRead, end_in, gone_in, input_in, shown_in}
use Rattle.ddcmp_session.specs.Calls.{used_in}
use Rattle.ddcmp_session.proofs.GoingLaws.{same-at}
use Rattle.ddcmp_laws.specs.Pipe.{connects_in_call}
use Rattle.ddcmp_laws.specs.Sessions.{mail_in}
use Rattle.ddcmp_laws.proofs.Losing.{end-halted, entries-halted, entries-keep, frames-halted}
use Rattle.ddcmp_laws.proofs.Losing.{input-halted}
use Rattle.ddcmp_laws.proofs.Losing.{items-halted, station_of, wake-halted}
use Rattle.ddcmp_laws.proofs.Texts.{no_mail, no_mail_ends, nothing_lost}

-- ---- a session without a line holds nothing

pub record IsIdle (s : SessionView) : Type 0 where
  pub shut : s.has_line ≡ false
  pub halted : s.link.station.core.station.state ≡ Halted
  pub inbox : s.link.station.core.station.inbox ≡ []
  pub waiting : s.link.outbox.waiting ≡ []
  pub never : s.course.has_run ≡ false

still : (old new : SessionView) → new.has_line ≡ old.has_line
    → (station_of new).state ≡ Halted → (station_of new).inbox ≡ (station_of old).inbox
    → new.link.outbox.waiting ≡ old.link.outbox.waiting
    → new.course.has_run ≡ old.course.has_run → IsIdle old → IsIdle new
still old new line halted inbox waiting ran was = record {
  shut = line ∙ was.shut;
  halted = halted;
  inbox = inbox ∙ was.inbox;
  waiting = waiting ∙ was.waiting;
  never = ran ∙ was.never;
}

-- its station is the same
same-station : (old new : SessionView) → new.has_line ≡ old.has_line
    → station_of new ≡ station_of old → new.link.outbox.waiting ≡ old.link.outbox.waiting
    → new.course.has_run ≡ old.course.has_run → IsIdle old → IsIdle new
same-station old new line station waiting ran was =
    still old new line (ap (λ (x : StationState). x.state) station ∙ was.halted)
    (ap (λ (x : StationState). x.inbox) station) waiting ran was

same-link : (old new : SessionView) → new.has_line ≡ old.has_line → new.link ≡ old.link
    → new.course.has_run ≡ old.course.has_run → IsIdle old → IsIdle new
same-link old new line link ran was =
    same-station old new line (ap (λ (d : LinkView). d.station.core.station) link)
    (ap (λ (d : LinkView). d.outbox.waiting) link) ran was

-- ---- what its link leaves as it is

pub none-more : {A : Type 0} (xs ys : List A) → xs ≡ [] → ys ≡ [] → xs ++ ys ≡ []
none-more xs ys e f = ap (λ zs. zs ++ ys) e ∙ f

take-none : (n : ℕ) → ◌≡◌ {A = List ℕ} (take n []) []
take-none zero = refl
take-none (suc n) = refl

unwanted : (s : SessionView) → s.has_line ≡ false → wants_line s ≡ false
unwanted s shut = ap (λ b. wants_line (record s { has_line = b })) shut

no-frame : (d : LinkView) → d.station.core.station.state ≡ Halted
    → frame_bytes d.station.syn (frame_of_link d) ≡ []
unfolding next
no-frame d halted =
    ap (λ st. frame_bytes d.station.syn (next_frame (next_by st d.station.core.station))) halted

frame-waiting : (d : LinkView) → d.station.core.station.state ≡ Halted → d.outbox.waiting ≡ []
    → (after_frame d).outbox.waiting ≡ []
frame-waiting d halted empty = by (polls d)
  where
    by : (b : Bool) → (cond b (after_polled d) d).outbox.waiting ≡ []
    by true =
        none-more d.outbox.waiting (frame_bytes d.station.syn (frame_of_link d)) empty
        (no-frame d halted)
    by false = empty

frames-waiting : (n : ℕ) (d : LinkView) → d.station.core.station.state ≡ Halted
    → d.outbox.waiting ≡ [] → (after_frames n d).outbox.waiting ≡ []
unfolding after_frames
frames-waiting zero d halted empty = empty
frames-waiting (suc n) d halted empty =
    frame-waiting (after_frames n d)
    (ap (λ (s : StationState). s.state) (frames-halted n d halted) ∙ halted)
    (frames-waiting n d halted empty)

expire-inbox : (t : Timer) (s : StationState) → s.state ≡ Halted
    → (after_expire_with t s).inbox ≡ s.inbox
expire-inbox timer.Off s halted = refl
expire-inbox timer.Fresh s halted =
    ap (λ (x : StationState). x.inbox) (ap (λ st. after_expire_in st s) halted)
expire-inbox timer.On s halted =
    ap (λ (x : StationState). x.inbox) (ap (λ st. after_expire_in st s) halted)

wake-inbox : (now : ℕ) (d : LinkView) → d.station.core.station.state ≡ Halted
    → (after_wake now d).station.core.station.inbox ≡ d.station.core.station.inbox
wake-inbox now d halted =
    by (is_on (core_after_take_arm d.station.core).station.timer
    && is_due now (deadline_at d.milliseconds now d.station.core.station.timer d.deadline))
  where
    by : (b : Bool)
        → (cond b (core_after_expire (core_after_take_arm d.station.core))
        (core_after_take_arm d.station.core)).station.inbox
        ≡ d.station.core.station.inbox
    by true =
        expire-inbox (core_after_take_arm d.station.core).station.timer
        (core_after_take_arm d.station.core).station halted
    by false = refl

-- no moment lets a station run
timed-run : (now : ℕ) (s : SessionView)
    → (after_timeout now s).course.has_run ≡ s.course.has_run
unfolding course_tried
timed-run now s =
    unheard (after_told (expires now s) (after_tried (expires now s) passed))
    ∙ tried (expires now s && not (awaits_peer passed)) (is_sending passed || is_deaf passed)
    (is_running passed.link.station.core.station.state) s.is_read
  where
    passed : SessionView
    passed = record s {
      link = after_wake now s.link;
      course =
          after_writing (speed_of s.options) s.link.totals.written
          (after_pauses (after_moment (report_ms s.options) now s.course));
    }

    unheard : (x : SessionView) → (unless_read x).course.has_run ≡ x.course.has_run
    unheard x = by (wants_line x)
      where
        by : (b : Bool)
            → (cond b (after_awaited (is_awaited x) x.course) (after_unheard x.course)).has_run
            ≡ x.course.has_run
        by true = refl
        by false = refl

    tried : (b is_none runs is_read : Bool)
        → (cond b
        (record (cond is_none passed.course (expiry_counted runs is_read passed.course)) {
          written_then = passed.course.written;
        })
        passed.course).has_run
        ≡ s.course.has_run
    tried true true runs is_read = refl
    tried true false true true = refl
    tried true false true false = refl
    tried true false false true = refl
    tried true false false false = refl
    tried false is_none runs is_read = refl

passed-run : (s : SessionView) (c : Course) (now : ℕ)
    → (c ≡ (after_time now s).course)
    ⊎ ((c ≡ (after_failure (after_time now s)).course)
    ⊎ (c ≡ (after_line (after_time now s)).course))
    → c.has_run ≡ s.course.has_run
passed-run s c now (inl is) = ap (λ (x : Course). x.has_run) is
passed-run s c now (inr (inl is)) = ap (λ (x : Course). x.has_run) is
passed-run s c now (inr (inr is)) =
    ap (λ (x : Course). x.has_run) is ∙ by passed.course.has_run_here (is_listener passed.kind)
  where
    passed : SessionView
    passed = after_time now s

    by : (here listens : Bool)
        → (cond here
        (record passed.course {
          retry_seconds = 0;
          opens_at = 0;
          quiet_since = passed.course.moment;
        })
        (cond listens passed.course (after_opening_failed passed.course))).has_run
        ≡ s.course.has_run
    by true listens = refl
    by false true = refl
    by false false = refl

-- ---- each call before it is connected

-- it is idle again, and the call has added nothing to its history
pub record AddsNone (call : SessionCall) (text : List ℕ) (old new : SessionView) : Type 0 where
  pub idle : IsIdle new
  pub used : used_in call ≡ []
  pub gone : gone_in call old ≡ []
  pub input : input_in call old ≡ []
  pub mail : mail_in (shown_in call text old) ≡ []

input_read-none : (used text : List ℕ) (old new : SessionView) → HasReadInput used old new
    → IsIdle old
    → AddsNone (InputRead used) text old new
unfolding mail_in
input_read-none used text old new d was =
    let es = entries_of_input used old.messages in
    let s : SessionView = record old { messages = after_input used old.messages } in
    record {
      idle =
          same-link old new
          (ap (λ (x : SessionView). x.has_line) d.state ∙ (entries-keep es s).line)
          (ap (λ (x : SessionView). x.link) d.state ∙ entries-halted es s was.halted)
          (ap (λ (x : SessionView). x.course.has_run) d.state
          ∙ (entries-keep es s).run) was;
      used = refl;
      gone = refl;
      input = d.wanted (input-halted old was.halted was.never);
      mail = refl;
    }

ended-none : (text : List ℕ) (old new : SessionView) → SessionDoes InputEnded text old new
    → IsIdle old → AddsNone InputEnded text old new
unfolding mail_in
ended-none text old new d was =
    let e : new ≡ old =
    d
    ∙ ap (λ b. cond b (after_unfinished (after_last_line old)) old)
    (end-halted old was.halted was.never) in
    record {
      idle = subst IsIdle (sym e) was;
      used = refl;
      gone = refl;
      input =
          ap (λ b. cond b (end_in (form_of old.messages)) [])
          (end-halted old was.halted was.never);
      mail = refl;
    }

-- the station is halted, and there is no line
halted-idle : (old new : SessionView) → new.has_line ≡ false
    → new.link ≡ with_state (after_halt old.link.station.core.station) old.link
    → new.course.has_run ≡ old.course.has_run → IsIdle old → IsIdle new
halted-idle old new shut link ran was = record {
  shut = shut;
  halted = ap (λ (d : LinkView). d.station.core.station.state) link;
  inbox = ap (λ (d : LinkView). d.station.core.station.inbox) link ∙ was.inbox;
  waiting = ap (λ (d : LinkView). d.outbox.waiting) link ∙ was.waiting;
  never = ran ∙ was.never;
}

received-none : (used text : List ℕ) (old new : SessionView) → HasReceived text used old new
    → IsIdle old → AddsNone (Received used) text old new
received-none used text old new d was =
    let to = record old { link = new.link; course = new.course; output = new.output } in
    let notices = notices_of_piece text used old.link.station.core in
    let looked =
    after_looked old.options.timer_ms old.link.station.core.counters.nak_received new.link
    old.course in
    record {
      idle =
          same-station old new (same-at (λ x. x.has_line) new to d.stays)
          (ap (λ (k : CoreView). k.station) d.core
          ∙ items-halted (items_added old.link.station.core.limits.longest text used)
          old.link.station.core was.halted)
          (ap (λ (k : LinkView). k.outbox.waiting) d.link)
          (ap (λ (c : Course). c.has_run)
          (d.course
          ∙ ap (λ b. cond b (after_notices notices looked) old.course) (unwanted old was.shut)))
          was;
      used = d.wanted (unwanted old was.shut);
      gone = refl;
      input = refl;
      mail = no_mail (notices_of_piece text used old.link.station.core);
    }

delivered-none : (text : List ℕ) (old new : SessionView) → HasDelivered old new → IsIdle old
    → AddsNone (Delivered true) text old new
delivered-none text old new d was =
    no
    (sym (ap (λ xs. first_message (drop old.unwritten xs)) was.inbox
    ∙ ap first_message (drop-nil old.unwritten))
    ∙ d.wrote.1)
  where
    no : {P : Type 0} {message : List ℕ} → None ≡ Some message → P
    no e = cc

-- a call of any other kind
pub call-none : (call : SessionCall) → connects_in_call call ≡ 0 → (text : List ℕ)
    (old new : SessionView) → SessionDoes call text old new → IsIdle old
    → AddsNone call text old new
unfolding mail_in
call-none Connected none text old new d was = cc
call-none (InputRead used) none text old new d was = input_read-none used text old new d was
call-none InputEnded none text old new d was = ended-none text old new d was
call-none (LineEnded how r) none text old new d was = record {
  idle =
      halted-idle old new (ap (λ (x : SessionView). x.has_line) d.stays) d.link
      (ap (λ (x : SessionView). x.course.has_run) d.stays) was;
  used = refl;
  gone = refl;
  input = refl;
  mail = no_mail_ends how r old;
}
call-none (Received used) none text old new d was = received-none used text old new d was
call-none (Filled n) none text old new d was = record {
  idle =
      same-station old new
      (same-at (λ x. x.has_line) new (record old { link = after_frames n old.link }) d.0)
      (ap station_of d.0 ∙ frames-halted n old.link was.halted)
      (ap (λ (x : SessionView). x.link.outbox.waiting) d.0
      ∙ frames-waiting n old.link was.halted was.waiting
      ∙ sym was.waiting) (ap (λ (x : SessionView). x.course.has_run) d.0) was;
  used = refl;
  gone = refl;
  input = refl;
  mail = refl;
}
call-none (LineTook n) none text old new d was = record {
  idle =
      same-station old new
      (same-at (λ x. x.has_line) new (record old { link = after_sent n old.link }) d)
      (ap station_of d)
      (ap (λ (x : SessionView). x.link.outbox.waiting) d
      ∙ ap (drop n) was.waiting
      ∙ drop-nil n
      ∙ sym was.waiting) (ap (λ (x : SessionView). x.course.has_run) d) was;
  used = refl;
  gone = ap (take n) was.waiting ∙ take-none n;
  input = refl;
  mail = refl;
}
call-none (TimedOut now) none text old new d was = record {
  idle =
      still old new (same-at (λ x. x.has_line) new (after_timeout now old) d)
      (same-at (λ x. (station_of x).state) new (after_timeout now old) d
      ∙ (wake-halted now old.link was.halted).0)
      (same-at (λ x. (station_of x).inbox) new (after_timeout now old) d
      ∙ wake-inbox now old.link was.halted)
      (same-at (λ x. x.link.outbox.waiting) new (after_timeout now old) d)
      (ap (λ (x : SessionView). x.course.has_run) d ∙ timed-run now old) was;
  used = refl;
  gone = refl;
  input = refl;
  mail = refl;
}
call-none TimePassed none text old new d was = record {
  idle =
      same-link old new
      (same-at (λ x. x.has_line) new (record old { course = new.course }) d.stays)
      (ap (λ (x : SessionView). x.link) d.stays) (passed-run old new.course d.now d.course) was;
  used = refl;
  gone = refl;
  input = refl;
  mail = refl;
}
call-none (Delivered true) none text old new d was = delivered-none text old new d was
call-none (Delivered false) none text old new d was = record {
  idle =
      same-link old new
      (same-at (λ x. x.has_line) new (record old { output = new.output }) d.stays)
      (ap (λ (x : SessionView). x.link) d.stays)
      (ap (λ (x : SessionView). x.course.has_run) d.stays) was;
  used = refl;
  gone = refl;
  input = refl;
  mail = refl;
}
call-none (OutputTook n) none text old new d was = record {
  idle =
      same-link old new
      (same-at (λ x. x.has_line) new (after_output n old) d)
      (ap (λ (x : SessionView). x.link) d ∙ takes_none (taken_when_written n old) old.link was.inbox)
      (ap (λ (x : SessionView). x.course.has_run) d) was;
  used = refl;
  gone = refl;
  input = refl;
  mail = refl;
}
call-none (Closed left over r) none text old new d was = record {
  idle =
      halted-idle old new (ap (λ (x : SessionView). x.has_line) d.stays) d.link
      (ap (λ (c : Course). c.has_run) d.course) was;
  used = refl;
  gone = refl;
  input = refl;
  mail = nothing_lost r old;
}
