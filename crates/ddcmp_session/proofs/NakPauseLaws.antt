-- What each call does to a pause of NAKs of what the peer sends wrong.
use Rattle.std.proofs.Common.{◌≡◌, ◌⊎◌, inl, inr, ◌∙◌, ap, sym, subst, refl, ℕ, ◌+◌, ◌≤◌, arith}
use Rattle.std.proofs.Common.{Bool, true, false, cond, not, List}
use Rattle.std.proofs.Common.{Option, Some, None}
use Rattle.std.specs.Prelude.{◌==◌, ◌&&◌, ◌||◌, is_none, is_some}
use Rattle.ddcmp_frame.specs.declared.nak.Nak.{Nak}
use Rattle.ddcmp_core.specs.Table.{is_running}
use Rattle.ddcmp_core.specs.declared.counters.NakCounts.{NakCounts}
use Rattle.ddcmp_core.specs.declared.notice.Notice.{Notice}
use Rattle.ddcmp_proto.specs.Bytes.{notices_of_piece}
use Rattle.ddcmp_station.specs.Driving.{later}
use Rattle.ddcmp_station.specs.Linking.{LinkView, after_wake}
use Rattle.ddcmp_streams.specs.Messages.{after_input, entries_of_input}
use Rattle.ddcmp_streams.specs.Options.{report_ms, speed_of}
use Rattle.ddcmp_session.specs.declared.course.Course.{Course}
use Rattle.ddcmp_session.specs.declared.course.progress.Progress.{Progress}
use Rattle.ddcmp_session.specs.Course.{after_acknowledged, after_heard, after_looked, after_moment}
use Rattle.ddcmp_session.specs.Course.{after_naks, after_notices, after_opening_failed}
use Rattle.ddcmp_session.specs.Course.{after_pauses, after_refusal, after_unheard, after_writing}
use Rattle.ddcmp_session.specs.Course.{expiry_counted, is_at, lost_more, naks_of, next_pause}
use Rattle.ddcmp_session.specs.Course.{pause_at, progress_of, refusal_between, silence_counted}
use Rattle.ddcmp_session.specs.Course.{try_counted}
use Rattle.ddcmp_session.specs.Session.{SessionView, after_connecting_in, after_entries}
use Rattle.ddcmp_session.specs.Session.{after_input_end, after_told, after_time, after_timeout}
use Rattle.ddcmp_session.specs.Session.{awaits_peer, expires, is_deaf, is_sending, lost_by_start}
use Rattle.ddcmp_session.specs.Session.{course_tried, starts}
use Rattle.ddcmp_session.specs.Session.{timed_out, wants_line}
use Rattle.ddcmp_session.specs.Timing.{PassesTime, after_failure, after_line, is_listener}
use Rattle.ddcmp_session.specs.Calls.{SessionCall, SessionDoes, InputRead, InputEnded, Connected}
use Rattle.ddcmp_session.specs.Calls.{LineEnded, Received, Filled, LineTook, TimedOut, TimePassed}
use Rattle.ddcmp_session.specs.Calls.{Delivered, OutputTook, Closed}
use Rattle.ddcmp_session.proofs.PauseLaws.{Goes, after-naks, all-noticed, either-moment, either-nak}
use Rattle.ddcmp_session.proofs.PauseLaws.{ended-pause, entries-keep, goes-on, in-time}
use Rattle.ddcmp_session.proofs.PauseLaws.{input-end-keeps, not-prolonged, passed-pause}

abbrev NakGoes : ℕ → Course → Course → Type 0
NakGoes timer_ms old new = Goes timer_ms new.moment old.nak_pause new.nak_pause

-- ---- bytes of the line

-- what the peer refuses changes neither the pause nor the moment
refusal-keeps : (ms : ℕ) (why : Option Nak) (n : ℕ) (c : Course)
    → ((after_refusal ms why (after_acknowledged n c)).nak_pause ≡ c.nak_pause)
    × ((after_refusal ms why (after_acknowledged n c)).moment ≡ c.moment)
refusal-keeps ms why n c = (pause why, moment why)
  where
    one : Course
    one = after_acknowledged n c

    one-pause : one.nak_pause ≡ c.nak_pause
    one-pause = either-nak (n == c.acknowledged) c _ c.nak_pause refl refl

    one-moment : one.moment ≡ c.moment
    one-moment = either-moment (n == c.acknowledged) c _ c.moment refl refl

    pause : (why : Option Nak) → (after_refusal ms why one).nak_pause ≡ c.nak_pause
    pause None = one-pause
    pause (Some reason) =
        either-nak (not one.is_refused) _ _ c.nak_pause one-pause
        (either-nak (is_none one.pause) _ one c.nak_pause
        (either-nak (next_pause ms one.pause_ms == ms) _ one c.nak_pause one-pause one-pause)
        one-pause)

    moment : (why : Option Nak) → (after_refusal ms why one).moment ≡ c.moment
    moment None = one-moment
    moment (Some reason) =
        either-moment (not one.is_refused) _ _ c.moment one-moment
        (either-moment (is_none one.pause) _ one c.moment
        (either-moment (next_pause ms one.pause_ms == ms) _ one c.moment one-moment one-moment)
        one-moment)

naks : (ms n : ℕ) (p : Progress) (c : Course) → NakGoes ms c (after_naks ms n p c)
naks ms n p c = by (not (is_at p c.progress))
  where
    length : ℕ
    length = next_pause ms c.nak_pause_ms

    held : Course
    held = record c {
      naks = n;
      nak_pause = Some (later c.moment length);
      nak_pause_ms = length;
    }

    again : (same : Bool) (pause : Option ℕ) → c.nak_pause ≡ pause
        → NakGoes ms c (cond (same || is_some pause) c held)
    again true pause e = inl refl
    again false (Some until) e = inl refl
    again false None e =
        inr
        (inr
        (record {
          before = e;
          until = later c.moment length;
          pause = refl;
          short = omega arith;
        }))

    by : (on : Bool)
        → NakGoes ms c
        (cond on (record c { naks = n; nak_pause = None; nak_pause_ms = 0 })
        (cond (n == c.naks || is_some c.nak_pause) c held))
    by true = inr (inl refl)
    by false = again (n == c.naks) c.nak_pause refl

looked : (ms : ℕ) (before : NakCounts) (d : LinkView) (c : Course)
    → NakGoes ms c (after_looked ms before d c)
unfolding after_looked
looked ms before d c =
    let n = naks_of d.station.core.counters.nak_sent in
    let why = refusal_between before d.station.core.counters.nak_received in
    let heard = after_heard d.totals.read c in
    let one = after_refusal ms why (after_acknowledged d.totals.acknowledged heard) in
    let held = after_naks ms n (progress_of d) one in
    let four = after-naks d held in
    let kept = refusal-keeps ms why d.totals.acknowledged heard in
    goes-on ms held.moment _ c.nak_pause held.nak_pause _
    (subst (λ p. Goes ms held.moment p held.nak_pause) kept.0 (naks ms n (progress_of d) one))
    four.nak_pause four.moment

received : (s : SessionView) (d : LinkView) (ns : List Notice) (new : Course)
    → new
    ≡ cond (wants_line s)
    (after_notices ns
    (after_looked s.options.timer_ms s.link.station.core.counters.nak_received d s.course)) s.course
    → NakGoes s.options.timer_ms s.course new
received s d ns new e = subst (NakGoes s.options.timer_ms s.course) (sym e) (by (wants_line s))
  where
    after : Course
    after = after_looked s.options.timer_ms s.link.station.core.counters.nak_received d s.course

    by : (b : Bool)
        → NakGoes s.options.timer_ms s.course (cond b (after_notices ns after) s.course)
    by true =
        let told = all-noticed ns after in
        goes-on s.options.timer_ms after.moment _ s.course.nak_pause after.nak_pause _
        (looked s.options.timer_ms s.link.station.core.counters.nak_received d s.course)
        told.nak_pause told.moment
    by false = inl refl

-- ---- moments

timed-pause : (now : ℕ) (s : SessionView)
    → (after_timeout now s).course.nak_pause ≡ pause_at now s.course.nak_pause
unfolding course_tried
timed-pause now s =
    let c =
    after_writing (speed_of s.options) s.link.totals.written
    (after_pauses (after_moment (report_ms s.options) now s.course)) in
    let t = record s { link = after_wake now s.link; course = c } in
    let u = timed_out now s in
    let p = pause_at now s.course.nak_pause in
    let runs = is_running t.link.station.core.station.state in
    let one = either-nak runs (silence_counted c) (try_counted None c) p refl refl in
    let counted =
    either-nak (is_sending t || is_deaf t) c (expiry_counted runs s.is_read c) p refl
    (either-nak s.is_read _ (cond runs (silence_counted c) (try_counted None c)) p one one) in
    let at = either-nak (expires now s && not (awaits_peer t)) _ c p counted refl in
    either-nak (wants_line u) _ (after_unheard (after_told (expires now s) u).course) p at at

-- ---- each call

connected-pause : (b enters : Bool) (c : Course)
    → (after_connecting_in b enters c).nak_pause ≡ None
connected-pause true enters c = refl
connected-pause false enters c = refl

line-pause : (s : SessionView) → (after_line s).course.nak_pause ≡ s.course.nak_pause
line-pause s =
    either-nak s.course.has_run_here
    (record s.course { retry_seconds = 0; opens_at = 0; quiet_since = s.course.moment })
    (cond (is_listener s.kind) s.course (after_opening_failed s.course)) s.course.nak_pause refl
    (either-nak (is_listener s.kind) s.course (after_opening_failed s.course) s.course.nak_pause
    refl refl)

time-passed : (old new : SessionView) → PassesTime old new
    → new.course.nak_pause ≡ old.course.nak_pause
time-passed old new p = by p.course
  where
    passed : SessionView
    passed = after_time p.now old

    by : (new.course ≡ passed.course)
        ⊎ ((new.course ≡ (after_failure passed).course) ⊎ (new.course ≡ (after_line passed).course))
        → new.course.nak_pause ≡ old.course.nak_pause
    by (inl e) = ap (λ (c : Course). c.nak_pause) e
    by (inr (inl e)) = ap (λ (c : Course). c.nak_pause) e
    by (inr (inr e)) = ap (λ (c : Course). c.nak_pause) e ∙ line-pause passed

same : (old new to : SessionView) → new ≡ to → to.course.nak_pause ≡ old.course.nak_pause
    → NakGoes old.options.timer_ms old.course new.course
same old new to e f = inl (ap (λ (x : SessionView). x.course.nak_pause) e ∙ f)

nak-goes : (call : SessionCall) (text : List ℕ) (old new : SessionView)
    → SessionDoes call text old new → NakGoes old.options.timer_ms old.course new.course
nak-goes (InputRead used) text old new d =
    let es = entries_of_input used old.messages in
    let s : SessionView = record old { messages = after_input used old.messages } in
    same old new (after_entries es s) d.state
    (entries-keep es s).nak_pause
nak-goes InputEnded text old new d =
    same old new (after_input_end old) d (input-end-keeps old).nak_pause
nak-goes Connected text old new d =
    inr
    (inl
    (ap (λ (x : SessionView). x.course.nak_pause) d.0
    ∙ connected-pause old.options.maintenance (starts old)
    (lost_more (lost_by_start old) old.course)))
nak-goes (LineEnded how r) text old new d =
    inl (ap (λ (x : SessionView). x.course.nak_pause) d.stays)
nak-goes (Received used) text old new d =
    received old new.link (notices_of_piece text used old.link.station.core) new.course d.course
nak-goes (Filled frames) text old new d = inl (ap (λ (x : SessionView). x.course.nak_pause) d.0)
nak-goes (LineTook n) text old new d = inl (ap (λ (x : SessionView). x.course.nak_pause) d)
nak-goes (TimedOut now) text old new d = by (passed-pause now old.course.nak_pause)
  where
    is : new.course.nak_pause ≡ pause_at now old.course.nak_pause
    is = ap (λ (x : SessionView). x.course.nak_pause) d ∙ timed-pause now old

    by : (pause_at now old.course.nak_pause ≡ old.course.nak_pause)
        ⊎ (pause_at now old.course.nak_pause ≡ None)
        → NakGoes old.options.timer_ms old.course new.course
    by (inl e) = inl (is ∙ e)
    by (inr e) = inr (inl (is ∙ e))
nak-goes TimePassed text old new d = inl (time-passed old new d)
nak-goes (Delivered true) text old new d =
    inl (ap (λ (x : SessionView). x.course.nak_pause) d.stays)
nak-goes (Delivered false) text old new d =
    inl (ap (λ (x : SessionView). x.course.nak_pause) d.stays)
nak-goes (OutputTook n) text old new d = inl (ap (λ (x : SessionView). x.course.nak_pause) d)
nak-goes (Closed left at reported) text old new d =
    inl (ap (λ (c : Course). c.nak_pause) d.course)

-- ---- the law

pub never-prolonged : (call : SessionCall) (text : List ℕ) (old new : SessionView) (until : ℕ)
    → SessionDoes call text old new → old.course.nak_pause ≡ Some until
    → (new.course.nak_pause ≡ Some until) ⊎ (new.course.nak_pause ≡ None)
never-prolonged call text old new until d =
    not-prolonged old.options.timer_ms new.course.moment until old.course.nak_pause
    new.course.nak_pause (nak-goes call text old new d)

pub ends-in-time : (call : SessionCall) (text : List ℕ) (old new : SessionView) (until : ℕ)
    → SessionDoes call text old new → old.course.nak_pause ≡ None
    → new.course.nak_pause ≡ Some until → until ≤ new.course.moment + old.options.timer_ms
ends-in-time call text old new until d =
    in-time old.options.timer_ms new.course.moment until old.course.nak_pause new.course.nak_pause
    (nak-goes call text old new d)

pub is-over : (text : List ℕ) (old new : SessionView) (now until : ℕ)
    → SessionDoes (TimedOut now) text old new → old.course.nak_pause ≡ Some until → until ≤ now
    → new.course.nak_pause ≡ None
is-over text old new now until d e at =
    ap (λ (x : SessionView). x.course.nak_pause) d ∙ timed-pause now old
    ∙ ended-pause now until old.course.nak_pause e at
