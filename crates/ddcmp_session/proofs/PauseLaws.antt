-- What each call does to a pause of messages that the peer refuses.
use Rattle.std.proofs.Common.{◌≡◌, ◌⊎◌, inl, inr, ◌∙◌, ap, sym, subst, refl, ℕ, ◌+◌, ◌≤◌, arith}
use Rattle.std.proofs.Common.{Bool, true, false, cond, not, List, [], ◌∷◌, length}
use Rattle.std.proofs.Common.{Option, Some, None, option_to_list}
use Rattle.std.specs.Prelude.{◌==◌, ◌&&◌, ◌||◌, is_none, is_some, nat_lt}
use Rattle.std.proofs.lemmas.Bool.{le-leb}
use Rattle.ddcmp_frame.specs.declared.nak.Nak.{Nak}
use Rattle.ddcmp_input.specs.declared.entry.Entry.{Entry}
use Rattle.ddcmp_input.specs.declared.entry.Entry.TheVariants as entry
use Rattle.ddcmp_core.specs.Table.{is_running}
use Rattle.ddcmp_core.specs.declared.counters.NakCounts.{NakCounts}
use Rattle.ddcmp_core.specs.declared.notice.Notice.{Notice}
use Rattle.ddcmp_core.specs.declared.notice.Notice.TheVariants as notice
use Rattle.ddcmp_core.specs.declared.state.State.{State}
use Rattle.ddcmp_core.specs.declared.state.State.TheVariants as state
use Rattle.ddcmp_proto.specs.Bytes.{notices_of_piece}
use Rattle.ddcmp_station.specs.Driving.{is_due, later}
use Rattle.ddcmp_station.specs.Linking.{LinkView, after_wake, delivered, is_needed, state_of}
use Rattle.ddcmp_streams.specs.Messages.{after_input, after_last, entries_of_input, entry_of_last}
use Rattle.ddcmp_streams.specs.Messages.{is_message_unfinished}
use Rattle.ddcmp_streams.specs.Options.{report_ms, speed_of}
use Rattle.ddcmp_session.specs.declared.course.Course.{Course}
use Rattle.ddcmp_session.specs.declared.course.progress.Progress.{Progress}
use Rattle.ddcmp_session.specs.Course.{after_acknowledged, after_looked, after_moment, after_noise}
use Rattle.ddcmp_session.specs.Course.{after_heard, after_notice, after_notices}
use Rattle.ddcmp_session.specs.Course.{after_opening_failed, after_unheard, expiry_counted}
use Rattle.ddcmp_session.specs.Course.{after_pauses, after_progress, after_refusal, after_state}
use Rattle.ddcmp_session.specs.Course.{goes_on, is_at, lost_more, next_pause, pause_at, pause_begun}
use Rattle.ddcmp_session.specs.Course.{after_naks, after_writing, naks_of, progress_of}
use Rattle.ddcmp_session.specs.Course.{refusal_between}
use Rattle.ddcmp_session.specs.Course.{silence_counted, try_counted}
use Rattle.ddcmp_session.specs.Session.{SessionView, after_connecting_in}
use Rattle.ddcmp_session.specs.Session.{after_command, after_entries, after_entry}
use Rattle.ddcmp_session.specs.Session.{after_input_end, after_message, is_held}
use Rattle.ddcmp_streams.specs.Messages.{command_in}
use Rattle.ddcmp_streams.specs.declared.messages.Command.{Command}
use Rattle.ddcmp_streams.specs.declared.messages.Command.TheVariants as command
use Rattle.ddcmp_session.specs.Session.{after_last_line, after_told, after_time, after_timeout}
use Rattle.ddcmp_session.specs.Session.{after_unfinished, awaits_peer, expires, is_deaf, is_sending}
use Rattle.ddcmp_session.specs.Session.{course_tried, lost_by_start, starts}
use Rattle.ddcmp_session.specs.Session.{takes_end, timed_out, wants_line}
use Rattle.ddcmp_session.specs.Timing.{PassesTime, after_failure, after_line, is_listener}
use Rattle.ddcmp_session.specs.Calls.{SessionCall, SessionDoes, InputRead, InputEnded, Connected}
use Rattle.ddcmp_session.specs.Calls.{LineEnded, Received, Filled, LineTook, TimedOut, TimePassed}
use Rattle.ddcmp_session.specs.Calls.{Delivered, OutputTook, Closed}

-- A pause begins at this moment and ends within this time.
pub record Begins (timer_ms moment : ℕ) (old new : Option ℕ) : Type 0 where
  pub before : old ≡ None
  pub until : ℕ
  pub pause : new ≡ Some until
  pub short : until ≤ moment + timer_ms

-- It stays as it is, is over, or begins.
abbrev pub Goes : ℕ → ℕ → Option ℕ → Option ℕ → Type 0
Goes timer_ms moment old new =
    (new ≡ old) ⊎ ((new ≡ None) ⊎ Begins timer_ms moment old new)

abbrev PauseGoes : ℕ → Course → Course → Type 0
PauseGoes timer_ms old new = Goes timer_ms new.moment old.pause new.pause

-- Neither pause nor the moment changes.
pub record Keeps (old new : Course) : Type 0 where
  pub pause : new.pause ≡ old.pause
  pub nak_pause : new.nak_pause ≡ old.nak_pause
  pub moment : new.moment ≡ old.moment

pub keeps : (old new : Course) → new ≡ old → Keeps old new
keeps old new e =
    record {
      pause = ap (λ (c : Course). c.pause) e;
      nak_pause = ap (λ (c : Course). c.nak_pause) e;
      moment = ap (λ (c : Course). c.moment) e;
    }

kept : (c : Course) → Keeps c c
kept c = keeps c c refl

pub then-keeps : (a b c : Course) → Keeps a b → Keeps b c → Keeps a c
then-keeps a b c k l =
    record {
      pause = l.pause ∙ k.pause;
      nak_pause = l.nak_pause ∙ k.nak_pause;
      moment = l.moment ∙ k.moment;
    }

pub goes-on : (ms m m' : ℕ) (p q q' : Option ℕ) → Goes ms m p q → q' ≡ q → m' ≡ m
    → Goes ms m' p q'
goes-on ms m m' p q q' (inl e) same at = inl (same ∙ e)
goes-on ms m m' p q q' (inr (inl e)) same at = inr (inl (same ∙ e))
goes-on ms m m' p q q' (inr (inr g)) same at =
    inr
    (inr
    (record {
      before = g.before;
      until = g.until;
      pause = same ∙ g.pause;
      short = omega (arith, g.short, at);
    }))

pub either-pause : (b : Bool) (x y : Course) (p : Option ℕ) → x.pause ≡ p → y.pause ≡ p
    → (cond b x y).pause ≡ p
either-pause true x y p e f = e
either-pause false x y p e f = f

pub either-nak : (b : Bool) (x y : Course) (p : Option ℕ) → x.nak_pause ≡ p → y.nak_pause ≡ p
    → (cond b x y).nak_pause ≡ p
either-nak true x y p e f = e
either-nak false x y p e f = f

pub either-moment : (b : Bool) (x y : Course) (n : ℕ) → x.moment ≡ n → y.moment ≡ n
    → (cond b x y).moment ≡ n
either-moment true x y n e f = e
either-moment false x y n e f = f

either : (b : Bool) (x y c : Course) → Keeps c x → Keeps c y → Keeps c (cond b x y)
either b x y c k l =
    record {
      pause = either-pause b x y c.pause k.pause l.pause;
      nak_pause = either-nak b x y c.nak_pause k.nak_pause l.nak_pause;
      moment = either-moment b x y c.moment k.moment l.moment;
    }

-- ---- bytes of the line

begun : (ms : ℕ) (why : Option Nak) (c : Course) → c.pause ≡ None
    → Begins ms (pause_begun ms why c).moment c.pause (pause_begun ms why c).pause
begun ms why c e =
    let length = next_pause ms c.pause_ms in
    let at =
    either-moment (length == ms) (try_counted why c) c c.moment refl refl in
    record {
      before = e;
      until = later c.moment length;
      pause = refl;
      short = omega (arith, at);
    }

refused : (ms : ℕ) (why : Option Nak) (n : ℕ) (c : Course)
    → PauseGoes ms c (after_refusal ms why (after_acknowledged n c))
refused ms why n c = by (n == c.acknowledged) why
  where
    begins : (reason : Nak) (p : Option ℕ) → c.pause ≡ p
        → PauseGoes ms c (cond (is_none p) (pause_begun ms (Some reason) c) c)
    begins reason None e = inr (inr (begun ms (Some reason) c e))
    begins reason (Some until) e = inl refl

    again : (reason : Nak) (first : Bool)
        → PauseGoes ms c
        (cond first (record c { is_refused = true })
        (cond (is_none c.pause) (pause_begun ms (Some reason) c) c))
    again reason true = inl refl
    again reason false = begins reason c.pause refl

    by : (same : Bool) (why : Option Nak)
        → PauseGoes ms c
        (after_refusal ms why
        (cond same c
        (record c { acknowledged = n; is_refused = false; pause = None; pause_ms = 0 })))
    by true None = inl refl
    by true (Some reason) = again reason (not c.is_refused)
    by false None = inr (inl refl)
    by false (Some reason) = inr (inl refl)

pub in-state : (s : State) (c : Course) → Keeps c (after_state s c)
in-state state.Halted c = keeps c c refl
in-state state.IStart c = keeps c c refl
in-state state.AStart c = record { pause = refl; nak_pause = refl; moment = refl }
in-state state.Running c = record { pause = refl; nak_pause = refl; moment = refl }
in-state state.Maintenance c = record { pause = refl; nak_pause = refl; moment = refl }

pub noise : (d : LinkView) (p : Progress) (c : Course) → Keeps c (after_noise d p c)
noise d p c =
    either (goes_on p c.progress) _ _ c quiet
    (either (not (is_needed d)) c _ c (kept c)
    (either (nat_lt 0 (length d.station.core.station.out)) _ _ c quiet
    (either (delivered d) _ _ c quiet
    (either (nat_lt c.replies 7) _ c c quiet (kept c)))))
  where
    quiet : {replies : ℕ} → Keeps c (record c { quiet_since = c.moment; replies = replies })
    quiet = record { pause = refl; nak_pause = refl; moment = refl }

-- what follows the pauses, once bytes were fed
pub after-naks : (d : LinkView) (c : Course)
    → Keeps c
    (after_state (state_of d).state
    (after_progress (progress_of d) (after_noise d (progress_of d) c)))
after-naks d c =
    then-keeps c three (after_state (state_of d).state three)
    (then-keeps c two three (noise d p c) progress) (in-state (state_of d).state three)
  where
    p : Progress
    p = progress_of d

    two : Course
    two = after_noise d p c

    three : Course
    three = after_progress p two

    progress : Keeps two three
    progress =
        either (is_at p two.progress) two _ two (kept two)
        (record { pause = refl; nak_pause = refl; moment = refl })

looked : (ms : ℕ) (before : NakCounts) (d : LinkView) (c : Course)
    → PauseGoes ms c (after_looked ms before d c)
unfolding after_looked
looked ms before d c =
    let p = progress_of d in
    let n = naks_of d.station.core.counters.nak_sent in
    let why = refusal_between before d.station.core.counters.nak_received in
    let heard = after_heard d.totals.read c in
    let one = after_refusal ms why (after_acknowledged d.totals.acknowledged heard) in
    let held = after_naks ms n p one in
    let four = after-naks d held in
    goes-on ms one.moment _ c.pause one.pause _
    (refused ms why d.totals.acknowledged heard)
    (four.pause
    ∙ either-pause (not (is_at p one.progress)) _ _ one.pause refl
    (either-pause (n == one.naks || is_some one.nak_pause) one _ one.pause refl refl))
    (four.moment
    ∙ either-moment (not (is_at p one.progress)) _ _ one.moment refl
    (either-moment (n == one.naks || is_some one.nak_pause) one _ one.moment refl refl))

noticed : (n : Notice) (c : Course) → Keeps c (after_notice n c)
noticed notice.Running c = record { pause = refl; nak_pause = refl; moment = refl }
noticed notice.RunningAndHandedUp c = record { pause = refl; nak_pause = refl; moment = refl }
noticed (notice.Acknowledged m) c = keeps c c refl
noticed notice.HandedUp c = keeps c c refl
noticed (notice.HandedUpAndAcknowledged m) c = keeps c c refl
noticed notice.PeerStarts c = keeps c c refl
noticed notice.PeerRestarted c = record { pause = refl; nak_pause = refl; moment = refl }
noticed (notice.Restarted count) c = record { pause = refl; nak_pause = refl; moment = refl }
noticed notice.MaintenanceSeen c = keeps c c refl
noticed notice.MaintenanceHandedUp c = keeps c c refl
noticed notice.MaintenanceDropped c = keeps c c refl

pub all-noticed : (ns : List Notice) (c : Course) → Keeps c (after_notices ns c)
unfolding after_notices
all-noticed [] c = keeps c c refl
all-noticed (n ∷ rest) c =
    then-keeps c (after_notice n c) (after_notices rest (after_notice n c)) (noticed n c)
    (all-noticed rest (after_notice n c))

received : (s : SessionView) (d : LinkView) (ns : List Notice) (new : Course)
    → new
    ≡ cond (wants_line s)
    (after_notices ns
    (after_looked s.options.timer_ms s.link.station.core.counters.nak_received d s.course)) s.course
    → PauseGoes s.options.timer_ms s.course new
received s d ns new e =
    subst (PauseGoes s.options.timer_ms s.course) (sym e) (by (wants_line s))
  where
    after : Course
    after = after_looked s.options.timer_ms s.link.station.core.counters.nak_received d s.course

    by : (b : Bool)
        → PauseGoes s.options.timer_ms s.course (cond b (after_notices ns after) s.course)
    by true =
        let told = all-noticed ns after in
        goes-on s.options.timer_ms after.moment _ s.course.pause after.pause _
        (looked s.options.timer_ms s.link.station.core.counters.nak_received d s.course) told.pause
        told.moment
    by false = inl refl

-- ---- moments

timed-pause : (now : ℕ) (s : SessionView)
    → (after_timeout now s).course.pause ≡ pause_at now s.course.pause
unfolding course_tried
timed-pause now s =
    let c =
    after_writing (speed_of s.options) s.link.totals.written
    (after_pauses (after_moment (report_ms s.options) now s.course)) in
    let t = record s { link = after_wake now s.link; course = c } in
    let u = timed_out now s in
    let p = pause_at now s.course.pause in
    let runs = is_running t.link.station.core.station.state in
    let one = either-pause runs (silence_counted c) (try_counted None c) p refl refl in
    let counted =
    either-pause (is_sending t || is_deaf t) c (expiry_counted runs s.is_read c) p refl
    (either-pause s.is_read _ (cond runs (silence_counted c) (try_counted None c)) p one one) in
    let at = either-pause (expires now s && not (awaits_peer t)) _ c p counted refl in
    either-pause (wants_line u) _ (after_unheard (after_told (expires now s) u).course) p at at

pub ended-pause : (now until : ℕ) (p : Option ℕ) → p ≡ Some until → until ≤ now
    → pause_at now p ≡ None
ended-pause now until p e at =
    ap (pause_at now) e ∙ ap (λ b. cond b None (Some until)) (le-leb until now at)

pub passed-pause : (now : ℕ) (p : Option ℕ) → (pause_at now p ≡ p) ⊎ (pause_at now p ≡ None)
passed-pause now p = by (is_due now p)
  where
    by : (b : Bool) → (cond b None p ≡ p) ⊎ (cond b None p ≡ None)
    by true = inr refl
    by false = inl refl

-- ---- each call

message-keeps : (b : Bool) (s : SessionView) → Keeps s.course (after_message b s).course
message-keeps true s = record { pause = refl; nak_pause = refl; moment = refl }
message-keeps false s = kept s.course

command-keeps : (c : Command) (s : SessionView) → Keeps s.course (after_command c s).course
command-keeps command.Ready s = record { pause = refl; nak_pause = refl; moment = refl }
command-keeps command.Restart s = record { pause = refl; nak_pause = refl; moment = refl }
command-keeps command.Halt s = record { pause = refl; nak_pause = refl; moment = refl }
command-keeps command.Start s = record { pause = refl; nak_pause = refl; moment = refl }
command-keeps command.Report s = kept s.course
command-keeps command.Quit s = record { pause = refl; nak_pause = refl; moment = refl }
command-keeps command.Unknown s = kept s.course

entry-keeps : (e : Entry) (s : SessionView) → Keeps s.course (after_entry e s).course
entry-keeps entry.Message s = message-keeps (is_held s) s
entry-keeps entry.NotHexadecimal s = kept s.course
entry-keeps entry.TooLong s = kept s.course
entry-keeps entry.Empty s = kept s.course
entry-keeps entry.Command s = command-keeps (command_in s.messages) s

pub entries-keep : (es : List Entry) (s : SessionView) → Keeps s.course (after_entries es s).course
entries-keep [] s = kept s.course
entries-keep (e ∷ rest) s = entry-keeps e s

pub input-end-keeps : (s : SessionView) → Keeps s.course (after_input_end s).course
input-end-keeps s = by (takes_end s)
  where
    last : SessionView
    last = record s { messages = after_last s.messages; is_read = true }

    unfinished : (b : Bool) (x : SessionView)
        → (cond b (record x { was_refused = true }) x).course ≡ x.course
    unfinished true x = refl
    unfinished false x = refl

    by : (b : Bool) → Keeps s.course (cond b (after_unfinished (after_last_line s)) s).course
    by true =
        then-keeps s.course (after_last_line s).course (after_unfinished (after_last_line s)).course
        (entries-keep (option_to_list (entry_of_last s.messages)) last)
        (keeps (after_last_line s).course (after_unfinished (after_last_line s)).course
        (unfinished (is_message_unfinished (after_last_line s).messages) (after_last_line s)))
    by false = kept s.course

connected-pause : (b enters : Bool) (c : Course) → (after_connecting_in b enters c).pause ≡ None
connected-pause true enters c = refl
connected-pause false enters c = refl

line-pause : (s : SessionView) → (after_line s).course.pause ≡ s.course.pause
line-pause s =
    either-pause s.course.has_run_here
    (record s.course { retry_seconds = 0; opens_at = 0; quiet_since = s.course.moment })
    (cond (is_listener s.kind) s.course (after_opening_failed s.course)) s.course.pause refl
    (either-pause (is_listener s.kind) s.course (after_opening_failed s.course) s.course.pause refl
    refl)

time-passed : (old new : SessionView) → PassesTime old new → new.course.pause ≡ old.course.pause
time-passed old new p = by p.course
  where
    passed : SessionView
    passed = after_time p.now old

    by : (new.course ≡ passed.course)
        ⊎ ((new.course ≡ (after_failure passed).course) ⊎ (new.course ≡ (after_line passed).course))
        → new.course.pause ≡ old.course.pause
    by (inl e) = ap (λ (c : Course). c.pause) e
    by (inr (inl e)) = ap (λ (c : Course). c.pause) e
    by (inr (inr e)) = ap (λ (c : Course). c.pause) e ∙ line-pause passed

same : (old new to : SessionView) → new ≡ to → to.course.pause ≡ old.course.pause
    → PauseGoes old.options.timer_ms old.course new.course
same old new to e f = inl (ap (λ (x : SessionView). x.course.pause) e ∙ f)

pause-goes : (call : SessionCall) (text : List ℕ) (old new : SessionView)
    → SessionDoes call text old new → PauseGoes old.options.timer_ms old.course new.course
pause-goes (InputRead used) text old new d =
    let es = entries_of_input used old.messages in
    let s : SessionView = record old { messages = after_input used old.messages } in
    same old new (after_entries es s) d.state
    (entries-keep es s).pause
pause-goes InputEnded text old new d =
    same old new (after_input_end old) d (input-end-keeps old).pause
pause-goes Connected text old new d =
    inr
    (inl
    (ap (λ (x : SessionView). x.course.pause) d.0
    ∙ connected-pause old.options.maintenance (starts old)
    (lost_more (lost_by_start old) old.course)))
pause-goes (LineEnded how r) text old new d = inl (ap (λ (x : SessionView). x.course.pause) d.stays)
pause-goes (Received used) text old new d =
    received old new.link (notices_of_piece text used old.link.station.core) new.course d.course
pause-goes (Filled frames) text old new d = inl (ap (λ (x : SessionView). x.course.pause) d.0)
pause-goes (LineTook n) text old new d = inl (ap (λ (x : SessionView). x.course.pause) d)
pause-goes (TimedOut now) text old new d = by (passed-pause now old.course.pause)
  where
    is : new.course.pause ≡ pause_at now old.course.pause
    is = ap (λ (x : SessionView). x.course.pause) d ∙ timed-pause now old

    by : (pause_at now old.course.pause ≡ old.course.pause)
        ⊎ (pause_at now old.course.pause ≡ None)
        → PauseGoes old.options.timer_ms old.course new.course
    by (inl e) = inl (is ∙ e)
    by (inr e) = inr (inl (is ∙ e))
pause-goes TimePassed text old new d = inl (time-passed old new d)
pause-goes (Delivered true) text old new d = inl (ap (λ (x : SessionView). x.course.pause) d.stays)
pause-goes (Delivered false) text old new d =
    inl (ap (λ (x : SessionView). x.course.pause) d.stays)
pause-goes (OutputTook n) text old new d = inl (ap (λ (x : SessionView). x.course.pause) d)
pause-goes (Closed left at reported) text old new d = inl (ap (λ (c : Course). c.pause) d.course)

-- ---- the law

some-none : {P : Type 0} {n : ℕ} → None ≡ Some n → P
some-none e = cc

same-some : {m n : ℕ} → Some m ≡ Some n → m ≡ n
same-some e = cc

pub not-prolonged : (ms m until : ℕ) (p q : Option ℕ) → Goes ms m p q → p ≡ Some until
    → (q ≡ Some until) ⊎ (q ≡ None)
not-prolonged ms m until p q (inl same) e = inl (same ∙ e)
not-prolonged ms m until p q (inr (inl over)) e = inr over
not-prolonged ms m until p q (inr (inr b)) e = some-none (sym b.before ∙ e)

pub in-time : (ms m until : ℕ) (p q : Option ℕ) → Goes ms m p q → p ≡ None → q ≡ Some until
    → until ≤ m + ms
in-time ms m until p q (inl same) e f = some-none (sym e ∙ sym same ∙ f)
in-time ms m until p q (inr (inl over)) e f = some-none (sym over ∙ f)
in-time ms m until p q (inr (inr b)) e f =
    let is = same-some (sym b.pause ∙ f) in omega (arith, b.short, is)

pub never-prolonged : (call : SessionCall) (text : List ℕ) (old new : SessionView) (until : ℕ)
    → SessionDoes call text old new → old.course.pause ≡ Some until
    → (new.course.pause ≡ Some until) ⊎ (new.course.pause ≡ None)
never-prolonged call text old new until d e =
    not-prolonged old.options.timer_ms new.course.moment until old.course.pause new.course.pause
    (pause-goes call text old new d) e

pub ends-in-time : (call : SessionCall) (text : List ℕ) (old new : SessionView) (until : ℕ)
    → SessionDoes call text old new → old.course.pause ≡ None → new.course.pause ≡ Some until
    → until ≤ new.course.moment + old.options.timer_ms
ends-in-time call text old new until d =
    in-time old.options.timer_ms new.course.moment until old.course.pause new.course.pause
    (pause-goes call text old new d)

pub is-over : (text : List ℕ) (old new : SessionView) (now until : ℕ)
    → SessionDoes (TimedOut now) text old new → old.course.pause ≡ Some until → until ≤ now
    → new.course.pause ≡ None
is-over text old new now until d e at =
    ap (λ (x : SessionView). x.course.pause) d ∙ timed-pause now old
    ∙ ended-pause now until old.course.pause e at
