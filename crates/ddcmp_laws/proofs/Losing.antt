-- What a session has lost: one that has no line is halted, and if nothing was lost then all that it
-- accepted is acknowledged.
use Rattle.std.proofs.Common.{◌≡◌, ◌∙◌, ◌⊎◌, inl, inr, ap, sym, refl, ℕ, Bool, true, false}
use Rattle.std.proofs.Common.{cond, List, [], ◌∷◌, length, zero, suc, Option, Some, None, arith}
use Rattle.std.proofs.Common.{option_to_list}
use Rattle.std.specs.Prelude.{◌&&◌, ◌||◌, ◌==◌, not, nat_lt, is_none, is_ok, is_some}
use Rattle.ddcmp_frame.proofs.Tests.{eqb-true}
use Rattle.ddcmp_frame.specs.Reader.{ReaderView}
use Rattle.ddcmp_frame.specs.Reading.{ReadItem}
use Rattle.ddcmp_frame.specs.declared.nak.Nak.{Nak}
use Rattle.ddcmp_input.specs.declared.entry.Entry.{Entry}
use Rattle.ddcmp_input.specs.declared.entry.Entry.TheVariants.{Message, NotHexadecimal, TooLong}
use Rattle.ddcmp_input.specs.declared.entry.Entry.TheVariants.{Empty}
use Rattle.ddcmp_input.specs.declared.entry.Entry.TheVariants as entry
use Rattle.ddcmp_streams.specs.Messages.{command_in}
use Rattle.ddcmp_streams.specs.declared.messages.Command.{Command}
use Rattle.ddcmp_streams.specs.declared.messages.Command.TheVariants as command
use Rattle.ddcmp_session.specs.Session.{after_command, after_message, is_held}
use Rattle.ddcmp_window.specs.Sender.{accept_refusal, answer_unless}
use Rattle.ddcmp_window.specs.declared.sender.SendRefusal.TheVariants.{WrongState}
use Rattle.ddcmp_core.specs.declared.counters.NakCounts.{NakCounts}
use Rattle.ddcmp_core.specs.declared.notice.Notice.{Notice}
use Rattle.ddcmp_core.specs.declared.notice.Notice.TheVariants as notice
use Rattle.ddcmp_core.specs.declared.state.State.{State}
use Rattle.ddcmp_core.specs.declared.state.State.TheVariants.{Halted}
use Rattle.ddcmp_core.specs.declared.state.State.TheVariants as state
use Rattle.ddcmp_core.specs.declared.station_core.StartRefusal.{StartRefusal}
use Rattle.ddcmp_core.specs.declared.state.Timer.{Timer}
use Rattle.ddcmp_core.specs.declared.state.Timer.TheVariants as timer
use Rattle.ddcmp_core.specs.Core.{CoreView}
use Rattle.ddcmp_core.specs.Table.{StationState, after_accept}
use Rattle.ddcmp_core.specs.Table.{after_expire_in, after_expire_with, after_halt, after_next}
use Rattle.ddcmp_core.specs.Table.{after_start, is_on, is_running, next}
use Rattle.ddcmp_core.specs.Table.{after_enter_maintenance, is_maintenance}
use Rattle.ddcmp_core.specs.Table.{next_by, on, on_by, outgoing, start_refusal}
use Rattle.ddcmp_proto.specs.Bytes.{after_item, after_items, items_added, notices_of_piece}
use Rattle.ddcmp_proto.specs.Bytes.{received_of}
use Rattle.ddcmp_station.specs.Driving.{core_after_expire, core_after_take_arm, deadline_at, is_due}
use Rattle.ddcmp_station.specs.Linking.{LinkView, after_frame, after_frames, after_offered}
use Rattle.ddcmp_station.specs.Linking.{after_sent, delivered, is_needed}
use Rattle.ddcmp_station.specs.Linking.{after_polled, after_wake, polls, state_of, total_plus}
use Rattle.ddcmp_station.specs.Linking.{with_state, after_offered_maintenance}
use Rattle.ddcmp_session.specs.declared.line_end.LineEnd.{LineEnd}
use Rattle.ddcmp_session.specs.Calls.{SessionCall, InputRead, InputEnded, Connected, LineEnded}
use Rattle.ddcmp_session.specs.Calls.{Received as Heard, Filled, LineTook, TimedOut, TimePassed}
use Rattle.ddcmp_session.specs.Calls.{Delivered, OutputTook, Closed, SessionDoes, HasClosed}
use Rattle.ddcmp_session.specs.Calls.{HasLeft}
use Rattle.ddcmp_streams.specs.Messages.{after_input, after_last, entries_of_input}
use Rattle.ddcmp_streams.specs.Messages.{entry_of_last, has_last_line, is_message_unfinished}
use Rattle.ddcmp_session.specs.declared.course.Course.{Course}
use Rattle.ddcmp_session.specs.declared.course.progress.Progress.{Progress}
use Rattle.ddcmp_session.specs.Session.{SessionView, after_connected, after_entry, after_entries}
use Rattle.ddcmp_session.specs.Session.{after_input_end, after_last_line, after_time, after_timeout}
use Rattle.ddcmp_session.specs.Session.{after_input_read, after_unfinished, awaits_peer, expires}
use Rattle.ddcmp_session.specs.Session.{course_received, lost_among, lost_at_end, lost_by_end}
use Rattle.ddcmp_session.specs.Session.{has_commands, is_idle, reads_commands}
use Rattle.ddcmp_session.specs.Session.{takes_end, wants_input, wants_line, after_connecting_in}
use Rattle.ddcmp_session.specs.Session.{after_output, after_queued, anew_in, taken_at_once}
use Rattle.ddcmp_session.specs.Session.{taken_when_written}
use Rattle.ddcmp_session.proofs.TakenLaws.{takes-out}
use Rattle.ddcmp_laws.proofs.Holding.{takes_state}
use Rattle.ddcmp_session.specs.Session.{after_offered_in, has_gone, lost_by_start, lost_in}
use Rattle.ddcmp_session.specs.Session.{starts, takes_in}
use Rattle.ddcmp_session.specs.Course.{after_looked, after_notice, after_notices, lost_more}
use Rattle.ddcmp_session.specs.Course.{after_acknowledged, after_heard, after_refusal, after_noise}
use Rattle.ddcmp_session.specs.Course.{after_progress, after_state, goes_on, is_at, progress_of}
use Rattle.ddcmp_session.specs.Course.{after_naks, naks_of, next_pause, pause_begun}
use Rattle.ddcmp_session.specs.Course.{expiry_counted, refusal_between, silence_counted}
use Rattle.ddcmp_session.specs.Course.{try_counted}
use Rattle.ddcmp_session.specs.Session.{course_tried, is_deaf, is_sending}
use Rattle.ddcmp_session.specs.Timing.{PassesTime, after_failure, after_line}
use Rattle.ddcmp_session.specs.Calls.{SessionStep}
use Rattle.ddcmp_io.specs.declared.carrier.End.{End}
use Rattle.ddcmp_io.specs.declared.carrier.End.TheVariants.{A, B}
use Rattle.ddcmp_session.proofs.GoingLaws.{same-at}
use Rattle.ddcmp_laws.specs.Pipe.{AreSessionCalls, Made, Sessions, after_session_at}
use Rattle.ddcmp_laws.specs.Pipe.{after_sessions, session_at, session_of}

-- ---- a station that is halted

record Halts (lost : ℕ) (s : StationState) : Type 0 where
  pub state : s.state ≡ Halted
  pub none : lost ≡ 0 → s.out ≡ []

abbrev pub station_of : SessionView → StationState
station_of s = s.link.station.core.station

-- a session without a line is halted, and has counted all that isn't acknowledged
pub Counted : SessionView → Type 0
Counted s = s.has_line ≡ false → Halts s.course.lost s.link.station.core.station

abbrev pub Stays : StationState → StationState → Type 0
Stays s t = (t.state ≡ Halted) × (t.out ≡ s.out)

same-stays : (s t : StationState) → s.state ≡ Halted → t ≡ s → Stays s t
same-stays s t halted same =
    (ap (λ (x : StationState). x.state) same ∙ halted, ap (λ (x : StationState). x.out) same)

-- ---- what it leaves as it is

offered-halted : (message : List ℕ) (d : LinkView) → d.station.core.station.state ≡ Halted
    → after_offered message d ≡ d
offered-halted message d halted =
    ap
    (λ st. cond
    (is_none
    (cond (is_running st)
    (accept_refusal d.station.core.limits.window d.station.core.limits.longest
    (outgoing d.station.core.station) message) (Some WrongState)))
    (record (with_state (after_accept d.station.core.station message) d)
    { totals = record d.totals { sent = total_plus d.totals.sent 1 } }) d) halted

offered-maintenance-halted : (message : List ℕ) (d : LinkView)
    → d.station.core.station.state ≡ Halted → after_offered_maintenance message d ≡ d
offered-maintenance-halted message d halted =
    ap
    (λ st. cond
    (is_none
    (cond (is_maintenance st)
    (accept_refusal d.station.core.limits.window d.station.core.limits.longest
    (outgoing d.station.core.station) message) (Some WrongState)))
    (record (with_state (after_accept d.station.core.station message) d)
    { totals = record d.totals { sent = total_plus d.totals.sent 1 } }) d) halted

offered-in-halted : (b : Bool) (message : List ℕ) (d : LinkView)
    → d.station.core.station.state ≡ Halted → after_offered_in b message d ≡ d
offered-in-halted true message d halted = offered-maintenance-halted message d halted
offered-in-halted false message d halted = offered-halted message d halted

pub items-halted : (xs : List ReadItem) (k : CoreView) → k.station.state ≡ Halted
    → (after_items xs k).station ≡ k.station
unfolding after_items on
items-halted [] k halted = refl
items-halted (x ∷ rest) k halted =
    let same : on_by k.station.state k.limits k.station (received_of x) ≡ k.station =
    ap (λ st. on_by st k.limits k.station (received_of x)) halted in
    items-halted rest (after_item x k) (ap (λ (s : StationState). s.state) same ∙ halted) ∙ same

frame-halted : (d : LinkView) → d.station.core.station.state ≡ Halted
    → (after_frame d).station.core.station ≡ d.station.core.station
unfolding next
frame-halted d halted = by (polls d)
  where
    idle : after_next (next_by d.station.core.station.state d.station.core.station)
        d.station.core.station
        ≡ d.station.core.station
    idle =
        ap (λ st. after_next (next_by st d.station.core.station) d.station.core.station) halted

    by : (b : Bool) → (cond b (after_polled d) d).station.core.station ≡ d.station.core.station
    by true = idle
    by false = refl

pub frames-halted : (n : ℕ) (d : LinkView) → d.station.core.station.state ≡ Halted
    → (after_frames n d).station.core.station ≡ d.station.core.station
unfolding after_frames
frames-halted zero d halted = refl
frames-halted (suc n) d halted =
    let before = frames-halted n d halted in
    frame-halted (after_frames n d) (ap (λ (s : StationState). s.state) before ∙ halted) ∙ before

expire-halted : (t : Timer) (s : StationState) → s.state ≡ Halted
    → Stays s (after_expire_with t s)
expire-halted timer.Off s halted = (halted, refl)
expire-halted timer.Fresh s halted =
    let same = ap (λ st. after_expire_in st s) halted in
    (ap (λ (x : StationState). x.state) same ∙ halted, ap (λ (x : StationState). x.out) same)
expire-halted timer.On s halted =
    let same = ap (λ st. after_expire_in st s) halted in
    (ap (λ (x : StationState). x.state) same ∙ halted, ap (λ (x : StationState). x.out) same)

pub wake-halted : (now : ℕ) (d : LinkView) → d.station.core.station.state ≡ Halted
    → Stays d.station.core.station (after_wake now d).station.core.station
wake-halted now d halted =
    by (is_on (core_after_take_arm d.station.core).station.timer
    && is_due now (deadline_at d.milliseconds now d.station.core.station.timer d.deadline))
  where
    by : (b : Bool)
        → Stays d.station.core.station
        (cond b (core_after_expire (core_after_take_arm d.station.core))
        (core_after_take_arm d.station.core)).station
    by true =
        expire-halted (core_after_take_arm d.station.core).station.timer
        (core_after_take_arm d.station.core).station halted
    by false = (halted, refl)

-- ---- the input

entry-halted : (e : Entry) (s : SessionView) → s.link.station.core.station.state ≡ Halted
    → (after_entry e s).link ≡ s.link
entry-halted Message s halted = by (is_held s)
  where
    by : (held : Bool) → (after_message held s).link ≡ s.link
    by true = refl
    by false = offered-in-halted s.options.maintenance _ s.link halted
entry-halted entry.Command s halted = by (command_in s.messages)
  where
    by : (c : Command) → (after_command c s).link ≡ s.link
    by command.Ready = refl
    by command.Restart = refl
    by command.Halt = refl
    by command.Start = refl
    by command.Report = refl
    by command.Quit = refl
    by command.Unknown = refl
entry-halted NotHexadecimal s halted = refl
entry-halted TooLong s halted = refl
entry-halted Empty s halted = refl

-- It keeps the line, and whether the station has run; and what was lost before stays so.
pub record KeepsLine (s new : SessionView) : Type 0 where
  pub line : new.has_line ≡ s.has_line
  pub lost : new.course.lost ≡ 0 → s.course.lost ≡ 0
  pub run : new.course.has_run ≡ s.course.has_run

kept-line : (s : SessionView) → KeepsLine s s
kept-line s = record { line = refl; lost = λ e. e; run = refl }

message-keeps : (held : Bool) (s : SessionView) → KeepsLine s (after_message held s)
message-keeps true s = record {
  line = refl;
  lost = λ e. omega (arith, e);
  run = refl;
}
message-keeps false s = record { line = refl; lost = λ e. e; run = refl }

command-keeps : (c : Command) (s : SessionView) → KeepsLine s (after_command c s)
command-keeps command.Ready s = record { line = refl; lost = λ e. e; run = refl }
command-keeps command.Restart s = record { line = refl; lost = λ e. e; run = refl }
command-keeps command.Halt s = record { line = refl; lost = λ e. e; run = refl }
command-keeps command.Start s = record { line = refl; lost = λ e. e; run = refl }
command-keeps command.Report s = kept-line s
command-keeps command.Quit s = record { line = refl; lost = λ e. e; run = refl }
command-keeps command.Unknown s = record { line = refl; lost = λ e. e; run = refl }

entry-keeps : (e : Entry) (s : SessionView) → KeepsLine s (after_entry e s)
entry-keeps Message s = message-keeps (is_held s) s
entry-keeps entry.Command s = command-keeps (command_in s.messages) s
entry-keeps NotHexadecimal s = record { line = refl; lost = λ e. e; run = refl }
entry-keeps TooLong s = record { line = refl; lost = λ e. e; run = refl }
entry-keeps Empty s = record { line = refl; lost = λ e. e; run = refl }

pub entries-halted : (es : List Entry) (s : SessionView)
    → s.link.station.core.station.state ≡ Halted → (after_entries es s).link ≡ s.link
entries-halted [] s halted = refl
entries-halted (e ∷ rest) s halted = entry-halted e s halted

pub entries-keep : (es : List Entry) (s : SessionView) → KeepsLine s (after_entries es s)
entries-keep [] s = kept-line s
entries-keep (e ∷ rest) s = entry-keeps e s

and-false : (a b : Bool) → b ≡ false → a && b ≡ false
and-false true b e = e
and-false false b e = refl

takes-halted : (s : SessionView) → s.link.station.core.station.state ≡ Halted
    → takes_in s.options.maintenance s.link ≡ false
takes-halted s halted = by s.options.maintenance
  where
    by : (b : Bool) → takes_in b s.link ≡ false
    by true = ap (λ st. is_maintenance st && has_gone s.link) halted
    by false =
        ap
        (λ st. is_running st
        && nat_lt (length s.link.station.core.station.out) s.link.station.core.limits.window) halted

pub input-halted : (s : SessionView) → s.link.station.core.station.state ≡ Halted
    → s.course.has_run ≡ false → wants_input s ≡ false
input-halted s halted never =
    and-false (not s.is_read) (takes_in s.options.maintenance s.link || reads_commands s)
    (ap (λ b. b || reads_commands s) (takes-halted s halted)
    ∙ and-false (has_commands s.messages)
    (is_idle s && (s.course.has_run && not s.course.ready_ahead))
    (and-false (is_idle s) (s.course.has_run && not s.course.ready_ahead)
    (ap (λ b. b && not s.course.ready_ahead) never)))

-- nor its end, if the station has never run
pub end-halted : (s : SessionView) → s.link.station.core.station.state ≡ Halted
    → s.course.has_run ≡ false → takes_end s ≡ false
end-halted s halted never =
    and-false (not s.is_read)
    (takes_in s.options.maintenance s.link || (s.course.has_run && not (has_last_line s.messages)))
    (ap (λ b. b || (s.course.has_run && not (has_last_line s.messages))) (takes-halted s halted)
    ∙ ap (λ b. b && not (has_last_line s.messages)) never)

-- ---- what is counted as lost

pub none-of : (a n : ℕ) → total_plus a n ≡ 0 → (a ≡ 0) × (n ≡ 0)
none-of a n e = (omega (arith, e), omega (arith, e))

pub none-out : (xs : List (List ℕ)) → length xs ≡ 0 → xs ≡ []
none-out [] e = refl
none-out (x ∷ xs) e = cc

-- ---- what stays of that

if-lost : (b : Bool) (x y : Course) (n : ℕ) → x.lost ≡ n → y.lost ≡ n → (cond b x y).lost ≡ n
if-lost true x y n e f = e
if-lost false x y n e f = f

pause-lost : (ms : ℕ) (why : Option Nak) (c : Course) → (pause_begun ms why c).lost ≡ c.lost
pause-lost ms why c =
    if-lost (next_pause ms c.pause_ms == ms) (try_counted why c) c c.lost refl refl

refusal-lost : (ms : ℕ) (why : Option Nak) (c : Course) → (after_refusal ms why c).lost ≡ c.lost
refusal-lost ms None c = refl
refusal-lost ms (Some reason) c =
    if-lost (not c.is_refused) _ _ c.lost refl
    (if-lost (is_none c.pause) (pause_begun ms (Some reason) c) c c.lost
    (pause-lost ms (Some reason) c)
    refl)

state-lost : (s : State) (c : Course) → (after_state s c).lost ≡ c.lost
state-lost state.Halted c = refl
state-lost state.IStart c = refl
state-lost state.AStart c = refl
state-lost state.Running c = refl
state-lost state.Maintenance c = refl

progress-lost : (p : Progress) (c : Course) → (after_progress p c).lost ≡ c.lost
progress-lost p c = if-lost (is_at p c.progress) _ _ c.lost refl refl

noise-lost : (d : LinkView) (p : Progress) (c : Course) → (after_noise d p c).lost ≡ c.lost
noise-lost d p c =
    if-lost (goes_on p c.progress) _ _ c.lost refl
    (if-lost (not (is_needed d)) c _ c.lost refl
    (if-lost (nat_lt 0 (length d.station.core.station.out)) _ _ c.lost refl
    (if-lost (delivered d) _ _ c.lost refl
    (if-lost (nat_lt c.replies 7) _ c c.lost refl refl))))

naks-lost : (ms n : ℕ) (p : Progress) (c : Course) → (after_naks ms n p c).lost ≡ c.lost
naks-lost ms n p c =
    if-lost (not (is_at p c.progress)) _ _ c.lost refl
    (if-lost (n == c.naks || is_some c.nak_pause) c _ c.lost refl refl)

acknowledged-lost : (n : ℕ) (c : Course) → (after_acknowledged n c).lost ≡ c.lost
acknowledged-lost n c = if-lost _ c _ c.lost refl refl

looked-lost : (ms : ℕ) (before : NakCounts) (d : LinkView) (c : Course)
    → (after_looked ms before d c).lost ≡ c.lost
unfolding after_looked
looked-lost ms before d c =
    let one = after_acknowledged d.totals.acknowledged (after_heard d.totals.read c) in
    let why = refusal_between before d.station.core.counters.nak_received in
    let two = after_refusal ms why one in
    let sent = naks_of d.station.core.counters.nak_sent in
    let held = after_naks ms sent (progress_of d) two in
    let three = after_noise d (progress_of d) held in
    let four = after_progress (progress_of d) three in
    state-lost (state_of d).state four ∙ progress-lost (progress_of d) three
    ∙ noise-lost d (progress_of d) held ∙ naks-lost ms sent (progress_of d) two
    ∙ refusal-lost ms why one
    ∙ acknowledged-lost d.totals.acknowledged (after_heard d.totals.read c)

notice-lost : (n : Notice) (c : Course) → (after_notice n c).lost ≡ 0 → c.lost ≡ 0
notice-lost notice.Running c e = e
notice-lost notice.RunningAndHandedUp c e = e
notice-lost (notice.Acknowledged m) c e = e
notice-lost notice.HandedUp c e = e
notice-lost (notice.HandedUpAndAcknowledged m) c e = e
notice-lost notice.PeerStarts c e = e
notice-lost notice.PeerRestarted c e = e
notice-lost (notice.Restarted count) c e = (none-of c.lost count e).0
notice-lost notice.MaintenanceSeen c e = e
notice-lost notice.MaintenanceHandedUp c e = e
notice-lost notice.MaintenanceDropped c e = e

notices-lost : (ns : List Notice) (c : Course) → (after_notices ns c).lost ≡ 0 → c.lost ≡ 0
unfolding after_notices
notices-lost [] c e = e
notices-lost (n ∷ rest) c e = notice-lost n c (notices-lost rest (after_notice n c) e)

received-lost : (s : SessionView) (d : LinkView) (ns : List Notice)
    → (course_received s d ns).lost ≡ 0 → s.course.lost ≡ 0
received-lost s d ns = by (wants_line s)
  where
    by : (b : Bool)
        → (cond b
        (after_notices ns
        (after_looked s.options.timer_ms s.link.station.core.counters.nak_received d s.course))
        s.course).lost
        ≡ 0
        → s.course.lost ≡ 0
    by true e =
        sym (looked-lost s.options.timer_ms s.link.station.core.counters.nak_received d s.course)
        ∙ notices-lost ns _ e
    by false e = e

tried-lost : (s : SessionView) → (course_tried s).lost ≡ s.course.lost
unfolding course_tried
tried-lost s =
    let runs = is_running s.link.station.core.station.state in
    let one =
    if-lost runs (silence_counted s.course) (try_counted None s.course) s.course.lost refl refl in
    if-lost (is_sending s || is_deaf s) s.course (expiry_counted runs s.is_read s.course)
    s.course.lost refl
    (if-lost s.is_read _ (cond runs (silence_counted s.course) (try_counted None s.course))
    s.course.lost one one)

timeout-lost : (now : ℕ) (s : SessionView) → (after_timeout now s).course.lost ≡ s.course.lost
timeout-lost now s =
    let tried =
    if-lost (expires now s && not (awaits_peer s)) _ _ s.course.lost (tried-lost _) refl in
    if-lost _ _ _ s.course.lost tried tried

line-lost : (s : SessionView) → (after_line s).course.lost ≡ s.course.lost
line-lost s =
    if-lost s.course.has_run_here _ _ s.course.lost refl
    (if-lost _ s.course _ s.course.lost refl refl)

passes-lost : (old new : SessionView) → PassesTime old new → new.course.lost ≡ old.course.lost
passes-lost old new p = by p.course
  where
    by : (new.course ≡ (after_time p.now old).course)
        ⊎ ((new.course ≡ (after_failure (after_time p.now old)).course)
        ⊎ (new.course ≡ (after_line (after_time p.now old)).course))
        → new.course.lost ≡ old.course.lost
    by (inl e) = ap (λ (c : Course). c.lost) e
    by (inr (inl e)) = ap (λ (c : Course). c.lost) e
    by (inr (inr e)) = ap (λ (c : Course). c.lost) e ∙ line-lost (after_time p.now old)

-- ---- what each call does with its line

-- It leaves the line, what was lost before, and a station that is halted, as they are.
pub record Leaves (old new : SessionView) : Type 0 where
  line : new.has_line ≡ old.has_line
  lost : new.course.lost ≡ 0 → old.course.lost ≡ 0
  station : (station_of old).state ≡ Halted → Stays (station_of old) (station_of new)

-- nothing was lost, nor would be if the line ended
abbrev pub LosesNone : SessionView → Type 0
LosesNone s = (s.course.lost ≡ 0) × (lost_by_end s ≡ 0)

-- It ends the line, and counts what is lost by that.
pub record LosesLine (old new : SessionView) : Type 0 where
  pub state : (station_of new).state ≡ Halted
  pub out : (station_of new).out ≡ (station_of old).out
  pub lost : new.course.lost ≡ 0 → LosesNone old

abbrev pub Outcome : SessionView → SessionView → Type 0
Outcome old new =
    Leaves old new
    ⊎ (LosesLine old new ⊎ (new ≡ after_connected new.link.station.line old))

leaves-if : (old new : SessionView) → new.has_line ≡ old.has_line
    → (new.course.lost ≡ 0 → old.course.lost ≡ 0)
    → ((station_of old).state ≡ Halted → Stays (station_of old) (station_of new))
    → Outcome old new
leaves-if old new line lost station =
    inl (record { line = line; lost = lost; station = station })

leaves : (old new : SessionView)
    → (new.has_line ≡ old.has_line) × (new.course.lost ≡ old.course.lost)
    → ((station_of old).state ≡ Halted → Stays (station_of old) (station_of new))
    → Outcome old new
leaves old new same station =
    inl (record { line = same.0; lost = λ e. sym same.1 ∙ e; station = station })

input_read : (used : List ℕ) (old new : SessionView) → new ≡ after_input_read used old
    → Outcome old new
input_read used old new does =
    let es = entries_of_input used old.messages in
    let s : SessionView = record old { messages = after_input used old.messages } in
    let k = entries-keep es s in
    leaves-if old new (ap (λ (x : SessionView). x.has_line) does ∙ k.line)
    (λ e. k.lost (sym (ap (λ (x : SessionView). x.course.lost) does) ∙ e))
    (λ halted. same-stays (station_of old) (station_of new) halted
    (ap station_of does
    ∙ ap (λ (d : LinkView). d.station.core.station) (entries-halted es s halted)))

last-keeps : (s : SessionView) → KeepsLine s (after_unfinished s)
last-keeps s = by (is_message_unfinished s.messages)
  where
    by : (b : Bool) → KeepsLine s (cond b (record s { was_refused = true }) s)
    by true = record { line = refl; lost = λ e. e; run = refl }
    by false = kept-line s

end-keeps : (s : SessionView) → KeepsLine s (after_input_end s)
end-keeps s = by (takes_end s)
  where
    last : SessionView
    last = record s { messages = after_last s.messages; is_read = true }

    k : KeepsLine last (after_last_line s)
    k = entries-keep (option_to_list (entry_of_last s.messages)) last

    u : KeepsLine (after_last_line s) (after_unfinished (after_last_line s))
    u = last-keeps (after_last_line s)

    by : (b : Bool) → KeepsLine s (cond b (after_unfinished (after_last_line s)) s)
    by true = record {
      line = u.line ∙ k.line;
      lost = λ e. k.lost (u.lost e);
      run = u.run ∙ k.run;
    }
    by false = kept-line s

unfinished-station : (s : SessionView) → station_of (after_unfinished s) ≡ station_of s
unfinished-station s = by (is_message_unfinished s.messages)
  where
    by : (b : Bool) → station_of (cond b (record s { was_refused = true }) s) ≡ station_of s
    by true = refl
    by false = refl

ended-station : (s : SessionView) → s.link.station.core.station.state ≡ Halted
    → station_of (after_input_end s) ≡ station_of s
ended-station s halted = by (takes_end s)
  where
    last : SessionView
    last = record s { messages = after_last s.messages; is_read = true }

    by : (b : Bool)
        → station_of (cond b (after_unfinished (after_last_line s)) s) ≡ station_of s
    by true =
        unfinished-station (after_last_line s)
        ∙ ap (λ (d : LinkView). d.station.core.station)
        (entries-halted (option_to_list (entry_of_last s.messages)) last halted)
    by false = refl

input-ended : (old new : SessionView) → new ≡ after_input_end old → Outcome old new
input-ended old new does =
    let k = end-keeps old in
    leaves-if old new (ap (λ (x : SessionView). x.has_line) does ∙ k.line)
    (λ e. k.lost (sym (ap (λ (x : SessionView). x.course.lost) does) ∙ e))
    (λ halted. same-stays (station_of old) (station_of new) halted
    (ap station_of does ∙ ended-station old halted))

pub line-ended : (how : LineEnd) (r : Bool) (old new : SessionView) → HasLeft how r old new
    → LosesLine old new
line-ended how r old new does = record {
  state = ap (λ (d : LinkView). d.station.core.station.state) does.link;
  out = ap (λ (d : LinkView). d.station.core.station.out) does.link;
  lost = λ e.
      none-of old.course.lost (lost_by_end old)
      (sym (ap (λ (x : SessionView). x.course.lost) does.stays) ∙ e);
}

-- a session that was closed, and had lost nothing, had nothing to lose, nor had what was left of
-- its input
pub closed-loses : (left : List ℕ) (over r : Bool) (old new : SessionView)
    → HasClosed left over r old new → new.course.lost ≡ 0
    → LosesNone old × (lost_among left old ≡ 0) × (lost_at_end left over old ≡ 0)
closed-loses left over r old new does e =
    let lost = (lost_more (lost_at_end left over old)
    (lost_more (lost_among left old) old.course)).lost in
    let n = none-of lost (lost_by_end old)
    (sym (ap (λ (c : Course). c.lost) does.course) ∙ e) in
    let m = none-of (lost_more (lost_among left old) old.course).lost
    (lost_at_end left over old) n.0 in
    let l = none-of old.course.lost (lost_among left old) m.0 in
    ((l.0, n.1), l.1, m.1)

pub outcome : (call : SessionCall) (text : List ℕ) (old new : SessionView)
    → SessionDoes call text old new → Outcome old new
outcome (InputRead used) text old new d = input_read used old new d.state
outcome InputEnded text old new d = input-ended old new d
outcome Connected text old new d = inr (inr d.0)
outcome (LineEnded how r) text old new d = inr (inl (line-ended how r old new d))
outcome (Heard used) text old new d =
    let to = record old { link = new.link; course = new.course; output = new.output } in
    inl (record {
      line = same-at (λ x. x.has_line) new to d.stays;
      lost = λ e.
          received-lost old new.link (notices_of_piece text used old.link.station.core)
          (sym (ap (λ (c : Course). c.lost) d.course) ∙ e);
      station = λ halted. same-stays (station_of old) (station_of new) halted
          (ap (λ (k : CoreView). k.station) d.core
          ∙ items-halted (items_added old.link.station.core.limits.longest text used)
          old.link.station.core halted);
    })
outcome (Filled n) text old new d =
    let to = record old { link = after_frames n old.link } in
    leaves old new
    (same-at (λ x. x.has_line) new to d.0, same-at (λ x. x.course.lost) new to d.0)
    (λ halted. same-stays (station_of old) (station_of new) halted
    (ap station_of d.0 ∙ frames-halted n old.link halted))
outcome (LineTook n) text old new d =
    let to = record old { link = after_sent n old.link } in
    leaves old new
    (same-at (λ x. x.has_line) new to d, same-at (λ x. x.course.lost) new to d)
    (λ halted. same-stays (station_of old) (station_of new) halted (ap station_of d))
outcome (TimedOut now) text old new d =
    let to = after_timeout now old in
    leaves old new (
      same-at (λ x. x.has_line) new to d,
      same-at (λ x. x.course.lost) new to d ∙ timeout-lost now old,
    )
    (λ halted. let w = wake-halted now old.link halted in (
      same-at (λ x. (station_of x).state) new to d ∙ w.0,
      same-at (λ x. (station_of x).out) new to d ∙ w.1,
    ))
outcome TimePassed text old new d =
    let to = record old { course = new.course } in
    leaves old new
    (same-at (λ x. x.has_line) new to d.stays, passes-lost old new d)
    (λ halted. same-stays (station_of old) (station_of new) halted (ap station_of d.stays))
outcome (Delivered true) text old new d =
    let to = record (after_queued old) { output = new.output } in
    let n = taken_at_once old in
    leaves old new
    (same-at (λ x. x.has_line) new to d.stays, same-at (λ x. x.course.lost) new to d.stays)
    (λ halted. (
      same-at (λ x. (station_of x).state) new to d.stays ∙ takes_state n old.link ∙ halted,
      same-at (λ x. (station_of x).out) new to d.stays ∙ takes-out n old.link,
    ))
outcome (Delivered false) text old new d =
    let to = record old { output = new.output } in
    leaves old new
    (same-at (λ x. x.has_line) new to d.stays, same-at (λ x. x.course.lost) new to d.stays)
    (λ halted. same-stays (station_of old) (station_of new) halted (ap station_of d.stays))
outcome (OutputTook n) text old new d =
    let to = after_output n old in
    let k = taken_when_written n old in
    leaves old new
    (same-at (λ x. x.has_line) new to d, same-at (λ x. x.course.lost) new to d)
    (λ halted. (
      same-at (λ x. (station_of x).state) new to d ∙ takes_state k old.link ∙ halted,
      same-at (λ x. (station_of x).out) new to d ∙ takes-out k old.link,
    ))
outcome (Closed left over r) text old new d = inr (inl (record {
  state = ap (λ (k : LinkView). k.station.core.station.state) d.link;
  out = ap (λ (k : LinkView). k.station.core.station.out) d.link;
  lost = λ e. (closed-loses left over r old new d e).0;
}))

-- ---- it is connected

or-false : (a b : Bool) → a || b ≡ false → (a ≡ false) × (b ≡ false)
or-false true b e = cc
or-false false b e = (refl, e)

not-started : (why : Option StartRefusal) (n : ℕ) → is_ok (answer_unless why n) ≡ false
    → is_none why ≡ false
not-started None n e = e
not-started (Some refusal) n e = refl

anew-halted : (b : Bool) (line : ReaderView) (d : LinkView)
    → is_none (start_refusal (after_halt d.station.core.station)) ≡ false
    → (anew_in b line d).station.core.station ≡ after_halt d.station.core.station
anew-halted true line d refused =
    let halted = after_halt d.station.core.station in
    ap (λ b. cond b (after_enter_maintenance halted) halted) refused
anew-halted false line d refused =
    let halted = after_halt d.station.core.station in
    ap (λ b. cond b (after_start halted) halted) refused

connecting-lost : (b enters : Bool) (c : Course)
    → (after_connecting_in b enters c).lost ≡ c.lost
connecting-lost true enters c = refl
connecting-lost false enters c = refl

connected-lost : (old new : SessionView) → new ≡ after_connected new.link.station.line old
    → new.course.lost ≡ 0 → (old.course.lost ≡ 0) × (lost_by_start old ≡ 0)
connected-lost old new does e =
    none-of old.course.lost (lost_by_start old)
    (sym (connecting-lost old.options.maintenance (starts old)
    (lost_more (lost_by_start old) old.course))
    ∙ sym (ap (λ (x : SessionView). x.course.lost) does)
    ∙ e)

-- it starts, and counts what is lost by that
pub started : (old new : SessionView) → new ≡ after_connected new.link.station.line old
    → starts old ≡ true → new.course.lost ≡ 0 → LosesNone old
started old new does is e =
    let n = connected-lost old new does e in
    (n.0, sym (ap (λ b. cond b (lost_by_end old) 0) is) ∙ n.1)

-- or is halted, and has what it had
pub refused : (old new : SessionView) → new ≡ after_connected new.link.station.line old
    → starts old ≡ false → station_of new ≡ after_halt (station_of old)
refused old new does is =
    let halted = after_halt (station_of old) in
    ap station_of does
    ∙ anew-halted old.options.maintenance new.link.station.line old.link
    (not-started (start_refusal halted) (length halted.out) is)

-- ---- so all is counted

abbrev one-unless : Bool → ℕ
one-unless b = cond b 0 1

is-true : (b : Bool) → one-unless b ≡ 0 → b ≡ true
is-true true e = refl
is-true false e = cc

first-true : (a b : Bool) → a && b ≡ true → a ≡ true
first-true true b e = refl
first-true false b e = cc

lost-none : (b : Bool) (d : LinkView) → lost_in b d ≡ 0 → d.station.core.station.out ≡ []
lost-none true d e =
    none-out d.station.core.station.out
    (eqb-true (length d.station.core.station.out) 0
    (first-true (length d.station.core.station.out == 0) (length d.outbox.waiting == 0)
    (is-true (has_gone d) e)))
lost-none false d e = none-out d.station.core.station.out e

-- one that has lost nothing, and would lose nothing, has no message left to be acknowledged
pub left-none : (old : SessionView) → LosesNone old → Counted old
    → old.link.station.core.station.out ≡ []
unfolding Counted
left-none old none was = by old.has_line refl none.1
  where
    by : (b : Bool) → old.has_line ≡ b
        → cond b (lost_in old.options.maintenance old.link) 0 ≡ 0
        → old.link.station.core.station.out ≡ []
    by true is e = lost-none old.options.maintenance old.link e
    by false is e = (was is).none none.0

pub closed-none : (left : List ℕ) (over r : Bool) (old new : SessionView)
    → HasClosed left over r old new → new.course.lost ≡ 0 → Counted old
    → (old.link.station.core.station.out ≡ []) × (lost_among left old ≡ 0)
    × (lost_at_end left over old ≡ 0)
closed-none left over r old new does e was =
    let none = closed-loses left over r old new does e in
    (left-none old none.0 was, none.1, none.2)

connected-counts : (old new : SessionView) → new ≡ after_connected new.link.station.line old
    → Counted old → Counted new
unfolding Counted
connected-counts old new does was = λ shut.
    let parts = or-false (starts old) old.has_line
    (sym (ap (λ (x : SessionView). x.has_line) does) ∙ shut) in
    let same = refused old new does parts.0 in
    record {
      state = ap (λ (s : StationState). s.state) same;
      none = λ e. ap (λ (s : StationState). s.out) same
          ∙ (was parts.1).none (connected-lost old new does e).0;
    }

pub counts : (old new : SessionView) → Outcome old new → Counted old → Counted new
unfolding Counted
counts old new (inl l) was = λ shut.
    let w = was (sym l.line ∙ shut) in
    let t = l.station w.state in
    record { state = t.0; none = λ e. t.1 ∙ w.none (l.lost e) }
counts old new (inr (inl l)) was = λ shut. record {
  state = l.state;
  none = λ e. l.out ∙ left-none old (l.lost e) was;
}
counts old new (inr (inr is)) was = connected-counts old new is was

-- ---- and stays so

pub lost-before : (old new : SessionView) → Outcome old new → new.course.lost ≡ 0
    → old.course.lost ≡ 0
lost-before old new (inl l) e = l.lost e
lost-before old new (inr (inl l)) e = (l.lost e).0
lost-before old new (inr (inr is)) e = (connected-lost old new is e).0

-- a station that is halted has no message left to be acknowledged
abbrev pub NoneHalted : SessionView → Type 0
NoneHalted s = (station_of s).state ≡ Halted → (station_of s).out ≡ []

pub connected-none : (old new : SessionView) → new ≡ after_connected new.link.station.line old
    → Counted old → new.course.lost ≡ 0 → NoneHalted new → (station_of old).out ≡ []
connected-none old new does was e none = by (starts old) refl
  where
    by : (b : Bool) → starts old ≡ b → (station_of old).out ≡ []
    by true is = left-none old (started old new does is e) was
    by false is =
        let same = refused old new does is in
        sym (ap (λ (s : StationState). s.out) same)
        ∙ none (ap (λ (s : StationState). s.state) same)

pub none-before : (old new : SessionView) → Outcome old new → Counted old → new.course.lost ≡ 0
    → NoneHalted new → NoneHalted old
none-before old new (inl l) was e none halted =
    let s = l.station halted in sym s.1 ∙ none s.0
none-before old new (inr (inl l)) was e none halted = left-none old (l.lost e) was
none-before old new (inr (inr is)) was e none halted = connected-none old new is was e none

-- ---- of two sessions

pub new-counts : (made : Made) → Counted (session_of made).session
unfolding Counted
new-counts made = λ shut. record { state = refl; none = λ e. refl }

pub counts-a : (steps : List (End × SessionStep)) (p : Sessions) → AreSessionCalls steps p
    → Counted p.a.session → Counted (after_sessions steps p).a.session
unfolding after_sessions
counts-a [] p does was = was
counts-a (step ∷ rest) p does was =
    counts-a rest (after_session_at step.0 step.1 p) does.1 (by step.0 step.1 does.0)
  where
    by : (end : End) (one : SessionStep)
        → SessionDoes one.call (session_at end p).used (session_at end p).session one.session
        → Counted (after_session_at end one p).a.session
    by A one d =
        counts p.a.session one.session (outcome one.call p.a.used p.a.session one.session d) was
    by B one d = was

pub counts-b : (steps : List (End × SessionStep)) (p : Sessions) → AreSessionCalls steps p
    → Counted p.b.session → Counted (after_sessions steps p).b.session
unfolding after_sessions
counts-b [] p does was = was
counts-b (step ∷ rest) p does was =
    counts-b rest (after_session_at step.0 step.1 p) does.1 (by step.0 step.1 does.0)
  where
    by : (end : End) (one : SessionStep)
        → SessionDoes one.call (session_at end p).used (session_at end p).session one.session
        → Counted (after_session_at end one p).b.session
    by A one d = was
    by B one d =
        counts p.b.session one.session (outcome one.call p.b.used p.b.session one.session d) was
