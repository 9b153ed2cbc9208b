-- Each line of a run that was ended and lost nothing: when it was left, nothing was left to be
-- acknowledged, and the messages of the input are those that it had over the lines.
use Rattle.std.proofs.Common.{◌≡◌, ◌∙◌, ap, sym, subst, refl, ℕ, List, [], ◌∷◌, ◌++◌}
use Rattle.std.proofs.Common.{append_assoc, append-nil}
use Rattle.ddcmp_input.specs.InBinary as binary
use Rattle.ddcmp_input.specs.InLines as lines
use Rattle.ddcmp_streams.specs.declared.messages.MessageForm.{MessageForm}
use Rattle.ddcmp_streams.specs.declared.messages.MessageForm.TheVariants as form
use Rattle.ddcmp_session.specs.Session.{SessionView}
use Rattle.ddcmp_session.specs.Calls.{SessionCall, InputRead, InputEnded, Connected, LineEnded}
use Rattle.ddcmp_session.specs.Calls.{Received, Filled, LineTook, TimedOut, TimePassed, Delivered}
use Rattle.ddcmp_session.specs.Calls.{OutputTook, Closed, SessionStep}
use Rattle.ddcmp_session.specs.Connections.{AreDone, Connection, Does, after_all, after_step}
use Rattle.ddcmp_session.specs.Devices.{BuffersView}
use Rattle.ddcmp_session.specs.Traffic.{Traffic}
use Rattle.ddcmp_session.proofs.LinesGo.{then-over}
use Rattle.ddcmp_laws.specs.Connections.{first_connection}
use Rattle.ddcmp_laws.specs.EachLine.{LineIsOver, EndsALine, read_before, read_over_lines}
use Rattle.ddcmp_laws.specs.Pipe.{Made}
use Rattle.ddcmp_laws.specs.SessionRuns.{Ran, WasEnded, got_to}
use Rattle.ddcmp_laws.specs.Sessions.{got_in, messages_of}
use Rattle.ddcmp_laws.proofs.Anew.{Stays, follows, none_yet}
use Rattle.ddcmp_laws.proofs.Losing.{Counted, LosesNone, NoneHalted, closed-loses}
use Rattle.ddcmp_laws.proofs.Losing.{connected-none, left-none, line-ended, lost-before, new-counts}
use Rattle.ddcmp_laws.proofs.Losing.{none-before, station_of}
use Rattle.ddcmp_laws.proofs.LosingAnew.{one-counts, one-does, session-after}

-- ---- nothing is left to be acknowledged

all-lost : (steps : List SessionStep) (c : Connection) → AreDone steps c
    → (after_all steps c).history.session.course.lost ≡ 0 → c.history.session.course.lost ≡ 0
unfolding after_all
all-lost [] c does e = e
all-lost (step ∷ rest) c does e =
    lost-before c.history.session (after_step step c).history.session (one-does step c does.0)
    (all-lost rest (after_step step c) does.1 e)

all-count : (steps : List SessionStep) (c : Connection) → AreDone steps c
    → Counted c.history.session → Counted (after_all steps c).history.session
unfolding after_all
all-count [] c does was = was
all-count (step ∷ rest) c does was =
    all-count rest (after_step step c) does.1 (one-counts step c does.0 was)

none-halted : (steps : List SessionStep) (c : Connection) → AreDone steps c
    → Counted c.history.session → LosesNone (after_all steps c).history.session
    → NoneHalted c.history.session
unfolding after_all
none-halted [] c does was none = λ halted. left-none c.history.session none was
none-halted (step ∷ rest) c does was none =
    let next = after_step step c in
    none-before c.history.session next.history.session (one-does step c does.0) was
    (all-lost rest next does.1 none.0)
    (none-halted rest next does.1 (one-counts step c does.0 was) none)

-- what is known after a call that leaves the line
abbrev Then : SessionView → Type 0
Then s = (s.course.lost ≡ 0) × NoneHalted s

leaves-none : (call : SessionCall) (text : List ℕ) (old new : SessionView) → EndsALine call
    → Does call text old new → Counted old → Then new → (station_of old).out ≡ []
leaves-none Connected text old new of d was then = connected-none old new d was then.0 then.1
leaves-none (LineEnded how r) text old new of d was then =
    left-none old ((line-ended how r old new d).lost then.0) was
leaves-none (InputRead used) text old new of d was then = absurd of
leaves-none InputEnded text old new of d was then = absurd of
leaves-none (Received used) text old new of d was then = absurd of
leaves-none (Filled n) text old new of d was then = absurd of
leaves-none (LineTook n) text old new of d was then = absurd of
leaves-none (TimedOut now) text old new of d was then = absurd of
leaves-none TimePassed text old new of d was then = absurd of
leaves-none (Delivered has) text old new of d was then = absurd of
leaves-none (OutputTook n) text old new of d was then = absurd of
leaves-none (Closed left over r) text old new of d was then = absurd of

line-none : (steps : List SessionStep) (c : Connection) → AreDone steps c → LineIsOver steps
    → Counted c.history.session → LosesNone (after_all steps c).history.session
    → (station_of c.history.session).out ≡ []
unfolding after_all
line-none [] c does of was none = left-none c.history.session none was
line-none (step ∷ rest) c does of was none =
    let next = after_step step c in
    leaves-none step.call c.history.used c.history.session step.session of does.0 was
    (subst Then (session-after step.call step.session c) (
      all-lost rest next does.1 none.0,
      none-halted rest next does.1 (one-counts step c does.0 was) none,
    ))

pub left-with-none : (ran : Ran) (rest : List SessionStep)
    → AreDone ran.steps (first_connection ran.made) → AreDone rest (got_to ran)
    → LineIsOver rest
    → (held : BuffersView) (t : Traffic) (closed : SessionView)
    → WasEnded (record { made = ran.made; steps = ran.steps ++ rest }) held t closed
    → closed.course.lost ≡ 0 → (station_of (got_to ran).history.session).out ≡ []
left-with-none ran rest done more of held t closed ended none =
    let first = first_connection ran.made in
    let last = (after_all (ran.steps ++ rest) first).history.session in
    line-none rest (got_to ran) more of
    (all-count ran.steps first done (new-counts ran.made))
    (subst (λ (c : Connection). LosesNone c.history.session)
    (then-over ran.steps rest first done more).1
    (closed-loses held.input held.is_over ended.closes.is_reported last closed
    ended.closes.closed none).0)

-- ---- what its input has had over its lines

pub none-in-nothing : (f : MessageForm) (max : ℕ) → messages_of f max [] ≡ []
unfolding got_in binary.told_in lines.told_in
none-in-nothing form.Digits max = refl
none-in-nothing form.Binary max = refl
none-in-nothing form.Events max = refl
none-in-nothing form.EventLines max = refl

-- before it is connected again, and since
read-before : (call : SessionCall) (new : SessionView) (made : Made) (c : Connection)
    → Stays made c
    → messages_of made.options.form made.options.config.max c.input_before
    ++ read_before call made c
    ≡ messages_of made.options.form made.options.config.max
    (after_step (record { call = call; session = new }) c).input_before
read-before Connected new made c stays =
    sym stays.read
    ∙ ap (messages_of made.options.form made.options.config.max) (sym (append-nil c.history.input))
read-before (InputRead used) new made c stays = append-nil _
read-before InputEnded new made c stays = append-nil _
read-before (LineEnded how r) new made c stays = append-nil _
read-before (Received used) new made c stays = append-nil _
read-before (Filled n) new made c stays = append-nil _
read-before (LineTook n) new made c stays = append-nil _
read-before (TimedOut now) new made c stays = append-nil _
read-before TimePassed new made c stays = append-nil _
read-before (Delivered has) new made c stays = append-nil _
read-before (OutputTook n) new made c stays = append-nil _
read-before (Closed left over r) new made c stays = append-nil _

pub read-over-lines : (made : Made) (steps : List SessionStep) (c : Connection)
    → AreDone steps c → Stays made c
    → messages_of made.options.form made.options.config.max c.input_before
    ++ read_over_lines made steps c
    ≡ messages_of made.options.form made.options.config.max (after_all steps c).history.input
unfolding after_all read_over_lines
read-over-lines made [] c does stays = sym stays.read
read-over-lines made (step ∷ rest) c does stays =
    let next = after_step step c in
    let before = messages_of made.options.form made.options.config.max c.input_before in
    let then = read_over_lines made rest next in
    sym (append_assoc before (read_before step.call made c) then)
    ∙ ap (λ ms. ms ++ then) (read-before step.call step.session made c stays)
    ∙ read-over-lines made rest next does.1 (follows made step c none_yet does.0 stays).2
