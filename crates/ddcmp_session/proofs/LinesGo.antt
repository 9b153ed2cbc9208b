-- How a session goes on over one line after the other.
use Rattle.std.proofs.Common.{◌≡◌, ◌∙◌, ap, sym, subst, refl, ℕ, Bool, true, List, [], ◌∷◌, ◌++◌}
use Rattle.std.proofs.Common.{◌⊎◌, append-nil, inl, inr, false, Option, None, Result, Ok, Err}
use Rattle.std.specs.Prelude.{◌&&◌, is_ok, not}
use Rattle.ddcmp_frame.specs.Reader.{StandsFor}
use Rattle.ddcmp_station.specs.Linking.{LinkView}
use Rattle.ddcmp_session.specs.Session.{SessionView, after_connected, after_time, form_of}
use Rattle.ddcmp_session.specs.Calls.{SessionCall, SessionStep, SessionHistory, SessionDoes}
use Rattle.ddcmp_session.specs.Calls.{InputRead, InputEnded, Connected, LineEnded, Received, Filled}
use Rattle.ddcmp_session.specs.Calls.{LineTook, TimedOut, TimePassed, Delivered, OutputTook, Closed}
use Rattle.ddcmp_session.specs.Calls.{HasClosed, HasLeft, IsSessionHistory, after_session_step}
use Rattle.ddcmp_session.specs.Calls.{after_session_steps}
use Rattle.ddcmp_session.specs.Connections.{Connection, Does, AreDone, after_all, after_step}
use Rattle.ddcmp_session.specs.Devices.{Agrees, AreOfRun, BuffersView, GoesOn}
use Rattle.ddcmp_session.specs.Traffic.{Becomes, Traffic, line_begun}
use Rattle.ddcmp_session.specs.Devices.{IsOfRun, Reports}
use Rattle.ddcmp_session.specs.Lines.{AllKeepOpen, AllReady, Closes, GoesIf, GoesOver, IsReady}
use Rattle.ddcmp_session.specs.Lines.{IsReadToEnd, KeepsOpen, MayEndWell, ReadyIf, ReportsOver}
use Rattle.ddcmp_session.specs.Lines.{StaysOver}
use Rattle.ddcmp_session.specs.Lines.{none_received}
use Rattle.ddcmp_session.specs.Timing.{PassesTime, after_failure, after_line}
use Rattle.ddcmp_session.specs.declared.buffers.lines.Stop.TheVariants.{the_data, Device}
use Rattle.ddcmp_session.specs.declared.devices.DeviceFault.{DeviceFault}
use Rattle.ddcmp_session.specs.declared.line_end.LineEnd.{LineEnd}
use Rattle.ddcmp_session.specs.Traffic.{LineLog, received, sent}
use Rattle.ddcmp_session.specs.Orders.{Follows, log_after, log_over}
use Rattle.ddcmp_session.proofs.GoingLaws.{end-is, quiet-agrees, stays}
use Rattle.ddcmp_session.proofs.OrderLaws.{follows-begun}

-- ---- over the line that there is

-- a call of the run is a call of a session that may be connected again
one-over : (call : SessionCall) (new : SessionView) (c : Connection) → IsOfRun call
    → SessionDoes call c.history.used c.history.session new
    → Does call c.history.used c.history.session new
    × ((after_step (record { call = call; session = new }) c)
    ≡ record c { history = after_session_step (record { call = call; session = new }) c.history })
one-over (InputRead used) new c of does = (does, refl)
one-over InputEnded new c of does = (does, refl)
one-over (Received used) new c of does = (does, refl)
one-over (Filled n) new c of does = (does, refl)
one-over (LineTook n) new c of does = (does, refl)
one-over (TimedOut now) new c of does = (does, refl)
one-over (Delivered has) new c of does = (does, refl)
one-over (OutputTook n) new c of does = (does, refl)
one-over TimePassed new c of does = absurd of
one-over Connected new c of does = absurd of
one-over (LineEnded how reported) new c of does = absurd of
one-over (Closed left over reported) new c of does = absurd of

one-open : (call : SessionCall) → IsOfRun call → KeepsOpen call
one-open (InputRead used) of = tt
one-open InputEnded of = tt
one-open (Received used) of = tt
one-open (Filled n) of = tt
one-open (LineTook n) of = tt
one-open (TimedOut now) of = tt
one-open (Delivered has) of = tt
one-open (OutputTook n) of = tt
one-open TimePassed of = tt
one-open Connected of = tt
one-open (LineEnded how reported) of = tt
one-open (Closed left over reported) of = absurd of

all-open : (steps : List SessionStep) → AreOfRun steps → AllKeepOpen steps
all-open [] of = tt
all-open (step ∷ rest) of = (one-open step.call of.0, all-open rest of.1)

-- the same of all calls
Over : List SessionStep → Connection → Type 0
Over steps c = AreDone steps c
    × (after_all steps c ≡ record c { history = after_session_steps steps c.history })

all-over : (steps : List SessionStep) (c : Connection) → AreOfRun steps
    → IsSessionHistory steps c.history → Over steps c
unfolding Over after_all after_session_steps
all-over [] c of does = (tt, refl)
all-over (step ∷ rest) c of does =
    let one = one-over step.call step.session c of.0 does.0 in
    let c' : Connection = record c { history = after_session_step step c.history } in
    let more = all-over rest c' of.1 does.1 in (
      (one.0, subst (AreDone rest) (sym one.1) more.0),
      ap (after_all rest) one.1 ∙ more.1,
    )

one-ready : (call : SessionCall) (s : SessionView) → IsOfRun call → ReadyIf call s
one-ready (InputRead used) s of = tt
one-ready InputEnded s of = tt
one-ready (Received used) s of = tt
one-ready (Filled n) s of = tt
one-ready (LineTook n) s of = tt
one-ready (TimedOut now) s of = tt
one-ready (Delivered has) s of = tt
one-ready (OutputTook n) s of = tt
one-ready TimePassed s of = tt
one-ready Connected s of = absurd of
one-ready (LineEnded how reported) s of = tt
one-ready (Closed left over reported) s of = tt

all-ready : (steps : List SessionStep) (c : Connection) → AreOfRun steps → AllReady steps c
all-ready [] c of = tt
all-ready (step ∷ rest) c of =
    (one-ready step.call c.history.session of.0, all-ready rest (after_step step c) of.1)

pub goes-over : {R : Type 0} {h0 h1 : BuffersView} {s0 s1 : SessionView} {k0 k1 : Option Traffic}
    → GoesOn h0 s0 k0 h1 s1 k1 → GoesIf R h0 s0 k0 h1 s1 k1
unfolding Over
goes-over {R} {h0} {h1} goes = λ c t is was agrees.
    let a = goes c.history t is was agrees in
    let w = a.2 in
    let o = all-over w.steps c w.only w.calls in
    let same = ap (λ (x : Connection). x.history) o.1 in (
      a.0,
      a.1,
      record {
        steps = w.steps;
        calls = o.0;
        only = all-open w.steps w.only;
        ready = λ r. all-ready w.steps c w.only;
        session = ap (λ (x : SessionHistory). x.session) same ∙ w.session;
        agrees = subst (λ h. Agrees h1 h a.0) (sym same) w.agrees;
        order = w.order;
      },
    )

-- ---- one after another

pub then-over : (xs ys : List SessionStep) (c : Connection) → AreDone xs c
    → AreDone ys (after_all xs c)
    → AreDone (xs ++ ys) c × (after_all (xs ++ ys) c ≡ after_all ys (after_all xs c))
unfolding after_all
then-over [] ys c done more = (more, refl)
then-over (x ∷ xs) ys c done more =
    let r = then-over xs ys (after_step x c) done.1 more in ((done.0, r.0), r.1)

open-then : (xs ys : List SessionStep) → AllKeepOpen xs → AllKeepOpen ys → AllKeepOpen (xs ++ ys)
open-then [] ys some more = more
open-then (x ∷ xs) ys some more = (some.0, open-then xs ys some.1 more)

ready-then : (xs ys : List SessionStep) (c : Connection) → AllReady xs c
    → AllReady ys (after_all xs c) → AllReady (xs ++ ys) c
unfolding after_all
ready-then [] ys c some more = more
ready-then (x ∷ xs) ys c some more = (some.0, ready-then xs ys (after_step x c) some.1 more)

-- what a call does at the line
session-is : (call : SessionCall) (new : SessionView) (c : Connection)
    → (after_step (record { call = call; session = new }) c).history.session ≡ new
session-is (InputRead used) new c = refl
session-is InputEnded new c = refl
session-is Connected new c = refl
session-is (LineEnded how reported) new c = refl
session-is (Received used) new c = refl
session-is (Filled n) new c = refl
session-is (LineTook n) new c = refl
session-is (TimedOut now) new c = refl
session-is TimePassed new c = refl
session-is (Delivered has) new c = refl
session-is (OutputTook n) new c = refl
session-is (Closed left over reported) new c = refl

log-over-then : (xs ys : List SessionStep) (c : Connection) (log : LineLog)
    → log_over (xs ++ ys) c.history.session log
    ≡ log_over ys (after_all xs c).history.session (log_over xs c.history.session log)
unfolding log_over after_all
log-over-then [] ys c log = refl
log-over-then (x ∷ xs) ys c log =
    let next = log_after x.call c.history.session log in
    let is = session-is x.call x.session c in
    ap (λ s. log_over (xs ++ ys) s next) (sym is)
    ∙ log-over-then xs ys (after_step x c) next
    ∙ ap
    (λ s. log_over ys (after_all xs (after_step x c)).history.session (log_over xs s next)) is

-- The first leads to where the second begins, if it began so itself.
pub over-next : {R Q : Type 0} {h0 h1 h2 : BuffersView} {s0 s1 s2 : SessionView}
    {k0 k1 k2 : Option Traffic} → GoesIf R h0 s0 k0 h1 s1 k1 → (R → Q)
    → GoesIf Q h1 s1 k1 h2 s2 k2 → GoesIf R h0 s0 k0 h2 s2 k2
over-next {R} {Q} {h0} {h1} {h2} p then q = λ c t is k agrees.
    let a = p c t is k agrees in
    let w = a.2 in
    let b = q (after_all w.steps c) a.0 w.session a.1 w.agrees in
    let v = b.2 in
    let r = then-over w.steps v.steps c w.calls v.calls in (
      b.0,
      b.1,
      record {
        steps = w.steps ++ v.steps;
        calls = r.0;
        only = open-then w.steps v.steps w.only v.only;
        ready = λ begins. ready-then w.steps v.steps c (w.ready begins) (v.ready (then begins));
        session = ap (λ (x : Connection). x.history.session) r.1 ∙ v.session;
        agrees = subst (λ (x : Connection). Agrees h2 x.history b.0) (sym r.1) v.agrees;
        order = λ own f.
            subst (λ l. Follows l h2.received b.0.log) (sym (log-over-then w.steps v.steps c own))
            (v.order (log_over w.steps c.history.session own) (w.order own f));
      },
    )

pub over-then : {R : Type 0} {h0 h1 h2 : BuffersView} {s0 s1 s2 : SessionView}
    {k0 k1 k2 : Option Traffic} → GoesIf R h0 s0 k0 h1 s1 k1 → StaysOver h1 s1 k1 h2 s2 k2
    → GoesIf R h0 s0 k0 h2 s2 k2
over-then p q = over-next p (λ begins. tt) q

-- what a session is ready by that changed nothing of that
pub ready-by : {to new : SessionView} → new ≡ to → IsReady to → IsReady new
ready-by e ready = subst IsReady (sym e) ready

-- ---- the end of a line, and of the run

same-view : {A : Type 0} (f : SessionView → A) (a b : SessionView) → a ≡ b → f a ≡ f b
same-view f a b e = ap f e

module _ {held : BuffersView} {known : Option Traffic} (old new : SessionView)
    (form : form_of new.messages ≡ form_of old.messages)
    (reads : old.is_read ≡ true → new.is_read ≡ true)
    (line : new.link.station.line ≡ old.link.station.line) where
  pub left-over : {R : Type 0} (how : LineEnd) (reported : Bool) → HasLeft how reported old new
      → GoesIf R held old known held new known
  unfolding after_all log_over
  left-over {R} how reported does = λ c t is was a.
      let h = c.history in (
        t,
        was,
        record {
          steps = record { call = LineEnded how reported; session = new } ∷ [];
          calls = (subst (λ (x : SessionView). HasLeft how reported x new) (sym is) does, tt);
          only = (tt, tt);
          ready = λ begins. (tt, tt);
          session = refl;
          agrees =
              quiet-agrees (LineEnded how reported) held known h new t refl refl refl refl refl
              (form ∙ sym (same-view (λ x. form_of x.messages) h.session old is))
              (λ e. reads (sym (same-view (λ x. x.is_read) h.session old is) ∙ e))
              (line ∙ sym (same-view (λ x. x.link.station.line) h.session old is)) a;
          order = λ own f. f;
        },
      )

  pub passed-over : {R : Type 0} → PassesTime old new → GoesIf R held old known held new known
  unfolding after_all log_over
  passed-over {R} does = λ c t is was a.
      let h = c.history in (
        t,
        was,
        record {
          steps = record { call = TimePassed; session = new } ∷ [];
          calls = (subst (λ (x : SessionView). PassesTime x new) (sym is) does, tt);
          only = (tt, tt);
          ready = λ begins. (tt, tt);
          session = refl;
          agrees =
              quiet-agrees TimePassed held known h new t refl refl refl refl refl
              (form ∙ sym (same-view (λ x. form_of x.messages) h.session old is))
              (λ e. reads (sym (same-view (λ x. x.is_read) h.session old is) ∙ e))
              (line ∙ sym (same-view (λ x. x.link.station.line) h.session old is)) a;
          order = λ own f. f;
        },
      )

-- the station was halted, since its line ended
pub line-left : {R : Type 0} {held : BuffersView} {known : Option Traffic} (how : LineEnd)
    (reported : Bool) (old new : SessionView) → HasLeft how reported old new
    → GoesIf R held old known held new known
line-left how reported old new does =
    left-over old new
    (same-view (λ x. form_of x.messages) new _ does.stays)
    (λ e. same-view (λ x. x.is_read) new _ does.stays ∙ e)
    (ap (λ (d : LinkView). d.station.line) does.link)
    how reported does

-- a moment passed without a line
pub time-passed : {R : Type 0} {held : BuffersView} {known : Option Traffic}
    (old new : SessionView) → PassesTime old new → GoesIf R held old known held new known
time-passed old new does =
    passed-over old new
    (same-view (λ x. form_of x.messages) new _ does.stays)
    (λ e. same-view (λ x. x.is_read) new _ does.stays ∙ e)
    (same-view (λ x. x.link.station.line) new _ does.stays)
    does

-- the run was ended
pub run-closed : (held : BuffersView) (reported : Bool) (old new : SessionView)
    → HasClosed held.input held.is_over reported old new → Closes held old new
run-closed held reported old new does = record {
  is_reported = reported;
  closed = does;
  agrees = λ h t is a.
      quiet-agrees (Closed held.input held.is_over reported) held None h new t refl refl refl refl
      refl
      (does.form ∙ sym (same-view (λ x. form_of x.messages) h.session old is))
      (λ e. same-view (λ x. x.is_read) new _ does.stays)
      (ap (λ (d : LinkView). d.station.line) does.link
      ∙ sym (same-view (λ x. x.link.station.line) h.session old is)) a;
}

-- ---- the next line

-- a line was opened, and the session connected
pub line-connected : {held : BuffersView} {k k' : Option Traffic} (old new : SessionView)
    → new ≡ after_connected new.link.station.line old → StandsFor new.link.station.line []
    → Becomes k k' line_begun → GoesOver held old k (none_received held) new k'
unfolding after_all log_over received sent
line-connected {held} {k} {k'} old new does clear becomes = λ c t is was a.
    let h = c.history in
    let to = after_connected new.link.station.line old in (
      line_begun t,
      becomes t was,
      record {
        steps = record { call = Connected; session = new } ∷ [];
        calls = (
          subst (λ (x : SessionView). new ≡ after_connected new.link.station.line x) (sym is)
              does,
          tt,
        );
        only = (tt, tt);
        ready = λ begins. (subst IsReady (sym is) begins, tt);
        session = refl;
        agrees = record {
          read =
              ap (λ xs. t.read ++ xs)
              (end-is h new (same-view (λ x. form_of x.messages) new to does
              ∙ sym (same-view (λ x. form_of x.messages) h.session old is)))
              ∙ a.read
              ∙ ap (λ xs. xs ++ held.input) (sym (append-nil h.input));
          over = a.over;
          told = a.told;
          drained = a.drained;
          ended = λ e.
              same-view (λ x. x.is_read) new to does
              ∙ sym (same-view (λ x. x.is_read) h.session old is)
              ∙ a.ended e;
          came = refl;
          gone = refl;
          written = a.written ∙ sym (append-nil h.written);
          down = λ why e. cc;
          stands = clear;
        };
        order = λ own f. follows-begun held.received own t.log f;
      },
    )

-- ---- nothing was done, and faults

-- what GoesOver says of a session that stays as it is
pub none-over : {R : Type 0} {held : BuffersView} {s s' : SessionView} {k k' : Option Traffic}
    → s' ≡ s → k' ≡ k → GoesIf R held s k held s' k'
none-over same known = goes-over (stays same known)

pub reports-over : {h0 h1 : BuffersView} {s0 s1 : SessionView} {k0 k1 k2 : Option Traffic}
    {fault : DeviceFault} → GoesOver h0 s0 k0 h1 s1 k1 → Reports h1 s1 k1 k2 fault
    → ReportsOver h0 s0 k0 k2 fault
reports-over p q = λ c t now is was agrees at.
    let a = p c t is was agrees in
    q (after_all a.2.steps c).history a.0 now a.2.session a.1 a.2.agrees at

pub reports-later : {h0 h1 : BuffersView} {s0 s1 : SessionView} {k0 k1 k2 : Option Traffic}
    {fault : DeviceFault} → GoesOver h0 s0 k0 h1 s1 k1 → ReportsOver h1 s1 k1 k2 fault
    → ReportsOver h0 s0 k0 k2 fault
reports-later p q = λ c t now is was agrees at.
    let a = p c t is was agrees in
    q (after_all a.2.steps c) a.0 now a.2.session a.1 a.2.agrees at

-- ---- no line

pub passed-now : {R : Type 0} {held : BuffersView} {known : Option Traffic} (now : ℕ)
    (old new : SessionView)
    → new ≡ after_time now old → GoesIf R held old known held new known
passed-now now old new does =
    let course = same-view (λ x. x.course) new (after_time now old) does in
    time-passed old new (record {
      now = now;
      course = inl course;
      stays = does ∙ ap (λ c. record old { course = c }) (sym course);
    })

-- and then it goes on over its lines
pub passes-then : {R : Type 0} {h0 h1 h2 : BuffersView} {s0 s2 : SessionView}
    {k0 k1 k1' k2 : Option Traffic} (now : ℕ) (old new : SessionView)
    → GoesIf R h0 s0 k0 h1 old k1 → (R → IsReady old) → k1' ≡ k1 → new ≡ after_time now old
    → GoesOver h1 new k1' h2 s2 k2 → GoesIf R h0 s0 k0 h2 s2 k2
passes-then now old new p ready same does q =
    over-next (over-then (over-then p (none-over refl same)) (passed-now now old new does))
    (λ begins. ready-by does (ready begins)) q

pub failed : {R : Type 0} {held : BuffersView} {known : Option Traffic} (now : ℕ)
    (old new : SessionView)
    → new ≡ after_failure (after_time now old) → GoesIf R held old known held new known
failed now old new does =
    let course = same-view (λ x. x.course) new (after_failure (after_time now old)) does in
    time-passed old new (record {
      now = now;
      course = inr (inl course);
      stays = does ∙ ap (λ c. record old { course = c }) (sym course);
    })

pub paused : {R : Type 0} {held : BuffersView} {known : Option Traffic} (now : ℕ)
    (old new : SessionView)
    → new ≡ after_line (after_time now old) → GoesIf R held old known held new known
paused now old new does =
    let course = same-view (λ x. x.course) new (after_line (after_time now old)) does in
    time-passed old new (record {
      now = now;
      course = inr (inr course);
      stays = does ∙ ap (λ c. record old { course = c }) (sym course);
    })

-- ---- how a line was opened, and a run ended

pub not-open : {R : Type 0} {b : Bool} → b ≡ false → ◌≡◌ {A = Result Bool R} (Ok b) (Ok true) → ⊥
not-open shut e = cc

pub refused : {R : Type 0} {r : R} → ◌≡◌ {A = Result Bool R} (Err r) (Ok true) → ⊥
refused e = cc

pub same-fault : {A B R : Type 0} {f f' : DeviceFault}
    → ◌≡◌ {A = Result A (the_data R)} (Err (Device f)) (Err (Device f'))
    → ◌≡◌ {A = Result B DeviceFault} (Err f) (Err f')
same-fault e = cc

pub same-err : {A B E : Type 0} {x y : E} → ◌≡◌ {A = Result A E} (Err x) (Err y)
    → ◌≡◌ {A = Result B E} (Err x) (Err y)
same-err e = cc

pub reports-at : {h : BuffersView} {s : SessionView} {k0 k1 k2 : Option Traffic}
    {fault : DeviceFault}
    → k2 ≡ k1 → ReportsOver h s k0 k1 fault → ReportsOver h s k0 k2 fault
reports-at {h} {s} {k0} {k1} {k2} {fault} same reports =
    subst (λ k. ReportsOver h s k0 k fault) (sym same) reports

-- the fault is that of the run, or one that came after it
pub reports-by : {P : Type 0} {h0 h1 : BuffersView} {s0 s1 : SessionView}
    {k0 k1 k2 : Option Traffic} {fault : DeviceFault} → GoesOver h0 s0 k0 h1 s1 k1
    → (P → ReportsOver h0 s0 k0 k1 fault) → (P × (k2 ≡ k1)) ⊎ Reports h1 s1 k1 k2 fault
    → ReportsOver h0 s0 k0 k2 fault
reports-by over ran (inl same) = reports-at same.1 (ran same.0)
reports-by over ran (inr later) = reports-over over later

pub is-unit : {R : Type 0} (r : Result (Unit {0}) R) → is_ok r ≡ true → r ≡ Ok tt
is-unit (Ok u) e = refl
is-unit (Err r) e = cc

-- a run that may end well, and says so, does
pub may-end : {R : Type 0} {ran result : Result (Unit {0}) R} {has_run : Bool} (s : SessionView)
    → (result ≡ Ok tt → (ran ≡ result) ⊎ (has_run ≡ true))
    → (ran ≡ Ok tt → MayEndWell s) → has_run ≡ s.course.has_run
    → is_ok result ≡ true → MayEndWell s
may-end {R} {ran} {result} {has_run} s well may is ok = by (well e)
  where
    e : result ≡ Ok tt
    e = is-unit result ok

    by : (ran ≡ result) ⊎ (has_run ≡ true) → MayEndWell s
    by (inl same) = may (same ∙ e)
    by (inr has) = inr (sym is ∙ has)

-- whether more may be to be read: the input isn't over, wasn't read, and is one whose end is awaited
none-more : (over read awaits : Bool) → not over && (not read && awaits) ≡ false
    → (read ≡ true) ⊎ ((over ≡ true) ⊎ (awaits ≡ false))
none-more true read awaits e = inr (inl refl)
none-more false true awaits e = inl refl
none-more false false awaits e = inr (inr e)

pub read-to-end : {R : Type 0} {ran result : Result (Unit {0}) R} {more : Bool}
    (held : BuffersView) (s : SessionView)
    → (result ≡ Ok tt → (ran ≡ result) ⊎ (more ≡ false))
    → (ran ≡ Ok tt → s.is_read ≡ true)
    → more ≡ (not held.is_over && (not s.is_read && s.options.awaits_end))
    → is_ok result ≡ true → IsReadToEnd held s
read-to-end {R} {ran} {result} {more} held s read done is ok = by (read e)
  where
    e : result ≡ Ok tt
    e = is-unit result ok

    by : (ran ≡ result) ⊎ (more ≡ false) → IsReadToEnd held s
    by (inl same) = inl (done (same ∙ e))
    by (inr none) = none-more held.is_over s.is_read s.options.awaits_end (sym is ∙ none)
