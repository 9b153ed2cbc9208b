-- How a session goes on over its devices: histories of calls, and calls that move no bytes.
use Rattle.std.proofs.Common.{◌⊎◌, inl, inr, Result, Err}
use Rattle.std.specs.Result.{IsErrAnd}
use Rattle.std.proofs.Common.{◌≡◌, ◌∙◌, ap, sym, subst, refl, ℕ, Bool, true}
use Rattle.std.proofs.Common.{false, List, [], ◌∷◌, ◌++◌, Option, Some}
use Rattle.std.proofs.Common.{append_assoc, append-nil, cond}
use Rattle.ddcmp_session.specs.Devices.{HasReported, IsOfRun, AreOfRun, Reports}
use Rattle.ddcmp_session.specs.Traffic.{Becomes, Traffic, after_fault, after_line_read, after_wait}
use Rattle.std.specs.Prelude.{◌||◌}
use Rattle.ddcmp_frame.specs.Reader.{StandsFor}
use Rattle.ddcmp_station.specs.Linking.{after_frames}
use Rattle.ddcmp_session.specs.Text.{Wrote, mail_text}
use Rattle.ddcmp_session.proofs.FrameLaws.{PutsFrames, frames-line}
use Rattle.ddcmp_io.specs.declared.transfer.Down.{Down}
use Rattle.ddcmp_session.specs.declared.devices.DeviceFault.{DeviceFault}
use Rattle.ddcmp_io.specs.declared.transfer.Transfer.{Transfer}
use Rattle.ddcmp_io.specs.declared.transfer.Transfer.TheVariants.{Bytes, Nothing, Interrupted}
use Rattle.ddcmp_io.specs.declared.transfer.Transfer.TheVariants.{Ended}
use Rattle.ddcmp_session.specs.declared.devices.DeviceFault.TheVariants.{Line, Input}
use Rattle.ddcmp_session.specs.Session.{SessionView, after_queued, form_of, next_mail}
use Rattle.ddcmp_session.specs.Session.{IsFilled, after_timeout, taken_at_once}
use Rattle.ddcmp_session.specs.Calls.{SessionCall}
use Rattle.ddcmp_session.specs.Calls.{Delivered, Filled, TimedOut}
use Rattle.ddcmp_session.specs.Calls.{SessionDoes}
use Rattle.ddcmp_session.specs.Calls.{SessionHistory, SessionStep, IsSessionHistory}
use Rattle.ddcmp_session.specs.Calls.{after_session_step, after_session_steps, used_in, gone_in}
use Rattle.ddcmp_session.specs.Calls.{end_in, input_in, is_told_in, written_in}
use Rattle.ddcmp_session.specs.Devices.{BuffersView, Agrees, WentOn, GoesOn}
use Rattle.ddcmp_session.specs.Devices.{end_of}
use Rattle.ddcmp_session.specs.Traffic.{LineLog}
use Rattle.ddcmp_session.specs.Orders.{Follows, log_after, log_over}
use Rattle.ddcmp_session.proofs.OrderLaws.{log-then}
use Rattle.ddcmp_session.proofs.TakenLaws.{takes-line}

-- ---- histories, one after another

calls-then : (xs ys : List SessionStep) (h : SessionHistory) → IsSessionHistory xs h
    → IsSessionHistory ys (after_session_steps xs h)
    → IsSessionHistory (xs ++ ys) h
    × (after_session_steps (xs ++ ys) h ≡ after_session_steps ys (after_session_steps xs h))
unfolding after_session_steps
calls-then [] ys h done more = (more, refl)
calls-then (x ∷ xs) ys h done more =
    let r = calls-then xs ys (after_session_step x h) done.1 more in ((done.0, r.0), r.1)

of-run : (xs ys : List SessionStep) → AreOfRun xs → AreOfRun ys → AreOfRun (xs ++ ys)
of-run [] ys some more = more
of-run (x ∷ xs) ys some more = (some.0, of-run xs ys some.1 more)

went-then : {h : SessionHistory} {left : List ℕ} {log : LineLog} {s0 s1 : SessionView}
    {h0 h1 : BuffersView} {t0 t1 : Traffic}
    → (w : WentOn h left log s0 h0 t0)
    → WentOn (after_session_steps w.steps h) h0.received t0.log s1 h1 t1
    → WentOn h left log s1 h1 t1
went-then {h} {left} {log} {s0} {s1} {h0} {h1} {t0} {t1} w v =
    let r = calls-then w.steps v.steps h w.calls v.calls in
    record {
      steps = w.steps ++ v.steps;
      calls = r.0;
      only = of-run w.steps v.steps w.only v.only;
      session = ap (λ (x : SessionHistory). x.session) r.1 ∙ v.session;
      agrees = subst (λ x. Agrees h1 x t1) (sym r.1) v.agrees;
      order = λ own f.
          subst (λ l. Follows l h1.received t1.log) (sym (log-then w.steps v.steps h own))
          (v.order (log_over w.steps h.session own) (w.order own f));
    }

pub goes-then : {h0 h1 h2 : BuffersView} {s0 s1 s2 : SessionView} {k0 k1 k2 : Option Traffic}
    → GoesOn h0 s0 k0 h1 s1 k1 → GoesOn h1 s1 k1 h2 s2 k2 → GoesOn h0 s0 k0 h2 s2 k2
goes-then p q = λ h t is k agrees.
    let a = p h t is k agrees in
    let w = a.2 in
    let b = q (after_session_steps w.steps h) a.0 w.session a.1 w.agrees in
    (b.0, b.1, went-then w b.2)

-- nothing was done, by devices that did what the session follows
pub nothing-went : (h : SessionHistory) (left : List ℕ) (log : LineLog) (s : SessionView)
    (held : BuffersView) (t : Traffic)
    → h.session ≡ s → Agrees held h t
    → ((own : LineLog) → Follows own left log → Follows own held.received t.log)
    → WentOn h left log s held t
unfolding after_session_steps log_over
nothing-went h left log s held t is agrees order = record {
  steps = [];
  calls = tt;
  only = tt;
  session = is;
  agrees = agrees;
  order = order;
}

pub none-went : (h : SessionHistory) (s : SessionView) (held : BuffersView) (t : Traffic)
    → h.session ≡ s → Agrees held h t → WentOn h held.received t.log s held t
none-went h s held t is agrees =
    nothing-went h held.received t.log s held t is agrees (λ own f. f)

-- nothing was done
pub stays : {held : BuffersView} {s s' : SessionView} {k k' : Option Traffic}
    → s' ≡ s → k' ≡ k → GoesOn held s k held s' k'
stays {held} {s} {s'} {k} {k'} same known = λ h t is was agrees.
    (t, known ∙ was, none-went h s' held t (is ∙ sym same) agrees)

-- a device was called and moved nothing
pub idles : {held : BuffersView} {s : SessionView} {k k' : Option Traffic}
    → (change : Traffic → Traffic) → Becomes k k' change → ((t : Traffic) → change t ≡ t)
    → GoesOn held s k held s k'
idles {held} {s} {k} {k'} change becomes nothing = λ h t is was agrees.
    (t, becomes t was ∙ ap (λ x. Some x) (nothing t), none-went h s held t is agrees)

pub none-written : (t : Traffic) → record t { written = t.written ++ [] } ≡ t
none-written t = ap (λ xs. record t { written = xs }) (append-nil t.written)

-- ---- one call

pub one-went : (call : SessionCall) (h : SessionHistory) (new : SessionView) (held : BuffersView)
    (t : Traffic) → (left : List ℕ) (log : LineLog) → IsOfRun call
    → SessionDoes call h.used h.session new
    → Agrees held (after_session_step (record { call = call; session = new }) h) t
    → ((own : LineLog) → Follows own left log
    → Follows (log_after call h.session own) held.received t.log)
    → WentOn h left log new held t
unfolding after_session_steps log_over
one-went call h new held t left log of does agrees order = record {
  steps = record { call = call; session = new } ∷ [];
  calls = (does, tt);
  only = (of, tt);
  session = refl;
  agrees = agrees;
  order = order;
}

pub nothing-more : {xs ys : List ℕ} → ys ≡ [] → xs ≡ xs ++ ys
nothing-more {xs} {ys} none = sym (append-nil xs) ∙ ap (λ zs. xs ++ zs) (sym none)

-- the end of its input stays
pub end-is : (h : SessionHistory) (new : SessionView)
    → form_of new.messages ≡ form_of h.session.messages
    → cond h.is_told (end_in (form_of new.messages)) [] ≡ end_of h
end-is h new form = ap (λ f. cond h.is_told (end_in f) []) form

-- A call that moves no bytes.
module _ (call : SessionCall) (held : BuffersView) (known : Option Traffic) where
  pub quiet-agrees : (h : SessionHistory) (new : SessionView) (t : Traffic)
      → used_in call ≡ [] → gone_in call h.session ≡ [] → input_in call h.session ≡ []
      → written_in call h.session ≡ [] → is_told_in call h.session ≡ false
      → form_of new.messages ≡ form_of h.session.messages
      → (h.session.is_read ≡ true → new.is_read ≡ true)
      → new.link.station.line ≡ h.session.link.station.line
      → Agrees held h t
      → Agrees held (after_session_step (record { call = call; session = new }) h) t
  quiet-agrees h new t no-used no-gone no-input no-written no-told form reads line a = record {
    read =
        ap (λ xs. t.read ++ xs)
        (ap (λ b. cond (b || h.is_told) (end_in (form_of new.messages)) []) no-told
        ∙ end-is h new form)
        ∙ a.read
        ∙ ap (λ xs. xs ++ held.input) (nothing-more no-input);
    over = a.over;
    told = λ e. a.told (sym (ap (λ b. b || h.is_told) no-told) ∙ e);
    drained = λ e. a.drained (sym (ap (λ b. b || h.is_told) no-told) ∙ e);
    ended = λ e. reads (a.ended (sym (ap (λ b. b || h.is_told) no-told) ∙ e));
    came = a.came ∙ ap (λ xs. xs ++ held.received) (nothing-more no-used);
    gone = a.gone ∙ nothing-more no-gone;
    written = a.written ∙ nothing-more no-written;
    down = a.down;
    stands =
        subst (λ l. StandsFor l (h.used ++ used_in call)) (sym line)
        (subst (StandsFor h.session.link.station.line) (nothing-more no-used) a.stands);
  }

  quiet-at : (h : SessionHistory) (new : SessionView) (t : Traffic) → IsOfRun call
      → SessionDoes call h.used h.session new
      → used_in call ≡ [] → gone_in call h.session ≡ [] → input_in call h.session ≡ []
      → written_in call h.session ≡ [] → is_told_in call h.session ≡ false
      → form_of new.messages ≡ form_of h.session.messages
      → (h.session.is_read ≡ true → new.is_read ≡ true)
      → new.link.station.line ≡ h.session.link.station.line
      → ((log : LineLog) → log_after call h.session log ≡ log)
      → Agrees held h t → WentOn h held.received t.log new held t
  quiet-at h new t of does no-used no-gone no-input no-written no-told form reads line no-act a =
      one-went call h new held t held.received t.log of does
      (quiet-agrees h new t no-used no-gone no-input no-written no-told form reads line a)
      (λ own f. subst (λ l. Follows l held.received t.log) (sym (no-act own)) f)

  pub quiet : (old new : SessionView) → IsOfRun call
      → ((text : List ℕ) → SessionDoes call text old new)
      → used_in call ≡ [] → gone_in call old ≡ [] → input_in call old ≡ []
      → written_in call old ≡ []
      → is_told_in call old ≡ false → form_of new.messages ≡ form_of old.messages
      → (old.is_read ≡ true → new.is_read ≡ true)
      → new.link.station.line ≡ old.link.station.line
      → ((s : SessionView) (log : LineLog) → log_after call s log ≡ log)
      → GoesOn held old known held new known
  quiet old new of does no-used no-gone no-input no-written no-told form reads line no-act =
      λ h t is was a.
      let s : ◌≡◌ {A = SessionView} h.session old = is in (
        t,
        was,
        quiet-at h new t of
            (subst (λ (x : SessionView). SessionDoes call h.used x new) (sym is) (does h.used))
            no-used
            (ap (gone_in call) is ∙ no-gone)
            (ap (input_in call) is ∙ no-input)
            (ap (written_in call) is ∙ no-written)
            (ap (is_told_in call) is ∙ no-told)
            (form ∙ sym (ap (λ (x : SessionView). form_of x.messages) is))
            (λ e. reads (sym (ap (λ (x : SessionView). x.is_read) is) ∙ e))
            (line ∙ sym (ap (λ (x : SessionView). x.link.station.line) is))
            (no-act h.session)
            a,
      )

pub same-at : {A : Type 0} (f : SessionView → A) (a b : SessionView) → a ≡ b → f a ≡ f b
same-at f a b e = ap f e

-- ---- other calls

-- `deliver` queued the text of a message, or did nothing
pub delivered-goes : {held : BuffersView} {known : Option Traffic} (has : Bool)
    (old new : SessionView)
    → (has ≡ true → (message : List ℕ) × (next_mail old ≡ Some message)
    × Wrote (mail_text (form_of old.messages) message) old.output new.output)
    → (has ≡ false → Wrote [] old.output new.output)
    → new ≡ record (cond has (after_queued old) old) { output = new.output }
    → GoesOn held old known held new known
delivered-goes {held} {known} true old new wrote waits stays =
    let now-is = record (after_queued old) { output = new.output } in
    quiet (Delivered true) held known old new tt
    (λ text. record { wrote = wrote refl; stays = stays }) refl refl refl refl
    refl (same-at (λ x. form_of x.messages) new now-is stays)
    (λ e. same-at (λ x. x.is_read) new now-is stays ∙ e)
    (same-at (λ x. x.link.station.line) new now-is stays
    ∙ takes-line (taken_at_once old) old.link)
    (λ s log. refl)
delivered-goes {held} {known} false old new wrote waits stays =
    let now-is = record old { output = new.output } in
    quiet (Delivered false) held known old new tt
    (λ text. record { wrote = waits refl; stays = stays }) refl refl refl refl
    refl (same-at (λ x. form_of x.messages) new now-is stays)
    (λ e. same-at (λ x. x.is_read) new now-is stays ∙ e)
    (same-at (λ x. x.link.station.line) new now-is stays)
    (λ s log. refl)

-- frames were put after what waits for the line
pub filled-goes : {held : BuffersView} {known : Option Traffic} (old new : SessionView)
    → PutsFrames old new → IsFilled new → GoesOn held old known held new known
filled-goes {held} {known} old new puts filled =
    let now-is = record old { link = after_frames puts.0 old.link } in
    quiet (Filled puts.0) held known old new tt (λ text. (puts.1, filled)) refl refl refl refl
    refl (same-at (λ x. form_of x.messages) new now-is puts.1)
    (λ e. same-at (λ x. x.is_read) new now-is puts.1 ∙ e)
    (same-at (λ x. x.link.station.line) new now-is puts.1 ∙ frames-line puts.0 old.link)
    (λ s log. refl)

-- the timers were handled
pub timed-goes : {held : BuffersView} {known : Option Traffic} (now : ℕ) (old new : SessionView)
    → new ≡ after_timeout now old
    → GoesOn held old known held new known
timed-goes {held} {known} now old new does =
    let now-is = after_timeout now old in
    quiet (TimedOut now) held known old new tt (λ text. does) refl refl refl refl
    refl (same-at (λ x. form_of x.messages) new now-is does)
    (λ e. same-at (λ x. x.is_read) new now-is does ∙ e)
    (same-at (λ x. x.link.station.line) new now-is does)
    (λ s log. refl)

-- ---- faults

still : (fault f : DeviceFault) (t : Traffic) → HasReported fault t
    → HasReported fault (after_fault f t)
still fault f t r = (
  r.0,
  r.1 ++ f ∷ [],
  ap (λ xs. xs ++ f ∷ []) r.2 ∙ append_assoc r.0 (fault ∷ r.1) (f ∷ []),
)

newest : (fault : DeviceFault) (t : Traffic) → HasReported fault (after_fault fault t)
newest fault t = (t.faults, [], refl)

-- a device reported a fault, and moved nothing
pub faulted : {held : BuffersView} {s : SessionView} {k k' : Option Traffic} (fault : DeviceFault)
    → Becomes k k' (after_fault fault) → GoesOn held s k held s k'
faulted {held} {s} {k} {k'} fault becomes = λ h t is was a. (
  after_fault fault t,
  becomes t was,
  none-went h s held (after_fault fault t) is (record {
    read = a.read;
    over = a.over;
    told = a.told;
    drained = a.drained;
    ended = a.ended;
    came = a.came;
    gone = a.gone;
    written = a.written;
    down = λ why e. still (Line why) fault t (a.down why e);
    stands = a.stands;
  }),
)

-- the line reported that it takes nothing any more
pub downed : {held : BuffersView} {s : SessionView} {k k' : Option Traffic} (why : Down)
    → Becomes k k' (after_fault (Line why))
    → GoesOn held s k (record held { down = Some why }) s k'
downed {held} {s} {k} {k'} why becomes = λ h t is was a. (
  after_fault (Line why) t,
  becomes t was,
  none-went h s (record held { down = Some why }) (after_fault (Line why) t) is (record {
    read = a.read;
    over = a.over;
    told = a.told;
    drained = a.drained;
    ended = a.ended;
    came = a.came;
    gone = a.gone;
    written = a.written;
    down = λ other e.
        subst (λ w. HasReported (Line w) (after_fault (Line why) t)) (same e)
        (newest (Line why) t);
    stands = a.stands;
  }),
)
  where
    same : {x y : Down} → Some x ≡ Some y → x ≡ y
    same e = cc

-- a wait could be made, or not
pub waited : {held : BuffersView} {s : SessionView} {k k' : Option Traffic} (ok : Bool)
    → Becomes k k' (after_wait ok) → GoesOn held s k held s k'
waited true becomes = idles (λ t. t) becomes (λ t. refl)
waited false becomes = faulted Input becomes

pub same-now : {x y : Traffic} → Some x ≡ Some y → x ≡ y
same-now e = cc

-- what was reported just now
pub reported : {held : BuffersView} {s : SessionView} {k k' : Option Traffic} (fault : DeviceFault)
    → Becomes k k' (after_fault fault) → Reports held s k k' fault
reported fault becomes = λ h t now is was a known.
    subst (HasReported fault) (same-now (sym (becomes t was) ∙ known)) (newest fault t)

-- what was reported by a read of the line, or by a write to it before
pub line-reported : {held : BuffersView} {s : SessionView} {k k' : Option Traffic} (m : Transfer)
    (space : List ℕ) (why : Down) → Becomes k k' (after_line_read m space)
    → (held.down ≡ Some why) ⊎ (m ≡ Ended why) → Reports held s k k' (Line why)
line-reported m space why becomes (inl down) = λ h t now is was a known.
    subst (HasReported (Line why)) (same-now (sym (becomes t was) ∙ known))
    (kept m t (a.down why down))
  where
    kept : (m : Transfer) (t : Traffic) → HasReported (Line why) t
        → HasReported (Line why) (after_line_read m space t)
    kept (Bytes n) t r = r
    kept Nothing t r = r
    kept Interrupted t r = r
    kept (Ended other) t r = still (Line why) (Line other) t r
line-reported m space why becomes (inr ended) = λ h t now is was a known.
    subst (HasReported (Line why))
    (same-now
    (sym (becomes t was ∙ ap (λ x. Some (after_line_read x space t)) ended) ∙ known))
    (newest (Line why) t)

-- what was reported by a write to the line before
pub line-was-down : {held : BuffersView} {s : SessionView} {k k' : Option Traffic} (why : Down)
    → held.down ≡ Some why → Becomes k k' (after_wait true) → Reports held s k k' (Line why)
line-was-down why down becomes = λ h t now is was a known.
    subst (HasReported (Line why)) (same-now (sym (becomes t was) ∙ known)) (a.down why down)

-- what is reported after a session went on
pub reports-then : {h0 h1 : BuffersView} {s0 s1 : SessionView} {k0 k1 k2 : Option Traffic}
    {fault : DeviceFault} → GoesOn h0 s0 k0 h1 s1 k1 → Reports h1 s1 k1 k2 fault
    → Reports h0 s0 k0 k2 fault
reports-then p r = λ h t now is was a known.
    let g = p h t is was a in
    r (after_session_steps g.2.steps h) g.0 now g.2.session g.1 g.2.agrees known

-- ---- nothing moved

pub not-delivered : (first old new : SessionView)
    → new ≡ record old { output = new.output }
    → old ≡ record first { output = old.output } → new ≡ record first { output = new.output }
not-delivered first old new stays is =
    stays ∙ ap (λ (s : SessionView). record s { output = new.output }) is

pub in-turn : (first old new : SessionView) → old ≡ record first { output = old.output }
    → new ≡ record old { output = new.output } → new ≡ record first { output = new.output }
in-turn first old new is stays =
    stays ∙ ap (λ (s : SessionView). record s { output = new.output }) is

pub neither : (a b : Bool) → a || b ≡ false → (a ≡ false) × (b ≡ false)
neither true b e = cc
neither false b e = (refl, e)

-- an error that `?` has passed on
pub passed-on : {X : Type 0} {r : Result Bool DeviceFault} {v fault : DeviceFault}
    → IsErrAnd r (λ w. w ≡ v) → r ≡ Err fault
    → ◌≡◌ {A = Result X DeviceFault} (Err v) (Err fault)
passed-on {X} {r} {v} {fault} it is =
    let same : fault ≡ v = subst (λ x. IsErrAnd x (λ w. w ≡ v)) is it in ap (λ x. Err x) (sym same)
