-- A run, and what it did after its session was closed, as one history.
use Rattle.std.proofs.Common.{◌≡◌, ◌∙◌, ap, sym, subst, refl, ℕ, Bool, true, false, List, [], ◌∷◌}
use Rattle.std.proofs.Common.{◌++◌, append_assoc, append-nil, None}
use Rattle.ddcmp_frame.specs.Reader.{StandsFor}
use Rattle.ddcmp_session.proofs.TakenLaws.{takes-line}
use Rattle.ddcmp_streams.specs.declared.messages.MessageForm.TheVariants as form
use Rattle.ddcmp_streams.specs.declared.options.Options.{Options}
use Rattle.ddcmp_session.specs.Traffic.{LineLog, Traffic}
use Rattle.ddcmp_session.specs.Session.{SessionView, form_of, taken_at_once, taken_when_written}
use Rattle.ddcmp_session.specs.Calls.{Closed, Connected, Delivered, Filled, InputEnded, InputRead}
use Rattle.ddcmp_session.specs.Calls.{IsSessionHistory, LineEnded, LineTook, OutputTook, Received}
use Rattle.ddcmp_session.specs.Calls.{SessionCall, SessionDoes, SessionHistory, SessionStep}
use Rattle.ddcmp_session.specs.Calls.{TimePassed, TimedOut, after_session_step}
use Rattle.ddcmp_session.specs.Calls.{after_session_steps, written_in}
use Rattle.ddcmp_session.specs.Connections.{AreDone, Connection, after_all}
use Rattle.ddcmp_session.specs.Devices.{Agrees, BuffersView}
use Rattle.ddcmp_session.specs.Finishing.{AreDeliveries, IsDelivery, WritesEndIf, taken_in}
use Rattle.ddcmp_session.specs.Orders.{Follows, log_after, log_over}
use Rattle.ddcmp_session.proofs.GoingLaws.{end-is, none-written, quiet-agrees, same-at}
use Rattle.ddcmp_session.proofs.LinesGo.{then-over}
use Rattle.ddcmp_laws.specs.Connections.{first_connection}
use Rattle.ddcmp_laws.specs.Endings.{WasFinished}
use Rattle.ddcmp_laws.specs.Pipe.{Made, connects_in_call, session_of}
use Rattle.ddcmp_laws.specs.SessionRuns.{Ran, got_to}
use Rattle.ddcmp_streams.specs.Messages.{is_in_lines}
use Rattle.ddcmp_laws.proofs.Acted.{AreAlone, session_over}
use Rattle.ddcmp_laws.proofs.Anew.{stays_all, stays_first}
use Rattle.ddcmp_laws.proofs.ConnectionLaws.{does-so}
use Rattle.ddcmp_laws.proofs.EndLaws.{kept, led}
use Rattle.ddcmp_laws.proofs.Finished.{over_at_last, read_at_last, taken_at_last}
use Rattle.ddcmp_laws.proofs.LastSteps.{after-same}
use Rattle.ddcmp_laws.proofs.MergeRuns.{log_of, no_log}

-- ---- deliveries

abbrev with_written : List ℕ → Traffic → Traffic
with_written bytes t = record t { written = t.written ++ bytes }

agrees-one : (call : SessionCall) (h : SessionHistory) (new : SessionView) (held : BuffersView)
    (t : Traffic) → IsDelivery call → SessionDoes call [] h.session new → Agrees held h t
    → Agrees held (after_session_step (record { call = call; session = new }) h)
    (with_written (written_in call h.session) t)
agrees-one (Delivered true) h new held t of d a =
    subst (Agrees held (after_session_step (record { call = Delivered true; session = new }) h))
    (sym (none-written t))
    (quiet-agrees (Delivered true) held None h new t refl refl refl refl refl
    (same-at (λ x. form_of x.messages) new _ d.stays)
    (λ e. same-at (λ x. x.is_read) new _ d.stays ∙ e)
    (same-at (λ x. x.link.station.line) new _ d.stays
    ∙ takes-line (taken_at_once h.session) h.session.link) a)
agrees-one (Delivered false) h new held t of d a =
    subst (Agrees held (after_session_step (record { call = Delivered false; session = new }) h))
    (sym (none-written t))
    (quiet-agrees (Delivered false) held None h new t refl refl refl refl refl
    (same-at (λ x. form_of x.messages) new _ d.stays)
    (λ e. same-at (λ x. x.is_read) new _ d.stays ∙ e)
    (same-at (λ x. x.link.station.line) new _ d.stays) a)
agrees-one (OutputTook n) h new held t of d a = record {
  read =
      ap (λ xs. t.read ++ xs) (end-is h new (same-at (λ x. form_of x.messages) new _ d))
      ∙ a.read
      ∙ ap (λ xs. xs ++ held.input) (sym (append-nil h.input));
  over = a.over;
  told = a.told;
  drained = a.drained;
  ended = λ e. same-at (λ x. x.is_read) new _ d ∙ a.ended e;
  came = a.came ∙ ap (λ xs. xs ++ held.received) (sym (append-nil h.used));
  gone = a.gone ∙ sym (append-nil h.gone);
  written = ap (λ xs. xs ++ written_in (OutputTook n) h.session) a.written;
  down = a.down;
  stands =
      subst (λ l. StandsFor l (h.used ++ []))
      (sym
      (same-at (λ x. x.link.station.line) new _ d
      ∙ takes-line (taken_when_written n h.session) h.session.link))
      (subst (StandsFor h.session.link.station.line) (sym (append-nil h.used)) a.stands);
}
agrees-one (InputRead used) h new held t of d a = absurd of
agrees-one InputEnded h new held t of d a = absurd of
agrees-one Connected h new held t of d a = absurd of
agrees-one (LineEnded how r) h new held t of d a = absurd of
agrees-one (Received used) h new held t of d a = absurd of
agrees-one (Filled n) h new held t of d a = absurd of
agrees-one (LineTook n) h new held t of d a = absurd of
agrees-one (TimedOut now) h new held t of d a = absurd of
agrees-one TimePassed h new held t of d a = absurd of
agrees-one (Closed left over r) h new held t of d a = absurd of

agrees-all : (steps : List SessionStep) (h : SessionHistory) (new : SessionView)
    (held : BuffersView) (t : Traffic) → AreDeliveries steps h.session new → Agrees held h t
    → Agrees held (after_session_steps steps h) (with_written (taken_in steps h.session) t)
unfolding after_session_steps taken_in
agrees-all [] h new held t does a = subst (Agrees held h) (sym (none-written t)) a
agrees-all (step ∷ rest) h new held t does a =
    let next = after_session_step step h in
    let w = written_in step.call h.session in
    subst (Agrees held (after_session_steps rest next))
    (ap (λ xs. record t { written = xs }) (append_assoc t.written w (taken_in rest step.session)))
    (agrees-all rest next new held (with_written w t) does.2
    (agrees-one step.call h step.session held t does.0 does.1 a))

deliveries-then : (xs ys : List SessionStep) (s s' s'' : SessionView) → AreDeliveries xs s s'
    → AreDeliveries ys s' s''
    → AreDeliveries (xs ++ ys) s s'' × (taken_in (xs ++ ys) s ≡ taken_in xs s ++ taken_in ys s')
unfolding taken_in
deliveries-then [] ys s s' s'' is more =
    (subst (λ x. AreDeliveries ys x s'') is more, ap (taken_in ys) (sym is))
deliveries-then (x ∷ xs) ys s s' s'' does more =
    let r = deliveries-then xs ys x.session s' s'' does.2 more in (
      (does.0, does.1, r.0),
      ap (λ zs. written_in x.call s ++ zs) r.1
          ∙ sym (append_assoc (written_in x.call s) (taken_in xs x.session) (taken_in ys s')),
    )

-- they neither connect a session nor move bytes of its line
alone-one : (call : SessionCall) (s : SessionView) (log : LineLog) → IsDelivery call
    → (connects_in_call call ≡ 0) × (log_after call s log ≡ log)
alone-one (Delivered has) s log of = (refl, refl)
alone-one (OutputTook n) s log of = (refl, refl)
alone-one (InputRead used) s log of = absurd of
alone-one InputEnded s log of = absurd of
alone-one Connected s log of = absurd of
alone-one (LineEnded how r) s log of = absurd of
alone-one (Received used) s log of = absurd of
alone-one (Filled n) s log of = absurd of
alone-one (LineTook n) s log of = absurd of
alone-one (TimedOut now) s log of = absurd of
alone-one TimePassed s log of = absurd of
alone-one (Closed left over r) s log of = absurd of

deliveries-alone : (steps : List SessionStep) (s new : SessionView) (log : LineLog)
    → AreDeliveries steps s new → AreAlone steps × (log_over steps s log ≡ log)
unfolding log_over
deliveries-alone [] s new log does = (tt, refl)
deliveries-alone (x ∷ xs) s new log does =
    let o = alone-one x.call s log does.0 in
    let r = deliveries-alone xs x.session new log does.2 in
    ((o.0, r.0), ap (log_over xs x.session) o.1 ∙ r.1)

-- ---- calls of a session that don't connect it

over-alone : (ys : List SessionStep) (c : Connection) → AreAlone ys
    → IsSessionHistory ys c.history
    → AreDone ys c × (after_all ys c ≡ record c { history = after_session_steps ys c.history })
unfolding after_all after_session_steps
over-alone [] c alone does = (tt, refl)
over-alone (y ∷ ys) c alone does =
    let next : Connection = record c { history = after_session_step y c.history } in
    let e = after-same y.call y.session c alone.0 in
    let r = over-alone ys next alone.1 does.1 in (
      (
        does-so y.call c.history.used c.history.session y.session does.0,
        subst (AreDone ys) (sym e) r.0,
      ),
      ap (after_all ys) e ∙ r.1,
    )

log-append : (xs ys : List SessionStep) (s : SessionView) (log : LineLog)
    → log_over (xs ++ ys) s log ≡ log_over ys (session_over xs s) (log_over xs s log)
unfolding log_over session_over
log-append [] ys s log = refl
log-append (x ∷ xs) ys s log = log-append xs ys x.session (log_after x.call s log)

-- ---- a run

-- The calls of a run until its session was this one, closed, when its output had taken these bytes;
-- and what had been read from its devices then.
pub record Extended (options : Options) (after : Traffic) (new : SessionView) (taken : List ℕ)
    : Type 0 where
  pub ran : Ran
  pub same : ran.made.options ≡ options
  pub done : AreDone ran.steps (first_connection ran.made)
  pub session : (got_to ran).history.session ≡ new
  pub held : BuffersView
  pub t : Traffic
  pub read : t.read ≡ after.read
  pub over : t.is_over ≡ after.is_over
  pub written : t.written ≡ taken
  pub agrees : Agrees held (got_to ran).history t
  pub left : List ℕ
  pub follows : Follows (log_of ran) left after.log

ends-so : (b : Bool) (old new : SessionView) → form_of old.messages ≡ form.Binary
    → WritesEndIf b old new → new ≡ old
ends-so true old new binary w = w.binary (ap is_in_lines binary)
ends-so false old new binary w = w

module _ (is_well : Bool) (made : Made) (steps : List SessionStep) (held : BuffersView)
    (t after : Traffic) (last : SessionView) (left : List ℕ)
    (done : AreDone steps (first_connection made))
    (fin : WasFinished is_well (record { made = made; steps = steps }) held t last after)
    (follows : Follows (log_of (record { made = made; steps = steps })) left after.log) where
  abbrev ran : Ran
  ran = record { made = made; steps = steps }

  abbrev h : SessionHistory
  h = (got_to ran).history

  -- until these deliveries
  until : (ys : List SessionStep) (new : SessionView) → AreDeliveries ys fin.closed new
      → Extended made.options after new (t.written ++ taken_in ys fin.closed)
  unfolding after_session_steps log_over
  until ys new does =
      let closing : SessionStep =
      record {
        call = Closed held.input held.is_over fin.ended.closes.is_reported;
        session = fin.closed;
      } in
      let next = after_session_step closing h in
      let all = led ys next new does in
      let alone = deliveries-alone ys fin.closed new (log_of ran) does in
      let over =
      over-alone (closing ∷ ys) (got_to ran) (refl, alone.0)
      (fin.ended.closes.closed, all.calls) in
      let then = then-over steps (closing ∷ ys) (first_connection made) done over.0 in
      let whole = then.1 ∙ over.1 in
      record {
        ran = record { made = made; steps = steps ++ closing ∷ ys };
        same = refl;
        done = then.0;
        session = ap (λ (x : Connection). x.history.session) whole ∙ all.session;
        held = held;
        t = with_written (taken_in ys fin.closed) t;
        read = sym (read_at_last is_well ran held t after last fin);
        over = sym (over_at_last is_well ran held t after last fin);
        written = refl;
        agrees =
            subst
            (λ (x : Connection).
            Agrees held x.history (with_written (taken_in ys fin.closed) t)) (sym whole)
            (agrees-all ys next new held t does
            (fin.ended.closes.agrees h t refl fin.ended.agrees));
        left = left;
        follows =
            subst (λ l. Follows l left after.log)
            (sym
            (log-append steps (closing ∷ ys) (session_of made).session no_log ∙ alone.1))
            follows;
      }

  -- until the received messages were delivered
  pub delivered_to : Extended made.options after fin.finishes.delivered
      (t.written ++ taken_in fin.finishes.delivers.steps fin.closed)
  delivered_to =
      let f = fin.finishes in until f.delivers.steps f.delivered f.delivers.calls

  -- to the end, if no last lines were written
  pub extended : fin.finishes.with_lines ≡ fin.finishes.delivered
      → Extended made.options after last after.written
  extended same =
      let f = fin.finishes in
      let more =
      deliveries-then f.delivers.steps f.takes.steps fin.closed f.delivered last f.delivers.calls
      (subst (λ s. AreDeliveries f.takes.steps s last) same f.takes.calls) in
      subst (Extended made.options after last)
      (ap (λ xs. t.written ++ xs) more.1
      ∙ sym
      (append_assoc t.written (taken_in f.delivers.steps fin.closed)
      (taken_in f.takes.steps f.delivered))
      ∙ ap
      (λ s. (t.written ++ taken_in f.delivers.steps fin.closed) ++ taken_in f.takes.steps s)
      (sym same)
      ∙ sym (taken_at_last is_well ran held t after last fin).1)
      (until (f.delivers.steps ++ f.takes.steps) last more.0)

  -- with messages in binary there are none
  pub no_lines : made.options.form ≡ form.Binary
      → fin.finishes.with_lines ≡ fin.finishes.delivered
  no_lines binary =
      let f = fin.finishes in
      let stays = stays_all made steps (first_connection made) done (stays_first made) in
      ends-so f.writes f.delivered f.with_lines
      ((kept f.delivers.steps fin.closed f.delivered f.delivers.calls).form
      ∙ fin.ended.closes.closed.form ∙ stays.holds.kind ∙ binary) f.lines
