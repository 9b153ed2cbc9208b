-- Two runs over devices, in some order of their calls.
use Rattle.std.proofs.Common.{◌≡◌, ◌∙◌, ap, sym, subst, refl, Bool, true, false, cond, List, []}
use Rattle.std.proofs.Common.{◌∷◌, ◌++◌, length, drop, append_assoc, append-nil, Option, Some, None}
use Rattle.std.proofs.Common.{ℕ, ◌≤◌, arith, length-append}
use Rattle.std.specs.Prelude.{◌||◌}
use Rattle.std.specs.List.{All}
use Rattle.ddcmp_frame.specs.Reader.{StandsFor}
use Rattle.ddcmp_input.specs.InBinary.{Fits, in_binary, told_in}
use Rattle.ddcmp_proto.specs.Config.{first_refusal}
use Rattle.ddcmp_laws.specs.Prefix.{Begins}
use Rattle.ddcmp_io.specs.declared.carrier.End.{End}
use Rattle.ddcmp_io.specs.declared.carrier.End.TheVariants.{A, B}
use Rattle.ddcmp_streams.specs.declared.messages.MessageForm.TheVariants as form
use Rattle.ddcmp_session.specs.Session.{SessionView, takes_end, after_last_line}
use Rattle.ddcmp_session.specs.Session.{after_unfinished}
use Rattle.ddcmp_session.specs.Calls.{SessionCall, InputRead, InputEnded, Connected, LineEnded}
use Rattle.ddcmp_session.specs.Calls.{Received, Filled, LineTook, TimedOut, TimePassed, Delivered}
use Rattle.ddcmp_session.specs.Calls.{OutputTook, Closed, SessionStep, SessionHistory, end_in}
use Rattle.ddcmp_session.specs.Calls.{is_told_in}
use Rattle.ddcmp_session.specs.Connections.{AreDone, Connection, Does, after_all, after_step}
use Rattle.ddcmp_session.specs.Devices.{Agrees, BuffersView, nothing_read}
use Rattle.ddcmp_session.specs.Traffic.{Traffic, no_traffic}
use Rattle.ddcmp_session.specs.Lines.{AllKeepOpen, Closes, Ends, IsReady, KeepsOpen, WentOver}
use Rattle.ddcmp_streams.specs.Messages.{after_input, entries_of_input, has_events}
use Rattle.ddcmp_session.proofs.InputLaws.{form-stays}
use Rattle.ddcmp_session.specs.Session.{form_of}
use Rattle.ddcmp_laws.proofs.Reading.{reads-on}
use Rattle.ddcmp_session.proofs.GoingLaws.{same-at}
use Rattle.ddcmp_laws.specs.Sessions.{IsTakenAsWritten, got_in, messages_of, mail_in, texts_of}
use Rattle.ddcmp_laws.specs.Pipe.{Made, session_of}
use Rattle.ddcmp_laws.specs.Connections.{AreCalls, Connections, PipesAnew, PipesClosedAnew}
use Rattle.ddcmp_laws.specs.Written.{PipesWrittenAnew, unacknowledged}
use Rattle.ddcmp_laws.specs.Connections.{WritesAnew, after_steps, after_step_at, delivered_since}
use Rattle.ddcmp_laws.specs.Connections.{first_connection, first_connections, read_since}
use Rattle.ddcmp_laws.specs.EachLine.{DeliversLine, IsReadOverLines, WritesLine, read_over_lines}
use Rattle.ddcmp_laws.specs.Loops.{messages_given}
use Rattle.ddcmp_laws.specs.SessionRuns.{DeliversAll, DeliversFirst, FilesBegin, FilesPass}
use Rattle.ddcmp_laws.specs.SessionRuns.{InFiles}
use Rattle.ddcmp_laws.specs.SessionRuns.{Ran, RanTogether, WasEnded, calls_of, given_since, got_to}
use Rattle.ddcmp_laws.proofs.Anew.{Stays}
use Rattle.ddcmp_laws.proofs.AnewPipes.{AcknowledgedAnew, acknowledged_anew_a, written_anew_a}
use Rattle.ddcmp_laws.proofs.AnewPipes.{written_anew_b}
use Rattle.ddcmp_laws.proofs.Anew.{left_out}
use Rattle.ddcmp_laws.proofs.AnewPipes.{acknowledged_anew_b, closed_anew_a, closed_anew_b}
use Rattle.ddcmp_laws.proofs.Anew.{stays_all}
use Rattle.ddcmp_laws.proofs.AnewPipes.{pipes_anew_a, pipes_anew_b, stays_a, stays_b}
use Rattle.ddcmp_laws.proofs.Anew.{follows, none_yet}
use Rattle.ddcmp_laws.proofs.Anew.{stays_first}
use Rattle.ddcmp_laws.proofs.AnewPipes.{writes_anew_a, writes_anew_b}
use Rattle.ddcmp_laws.proofs.EachLine.{left-with-none, none-in-nothing, read-over-lines}
use Rattle.ddcmp_laws.proofs.Given.{gave_more, messages_more, no_more, none_unread, unread}
use Rattle.ddcmp_laws.proofs.Losing.{closed-loses}
use Rattle.ddcmp_laws.proofs.LosingAnew.{session-after}
use Rattle.ddcmp_laws.proofs.Outcomes.{read_all, read_first}
use Rattle.ddcmp_laws.proofs.OverLines.{agrees_first}
use Rattle.ddcmp_laws.proofs.Texts.{binary_more, only_mail}

-- ---- calls in an order

abbrev Ordered : List (End × SessionStep) → Connections → Type 0
Ordered steps p =
    AreCalls steps p
    × (after_steps steps p
    ≡ record { a = after_all (calls_of A steps) p.a; b = after_all (calls_of B steps) p.b })

pub ordered : (steps : List (End × SessionStep)) (p : Connections)
    → AreDone (calls_of A steps) p.a → AreDone (calls_of B steps) p.b → Ordered steps p
unfolding after_steps after_all calls_of
ordered [] p of_a of_b = (tt, refl)
ordered ((A, step) ∷ rest) p of_a of_b =
    let r = ordered rest (after_step_at A step p) of_a.1 of_b in ((of_a.0, r.0), r.1)
ordered ((B, step) ∷ rest) p of_a of_b =
    let r = ordered rest (after_step_at B step p) of_a of_b.1 in ((of_b.0, r.0), r.1)

-- ---- a session that wasn't closed has read its input if it was told of its end

abbrev ReadTold : SessionView → Bool → Type 0
ReadTold s told = s.is_read ≡ true → told ≡ true

same-read : (told : Bool) (old new : SessionView) → new.is_read ≡ old.is_read → ReadTold old told
    → ReadTold new told
same-read told old new same was e = was (sym same ∙ e)

ended-read : (wants told : Bool) (old last new : SessionView) → new ≡ cond wants last old
    → ReadTold old told → ReadTold new (wants || told)
ended-read true told old last new is was e = refl
ended-read false told old last new is was e =
    same-read told old new (ap (λ (s : SessionView). s.is_read) is) was e

read-step : (call : SessionCall) (h : SessionHistory) (new : SessionView)
    → has_events (form_of h.session.messages) ≡ false → KeepsOpen call
    → Does call h.used h.session new → ReadTold h.session h.is_told
    → ReadTold new (is_told_in call h.session || h.is_told)
read-step (InputRead used) h new plain of d =
    let s : SessionView =
    record h.session { messages = after_input used h.session.messages } in
    same-read h.is_told h.session new
    (same-at (λ x. x.is_read) new _ d.state
    ∙ reads-on (entries_of_input used h.session.messages) s
    (ap has_events (form-stays used h.session.messages) ∙ plain))
read-step InputEnded h new plain of d =
    ended-read (takes_end h.session) h.is_told h.session
    (after_unfinished (after_last_line h.session)) new d
read-step Connected h new plain of d =
    same-read h.is_told h.session new (same-at (λ s. s.is_read) new _ d)
read-step (LineEnded how r) h new plain of d =
    same-read h.is_told h.session new (same-at (λ s. s.is_read) new _ d.stays)
read-step (Received used) h new plain of d =
    same-read h.is_told h.session new (same-at (λ s. s.is_read) new _ d.stays)
read-step (Filled n) h new plain of d =
    same-read h.is_told h.session new (same-at (λ s. s.is_read) new _ d.0)
read-step (LineTook n) h new plain of d =
    same-read h.is_told h.session new (same-at (λ s. s.is_read) new _ d)
read-step (TimedOut now) h new plain of d =
    same-read h.is_told h.session new (same-at (λ s. s.is_read) new _ d)
read-step TimePassed h new plain of d =
    same-read h.is_told h.session new (same-at (λ s. s.is_read) new _ d.stays)
read-step (Delivered true) h new plain of d =
    same-read h.is_told h.session new (same-at (λ s. s.is_read) new _ d.stays)
read-step (Delivered false) h new plain of d =
    same-read h.is_told h.session new (same-at (λ s. s.is_read) new _ d.stays)
read-step (OutputTook n) h new plain of d =
    same-read h.is_told h.session new (same-at (λ s. s.is_read) new _ d)
read-step (Closed left over r) h new plain of d = absurd of

told-after : (call : SessionCall) (new : SessionView) (c : Connection)
    → (after_step (record { call = call; session = new }) c).history.is_told
    ≡ is_told_in call c.history.session || c.history.is_told
told-after Connected new c = refl
told-after (InputRead used) new c = refl
told-after InputEnded new c = refl
told-after (LineEnded how r) new c = refl
told-after (Received used) new c = refl
told-after (Filled n) new c = refl
told-after (LineTook n) new c = refl
told-after (TimedOut now) new c = refl
told-after TimePassed new c = refl
told-after (Delivered has) new c = refl
told-after (OutputTook n) new c = refl
told-after (Closed left over r) new c = refl

all-read : (made : Made) (steps : List SessionStep) (c : Connection) → Stays made c
    → AreDone steps c → AllKeepOpen steps
    → ReadTold c.history.session c.history.is_told
    → ReadTold (after_all steps c).history.session (after_all steps c).history.is_told
unfolding after_all
all-read made [] c stays does of was = was
all-read made (step ∷ rest) c stays does of was =
    all-read made rest (after_step step c) (follows made step c none_yet does.0 stays).2 does.1 of.1
    (λ e.
    told-after step.call step.session c
    ∙ read-step step.call c.history step.session
    (ap has_events stays.holds.kind ∙ made.plain.no_events) of.0 does.0 was
    (sym (ap (λ (s : SessionView). s.is_read) (session-after step.call step.session c)) ∙ e))

-- ---- what an input gave since

-- what was delivered begins what was given
delivers_first : (giver taker : Ran) → PipesAnew giver.made (got_to giver) (got_to taker)
    → Stays giver.made (got_to giver) → DeliversFirst giver taker
delivers_first giver taker pipes stays held t agrees =
    let f = giver.made.options.form in
    let max = giver.made.options.config.max in
    let c = got_to giver in
    let before = messages_of f max c.input_before in
    let since = read_since giver.made c in
    let mail = delivered_since (got_to taker) in
    let m = messages_more f max c.history.input (unread f c.history.is_told held) in
    let given : messages_given giver.made t ≡ before ++ (since ++ m.0) =
    ap (messages_of f max) (gave_more f c.history held t stays.holds.kind agrees)
    ∙ m.1
    ∙ ap (λ ms. ms ++ m.0) stays.read
    ∙ append_assoc before since m.0 in (
      pipes.0 ++ m.0,
      sym (append_assoc mail pipes.0 m.0)
          ∙ ap (λ ms. ms ++ m.0) pipes.1
          ∙ sym (left_out before (messages_given giver.made t) (since ++ m.0) given),
    )

-- All that was given was read, if the run was ended and lost nothing.
pub given-read : (ran : Ran) → AreDone ran.steps (first_connection ran.made)
    → (held : BuffersView) (t : Traffic) (closed : SessionView) → WasEnded ran held t closed
    → closed.course.lost ≡ 0
    → messages_given ran.made t
    ≡ messages_of ran.made.options.form ran.made.options.config.max (got_to ran).history.input
given-read ran does held t closed ended none =
    let f = ran.made.options.form in
    let max = ran.made.options.config.max in
    let h = (got_to ran).history in
    let holds =
    (stays_all ran.made ran.steps (first_connection ran.made) does (stays_first ran.made)).holds in
    let told =
    all-read ran.made ran.steps (first_connection ran.made) (stays_first ran.made) does ended.only
    (λ e. e) in
    let p =
    closed-loses held.input held.is_over ended.closes.is_reported h.session closed
    ended.closes.closed none in
    ap (messages_of f max) (gave_more f h held t holds.kind ended.agrees)
    ∙ none_unread f max h held holds told p.1 p.2

-- and was delivered then
delivers_all : (giver taker : Ran) → PipesClosedAnew giver.made (got_to giver) (got_to taker)
    → AreDone giver.steps (first_connection giver.made) → DeliversAll giver taker
delivers_all giver taker whole does held t closed ended none =
    let f = giver.made.options.form in
    let max = giver.made.options.config.max in
    let c = got_to giver in
    (whole held.input held.is_over ended.closes.is_reported closed ended.closes.closed none).0
    ∙ ap (drop (length (messages_of f max c.input_before)))
    (sym (given-read giver does held t closed ended none))

-- ---- over each line

delivers_line : (giver taker : Ran)
    → AcknowledgedAnew giver.made (got_to giver) (got_to taker)
    → AreDone giver.steps (first_connection giver.made) → DeliversLine giver taker
delivers_line giver taker all does rest more over held t closed ended none =
    all (left-with-none giver rest does more over held t closed ended none)

pub reads_over_lines : (ran : Ran) → AreDone ran.steps (first_connection ran.made)
    → IsReadOverLines ran
reads_over_lines ran does held t closed ended none =
    let made = ran.made in
    let first = first_connection made in
    given-read ran does held t closed ended none
    ∙ sym (read-over-lines made ran.steps first does (stays_first made))
    ∙ ap (λ ms. ms ++ read_over_lines made ran.steps first)
    (none-in-nothing made.options.form made.options.config.max)

-- ---- files

pub given_binary : (made : Made) (c : Connection) (t : Traffic) → made.options.form ≡ form.Binary
    → c.input_before ≡ []
    → given_since made c t ≡ messages_of form.Binary made.options.config.max t.read
unfolding got_in told_in
given_binary made c t is none =
    let max = made.options.config.max in
    ap (λ xs. drop (length (messages_of made.options.form max xs)) (messages_given made t)) none
    ∙ ap
    (λ f. drop (length (messages_of f max []))
    (messages_of f max (t.read ++ cond t.is_over (end_in f) []))) is
    ∙ ap (messages_of form.Binary max) (no_more t.read t.is_over)

written_is : (taker : Ran) → taker.made.options.form ≡ form.Binary
    → mail_in (got_to taker).shown_before ≡ [] → WritesAnew taker.made (got_to taker)
    → (got_to taker).history.written ++ (got_to taker).history.session.output.waiting
    ≡ in_binary (delivered_since (got_to taker))
unfolding in_binary
written_is taker is none writes =
    writes is ∙ ap (λ ms. in_binary ms ++ in_binary (delivered_since (got_to taker))) none

files_begin : (giver taker : Ran) → DeliversFirst giver taker
    → WritesAnew taker.made (got_to taker) → FilesBegin giver taker
files_begin giver taker delivers writes files messages fit held other_held t other_t a b begins =
    let max = giver.made.options.config.max in
    let h = (got_to taker).history in
    let waiting = h.session.output.waiting in
    let mail = delivered_since (got_to taker) in
    let order = delivers held t a in
    let r = read_first max t.read begins.0 messages fit begins.1 in
    let all : mail ++ (order.0 ++ r.0) ≡ messages =
    sym (append_assoc mail order.0 r.0)
    ∙ ap (λ ms. ms ++ r.0)
    (order.1 ∙ given_binary giver.made (got_to giver) t files.giver_form files.none_read)
    ∙ r.1 in
    subst (λ xs. Begins xs (in_binary messages)) (sym b.written) (
      waiting ++ in_binary (order.0 ++ r.0),
      sym (append_assoc h.written waiting (in_binary (order.0 ++ r.0)))
          ∙ ap (λ xs. xs ++ in_binary (order.0 ++ r.0))
          (written_is taker files.taker_form files.none_delivered writes)
          ∙ sym (binary_more mail (order.0 ++ r.0))
          ∙ ap in_binary all,
    )

files_pass : (giver taker : Ran) → DeliversAll giver taker
    → WritesAnew taker.made (got_to taker) → FilesPass giver taker
files_pass giver taker delivers writes files messages fit held other_held t other_t closed ended b
    none file no_mail still =
    let max = giver.made.options.config.max in
    let h = (got_to taker).history in
    let mail = delivered_since (got_to taker) in
    let given : mail ≡ messages =
    sym (append-nil mail)
    ∙ ap (λ ms. mail ++ ms) (sym no_mail)
    ∙ delivers held t closed ended none
    ∙ given_binary giver.made (got_to giver) t files.giver_form files.none_read
    ∙ ap (messages_of form.Binary max) file
    ∙ read_all max messages fit in
    b.written
    ∙ sym (append-nil h.written)
    ∙ ap (λ xs. h.written ++ xs) (sym still)
    ∙ written_is taker files.taker_form files.none_delivered writes
    ∙ ap in_binary given

writes_line : (giver taker : Ran)
    → PipesWrittenAnew giver.made taker.made (got_to giver) (got_to taker)
    → AreDone giver.steps (first_connection giver.made) → WritesLine giver taker
writes_line giver taker writes does early rest more over held t closed ended none =
    let w = writes early in
    let out = left-with-none giver rest does more over held t closed ended none in
    let all : w.mail ≡ read_since giver.made (got_to giver) =
    sym (append-nil w.mail)
    ∙ ap (λ ms. w.mail ++ ms)
    (sym (nothing-left w.rest (unacknowledged (got_to giver).history) w.few out))
    ∙ w.all in
    subst
    (λ ms. IsTakenAsWritten taker.made.options.form (got_to taker).history
    (mail_in (got_to taker).shown_before ++ ms)) all w.written
  where
    nothing-left : (left out : List (List ℕ)) → length left ≤ length out → out ≡ [] → left ≡ []
    nothing-left [] out few none = refl
    nothing-left (m ∷ left) out few none =
        let e = ap length none in absurd (omega (arith, few, e))

-- Of a run that was ended and lost nothing, the other has written all messages that it was given
-- since it was connected.
abbrev pub WritesAll : Ran → Ran → Type 0
WritesAll giver taker = taker.made.options.acknowledge_early ≡ false
    → (held : BuffersView) (t : Traffic) (closed : SessionView) → WasEnded giver held t closed
    → closed.course.lost ≡ 0
    → IsTakenAsWritten taker.made.options.form (got_to taker).history
    (mail_in (got_to taker).shown_before ++ given_since giver.made (got_to giver) t)

writes_all : (giver taker : Ran) → WritesLine giver taker
    → AreDone giver.steps (first_connection giver.made) → WritesAll giver taker
writes_all giver taker writes does early held t closed ended none =
    let made = giver.made in
    let before = messages_of made.options.form made.options.config.max (got_to giver).input_before in
    subst
    (λ ms. IsTakenAsWritten taker.made.options.form (got_to taker).history
    (mail_in (got_to taker).shown_before ++ ms))
    (ap (drop (length before)) (sym (given-read giver does held t closed ended none)))
    (writes early [] tt tt held t closed
    (subst (λ xs. WasEnded (record { made = made; steps = xs }) held t closed)
    (sym (append-nil giver.steps)) ended) none)

-- of two lists of which each begins with the other
pub begins-both : {X : Type 0} (xs ys more rest : List X) → xs ++ more ≡ ys → ys ++ rest ≡ xs → xs ≡ ys
begins-both xs ys [] rest e f = sym (append-nil xs) ∙ e
begins-both xs ys (a ∷ more) rest e f =
    let m = length-append xs (a ∷ more) in
    let n = length-append ys rest in
    let k = ap length e in
    let l = ap length f in
    absurd (omega (arith, m, n, k, l))

-- The whole file was written to the other's output, whatever is left there, unless that is to
-- acknowledge early.
abbrev pub FilesWritten : Ran → Ran → Type 0
FilesWritten giver taker = InFiles giver taker → taker.made.options.acknowledge_early ≡ false
    → (messages : List (List ℕ)) → All (Fits giver.made.options.config.max) messages
    → (held other_held : BuffersView) (t other_t : Traffic) (closed : SessionView)
    → WasEnded giver held t closed → Agrees other_held (got_to taker).history other_t
    → closed.course.lost ≡ 0 → t.read ≡ in_binary messages
    → other_t.written ≡ in_binary messages

files_written : (giver taker : Ran) → FilesBegin giver taker → WritesAll giver taker
    → FilesWritten giver taker
files_written giver taker begins writes files early messages fit held other_held t other_t closed
    ended b none file =
    let max = giver.made.options.config.max in
    let w = writes early held t closed ended none in
    let given : mail_in w.front ≡ messages =
    sym w.mail
    ∙ ap (λ ms. ms ++ given_since giver.made (got_to giver) t) files.none_delivered
    ∙ given_binary giver.made (got_to giver) t files.giver_form files.none_read
    ∙ ap (messages_of form.Binary max) file
    ∙ read_all max messages fit in
    let text : texts_of taker.made.options.form w.front ≡ in_binary messages =
    ap (λ f. texts_of f w.front) files.taker_form ∙ only_mail w.front ∙ ap in_binary given in
    let first =
    begins files messages fit held other_held t other_t ended.agrees b
    ([], append-nil t.read ∙ file) in
    sym
    (begins-both (in_binary messages) other_t.written w.text.0 first.0
    (ap (λ xs. xs ++ w.text.0) (sym text) ∙ w.text.1 ∙ sym b.written) first.1)

-- ---- of two runs

module _ (a b : Ran) (f : first_refusal a.made.options.config ≡ None)
    (g : first_refusal b.made.options.config ≡ None)
    (done_a : AreDone a.steps (first_connection a.made))
    (done_b : AreDone b.steps (first_connection b.made))
    (together : RanTogether a b) where
  abbrev steps : List (End × SessionStep)
  steps = together.steps

  in_order : Ordered steps (first_connections a.made b.made)
  in_order =
      ordered steps (first_connections a.made b.made)
      (subst (λ xs. AreDone xs (first_connection a.made)) (sym together.of_a) done_a)
      (subst (λ xs. AreDone xs (first_connection b.made)) (sym together.of_b) done_b)

  both_at : after_steps steps (first_connections a.made b.made)
      ≡ record { a = got_to a; b = got_to b }
  both_at =
      in_order.1
      ∙ (λ i. record {
        a = after_all (together.of_a i) (first_connection a.made);
        b = after_all (together.of_b i) (first_connection b.made);
      })

  at_a : Stays a.made (got_to a)
  at_a =
      subst (λ (q : Connections). Stays a.made q.a) both_at
      (stays_a a.made b.made steps f g in_order.0 together.honest together.clean)

  at_b : Stays b.made (got_to b)
  at_b =
      subst (λ (q : Connections). Stays b.made q.b) both_at
      (stays_b a.made b.made steps f g in_order.0 together.honest together.clean)

  writes_a : WritesAnew a.made (got_to a)
  writes_a =
      subst (λ (q : Connections). WritesAnew a.made q.a) both_at
      (writes_anew_a a.made b.made steps f g in_order.0 together.honest together.clean)

  writes_b : WritesAnew b.made (got_to b)
  writes_b =
      subst (λ (q : Connections). WritesAnew b.made q.b) both_at
      (writes_anew_b a.made b.made steps f g in_order.0 together.honest together.clean)

  pub pipes-to-b : PipesAnew a.made (got_to a) (got_to b)
  pipes-to-b =
      subst (λ (q : Connections). PipesAnew a.made q.a q.b) both_at
      (pipes_anew_b a.made b.made steps f g in_order.0 together.honest together.clean)

  pub pipes-to-a : PipesAnew b.made (got_to b) (got_to a)
  pipes-to-a =
      subst (λ (q : Connections). PipesAnew b.made q.b q.a) both_at
      (pipes_anew_a a.made b.made steps f g in_order.0 together.honest together.clean)

  pub first-to-b : DeliversFirst a b
  first-to-b = delivers_first a b pipes-to-b at_a

  pub first-to-a : DeliversFirst b a
  first-to-a = delivers_first b a pipes-to-a at_b

  pub all-to-b : DeliversAll a b
  all-to-b =
      delivers_all a b
      (subst (λ (q : Connections). PipesClosedAnew a.made q.a q.b) both_at
      (closed_anew_b a.made b.made steps f g in_order.0 together.honest together.clean))
      done_a

  pub all-to-a : DeliversAll b a
  all-to-a =
      delivers_all b a
      (subst (λ (q : Connections). PipesClosedAnew b.made q.b q.a) both_at
      (closed_anew_a a.made b.made steps f g in_order.0 together.honest together.clean))
      done_b

  pub lines-to-b : DeliversLine a b
  lines-to-b =
      delivers_line a b
      (subst (λ (q : Connections). AcknowledgedAnew a.made q.a q.b) both_at
      (acknowledged_anew_b a.made b.made steps f g in_order.0 together.honest together.clean))
      done_a

  pub lines-to-a : DeliversLine b a
  lines-to-a =
      delivers_line b a
      (subst (λ (q : Connections). AcknowledgedAnew b.made q.b q.a) both_at
      (acknowledged_anew_a a.made b.made steps f g in_order.0 together.honest together.clean))
      done_b

  pub files-begin-b : FilesBegin a b
  files-begin-b = files_begin a b first-to-b writes_b

  pub files-begin-a : FilesBegin b a
  files-begin-a = files_begin b a first-to-a writes_a

  pub writes-line-b : WritesLine a b
  writes-line-b =
      writes_line a b
      (subst (λ (q : Connections). PipesWrittenAnew a.made b.made q.a q.b) both_at
      (written_anew_b a.made b.made steps f g in_order.0 together.honest together.clean)) done_a

  pub writes-line-a : WritesLine b a
  writes-line-a =
      writes_line b a
      (subst (λ (q : Connections). PipesWrittenAnew b.made a.made q.b q.a) both_at
      (written_anew_a a.made b.made steps f g in_order.0 together.honest together.clean)) done_b

  pub writes-all-b : WritesAll a b
  writes-all-b = writes_all a b writes-line-b done_a

  pub writes-all-a : WritesAll b a
  writes-all-a = writes_all b a writes-line-a done_b

  pub files-written-b : FilesWritten a b
  files-written-b = files_written a b files-begin-b writes-all-b

  pub files-written-a : FilesWritten b a
  files-written-a = files_written b a files-begin-a writes-all-a

  pub files-pass-b : FilesPass a b
  files-pass-b = files_pass a b all-to-b writes_b

  pub files-pass-a : FilesPass b a
  files-pass-a = files_pass b a all-to-a writes_a

-- ---- how a run ends

pub ended-after : (made : Made) (is_well : Bool) (held : BuffersView) (now : SessionView)
    (known : Option Traffic) → StandsFor made.line []
    → (ends : Ends is_well nothing_read (session_of made).session (Some no_traffic) held now known)
    → (t : Traffic) × (known ≡ Some t)
    × (went : WentOver (IsReady (session_of made).session) (first_connection made) []
    no_traffic.log ends.unclosed
    held t)
    × WasEnded (record { made = made; steps = went.steps }) held t now
ended-after made is_well held now known stands ends =
    let a = ends.over (first_connection made) no_traffic refl refl (agrees_first made stands) in
    let w = a.2 in (
      a.0,
      a.1,
      w,
      record {
        only = w.only;
        agrees = w.agrees;
        closes = subst (λ s. Closes held s now) (sym w.session) ends.closes;
      },
    )

pub runs_to_end : (made : Made) (is_well : Bool) (held : BuffersView) (now : SessionView)
    (known : Option Traffic) → StandsFor made.line []
    → Ends is_well nothing_read (session_of made).session (Some no_traffic) held now known
    → (t : Traffic) × (known ≡ Some t)
    × (steps : List SessionStep) × AreDone steps (first_connection made)
    × WasEnded (record { made = made; steps = steps }) held t now
runs_to_end made is_well held now known stands ends =
    let a = ended-after made is_well held now known stands ends in
    (a.0, a.1, a.2.steps, a.2.calls, a.3)
