-- Runs over devices that ended well: what the output took of them.
use Rattle.std.proofs.Common.{◌≡◌, ◌≤◌, ◌∙◌, ap, sym, subst, refl, ℕ, Bool, true, false, arith}
use Rattle.std.proofs.Common.{List, [], ◌∷◌, ◌++◌, ◌⊎◌, inl, inr, map, drop, length, Some}
use Rattle.std.proofs.Common.{None, append_assoc, append-nil, take}
use Rattle.std.proofs.Math.Seq.{drop-nil}
use Rattle.std.proofs.lemmas.List.{take-append-drop}
use Rattle.ddcmp_input.specs.InBinary.{in_binary}
use Rattle.ddcmp_io.specs.Queue.{QueueView}
use Rattle.ddcmp_io.specs.Written.{HandsOver, HoldsBy}
use Rattle.ddcmp_station.specs.Linking.{LinkView}
use Rattle.ddcmp_window.specs.Store.{first_message}
use Rattle.ddcmp_streams.specs.declared.messages.MessageForm.{MessageForm}
use Rattle.ddcmp_streams.specs.declared.messages.MessageForm.TheVariants as form
use Rattle.ddcmp_streams.specs.Messages.{is_in_lines}
use Rattle.ddcmp_session.specs.Session.{SessionView, form_of, room_for_mail}
use Rattle.ddcmp_session.specs.Calls.{Closed, Mail, SessionHistory, SessionStep, losses}
use Rattle.ddcmp_session.specs.Calls.{after_session_step, after_session_steps}
use Rattle.ddcmp_session.specs.Connections.{AreDone}
use Rattle.ddcmp_session.specs.Devices.{BuffersView}
use Rattle.ddcmp_session.specs.Traffic.{Traffic}
use Rattle.ddcmp_session.specs.EndText.{end_text}
use Rattle.ddcmp_streams.specs.Queued.{queued}
use Rattle.ddcmp_session.specs.Finishing.{WritesEnd, WritesEndIf, after_taken_by, taken_in}
use Rattle.ddcmp_session.proofs.GoingLaws.{same-at, same-now}
use Rattle.ddcmp_laws.specs.Connections.{first_connection}
use Rattle.ddcmp_laws.specs.Pipe.{Made, session_of, undelivered}
use Rattle.ddcmp_laws.specs.Prefix.{Begins}
use Rattle.ddcmp_laws.specs.SessionRuns.{DeliversAll, Ran, got_to}
use Rattle.ddcmp_laws.specs.Endings.{FilesArrive, TookAll, WasFinished, last_text, shown_at_last}
use Rattle.ddcmp_laws.specs.Sessions.{mail_in, messages_of, texts_of}
use Rattle.ddcmp_laws.proofs.Anew.{Stays, stays_all, stays_first}
use Rattle.ddcmp_laws.proofs.EndLaws.{Kept, Led, kept, led, only_writes, sizes_stay}
use Rattle.ddcmp_laws.proofs.Outcomes.{read_all}
use Rattle.ddcmp_laws.proofs.RunLaws.{given_binary}
use Rattle.ddcmp_laws.proofs.Texts.{mail_is, mail_more}
use Rattle.ddcmp_laws.proofs.Texts.{nothing_lost, only_mail}
use Rattle.ddcmp_laws.proofs.Writing.{Writes, writes_all, writes_step}

-- an output that is empty has room for a message of any length
pub fits : (made : Made) (s : SessionView)
    → s.link.station.core.limits.longest ≡ made.options.config.max
    → s.output.size ≡ (session_of made).session.output.size → room_for_mail s ≤ s.output.size
fits made s longest size = omega (arith, longest, size)

pub none_first : (inbox : List (List ℕ)) → first_message inbox ≡ None → inbox ≡ []
none_first [] is = refl
none_first (m ∷ rest) is = cc

-- the last lines, if all of them had room
lines_in : (old new : QueueView) (text : List ℕ) → old.waiting ≡ [] → new.is_cut ≡ false
    → HandsOver (queued old) (queued new) text → new.waiting ≡ text
lines_in old new text none whole over =
    let r =
    subst (λ b. HoldsBy b (Some []) (Some new.waiting) [] text) whole
    (over.holds (Some []) [] (held old.is_cut)) in
    r.1 ∙ sym (r.2 ∙ append-nil r.0)
  where
    held : (b : Bool) → HoldsBy b (Some []) (Some old.waiting) [] []
    held true = (0, none)
    held false = ([], none, refl)

-- and whatever room they had: some of them
some_lines : (old new : QueueView) (text : List ℕ)
    → HandsOver (queued old) (queued new) text
    → (extra : List ℕ) × Begins extra text × (new.waiting ≡ old.waiting ++ extra)
some_lines old new text over =
    by new.is_cut (over.holds (Some old.waiting) [] (held old.is_cut))
  where
    held : (b : Bool) → HoldsBy b (Some old.waiting) (Some old.waiting) [] []
    held true = (0, sym (append-nil old.waiting))
    held false = ([], sym (append-nil old.waiting), refl)

    by : (b : Bool) → HoldsBy b (Some old.waiting) (Some new.waiting) [] text
        → (extra : List ℕ) × Begins extra text × (new.waiting ≡ old.waiting ++ extra)
    by true r = (take r.0 text, (drop r.0 text, take-append-drop r.0 text), r.1)
    by false r = (r.0, ([], sym r.2), r.1)

ends_if : (b : Bool) (old new : SessionView) → WritesEndIf b old new
    → new ≡ record old { output = new.output }
ends_if true old new w = w.stays
ends_if false old new w =
    w ∙ ap (λ (q : QueueView). record old { output = q })
    (sym (ap (λ (s : SessionView). s.output) w))

module _ (is_well : Bool) (ran : Ran) (held : BuffersView) (t after : Traffic) (last : SessionView)
    (fin : WasFinished is_well ran held t last after) where
  -- what was lost is not more at last
  pub lost_at_last : fin.closed.course.lost ≡ last.course.lost
  lost_at_last =
      let f = fin.finishes in
      sym
      ((kept f.takes.steps f.with_lines last f.takes.calls).lost
      ∙ same-at (λ x. x.course.lost) f.with_lines _
      (ends_if f.writes f.delivered f.with_lines f.lines)
      ∙ (kept f.delivers.steps fin.closed f.delivered f.delivers.calls).lost)

  pub taken_at_last : (read : after.read ≡ t.read)
      × (after.written
      ≡ (t.written ++ taken_in fin.finishes.delivers.steps fin.closed)
      ++ taken_in fin.finishes.takes.steps fin.finishes.with_lines)
  taken_at_last =
      let f = fin.finishes in
      let d = f.delivers.traffic t refl in
      let e =
      same-now
      (f.takes.traffic (after_taken_by (taken_in f.delivers.steps fin.closed) d.0 t) d.1).1 in
      (ap (λ (x : Traffic). x.read) e, ap (λ (x : Traffic). x.written) e)

  pub read_at_last : after.read ≡ t.read
  read_at_last = taken_at_last.0

  pub over_at_last : after.is_over ≡ t.is_over
  over_at_last =
      let f = fin.finishes in
      let d = f.delivers.traffic t refl in
      ap (λ (x : Traffic). x.is_over)
      (same-now
      (f.takes.traffic (after_taken_by (taken_in f.delivers.steps fin.closed) d.0 t) d.1).1)

-- a run that has written its last lines
module _ (is_well : Bool) (ran : Ran) (held : BuffersView) (t after : Traffic) (last : SessionView)
    (does : AreDone ran.steps (first_connection ran.made))
    (fin : WasFinished is_well ran held t last after) (writes : fin.finishes.writes ≡ true) where
  abbrev f : MessageForm
  f = ran.made.options.form

  abbrev h : SessionHistory
  h = (got_to ran).history

  abbrev reported : Bool
  reported = fin.ended.closes.is_reported

  abbrev delivered : SessionView
  delivered = fin.finishes.delivered

  stays : Stays ran.made (got_to ran)
  stays = stays_all ran.made ran.steps (first_connection ran.made) does (stays_first ran.made)

  abbrev step : SessionStep
  step = record { call = Closed held.input held.is_over reported; session = fin.closed }

  abbrev first : Kept fin.closed delivered
  first = kept fin.finishes.delivers.steps fin.closed delivered fin.finishes.delivers.calls

  room : room_for_mail delivered ≤ delivered.output.size
  room =
      fits ran.made delivered
      (first.longest
      ∙ ap (λ (d : LinkView). d.station.core.limits.longest) fin.ended.closes.closed.link
      ∙ stays.holds.longest)
      (first.size
      ∙ fin.ended.closes.closed.wrote.size
      ∙ sizes_stay ran.steps (first_connection ran.made) does)

  no_mail_first : delivered.link.station.core.station.inbox ≡ []
  no_mail_first =
      none_first delivered.link.station.core.station.inbox
      ((fin.finishes.drained writes).mail room)

  pub none_first_waits : delivered.output.waiting ≡ []
  none_first_waits = (fin.finishes.drained writes).waiting

  leads : Led fin.finishes.delivers.steps (after_session_step step h) delivered
  leads =
      led fin.finishes.delivers.steps (after_session_step step h) delivered
      fin.finishes.delivers.calls

  closed_writes : Writes f (after_session_step step h)
  closed_writes =
      writes_step f step h fin.ended.closes.closed
      (record { kind = stays.holds.kind; text = stays.holds.text })

  closed_count : fin.closed.unwritten ≡ h.session.unwritten
  closed_count = ap (λ (s : SessionView). s.unwritten) fin.ended.closes.closed.stays

  closed_inbox : fin.closed.link.station.core.station.inbox
      ≡ h.session.link.station.core.station.inbox
  closed_inbox = ap (λ (d : LinkView). d.station.core.station.inbox) fin.ended.closes.closed.link

  -- all received messages were delivered
  mail_all : leads.mail ≡ undelivered h
  mail_all =
      sym (append-nil leads.mail)
      ∙ ap (λ xs. leads.mail ++ xs)
      (sym (ap (drop delivered.unwritten) no_mail_first ∙ drop-nil delivered.unwritten))
      ∙ leads.inbox
      ∙ (λ i. drop (closed_count i) (closed_inbox i))

  -- what the output took before the last lines
  pub took_first : t.written ++ taken_in fin.finishes.delivers.steps fin.closed
      ≡ texts_of f (shown_at_last reported h)
  took_first =
      let steps = fin.finishes.delivers.steps in
      let then = after_session_steps steps (after_session_step step h) in
      let text = (writes_all f steps (after_session_step step h) leads.calls closed_writes).text in
      ap (λ xs. xs ++ taken_in steps fin.closed)
      (fin.ended.agrees.written ∙ sym (append-nil h.written))
      ∙ sym leads.written
      ∙ sym (append-nil then.written)
      ∙ ap (λ xs. then.written ++ xs)
      (sym (ap (λ (s : SessionView). s.output.waiting) leads.session ∙ none_first_waits))
      ∙ text
      ∙ ap (texts_of f)
      (leads.shown
      ∙ ap (λ ms. (h.shown ++ losses reported h.session) ++ map Mail ms) mail_all
      ∙ append_assoc h.shown (losses reported h.session) (map Mail (undelivered h)))

  -- ---- the last lines

  abbrev lined : SessionView
  lined = fin.finishes.with_lines

  ends : WritesEnd delivered lined
  ends =
      subst (λ b. WritesEndIf b delivered lined) writes fin.finishes.lines

  lined_link : lined.link ≡ delivered.link
  lined_link = same-at (λ x. x.link) lined _ ends.stays

  abbrev second : Kept lined last
  second = kept fin.finishes.takes.steps lined last fin.finishes.takes.calls

  takes : (taken_in fin.finishes.takes.steps lined ++ last.output.waiting ≡ lined.output.waiting)
      × (last.link ≡ lined.link)
  takes =
      only_writes fin.finishes.takes.steps lined last fin.finishes.takes.calls
      (ap (λ (d : LinkView). d.station.core.station.inbox) lined_link ∙ no_mail_first)

  last_link : last.link ≡ delivered.link
  last_link = takes.1 ∙ lined_link

  kind_first : form_of delivered.messages ≡ f
  kind_first = first.form ∙ fin.ended.closes.closed.form ∙ stays.holds.kind

  lines_text : (is_in_lines f ≡ false) ⊎ (last.output.is_cut ≡ false)
      → lined.output.waiting ≡ last_text f last
  lines_text (inl binary) =
      ap (λ (s : SessionView). s.output.waiting) (ends.binary (ap is_in_lines kind_first ∙ binary))
      ∙ none_first_waits
      ∙ by f binary
    where
      by : (g : MessageForm) → is_in_lines g ≡ false → [] ≡ last_text g last
      by form.Digits none = cc
      by form.Binary none = refl
      by form.Events none = refl
      by form.EventLines none = cc
  lines_text (inr whole) = by f refl
    where
      in_lines : is_in_lines (form_of delivered.messages) ≡ true
          → lined.output.waiting ≡ end_text last.options.counters last.link
      in_lines is =
          lines_in delivered.output lined.output
          (end_text delivered.options.counters delivered.link) none_first_waits
          (sym second.is_cut ∙ whole) (ends.lines is)
          ∙ ap (λ b. end_text b delivered.link)
          (sym
          (second.counters ∙ same-at (λ x. x.options.counters) lined _ ends.stays))
          ∙ ap (λ d. end_text last.options.counters d) (sym last_link)

      by : (g : MessageForm) → f ≡ g → lined.output.waiting ≡ last_text g last
      by form.Binary is =
          ap (λ (s : SessionView). s.output.waiting)
          (ends.binary (ap is_in_lines (kind_first ∙ is)))
          ∙ none_first_waits
      by form.Events is =
          ap (λ (s : SessionView). s.output.waiting)
          (ends.binary (ap is_in_lines (kind_first ∙ is)))
          ∙ none_first_waits
      by form.Digits is = in_lines (ap is_in_lines (kind_first ∙ is))
      by form.EventLines is = in_lines (ap is_in_lines (kind_first ∙ is))

  -- in lines, whether they had room or not
  pub took_lines : f ≡ form.Digits
      → (extra : List ℕ) × Begins extra (end_text delivered.options.counters delivered.link)
      × (taken_in fin.finishes.takes.steps lined ++ last.output.waiting ≡ extra)
  took_lines is =
      let some =
      some_lines delivered.output lined.output
      (end_text delivered.options.counters delivered.link)
      (ends.lines (ap is_in_lines (kind_first ∙ is))) in
      (some.0, some.1, takes.0 ∙ some.2 ∙ ap (λ xs. xs ++ some.0) none_first_waits)

  pub took_all : is_well ≡ true → TookAll reported ran last after
  took_all well =
      let none = (fin.finishes.well well).1.waiting in
      let two = taken_in fin.finishes.takes.steps lined in
      record {
        none_waits = none;
        no_mail =
            ap (λ (d : LinkView). d.station.core.station.inbox) last_link ∙ no_mail_first;
        wrote = λ whole.
            (taken_at_last is_well ran held t after last fin).1
            ∙ ap (λ xs. xs ++ two) took_first
            ∙ ap (λ xs. texts_of f (shown_at_last reported h) ++ xs)
            (sym (append-nil two)
            ∙ ap (λ xs. two ++ xs) (sym none)
            ∙ takes.0
            ∙ lines_text whole);
      }

-- ---- two runs

pub mail_at_last : (reported : Bool) (h : SessionHistory)
    → mail_in (shown_at_last reported h) ≡ mail_in h.shown ++ undelivered h
mail_at_last reported h =
    mail_more h.shown (losses reported h.session ++ map Mail (undelivered h))
    ∙ ap (λ ms. mail_in h.shown ++ ms)
    (mail_more (losses reported h.session) (map Mail (undelivered h))
    ∙ ap (λ ms. ms ++ mail_in (map Mail (undelivered h))) (nothing_lost reported h.session)
    ∙ mail_is (undelivered h))

pub arrives : (giver taker : Ran) → AreDone taker.steps (first_connection taker.made)
    → DeliversAll giver taker → FilesArrive giver taker
arrives giver taker does delivers files messages fit held other_held t other_t after other_after
    last other_last gave none took file =
    let c = got_to taker in
    let h = c.history in
    let f = taker.made.options.form in
    let reported = took.ended.closes.is_reported in
    let max = giver.made.options.config.max in
    let shown = shown_at_last reported h in
    let all =
    took_all true taker other_held other_t other_after other_last does took
    (took.finishes.well refl).0 refl in
    all.wrote (inl (ap is_in_lines files.taker_form))
    ∙ ap (λ g. texts_of g shown ++ last_text g other_last) files.taker_form
    ∙ append-nil (texts_of form.Binary shown)
    ∙ only_mail shown
    ∙ ap in_binary
    (mail_at_last reported h
    ∙ ap (λ (ms : List (List ℕ)). drop (length ms) (mail_in h.shown) ++ undelivered h)
    (sym files.none_delivered)
    ∙ delivers held t gave.closed gave.ended
    (lost_at_last true giver held t after last gave ∙ none)
    ∙ given_binary giver.made (got_to giver) t files.giver_form files.none_read
    ∙ ap (messages_of form.Binary max)
    (sym (read_at_last true giver held t after last gave) ∙ file)
    ∙ read_all max messages fit)
