-- Runs over devices to their end: what is delivered and written after a session was closed.
use Rattle.std.proofs.Common.{◌≡◌, ◌∙◌, ap, sym, subst, refl, ℕ, zero, suc, ◌+◌, ◌-◌, Bool, true}
use Rattle.std.proofs.Common.{false, arith, length, nat_le}
use Rattle.std.proofs.Common.{List, [], ◌∷◌, ◌++◌, map, take, drop, Option, Some, None}
use Rattle.std.proofs.Common.{option_to_list}
use Rattle.std.proofs.Common.{append_assoc, append-nil}
use Rattle.std.proofs.lemmas.List.{take-append-drop}
use Rattle.std.proofs.Math.Seq.{drop-nil}
use Rattle.ddcmp_frame.specs.Reader.{StandsFor}
use Rattle.ddcmp_io.specs.Queue.{QueueView}
use Rattle.ddcmp_station.specs.Linking.{LinkView}
use Rattle.ddcmp_window.specs.Store.{first_message}
use Rattle.ddcmp_streams.specs.Messages.{after_input, entries_of_input}
use Rattle.ddcmp_session.specs.Session.{SessionView, form_of, taken_at_once, taken_when_written}
use Rattle.ddcmp_streams.specs.Options.{takes_at_once}
use Rattle.ddcmp_session.specs.Calls.{SessionCall, InputRead, InputEnded, Connected, LineEnded}
use Rattle.ddcmp_session.specs.Calls.{Received, Filled, LineTook, TimedOut, TimePassed, Delivered}
use Rattle.ddcmp_session.specs.Calls.{OutputTook, Closed, SessionStep, SessionHistory, Mail}
use Rattle.ddcmp_session.specs.Calls.{IsSessionHistory, after_session_step, after_session_steps}
use Rattle.ddcmp_session.specs.Calls.{SessionDoes, written_in}
use Rattle.ddcmp_session.specs.Connections.{AreDone, Connection, Does, after_all, after_step}
use Rattle.ddcmp_session.specs.Devices.{BuffersView, nothing_read}
use Rattle.ddcmp_session.specs.Traffic.{Traffic, no_traffic}
use Rattle.ddcmp_session.specs.Finishing.{AreDeliveries, Finishes, IsDelivery, RunsToEnd}
use Rattle.ddcmp_session.specs.Finishing.{taken_in}
use Rattle.ddcmp_session.proofs.GoingLaws.{same-at}
use Rattle.ddcmp_laws.specs.Connections.{first_connection}
use Rattle.ddcmp_laws.specs.Pipe.{Made, session_of}
use Rattle.ddcmp_laws.specs.Endings.{WasFinished}
use Rattle.ddcmp_laws.proofs.Holding.{left_alone, takes_inbox, takes_longest, takes_none}
use Rattle.ddcmp_laws.proofs.LosingAnew.{session-after}
use Rattle.ddcmp_laws.proofs.RunLaws.{runs_to_end}
use Rattle.ddcmp_laws.proofs.Writing.{ended_keeps, entries_keep}

-- ---- the size of an output stays

pub size_stays : (call : SessionCall) (used : List ℕ) (old new : SessionView)
    → Does call used old new → new.output.size ≡ old.output.size
size_stays (InputRead bytes) used old new d =
    let s : SessionView = record old { messages = after_input bytes old.messages } in
    same-at (λ x. x.output.size) new _ d.state
    ∙ ap (λ (q : QueueView). q.size) (entries_keep (entries_of_input bytes old.messages) s).0
size_stays InputEnded used old new d =
    same-at (λ x. x.output.size) new _ d ∙ ap (λ (q : QueueView). q.size) (ended_keeps old).0
size_stays Connected used old new d = same-at (λ x. x.output.size) new _ d
size_stays (LineEnded how r) used old new d = d.wrote.size
size_stays (Received bytes) used old new d = d.wrote.size
size_stays (Filled n) used old new d = same-at (λ x. x.output.size) new _ d.0
size_stays (LineTook n) used old new d = same-at (λ x. x.output.size) new _ d
size_stays (TimedOut now) used old new d = same-at (λ x. x.output.size) new _ d
size_stays TimePassed used old new d = same-at (λ x. x.output.size) new _ d.stays
size_stays (Delivered true) used old new d = d.wrote.2.size
size_stays (Delivered false) used old new d = d.wrote.size
size_stays (OutputTook n) used old new d = same-at (λ x. x.output.size) new _ d
size_stays (Closed left over r) used old new d = d.wrote.size

pub sizes_stay : (steps : List SessionStep) (c : Connection) → AreDone steps c
    → (after_all steps c).history.session.output.size ≡ c.history.session.output.size
unfolding after_all
sizes_stay [] c does = refl
sizes_stay (step ∷ rest) c does =
    sizes_stay rest (after_step step c) does.1
    ∙ ap (λ (s : SessionView). s.output.size) (session-after step.call step.session c)
    ∙ size_stays step.call c.history.used c.history.session step.session does.0

-- ---- what deliveries leave

pub record Kept (old new : SessionView) : Type 0 where
  pub size : new.output.size ≡ old.output.size
  pub is_cut : new.output.is_cut ≡ old.output.is_cut
  pub longest
      : new.link.station.core.limits.longest ≡ old.link.station.core.limits.longest
  pub lost : new.course.lost ≡ old.course.lost
  pub counters : new.options.counters ≡ old.options.counters
  pub form : form_of new.messages ≡ form_of old.messages

kept_then : {a b c : SessionView} → Kept a b → Kept b c → Kept a c
kept_then p q = record {
  size = q.size ∙ p.size;
  is_cut = q.is_cut ∙ p.is_cut;
  longest = q.longest ∙ p.longest;
  lost = q.lost ∙ p.lost;
  counters = q.counters ∙ p.counters;
  form = q.form ∙ p.form;
}

kept_one : (call : SessionCall) (old new : SessionView) → IsDelivery call
    → SessionDoes call [] old new → Kept old new
kept_one (Delivered true) old new of d = record {
  size = d.wrote.2.size;
  is_cut = d.wrote.2.is_cut;
  longest =
      same-at (λ x. x.link.station.core.limits.longest) new _ d.stays
      ∙ takes_longest (taken_at_once old) old.link;
  lost = same-at (λ x. x.course.lost) new _ d.stays;
  counters = same-at (λ x. x.options.counters) new _ d.stays;
  form = same-at (λ x. form_of x.messages) new _ d.stays;
}
kept_one (Delivered false) old new of d = record {
  size = d.wrote.size;
  is_cut = d.wrote.is_cut;
  longest = same-at (λ x. x.link.station.core.limits.longest) new _ d.stays;
  lost = same-at (λ x. x.course.lost) new _ d.stays;
  counters = same-at (λ x. x.options.counters) new _ d.stays;
  form = same-at (λ x. form_of x.messages) new _ d.stays;
}
kept_one (OutputTook n) old new of d = record {
  size = same-at (λ x. x.output.size) new _ d;
  is_cut = same-at (λ x. x.output.is_cut) new _ d;
  longest =
      same-at (λ x. x.link.station.core.limits.longest) new _ d
      ∙ takes_longest (taken_when_written n old) old.link;
  lost = same-at (λ x. x.course.lost) new _ d;
  counters = same-at (λ x. x.options.counters) new _ d;
  form = same-at (λ x. form_of x.messages) new _ d;
}
kept_one (InputRead used) old new of d = absurd of
kept_one InputEnded old new of d = absurd of
kept_one Connected old new of d = absurd of
kept_one (LineEnded how r) old new of d = absurd of
kept_one (Received used) old new of d = absurd of
kept_one (Filled n) old new of d = absurd of
kept_one (LineTook n) old new of d = absurd of
kept_one (TimedOut now) old new of d = absurd of
kept_one TimePassed old new of d = absurd of
kept_one (Closed left over r) old new of d = absurd of

pub kept : (steps : List SessionStep) (old new : SessionView) → AreDeliveries steps old new
    → Kept old new
kept [] old new same = record {
  size = ap (λ (s : SessionView). s.output.size) same;
  is_cut = ap (λ (s : SessionView). s.output.is_cut) same;
  longest = ap (λ (s : SessionView). s.link.station.core.limits.longest) same;
  lost = ap (λ (s : SessionView). s.course.lost) same;
  counters = ap (λ (s : SessionView). s.options.counters) same;
  form = ap (λ (s : SessionView). form_of s.messages) same;
}
kept (step ∷ rest) old new does =
    kept_then (kept_one step.call old step.session does.0 does.1)
    (kept rest step.session new does.2)

-- ---- deliveries are calls of a history

-- the received messages that aren't delivered yet
abbrev pub left : SessionView → List (List ℕ)
left s = drop s.unwritten s.link.station.core.station.inbox

-- what they lead to: some of the received messages were delivered
pub record Led (steps : List SessionStep) (h : SessionHistory) (new : SessionView) : Type 0 where
  pub calls : IsSessionHistory steps h
  pub session : (after_session_steps steps h).session ≡ new
  pub written : (after_session_steps steps h).written ≡ h.written ++ taken_in steps h.session
  pub mail : List (List ℕ)
  pub shown : (after_session_steps steps h).shown ≡ h.shown ++ map Mail mail
  pub inbox : mail ++ left new ≡ left h.session

record LedOne (step : SessionStep) (h : SessionHistory) : Type 0 where
  does : SessionDoes step.call h.used h.session step.session
  mail : List (List ℕ)
  shown : (after_session_step step h).shown ≡ h.shown ++ map Mail mail
  inbox : mail ++ left step.session ≡ left h.session

front : (inbox : List (List ℕ)) (message : List ℕ) → first_message inbox ≡ Some message
    → (message ∷ drop 1 inbox ≡ inbox) × (option_to_list (first_message inbox) ≡ message ∷ [])
front [] message is = cc
front (m ∷ rest) message is = by (same is)
  where
    same : Some m ≡ Some message → m ≡ message
    same e = cc

    by : m ≡ message → (message ∷ rest ≡ m ∷ rest) × (m ∷ [] ≡ message ∷ [])
    by e = (ap (λ x. x ∷ rest) (sym e), ap (λ x. x ∷ []) e)

drop-more : (n : ℕ) (xs : List (List ℕ)) → drop (n + 1) xs ≡ drop 1 (drop n xs)
drop-more n xs = ap (λ k. drop k xs) more ∙ by n xs
  where
    more : n + 1 ≡ suc n
    more = omega arith

    by : (n : ℕ) (xs : List (List ℕ)) → drop (suc n) xs ≡ drop 1 (drop n xs)
    by zero xs = refl
    by (suc n) [] = none n
      where
        none : (n : ℕ) → drop {A = List ℕ} (suc (suc n)) [] ≡ drop 1 (drop (suc n) [])
        none n = refl
    by (suc n) (x ∷ xs) = by n xs

led_one : (call : SessionCall) (h : SessionHistory) (new : SessionView) → IsDelivery call
    → SessionDoes call [] h.session new → LedOne (record { call = call; session = new }) h
led_one (Delivered true) h new of d =
    let n = taken_at_once h.session in
    let inbox = h.session.link.station.core.station.inbox in
    let u = h.session.unwritten in
    let f = front (left h.session) d.wrote.0 d.wrote.1 in
    record {
      does = d;
      mail = d.wrote.0 ∷ [];
      shown = ap (λ ms. h.shown ++ map Mail ms) f.1;
      inbox =
          ap (λ xs. d.wrote.0 ∷ xs)
          (same-at left new _ d.stays
          ∙ ap (λ xs. drop (u + 1 - n) xs) (takes_inbox n h.session.link)
          ∙ left_alone (takes_at_once h.session.options) (u + 1) inbox
          ∙ drop-more u inbox)
          ∙ f.0;
    }
led_one (Delivered false) h new of d = record {
  does = d;
  mail = [];
  shown = refl;
  inbox = same-at left new _ d.stays;
}
led_one (OutputTook n) h new of d = record {
  does = d;
  mail = [];
  shown = refl;
  inbox =
      same-at left new _ d
      ∙ ap (λ xs. drop (h.session.unwritten - taken_when_written n h.session) xs)
      (takes_inbox (taken_when_written n h.session) h.session.link)
      ∙ left_alone (nat_le (length h.session.output.waiting) n) h.session.unwritten
      h.session.link.station.core.station.inbox;
}
led_one (InputRead used) h new of d = absurd of
led_one InputEnded h new of d = absurd of
led_one Connected h new of d = absurd of
led_one (LineEnded how r) h new of d = absurd of
led_one (Received used) h new of d = absurd of
led_one (Filled n) h new of d = absurd of
led_one (LineTook n) h new of d = absurd of
led_one (TimedOut now) h new of d = absurd of
led_one TimePassed h new of d = absurd of
led_one (Closed left over r) h new of d = absurd of

map_more : (xs ys : List (List ℕ)) → map Mail (xs ++ ys) ≡ map Mail xs ++ map Mail ys
map_more [] ys = refl
map_more (x ∷ xs) ys = ap (λ zs. Mail x ∷ zs) (map_more xs ys)

pub led : (steps : List SessionStep) (h : SessionHistory) (new : SessionView)
    → AreDeliveries steps h.session new → Led steps h new
unfolding after_session_steps taken_in
led [] h new same = record {
  calls = tt;
  session = sym same;
  written = sym (append-nil h.written);
  mail = [];
  shown = sym (append-nil h.shown);
  inbox = ap left same;
}
led (step ∷ rest) h new does =
    let one = led_one step.call h step.session does.0 does.1 in
    let next = after_session_step step h in
    let more = led rest next new does.2 in
    record {
      calls = (one.does, more.calls);
      session = more.session;
      written =
          more.written
          ∙ append_assoc h.written (written_in step.call h.session)
          (taken_in rest step.session);
      mail = one.mail ++ more.mail;
      shown =
          more.shown
          ∙ ap (λ xs. xs ++ map Mail more.mail) one.shown
          ∙ append_assoc h.shown (map Mail one.mail) (map Mail more.mail)
          ∙ ap (λ xs. h.shown ++ xs) (sym (map_more one.mail more.mail));
      inbox =
          append_assoc one.mail more.mail (left new)
          ∙ ap (λ xs. one.mail ++ xs) more.inbox
          ∙ one.inbox;
    }

-- ---- no received message is left

abbrev Only : List ℕ → SessionView → SessionView → Type 0
Only taken old new =
    (taken ++ new.output.waiting ≡ old.output.waiting) × (new.link ≡ old.link)

only_one : (call : SessionCall) (old new : SessionView) → IsDelivery call
    → SessionDoes call [] old new → old.link.station.core.station.inbox ≡ []
    → Only (written_in call old) old new
only_one (Delivered true) old new of d none =
    absurd (empty (sym (ap (λ xs. first_message (drop old.unwritten xs)) none
    ∙ ap first_message (drop-nil old.unwritten)) ∙ d.wrote.1))
  where
    empty : ◌≡◌ {A = Option (List ℕ)} None (Some d.wrote.0) → ⊥
    empty e = cc
only_one (Delivered false) old new of d none =
    (d.wrote.waiting ∙ append-nil old.output.waiting, same-at (λ x. x.link) new _ d.stays)
only_one (OutputTook n) old new of d none = (
  ap (λ xs. take n old.output.waiting ++ xs) (same-at (λ x. x.output.waiting) new _ d)
      ∙ take-append-drop n old.output.waiting,
  same-at (λ x. x.link) new _ d ∙ takes_none (taken_when_written n old) old.link none,
)
only_one (InputRead used) old new of d none = absurd of
only_one InputEnded old new of d none = absurd of
only_one Connected old new of d none = absurd of
only_one (LineEnded how r) old new of d none = absurd of
only_one (Received used) old new of d none = absurd of
only_one (Filled n) old new of d none = absurd of
only_one (LineTook n) old new of d none = absurd of
only_one (TimedOut now) old new of d none = absurd of
only_one TimePassed old new of d none = absurd of
only_one (Closed left over r) old new of d none = absurd of

-- Then they only write what waits.
pub only_writes : (steps : List SessionStep) (old new : SessionView)
    → AreDeliveries steps old new → old.link.station.core.station.inbox ≡ []
    → Only (taken_in steps old) old new
unfolding taken_in
only_writes [] old new same none =
    (ap (λ (s : SessionView). s.output.waiting) same, ap (λ (s : SessionView). s.link) same)
only_writes (step ∷ rest) old new does none =
    let one = only_one step.call old step.session does.0 does.1 none in
    let more =
    only_writes rest step.session new does.2
    (ap (λ (d : LinkView). d.station.core.station.inbox) one.1 ∙ none) in (
      append_assoc (written_in step.call old) (taken_in rest step.session) new.output.waiting
          ∙ ap (λ xs. written_in step.call old ++ xs) more.0
          ∙ one.0,
      more.1 ∙ one.1,
    )

-- ---- how a run finishes

pub finishes_runs : (made : Made) (is_well : Bool) (held : BuffersView) (last : SessionView)
    (known : Option Traffic) → StandsFor made.line []
    → RunsToEnd is_well nothing_read (session_of made).session (Some no_traffic) held last known
    → (t after : Traffic) × (known ≡ Some after)
    × (steps : List SessionStep) × AreDone steps (first_connection made)
    × WasFinished is_well (record { made = made; steps = steps }) held t last after
finishes_runs made is_well held last known stands ran =
    let e = runs_to_end made is_well held ran.closed ran.between stands ran.ends in
    let f = subst (λ k. Finishes is_well ran.closed k last known) e.1 ran.finishes in
    let d = f.delivers.traffic e.0 refl in
    let w = f.takes.traffic _ d.1 in (
      e.0,
      _,
      w.1,
      e.2,
      e.3,
      record {
        closed = ran.closed;
        ended = e.4;
        finishes = subst (λ k. Finishes is_well ran.closed (Some e.0) last k) w.1 f;
      },
    )
