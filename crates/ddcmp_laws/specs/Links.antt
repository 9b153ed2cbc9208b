-- Links as callers of their stations: which calls of its station each call of a link makes, and two
-- links over streams.
use Rattle.std.specs.Prelude.{◌≡◌, ℕ, ◌+◌, ◌≤◌, if◌then◌else◌, List, [], ◌∷◌, ◌++◌, length, take}
use Rattle.std.specs.Prelude.{None, option_to_list}
use Rattle.ddcmp_frame.specs.Reader.{ReaderView}
use Rattle.ddcmp_core.specs.Store.{first_message}
use Rattle.ddcmp_core.specs.Table.{after_halt, may_send}
use Rattle.ddcmp_proto.specs.Bytes.{after_piece, notices_of_piece}
use Rattle.ddcmp_proto.specs.Config.{first_refusal}
use Rattle.ddcmp_proto.specs.declared.config.Config.{Config}
use Rattle.ddcmp_station.specs.Driving.{deadline_at, core_after_take_arm}
use Rattle.ddcmp_station.specs.Linking.{LinkView, with_state, started, anew, after_wake}
use Rattle.ddcmp_station.specs.Linking.{after_offered}
use Rattle.ddcmp_station.specs.Linking.{polls, after_frame, after_sent, after_taking, link_made}
use Rattle.ddcmp_io.specs.declared.carrier.End.{End}
use Rattle.ddcmp_io.specs.declared.carrier.End.TheVariants.{A, B}
use Rattle.ddcmp_pair.specs.Prefix.{IsPrefixOf}
use Rattle.ddcmp_pair.specs.Run.{EndState, acknowledged_in}
use Rattle.ddcmp_laws.specs.Faithful.{written}
use Rattle.ddcmp_laws.specs.Prefix.{Begins}
use Rattle.ddcmp_laws.specs.PairCalls.{Call, Start, Halt, Send, Poll, Arrive, Take, Arm}
use Rattle.ddcmp_laws.specs.Driven.{calls_of_timer}

-- ---- calls of a link

-- A call of a link, by its name. Its fields are the moment that it was passed, the message that it
-- was offered, the bytes that it used, or how many bytes its line took. A call of `fill` is a
-- number of calls of `fill_one`.
pub data LinkCall : Type 0 where
  Starts : LinkCall
  BeginsAnew : LinkCall
  Halts : LinkCall
  Wakes : (now : ℕ) → LinkCall
  Offers : (message : List ℕ) → LinkCall
  FillsOne : LinkCall
  IsSent : (n : ℕ) → LinkCall
  Feeds : (used : List ℕ) → LinkCall
  Takes : LinkCall

-- The calls of the station that a call of the link makes, in their order.
abbrev pub station_calls : LinkCall → LinkView → List Call
station_calls Starts d = Start ∷ []
station_calls BeginsAnew d = Halt ∷ Start ∷ []
station_calls Halts d = Halt ∷ []
station_calls (Wakes now) d =
    Arm ∷ calls_of_timer now
    (deadline_at d.milliseconds now d.station.core.station.timer d.deadline)
    (core_after_take_arm d.station.core)
station_calls (Offers message) d = Send message ∷ []
station_calls FillsOne d = if polls d then Poll ∷ [] else []
station_calls (IsSent n) d = []
station_calls (Feeds used) d = Arrive used ∷ []
station_calls Takes d = Take ∷ []

-- ---- what each call does by its contract

-- bytes were used after this text
pub record HasFed (text used : List ℕ) (old new : LinkView) : Type 0 where
  pub core : new.station.core ≡ after_piece text used old.station.core
  pub syn : new.station.syn ≡ old.station.syn
  pub stays : new ≡ record old { station = new.station; totals = new.totals }

-- `restart` clears the line; here it must be clear already.
abbrev pub HasDone : LinkCall → List ℕ → LinkView → LinkView → Type 0
HasDone Starts text old new = new ≡ with_state (started old.station.core.station) old
HasDone BeginsAnew text old new =
    (new ≡ anew new.station.line old) × (text ≡ []) × (old.outbox.waiting ≡ [])
HasDone Halts text old new = new ≡ with_state (after_halt old.station.core.station) old
HasDone (Wakes now) text old new = new ≡ after_wake now old
HasDone (Offers message) text old new = new ≡ after_offered message old
HasDone FillsOne text old new = new ≡ after_frame old
HasDone (IsSent n) text old new = new ≡ after_sent n old
HasDone (Feeds used) text old new = HasFed text used old new
HasDone Takes text old new = new ≡ after_taking old

-- ---- the history of a link

-- A link, and what happened since it was made: the bytes that it used from its line, the bytes that
-- were written to its line, the messages that it accepted, those that its user took, and how many
-- it reported acknowledged.
pub record LinkHistory : Type 0 where
  pub link : LinkView
  pub used : List ℕ
  pub gone : List ℕ
  pub accepted : List (List ℕ)
  pub taken : List (List ℕ)
  pub acknowledged : ℕ

abbrev pub new_history : Config → ℕ → ReaderView → LinkHistory
new_history config milliseconds line = record {
  link = link_made config milliseconds line;
  used = [];
  gone = [];
  accepted = [];
  taken = [];
  acknowledged = 0;
}

-- a call, and the link after it
pub record LinkStep : Type 0 where
  pub call : LinkCall
  pub link : LinkView

abbrev pub used_by : LinkCall → List ℕ
used_by (Feeds used) = used
used_by _ = []

abbrev pub gone_by : LinkCall → LinkView → List ℕ
gone_by (IsSent n) d = take n d.outbox.waiting
gone_by _ d = []

-- the message of `offer`, if the link accepts it
abbrev pub accepted_by : LinkCall → LinkView → List (List ℕ)
accepted_by (Offers message) d =
    if may_send d.station.core.limits d.station.core.station message then message ∷ [] else []
accepted_by _ d = []

-- the message that `take` returns, the first received one
abbrev pub taken_by : LinkCall → LinkView → List (List ℕ)
taken_by Takes d = option_to_list (first_message d.station.core.station.inbox)
taken_by _ d = []

-- how many messages the notice that `feed` returns reports acknowledged
abbrev pub acknowledged_after : LinkCall → LinkHistory → ℕ
acknowledged_after (Feeds used) h =
    acknowledged_in (notices_of_piece h.used used h.link.station.core)
acknowledged_after _ h = 0

abbrev pub after_step : LinkStep → LinkHistory → LinkHistory
after_step step h = record {
  link = step.link;
  used = h.used ++ used_by step.call;
  gone = h.gone ++ gone_by step.call h.link;
  accepted = h.accepted ++ accepted_by step.call h.link;
  taken = h.taken ++ taken_by step.call h.link;
  acknowledged = h.acknowledged + acknowledged_after step.call h;
}

-- An end of the model and a link with its history agree: the end has written the bytes that the
-- link's line took and those queued for it.
pub record IsSameEnd (x : EndState) (h : LinkHistory) : Type 0 where
  pub core : x.core ≡ h.link.station.core
  pub syn : x.syn ≡ h.link.station.syn
  pub arrived : x.arrived ≡ h.used
  pub wrote : written x ≡ h.gone ++ h.link.outbox.waiting
  pub given : x.given ≡ h.accepted
  pub taken : x.taken ≡ h.taken
  pub acknowledged : x.acknowledged ≡ h.acknowledged

-- ---- one link, call by call

-- Each step is a call that does what its contract states.
abbrev pub IsHistory : List LinkStep → LinkHistory → Type 0
IsHistory [] h = Unit {0}
IsHistory (step ∷ rest) h =
    HasDone step.call h.used h.link step.link × IsHistory rest (after_step step h)

unfoldable pub after_history : List LinkStep → LinkHistory → LinkHistory
after_history [] h = h
after_history (step ∷ rest) h = after_history rest (after_step step h)

unfoldable pub calls_in_history : List LinkStep → LinkHistory → List Call
calls_in_history [] h = []
calls_in_history (step ∷ rest) h =
    station_calls step.call h.link ++ calls_in_history rest (after_step step h)

-- the messages that were offered, and those passed to `send`
abbrev pub offered_in_call : LinkCall → List (List ℕ)
offered_in_call (Offers message) = message ∷ []
offered_in_call _ = []

unfoldable pub offered_in : List LinkStep → List (List ℕ)
offered_in [] = []
offered_in (step ∷ rest) = offered_in_call step.call ++ offered_in rest

abbrev pub sent_in_call : Call → List (List ℕ)
sent_in_call (Send message) = message ∷ []
sent_in_call _ = []

unfoldable pub sent_in : List Call → List (List ℕ)
sent_in [] = []
sent_in (call ∷ rest) = sent_in_call call ++ sent_in rest

-- ---- two links over streams

-- the histories of both
pub record Links : Type 0 where
  pub a : LinkHistory
  pub b : LinkHistory

abbrev pub link_at : End → Links → LinkHistory
link_at A p = p.a
link_at B p = p.b

abbrev pub after_step_at : End → LinkStep → Links → Links
after_step_at A step p = record { a = after_step step p.a; b = p.b }
after_step_at B step p = record { a = p.a; b = after_step step p.b }

-- the bytes that each used are a prefix of those that the other wrote to its line
pub record AreStreams (p : Links) : Type 0 where
  pub to_a : Begins p.a.used p.b.gone
  pub to_b : Begins p.b.used p.a.gone

-- Each step is a call of one of two links, which does what its contract states, and after each the
-- lines are streams.
abbrev pub LinkOverStreams : List (End × LinkStep) → Links → Type 0
LinkOverStreams [] p = Unit {0}
LinkOverStreams (step ∷ rest) p =
    HasDone step.1.call (link_at step.0 p).used (link_at step.0 p).link step.1.link
    × AreStreams (after_step_at step.0 step.1 p)
    × LinkOverStreams rest (after_step_at step.0 step.1 p)

unfoldable pub after_steps : List (End × LinkStep) → Links → Links
after_steps [] p = p
after_steps (step ∷ rest) p = after_steps rest (after_step_at step.0 step.1 p)

-- how often an end is started
abbrev pub starts_in_call : LinkCall → ℕ
starts_in_call Starts = 1
starts_in_call BeginsAnew = 1
starts_in_call _ = 0

abbrev pub count_if : End → End → ℕ → ℕ
count_if A A n = n
count_if A B n = 0
count_if B A n = 0
count_if B B n = n

unfoldable pub link_starts : End → List (End × LinkStep) → ℕ
link_starts e [] = 0
link_starts e (step ∷ rest) = count_if e step.0 (starts_in_call step.1.call) + link_starts e rest

-- each is started at most once
pub record AreStartedOnce (steps : List (End × LinkStep)) : Type 0 where
  pub at_a : link_starts A steps ≤ 1
  pub at_b : link_starts B steps ≤ 1

-- two new links
abbrev pub new_links : Config → ℕ → ReaderView → Config → ℕ → ReaderView → Links
new_links first milliseconds line second other_milliseconds other_line = record {
  a = new_history first milliseconds line;
  b = new_history second other_milliseconds other_line;
}

-- A promise about two links' histories is kept over streams, for two new links of any sizes in
-- range, each started at most once, whatever the calls, the moments and the chunks of bytes.
abbrev pub IsKeptOverStreams : (Links → Type 0) → Type 0
IsKeptOverStreams Promise = (first second : Config) (milliseconds other_milliseconds : ℕ)
    (line other_line : ReaderView) (steps : List (End × LinkStep))
    → first_refusal first ≡ None → first_refusal second ≡ None
    → LinkOverStreams steps
    (new_links first milliseconds line second other_milliseconds other_line)
    → AreStartedOnce steps
    → Promise (after_steps steps
    (new_links first milliseconds line second other_milliseconds other_line))

-- the messages that a link's user took, and after them the received messages not taken yet
abbrev pub received : LinkHistory → List (List ℕ)
received h = h.taken ++ h.link.station.core.station.inbox

-- The messages that one link received are a prefix of those that the other accepted, each once and
-- unchanged; and the other reported no more of them acknowledged.
pub record LinkReaches (giver taker : LinkHistory) : Type 0 where
  pub order : IsPrefixOf (received taker) giver.accepted
  pub acknowledged : giver.acknowledged ≤ length (received taker)
