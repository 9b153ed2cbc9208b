-- What stays of two runs over one connection after the other, and small steps to it.
use Rattle.std.proofs.Common.{◌≡◌, ◌∙◌, ◌⊎◌, inl, inr, ap, sym, subst, refl, ℕ, zero, suc}
use Rattle.std.proofs.Common.{Bool, true, false, cond, List, [], ◌∷◌, ◌++◌, length, Option, Some}
use Rattle.std.proofs.Common.{None, arith, option_to_list}
use Rattle.std.specs.Prelude.{◌==◌, is_none, is_ok}
use Rattle.ddcmp_frame.specs.Reading.{good_frames, good_frames_in}
use Rattle.ddcmp_frame.proofs.ReadingLaws.{items-nothing}
use Rattle.ddcmp_frame.proofs.Tests.{eqb-true}
use Rattle.ddcmp_window.specs.Sender.{answer_unless}
use Rattle.ddcmp_input.specs.declared.entry.Entry.{Entry}
use Rattle.ddcmp_input.specs.declared.entry.Entry.TheVariants.{Command, Empty, Message, NotHexadecimal}
use Rattle.ddcmp_input.specs.declared.entry.Entry.TheVariants.{TooLong}
use Rattle.ddcmp_core.specs.Core.{CoreView, IsSound}
use Rattle.ddcmp_core.specs.declared.notice.Notice.{Notice}
use Rattle.ddcmp_core.specs.declared.state.State.TheVariants.{IStart}
use Rattle.ddcmp_core.specs.declared.station_core.StartRefusal.{StartRefusal}
use Rattle.ddcmp_core.specs.declared.station_core.StartRefusal.TheVariants.{NotHalted, Untaken}
use Rattle.ddcmp_core.specs.Table.{StationState, after_halt, after_start, is_halted, may_start}
use Rattle.ddcmp_core.specs.Table.{new_station, start_refusal, station_begun}
use Rattle.ddcmp_core.specs.Choosing.{after_choose}
use Rattle.ddcmp_core.proofs.Sound.{sound_started, sound_chosen}
use Rattle.ddcmp_proto.specs.Config.{first_refusal, limits_of}
use Rattle.ddcmp_proto.proofs.FeedLaws.{after_piece-none, notices_of_piece-none}
use Rattle.ddcmp_io.specs.declared.carrier.End.{End}
use Rattle.ddcmp_io.specs.declared.carrier.End.TheVariants.{A, B}
use Rattle.ddcmp_pair.specs.Run.{EndState, PairState, after_arrival_here, notices_at, restarts_in}
use Rattle.ddcmp_station.specs.Linking.{LinkView, after_frame, after_taking}
use Rattle.ddcmp_laws.specs.Faithful.{written}
use Rattle.ddcmp_laws.specs.Prefix.{Begins}
use Rattle.ddcmp_laws.proofs.FaithfulLaws.{sound_made}
use Rattle.ddcmp_laws.specs.Links.{IsSameEnd, LinkHistory}
use Rattle.ddcmp_laws.specs.StationRuns.{has_heard_none}
use Rattle.ddcmp_laws.proofs.InTurn.{begins_more}
use Rattle.ddcmp_laws.proofs.StationRuns.{Kept}
use Rattle.ddcmp_laws.proofs.TwoLinks.{AreSame}
use Rattle.ddcmp_streams.specs.Messages.{after_input, after_last, entries_of_input, entry_of_last}
use Rattle.ddcmp_streams.specs.Messages.{message_in}
use Rattle.ddcmp_session.specs.Session.{SessionView, starts, taken_at_once, taken_when_written, takes_end}
use Rattle.ddcmp_session.specs.Calls.{Closed, Connected, Delivered, Filled, InputEnded, LineEnded}
use Rattle.ddcmp_session.specs.Calls.{LineTook, OutputTook, Received, SessionCall, SessionStep}
use Rattle.ddcmp_session.specs.Calls.{TimePassed, TimedOut, InputRead, after_session_step}
use Rattle.ddcmp_session.specs.Connections.{Connection, after_step}
use Rattle.ddcmp_laws.specs.Connections.{Connections}
use Rattle.ddcmp_laws.specs.Pipe.{Made, connects, connects_in_call}
use Rattle.ddcmp_laws.specs.Sessions.{frames_put, link_steps_of, offers_of, takes_put}
use Rattle.ddcmp_laws.proofs.Anew.{Rest, both}
use Rattle.ddcmp_laws.proofs.LastCalls.{AreCalmSteps, IsFinal}
use Rattle.ddcmp_laws.proofs.Losing.{none-out}

-- ---- small things

pub zero-or : (n : ℕ) → (n ≡ 0) ⊎ (n ≡ 0 → ⊥)
zero-or zero = inl refl
zero-or (suc n) = inr (λ e. no (omega (arith, e)))
  where
    no : {P : Type 0} → ◌≡◌ {A = ℕ} 1 0 → P
    no e = cc

pub front-none : {X : Type 0} (xs ys : List X) → xs ++ ys ≡ [] → xs ≡ []
front-none [] ys e = refl
front-none (x ∷ xs) ys e = cc

pub back-none : {X : Type 0} (xs ys : List X) → xs ++ ys ≡ [] → ys ≡ []
back-none [] ys e = e
back-none (x ∷ xs) ys e = cc

pub after-same : (call : SessionCall) (new : SessionView) (c : Connection)
    → connects_in_call call ≡ 0
    → after_step (record { call = call; session = new }) c
    ≡ record c { history = after_session_step (record { call = call; session = new }) c.history }
after-same Connected new c e = no e
  where
    no : {P : Type 0} → ◌≡◌ {A = ℕ} 1 0 → P
    no e = cc
after-same (InputRead used) new c e = refl
after-same InputEnded new c e = refl
after-same (LineEnded how r) new c e = refl
after-same (Received used) new c e = refl
after-same (Filled n) new c e = refl
after-same (LineTook n) new c e = refl
after-same (TimedOut now) new c e = refl
after-same TimePassed new c e = refl
after-same (Delivered has) new c e = refl
after-same (OutputTook n) new c e = refl
after-same (Closed left over r) new c e = refl

pub gone-anew : (call : SessionCall) (new : SessionView) (c : Connection)
    → (connects_in_call call ≡ 0 → ⊥)
    → (after_step (record { call = call; session = new }) c).history.gone ≡ []
gone-anew Connected new c is = refl
gone-anew (InputRead used) new c is = absurd (is refl)
gone-anew InputEnded new c is = absurd (is refl)
gone-anew (LineEnded how r) new c is = absurd (is refl)
gone-anew (Received used) new c is = absurd (is refl)
gone-anew (Filled n) new c is = absurd (is refl)
gone-anew (LineTook n) new c is = absurd (is refl)
gone-anew (TimedOut now) new c is = absurd (is refl)
gone-anew TimePassed new c is = absurd (is refl)
gone-anew (Delivered has) new c is = absurd (is refl)
gone-anew (OutputTook n) new c is = absurd (is refl)
gone-anew (Closed left over r) new c is = absurd (is refl)

-- what has arrived is a beginning of what was written
pub reads : (x y : EndState) (h k : LinkHistory) → IsSameEnd x h → IsSameEnd y k
    → Begins h.used k.gone → Begins x.arrived (written y)
reads x y h k s t b =
    subst (λ ys. Begins ys (written y)) (sym s.arrived)
    (begins_more h.used k.gone (written y) b (k.link.outbox.waiting, sym t.wrote))

pub arrive-none : (x : EndState) → IsFinal x → IsFinal (after_arrival_here [] x)
arrive-none x f = record {
  well = record {
    sound =
        subst (λ (v : CoreView). IsSound v.limits v.station)
        (sym (after_piece-none x.arrived x.core)) f.well.sound;
    sent = f.well.sent;
  };
  once =
      let z = none-told (notices_at [] x) (notices_of_piece-none x.arrived x.core) in
      let h = f.once in
      omega (arith, z, h);
}
  where
    none-told : (ns : List Notice) → ns ≡ [] → restarts_in ns ≡ 0
    none-told ns e = ap restarts_in e

pub none-heard : (x : EndState) → x.arrived ≡ [] → has_heard_none x ≡ true
unfolding good_frames_in
none-heard x e =
    ap (λ t. length (good_frames x.core.limits.longest t) == 0) e
    ∙ ap (λ l. length (good_frames_in l) == 0) (items-nothing x.core.limits.longest)

-- ---- a session that is connected

none-refused : (why : Option StartRefusal) (n : ℕ) → is_ok (answer_unless why n) ≡ true
    → is_none why ≡ true
none-refused None n e = refl
none-refused (Some why) n e = cc

is-true : (b : Bool) → is_none (cond b None (Some Untaken)) ≡ true → b ≡ true
is-true true e = refl
is-true false e = cc

empty-by : (h : Bool) (inbox : List (List ℕ))
    → is_none (cond h (cond (length inbox == 0) None (Some Untaken)) (Some NotHalted)) ≡ true
    → inbox ≡ []
empty-by true inbox e =
    none-out inbox (eqb-true (length inbox) 0 (is-true (length inbox == 0) e))
empty-by false inbox e = cc

pub starts-empty : (s : SessionView) → starts s ≡ true → s.link.station.core.station.inbox ≡ []
starts-empty s e =
    let halted = after_halt s.link.station.core.station in
    empty-by (is_halted halted.state) halted.inbox
    (none-refused (start_refusal halted) (length halted.out) e)

-- a station that was halted with an empty inbox, and started
abbrev pub begun-with : StationState → List (List ℕ) → StationState
begun-with s inbox =
    let h = record (after_halt s) { inbox = inbox } in cond (may_start h) (after_start h) h

pub sound-anew : (made : Made) (x : EndState) → first_refusal made.options.config ≡ None
    → x.core.limits ≡ limits_of made.options.config → x.core.station.inbox ≡ []
    → IsSound x.core.limits (begun-with x.core.station x.core.station.inbox)
sound-anew made x f limits empty =
    subst (λ ib. IsSound x.core.limits (begun-with x.core.station ib)) (sym empty)
    (subst (λ l. IsSound l (station_begun IStart true x.core.station.by_user [])) (sym limits)
    (sound_started (limits_of made.options.config)
    (after_choose x.core.station.by_user new_station) refl
    (sound_chosen (limits_of made.options.config) new_station x.core.station.by_user
    (sound_made made.options.config f))))

-- ---- calls that neither connect nor feed

frames-calm : (n : ℕ) (d : LinkView) → AreCalmSteps (frames_put n d)
unfolding frames_put
frames-calm zero d = tt
frames-calm (suc n) d = (tt, frames-calm n (after_frame d))

takes-calm : (n : ℕ) (d : LinkView) → AreCalmSteps (takes_put n d)
unfolding takes_put
takes-calm zero d = tt
takes-calm (suc n) d = (tt, takes-calm n (after_taking d))

offers-calm : (es : List Entry) (message : List ℕ) (new : LinkView)
    → AreCalmSteps (offers_of es message new)
offers-calm [] message new = tt
offers-calm (Message ∷ rest) message new = (tt, tt)
offers-calm (NotHexadecimal ∷ rest) message new = tt
offers-calm (TooLong ∷ rest) message new = tt
offers-calm (Empty ∷ rest) message new = tt
offers-calm (Command ∷ rest) message new = tt

abbrev IsCalmCall : SessionCall → Type 0
IsCalmCall Connected = ⊥
IsCalmCall (Received used) = ⊥
IsCalmCall _ = Unit {0}

pub calm-steps : (call : SessionCall) → IsCalmCall call → (s : SessionView) (new : LinkView)
    → AreCalmSteps (link_steps_of call s new)
calm-steps Connected i s new = absurd i
calm-steps (Received used) i s new = absurd i
calm-steps (InputRead used) i s new =
    offers-calm (entries_of_input used s.messages) (message_in (after_input used s.messages)) new
calm-steps InputEnded i s new = by (takes_end s)
  where
    by : (b : Bool)
        → AreCalmSteps
        (cond b
        (offers_of (option_to_list (entry_of_last s.messages)) (message_in (after_last s.messages))
        new) [])
    by true =
        offers-calm (option_to_list (entry_of_last s.messages))
        (message_in (after_last s.messages)) new
    by false = tt
calm-steps (LineEnded how r) i s new = (tt, tt)
calm-steps (Filled n) i s new = frames-calm n s.link
calm-steps (LineTook n) i s new = (tt, tt)
calm-steps (TimedOut now) i s new = (tt, tt)
calm-steps TimePassed i s new = tt
calm-steps (Delivered true) i s new = takes-calm (taken_at_once s) s.link
calm-steps (Delivered false) i s new = tt
calm-steps (OutputTook n) i s new = takes-calm (taken_when_written n s) s.link
calm-steps (Closed left over r) i s new = (tt, tt)

-- ---- what stays

-- A pair of two sessions, before these calls. An end that isn't connected again is well, and was
-- started once; if neither is, the line is honest.
pub record Inv (first second : Made) (steps : List (End × SessionStep)) (c : Connections)
    (p : PairState) (j k : Rest) : Type 0 where
  pub same : AreSame p (both first second c j k)
  pub kept : Kept p
  pub limits_a : p.a.core.limits ≡ limits_of first.options.config
  pub limits_b : p.b.core.limits ≡ limits_of second.options.config
  pub final_a : connects A steps ≡ 0 → IsFinal p.a
  pub final_b : connects B steps ≡ 0 → IsFinal p.b
  pub honest : connects A steps ≡ 0 → connects B steps ≡ 0 → p.honest ≡ true
