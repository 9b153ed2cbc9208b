-- Two stations that are each started once and then driven.
use Rattle.std.proofs.Common.{◌≡◌, ℕ, ◌≤◌, Bool, true, false, cond, ◌&&◌, List, [], ◌∷◌, ◌++◌}
use Rattle.std.proofs.Common.{length, replicate, refl, sym, ◌∙◌, ap, subst, arith, append-nil}
use Rattle.std.proofs.Common.{Option, Some, None}
use Rattle.std.proofs.lemmas.List.Sums.{sum_by-cons, sum_by-append}
use Rattle.std.proofs.lemmas.List.Folds.{sum_by-replicate}
use Rattle.ddcmp_core.specs.Core.{CoreView}
use Rattle.ddcmp_core.specs.Table.{is_on, may_send, after_accept, next}
use Rattle.ddcmp_core.proofs.Sent.{sending}
use Rattle.ddcmp_proto.specs.Bytes.{after_piece}
use Rattle.ddcmp_proto.specs.Config.{first_refusal}
use Rattle.ddcmp_proto.specs.declared.config.Config.{Config}
use Rattle.ddcmp_station.specs.UserCalls.{UserCall, is_user_asked}
use Rattle.ddcmp_station.specs.Driving.{DriveTurn, Driving, driving_from, is_due, core_after_expire}
use Rattle.ddcmp_station.specs.Driving.{core_after_take_arm, core_at_deadline, core_after_message}
use Rattle.ddcmp_station.specs.Driving.{deadline_at, before_offer, before_frame, before_read}
use Rattle.ddcmp_station.specs.Driving.{after_turn, after_turns}
use Rattle.ddcmp_io.specs.declared.carrier.End.{End}
use Rattle.ddcmp_io.specs.declared.carrier.End.TheVariants.{A, B}
use Rattle.ddcmp_pair.specs.InOrder.{Delivers}
use Rattle.ddcmp_pair.specs.Run.{EndState, PairState, handed_up, new_end, new_pair, is_clean}
use Rattle.ddcmp_pair.proofs.Steady.{inbox-sent, expired-inbox}
use Rattle.ddcmp_laws.specs.PairCalls.{Call, Start, Halt, Send, Poll, Arrive, Expire, Take, Arm}
use Rattle.ddcmp_laws.specs.PairCalls.{after_call_here, after_calls_here, after_call, run_calls}
use Rattle.ddcmp_laws.specs.PairCalls.{calls_if, calls_at, starts_by, starts_in, IsStartedOnce}
use Rattle.ddcmp_laws.specs.Driven.{shown_in, accepted_from, handed_to, acknowledged_to, Reaches}
use Rattle.ddcmp_laws.specs.Driven.{calls_of_timer, calls_of_message, calls_before_read}
use Rattle.ddcmp_laws.specs.Driven.{calls_of_read, calls_of_turn, calls_of_turns, DriveCall}
use Rattle.ddcmp_laws.specs.Driven.{after_last, calls_of_last, after_all_turns, calls_of_drive}
use Rattle.ddcmp_laws.specs.Driven.{after_drive, after_drives, calls_of_drives, begun, seen_of}
use Rattle.ddcmp_laws.specs.Driven.{calls_of, AreDriven}
use Rattle.ddcmp_laws.proofs.PairCallLaws.{calls_in_order, calls_clean}
use Rattle.ddcmp_laws.proofs.Seen.{seen_given, seen_taken, seen_acknowledged}
use Rattle.ddcmp_laws.proofs.Turning.{Went, went_drives}

-- ---- each end goes by its own calls

at_a : (calls : List (End × Call)) (p : PairState)
    → (run_calls calls p).a ≡ after_calls_here (calls_at A calls) p.a
unfolding run_calls calls_at after_calls_here
at_a [] p = refl
at_a (step ∷ rest) p = at_a rest (after_call step.0 step.1 p) ∙ by step.0 step.1
  where
    by : (end : End) (c : Call)
        → after_calls_here (calls_at A rest) (after_call end c p).a
        ≡ after_calls_here (calls_if A end c ++ calls_at A rest) p.a
    by A c = refl
    by B c = refl

at_b : (calls : List (End × Call)) (p : PairState)
    → (run_calls calls p).b ≡ after_calls_here (calls_at B calls) p.b
unfolding run_calls calls_at after_calls_here
at_b [] p = refl
at_b (step ∷ rest) p = at_b rest (after_call step.0 step.1 p) ∙ by step.0 step.1
  where
    by : (end : End) (c : Call)
        → after_calls_here (calls_at B rest) (after_call end c p).b
        ≡ after_calls_here (calls_if B end c ++ calls_at B rest) p.b
    by A c = refl
    by B c = refl

-- ---- `drive` starts no station

abbrev NoStart : List Call → Type 0
NoStart calls = starts_in calls ≡ 0

none_then : (a b : List Call) → NoStart a → NoStart b → NoStart (a ++ b)
none_then a b e f = sum_by-append starts_by a b ∙ omega (arith, e, f)

none_timer : (now : ℕ) (deadline : Option ℕ) (k : CoreView)
    → NoStart (calls_of_timer now deadline k)
none_timer now deadline k = by (is_on k.station.timer && is_due now deadline)
  where
    by : (b : Bool) → NoStart (cond b (Expire ∷ []) [])
    by true = refl
    by false = refl

none_message : (offered : List ℕ) (k : CoreView) → NoStart (calls_of_message offered k)
none_message offered k = by (is_user_asked k)
  where
    by : (b : Bool) → NoStart (cond b (Send offered ∷ []) [])
    by true = refl
    by false = refl

none_armed : (calls : List Call) → NoStart calls → NoStart (Arm ∷ calls)
none_armed calls e = sum_by-cons starts_by Arm calls ∙ omega (arith, e)

none_before : (ms : ℕ) (turn : DriveTurn) (d : Driving) → NoStart (calls_before_read ms turn d)
none_before ms turn d =
    none_then
    (Arm
    ∷ calls_of_timer turn.now (deadline_at ms turn.now d.core.station.timer d.deadline)
    (core_after_take_arm d.core))
    (calls_of_message turn.offered (before_offer ms turn d) ++ Poll ∷ [])
    (none_armed
    (calls_of_timer turn.now (deadline_at ms turn.now d.core.station.timer d.deadline)
    (core_after_take_arm d.core))
    (none_timer turn.now (deadline_at ms turn.now d.core.station.timer d.deadline)
    (core_after_take_arm d.core)))
    (none_then (calls_of_message turn.offered (before_offer ms turn d)) (Poll ∷ [])
    (none_message turn.offered (before_offer ms turn d)) refl)

none_takes : (n : ℕ) → NoStart (replicate n Take)
none_takes n = sum_by-replicate starts_by n Take ∙ omega arith

none_read : (came : List ℕ) (d : Driving) → NoStart (calls_of_read came d)
none_read came d =
    let n = length (after_piece d.text came d.core).station.inbox in
    let e = none_takes n in
    sum_by-cons starts_by (Arrive came) (replicate n Take) ∙ omega (arith, e)

none_turns : (ms syn : ℕ) (turns : List DriveTurn) (d : Driving)
    → NoStart (calls_of_turns ms syn turns d)
unfolding calls_of_turns
none_turns ms syn [] d = refl
none_turns ms syn (turn ∷ rest) d =
    none_then (calls_of_turn ms syn turn d) (calls_of_turns ms syn rest (after_turn ms syn turn d))
    (none_then (calls_before_read ms turn d) (calls_of_read turn.came (before_read ms syn turn d))
    (none_before ms turn d) (none_read turn.came (before_read ms syn turn d)))
    (none_turns ms syn rest (after_turn ms syn turn d))

none_last : (ms : ℕ) (last : Option DriveTurn) (d : Driving) → NoStart (calls_of_last ms last d)
none_last ms None d = refl
none_last ms (Some turn) d =
    none_then (calls_before_read ms turn d) (Halt ∷ []) (none_before ms turn d) refl

none_drives : (syn : ℕ) (calls : List DriveCall) (d : Driving)
    → NoStart (calls_of_drives syn calls d)
unfolding calls_of_drives
none_drives syn [] d = refl
none_drives syn (call ∷ rest) d =
    none_then (calls_of_drive syn call d.core d.text)
    (calls_of_drives syn rest (after_drive syn call d))
    (none_then (calls_of_turns call.milliseconds syn call.turns (driving_from d.core d.text))
    (calls_of_last call.milliseconds call.last (after_all_turns syn call d.core d.text))
    (none_turns call.milliseconds syn call.turns (driving_from d.core d.text))
    (none_last call.milliseconds call.last (after_all_turns syn call d.core d.text)))
    (none_drives syn rest (after_drive syn call d))

once : (config : Config) (drives : List DriveCall) (calls : List Call)
    → calls ≡ calls_of config drives → starts_in calls ≤ 1
once config drives calls e =
    let z = none_drives config.syn drives (begun config) in
    let one = sum_by-cons starts_by Start (calls_of_drives config.syn drives (begun config)) in
    subst (λ c. starts_in c ≤ 1) (sym e) (omega (arith, one, z))

pub driven_once : (first second : Config) (a b : List DriveCall) (calls : List (End × Call))
    → AreDriven first second a b calls → IsStartedOnce calls
driven_once first second a b calls h =
    record {
      at_a = once first a (calls_at A calls) h.at_a;
      at_b = once second b (calls_at B calls) h.at_b;
    }

-- ---- after turns no mail is left

abbrev pub IsTaken : CoreView → Type 0
IsTaken k = k.station.inbox ≡ []

pub taken_timer : (now : ℕ) (deadline : Option ℕ) (k : CoreView) → IsTaken k
    → IsTaken (core_at_deadline now deadline k)
taken_timer now deadline k e = by (is_on k.station.timer && is_due now deadline)
  where
    by : (b : Bool) → IsTaken (cond b (core_after_expire k) k)
    by true = expired-inbox k.station ∙ e
    by false = e

pub taken_message : (offered : List ℕ) (k : CoreView) → IsTaken k
    → IsTaken (core_after_message offered k)
taken_message offered k e = by (may_send k.limits k.station offered)
  where
    by : (b : Bool) → (cond b (after_accept k.station offered) k.station).inbox ≡ []
    by true = e
    by false = e

taken_before : (ms syn : ℕ) (turn : DriveTurn) (d : Driving) → IsTaken d.core
    → IsTaken (before_read ms syn turn d).core
taken_before ms syn turn d e =
    inbox-sent (before_frame ms turn d).station (next (before_frame ms turn d).station)
    (sending (before_frame ms turn d).station)
    ∙ taken_message turn.offered (before_offer ms turn d)
    (taken_timer turn.now (deadline_at ms turn.now d.core.station.timer d.deadline)
    (core_after_take_arm d.core) e)

taken_turns : (ms syn : ℕ) (turns : List DriveTurn) (d : Driving) → IsTaken d.core
    → IsTaken (after_turns ms syn turns d).core
unfolding after_turns
taken_turns ms syn [] d e = e
taken_turns ms syn (turn ∷ rest) d e = taken_turns ms syn rest (after_turn ms syn turn d) refl

taken_last : (ms syn : ℕ) (last : Option DriveTurn) (d : Driving) → IsTaken d.core
    → IsTaken (after_last ms syn last d).core
taken_last ms syn None d e = e
taken_last ms syn (Some turn) d e = taken_before ms syn turn d e

taken_drives : (syn : ℕ) (calls : List DriveCall) (d : Driving) → IsTaken d.core
    → IsTaken (after_drives syn calls d).core
unfolding after_drives
taken_drives syn [] d e = e
taken_drives syn (call ∷ rest) d e =
    taken_drives syn rest (after_drive syn call d)
    (taken_last call.milliseconds syn call.last (after_all_turns syn call d.core d.text)
    (taken_turns call.milliseconds syn call.turns (driving_from d.core d.text) e))

-- ---- an end is what its user saw

record IsSeen (x : EndState) (seen : List UserCall) : Type 0 where
  given : x.given ≡ accepted_from seen
  up : handed_up x ≡ handed_to seen
  acknowledged : x.acknowledged ≡ acknowledged_to seen

driven_seen : (config : Config) (drives : List DriveCall)
    → IsSeen (after_calls_here (calls_of config drives) (new_end config)) (seen_of config drives)
unfolding after_calls_here
driven_seen config drives =
    let x = after_call_here Start (new_end config) in
    let calls = calls_of_drives config.syn drives (begun config) in
    let w : Went calls x [] [] (after_drives config.syn drives (begun config)) =
    went_drives drives x None [] [] in
    let seen : shown_in calls x ≡ seen_of config drives = sym (ap (λ (d : Driving). d.seen) w.is) in
    let none : (after_calls_here calls x).core.station.inbox ≡ [] =
    sym (ap (λ (d : Driving). d.core.station.inbox) w.is)
    ∙ taken_drives config.syn drives (begun config) refl in
    record {
      given = seen_given calls x ∙ ap accepted_from seen;
      up =
          ap (λ y. (after_calls_here calls x).taken ++ y) none
          ∙ append-nil (after_calls_here calls x).taken
          ∙ seen_taken calls x ∙ ap handed_to seen;
      acknowledged =
          let e = seen_acknowledged calls x in let f = ap acknowledged_to seen in
          omega (arith, e, f);
    }

reaches : (x y : EndState) (s t : List UserCall) → IsSeen x s → IsSeen y t → Delivers x y
    → Reaches s t
reaches x y s t u v d = record {
  order = (d.order.0, ap (λ z. z ++ d.order.0) (sym v.up) ∙ d.order.1 ∙ u.given);
  acknowledged =
      let e = ap (λ (z : List (List ℕ)). length z) v.up in let f = u.acknowledged in
      let g = d.acknowledged in omega (arith, e, f, g);
}

module _ (first second : Config) (a b : List DriveCall) (calls : List (End × Call))
    (f : first_refusal first ≡ None) (g : first_refusal second ≡ None)
    (h : AreDriven first second a b calls)
    (honest : (run_calls calls (new_pair first second)).honest ≡ true) where
  seen_at_a : IsSeen (run_calls calls (new_pair first second)).a (seen_of first a)
  seen_at_a =
      subst (λ x. IsSeen x (seen_of first a))
      (sym
      (at_a calls (new_pair first second) ∙ ap (λ c. after_calls_here c (new_end first)) h.at_a))
      (driven_seen first a)

  seen_at_b : IsSeen (run_calls calls (new_pair first second)).b (seen_of second b)
  seen_at_b =
      subst (λ x. IsSeen x (seen_of second b))
      (sym
      (at_b calls (new_pair first second) ∙ ap (λ c. after_calls_here c (new_end second)) h.at_b))
      (driven_seen second b)

  clean : is_clean (run_calls calls (new_pair first second)) ≡ true
  clean = calls_clean first second calls f g (driven_once first second a b calls h) honest

  pub reaches_b : Reaches (seen_of first a) (seen_of second b)
  reaches_b =
      reaches _ _ _ _ seen_at_a seen_at_b
      ((calls_in_order first second calls f g).where_clean honest clean).a_to_b

  pub reaches_a : Reaches (seen_of second b) (seen_of first a)
  reaches_a =
      reaches _ _ _ _ seen_at_b seen_at_a
      ((calls_in_order first second calls f g).where_clean honest clean).b_to_a
