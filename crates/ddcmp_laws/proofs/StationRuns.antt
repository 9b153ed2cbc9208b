-- Every call of a station keeps what an honest and clean run promises, and is that of the code.
use Rattle.std.proofs.Common.{◌≡◌, ℕ, ◌+◌, ◌≤◌, Bool, true, false, cond, List, [], ◌∷◌, ◌++◌}
use Rattle.std.proofs.Common.{length, refl, sym, ◌∙◌, ap, subst, arith, append-nil, Option, Some}
use Rattle.std.proofs.Common.{None}
use Rattle.std.specs.Prelude.{◌&&◌, ◌==◌, if◌then◌else◌, is_some, is_none, nat_le}
use Rattle.std.specs.Prelude.{option_to_list}
use Rattle.std.specs.List.{All}
use Rattle.std.proofs.lemmas.Bool.{eqb-true}
use Rattle.ddcmp_frame.specs.Reader.{StandsFor}
use Rattle.ddcmp_frame.specs.Reading.{items, good_frames, good_frames_in}
use Rattle.ddcmp_frame.proofs.ReadingLaws.{items-nothing}
use Rattle.ddcmp_core.specs.declared.state.State.{State}
use Rattle.ddcmp_core.specs.declared.state.State.TheVariants.{Halted, IStart, AStart, Running}
use Rattle.ddcmp_core.specs.declared.state.State.TheVariants.{Maintenance}
use Rattle.ddcmp_core.specs.Counting.{counters_after_expire}
use Rattle.ddcmp_core.specs.Core.{CoreView}
use Rattle.ddcmp_core.specs.Laws.{tells_restart}
use Rattle.ddcmp_core.specs.SendRefusal.{SendRefusal}
use Rattle.ddcmp_core.specs.Store.{first_message}
use Rattle.ddcmp_core.specs.Table.{Limits, StationState, is_halted, is_maintenance, may_start}
use Rattle.ddcmp_core.specs.Table.{after_start, after_enter_maintenance, after_halt, may_send}
use Rattle.ddcmp_core.specs.Table.{may_send_maintenance, after_accept, after_take, after_expire}
use Rattle.ddcmp_core.specs.Table.{after_take_arm}
use Rattle.ddcmp_proto.specs.Bytes.{items_added, after_piece, after_poll, notices_of_piece}
use Rattle.ddcmp_proto.specs.Config.{first_refusal, core_made}
use Rattle.ddcmp_proto.specs.declared.config.Config.{Config}
use Rattle.ddcmp_proto.specs.Station.{StationView}
use Rattle.ddcmp_proto.specs.StationCalls.{StationCall, Starts, Halts, Sends, Polls, Feeds, Expires}
use Rattle.ddcmp_proto.specs.StationCalls.{Takes, TakesArm, Asks, ClearsLine, EntersMaintenance}
use Rattle.ddcmp_proto.specs.StationCalls.{SendsMaintenance, HasCleared, HasDone}
use Rattle.ddcmp_proto.proofs.FeedLaws.{items_added-all, after_piece-limits}
use Rattle.ddcmp_io.specs.declared.carrier.End.{End}
use Rattle.ddcmp_io.specs.declared.carrier.End.TheVariants.{A, B}
use Rattle.ddcmp_pair.specs.declared.event.Event.{Event}
use Rattle.ddcmp_pair.specs.declared.event.Event.TheVariants as event
use Rattle.ddcmp_pair.specs.InOrder.{Delivers, IsInOrder, IsLink}
use Rattle.ddcmp_pair.specs.Place.{place_of}
use Rattle.ddcmp_pair.specs.Run.{EndState, PairState, at, notices_at, with_station, cleared}
use Rattle.ddcmp_pair.specs.Run.{acknowledged_in}
use Rattle.ddcmp_pair.specs.Run.{after_arrival_here, after_event_here, after_event_at, after_event}
use Rattle.ddcmp_pair.specs.Run.{clear_refusal, after_clear_by, run, new_end, new_pair, is_clean}
use Rattle.ddcmp_pair.proofs.Linked.{Linked, linked-choose, linked-turned, linked-event, starts-grow}
use Rattle.ddcmp_pair.proofs.Modes.{holds-taken}
use Rattle.ddcmp_pair.proofs.Ordered.{Holds, IsFresh, clean-means, fresh-linked, fresh-new}
use Rattle.ddcmp_pair.proofs.Ordered.{fresh-cleared, holds-new, holds-at, none-at, delivers}
use Rattle.ddcmp_pair.proofs.Ordered.{may-clear}
use Rattle.ddcmp_pair.proofs.Places.{place_of-none, good_frames_in-append}
use Rattle.ddcmp_pair.proofs.Relation.{Face, face, Stands, not_begun, begun, StateFits}
use Rattle.ddcmp_laws.specs.PairCalls.{Call, Start, Halt, Send, Poll, Arrive, Expire, Take, Arm}
use Rattle.ddcmp_laws.specs.PairCalls.{Ask}
use Rattle.ddcmp_laws.specs.PairCalls.{after_arm_here, after_call, run_calls, events_of, noted}
use Rattle.ddcmp_laws.specs.StationRuns.{after_clear_line_here, after_maintenance_here}
use Rattle.ddcmp_laws.specs.StationRuns.{after_send_maintenance_here, after_station_call_here}
use Rattle.ddcmp_laws.specs.StationRuns.{has_heard_none, after_station_call}
use Rattle.ddcmp_laws.specs.StationRuns.{run_station_calls, station_call, station_calls}
use Rattle.ddcmp_laws.specs.StationRuns.{IsStationAt, StationHistory, begun_station, used_by}
use Rattle.ddcmp_laws.specs.StationRuns.{accepted_by, taken_by, acknowledged_after, kept_by}
use Rattle.ddcmp_laws.specs.StationRuns.{StationStep, after_station_step, IsSameStation}
use Rattle.ddcmp_laws.specs.StationRuns.{Stations, after_step_at, AreStationCalls}
use Rattle.ddcmp_laws.specs.StationRuns.{after_station_steps}
use Rattle.ddcmp_laws.specs.StationRuns.{calls_of_stations, AreSameStations, StationReaches}
use Rattle.ddcmp_laws.proofs.Stations.{again}
use Rattle.ddcmp_laws.proofs.Calling.{end_again, station_is, accepted, pair_is}
use Rattle.ddcmp_pair.specs.Choices.{after_choice_here}
use Rattle.ddcmp_laws.proofs.PairCallLaws.{one_same, order_same, links_same, notices_same}
use Rattle.ddcmp_laws.proofs.PairCallLaws.{honest_same}
use Rattle.ddcmp_laws.proofs.PairCallLaws.{clean_same}
use Rattle.ddcmp_laws.proofs.Acknowledged.{IsAcknowledged, AllAcknowledged, AllTaken, linked_all}

-- ---- an end that has heard nothing

-- It is linked with every end that begins.
abbrev pub IsAlone : EndState → Type 0
IsAlone x = good_frames x.core.limits.longest x.arrived ≡ [] → x.starts ≤ 1
    → (y : EndState) → IsFresh y → Linked x y

no-front : {X : Type 0} (a b : List X) → a ++ b ≡ [] → a ≡ []
no-front [] b e = refl
no-front (x ∷ a) b e = absurd (cc)

heard-before : (max : ℕ) (text bytes : List ℕ) → good_frames max (text ++ bytes) ≡ []
    → good_frames max text ≡ []
heard-before max text bytes e =
    no-front (good_frames max text) (good_frames_in (items_added max text bytes))
    (sym (ap good_frames_in (items_added-all max text bytes)
    ∙ good_frames_in-append (items max text) (items_added max text bytes)) ∙ e)

pub alone-fresh : (x : EndState) → IsFresh x → IsAlone x
alone-fresh x f = λ heard once y g. fresh-linked x y f g

alone-hears : (end : End) (bytes : List ℕ) (x : EndState) → IsAlone x
    → IsAlone (after_arrival_here bytes x)
alone-hears end bytes x a = λ heard once y f.
    let still : good_frames x.core.limits.longest (x.arrived ++ bytes) ≡ [] =
    subst (λ (l : Limits). good_frames l.longest (x.arrived ++ bytes) ≡ [])
    (after_piece-limits x.arrived bytes x.core) heard in
    linked-event (event.Arrive end bytes) x y once
    (ap (λ t. is_some (place_of t y.sent)) still ∙ ap is_some (place_of-none y.sent))
    (a (heard-before x.core.limits.longest x.arrived bytes still)
    (starts-grow (event.Arrive end bytes) x once) y f)

alone-event : (e : Event) (x : EndState) → IsAlone x → IsAlone (after_event_here e x)
alone-event (event.Start e) x a = λ heard once y f.
    linked-event (event.Start e) x y once refl (a heard (starts-grow (event.Start e) x once) y f)
alone-event (event.Halt e) x a = λ heard once y f.
    linked-event (event.Halt e) x y once refl (a heard once y f)
alone-event (event.Send e message) x a = λ heard once y f.
    linked-event (event.Send e message) x y once refl (a heard once y f)
alone-event (event.Poll e) x a = λ heard once y f.
    linked-event (event.Poll e) x y once refl (a heard once y f)
alone-event (event.Arrive e bytes) x a = alone-hears e bytes x a
alone-event (event.Expire e) x a = λ heard once y f.
    linked-event (event.Expire e) x y once refl (a heard once y f)
alone-event (event.Take e) x a = λ heard once y f.
    linked-event (event.Take e) x y once refl (a heard once y f)
alone-event event.Clear x a = a

-- ---- the invariant of two stations

pub record Keeps (p : PairState) : Type 0 where
  pub holds : Holds p
  pub a : IsAlone p.a
  pub b : IsAlone p.b

pub keeps-new : (first second : Config) → first_refusal first ≡ None → first_refusal second ≡ None
    → Keeps (new_pair first second)
keeps-new first second f g = record {
  holds = holds-new first second f g;
  a = alone-fresh (new_end first) (fresh-new first f);
  b = alone-fresh (new_end second) (fresh-new second g);
}

keeps-at : (end : End) (e : Event) (p : PairState) → Keeps p → Keeps (after_event_at (Some end) e p)
keeps-at A e p k =
    record { holds = holds-at (Some A) e p k.holds; a = alone-event e p.a k.a; b = k.b }
keeps-at B e p k =
    record { holds = holds-at (Some B) e p k.holds; a = k.a; b = alone-event e p.b k.b }

keeps-call : (end : End) (c : Call) (p : PairState) → Keeps p → Keeps (run (events_of end c) p)
unfolding run after_event
keeps-call end Start p k = keeps-at end (event.Start end) p k
keeps-call end Halt p k = keeps-at end (event.Halt end) p k
keeps-call end (Send message) p k = keeps-at end (event.Send end message) p k
keeps-call end Poll p k = keeps-at end (event.Poll end) p k
keeps-call end (Arrive bytes) p k = keeps-at end (event.Arrive end bytes) p k
keeps-call end Expire p k = keeps-at end (event.Expire end) p k
keeps-call end Take p k = keeps-at end (event.Take end) p k
keeps-call end Arm p k = k
keeps-call end Ask p k = k

-- ---- a line is cleared

-- a halted end that clears its line, by whether its inbox is empty
abbrev begun_anew : Bool → EndState → EndState
begun_anew empty x = record (cleared x) { starts = if empty then 0 else 2 }

nothing-is : {X : Type 0} (l : List X) → (length l == 0) ≡ true → l ≡ []
nothing-is [] e = refl
nothing-is (x ∷ l) e = let z : length (x ∷ l) ≡ 0 = eqb-true _ _ e in absurd (omega (arith, z))

module _ (x : EndState) (small : x.core.limits.window ≤ 255) (room : x.core.limits.room ≤ 255)
    (halted : is_halted x.core.station.state ≡ true) where
  alone-anew : (empty : Bool) → (length x.core.station.inbox == 0) ≡ empty
      → IsAlone (begun_anew empty x)
  alone-anew true e = alone-fresh (cleared x) (fresh-cleared x small room halted e)
  alone-anew false e = λ heard once. absurd (omega (arith, once))

  linked-anew : (y : EndState) → IsAlone y → has_heard_none y ≡ true → y.starts ≤ 1
      → (empty : Bool) → (length x.core.station.inbox == 0) ≡ empty
      → (begun_anew empty x).starts ≤ 1 → Linked y (begun_anew empty x)
  linked-anew y a heard once true e s =
      a (nothing-is (good_frames y.core.limits.longest y.arrived) heard) once (cleared x)
      (fresh-cleared x small room halted e)
  linked-anew y a heard once false e s = absurd (omega (arith, s))

keeps-clear-a : (p : PairState) → Keeps p → Keeps (after_station_call A ClearsLine p)
keeps-clear-a p k = by (is_halted p.a.core.station.state) refl
  where
    empty : Bool
    empty = length p.a.core.station.inbox == 0

    by : (h : Bool) → is_halted p.a.core.station.state ≡ h
        → Keeps (record {
          a = if h then begun_anew (length p.a.core.station.inbox == 0) p.a else p.a;
          b = p.b;
          honest = if h then has_heard_none p.b else p.honest;
        })
    by true h = record {
      holds = record {
        small = k.holds.small;
        small' = k.holds.small';
        room = k.holds.room;
        room' = k.holds.room';
        linked = λ honest clean. let c = clean-means _ _ clean in
            linked-turned _ _
            (linked-anew p.a k.holds.small k.holds.room h p.b k.b honest c.1
            (length p.a.core.station.inbox == 0) refl c.0);
      };
      a = alone-anew p.a k.holds.small k.holds.room h (length p.a.core.station.inbox == 0) refl;
      b = k.b;
    }
    by false h = k

keeps-clear-b : (p : PairState) → Keeps p → Keeps (after_station_call B ClearsLine p)
keeps-clear-b p k = by (is_halted p.b.core.station.state) refl
  where
    by : (h : Bool) → is_halted p.b.core.station.state ≡ h
        → Keeps (record {
          a = p.a;
          b = if h then begun_anew (length p.b.core.station.inbox == 0) p.b else p.b;
          honest = if h then has_heard_none p.a else p.honest;
        })
    by true h = record {
      holds = record {
        small = k.holds.small;
        small' = k.holds.small';
        room = k.holds.room;
        room' = k.holds.room';
        linked = λ honest clean. let c = clean-means _ _ clean in
            linked-anew p.b k.holds.small' k.holds.room' h p.a k.a honest c.0
            (length p.b.core.station.inbox == 0) refl c.1;
      };
      a = k.a;
      b = alone-anew p.b k.holds.small' k.holds.room' h (length p.b.core.station.inbox == 0) refl;
    }
    by false h = k

keeps-clear : (end : End) (p : PairState) → Keeps p → Keeps (after_station_call end ClearsLine p)
keeps-clear A p k = keeps-clear-a p k
keeps-clear B p k = keeps-clear-b p k

-- ---- maintenance

-- an end that enters maintenance, if it may
abbrev maintained : Bool → EndState → EndState
maintained b x =
    record (with_station (if b then after_enter_maintenance x.core.station else x.core.station) x) {
      starts = if b then 2 else x.starts;
    }

keeps-maintained-a : (b : Bool) (p : PairState) → Keeps p
    → Keeps (record { a = maintained b p.a; b = p.b; honest = p.honest })
keeps-maintained-a true p k = record {
  holds = record {
    small = k.holds.small;
    small' = k.holds.small';
    room = k.holds.room;
    room' = k.holds.room';
    linked = λ honest clean. let c = (clean-means 2 p.b.starts clean).0 in
        absurd (omega (arith, c));
  };
  a = λ heard once. absurd (omega (arith, once));
  b = k.b;
}
keeps-maintained-a false p k = k

keeps-maintained-b : (b : Bool) (p : PairState) → Keeps p
    → Keeps (record { a = p.a; b = maintained b p.b; honest = p.honest })
keeps-maintained-b true p k = record {
  holds = record {
    small = k.holds.small;
    small' = k.holds.small';
    room = k.holds.room;
    room' = k.holds.room';
    linked = λ honest clean. let c = (clean-means p.a.starts 2 clean).1 in
        absurd (omega (arith, c));
  };
  a = k.a;
  b = λ heard once. absurd (omega (arith, once));
}
keeps-maintained-b false p k = k

keeps-maintenance : (end : End) (p : PairState) → Keeps p
    → Keeps (after_station_call end EntersMaintenance p)
keeps-maintenance A p k = keeps-maintained-a (may_start p.a.core.station) p k
keeps-maintenance B p k = keeps-maintained-b (may_start p.b.core.station) p k

-- no end of a line that keeps the promise is in maintenance
stands-apart : (x : Face) (n t : ℕ) → Stands x n t → x.station.state ≡ Maintenance → ⊥
stands-apart x n t (not_begun s p g u) e = absurd (let z = sym p ∙ e in cc)
stands-apart x n t (begun s c p) e = subst (λ (q : State). StateFits q x.given) e p

linked-apart : (x y : EndState) → Linked x y → x.core.station.state ≡ Maintenance → ⊥
linked-apart x y h e =
    let f = h.related.fits in stands-apart (face x) f.sent f.next f.stands e

maintaining : (p : State) (r : Option SendRefusal) (f : SendRefusal)
    → is_none (if is_maintenance p then r else Some f) ≡ true → p ≡ Maintenance
maintaining Maintenance r f e = refl
maintaining Halted r f e = absurd (cc)
maintaining IStart r f e = absurd (cc)
maintaining AStart r f e = absurd (cc)
maintaining Running r f e = absurd (cc)

linked-sends : (message : List ℕ) (x y : EndState) → Linked x y
    → Linked (after_send_maintenance_here message x) y
linked-sends message x y h =
    by (may_send_maintenance x.core.limits x.core.station message) refl
  where
    by : (b : Bool) → may_send_maintenance x.core.limits x.core.station message ≡ b
        → Linked (with_station (if b then after_accept x.core.station message
        else x.core.station) x) y
    by true e = absurd (linked-apart x y h (maintaining x.core.station.state _ _ e))
    by false e = h

keeps-sends : (end : End) (message : List ℕ) (p : PairState) → Keeps p
    → Keeps (after_station_call end (SendsMaintenance message) p)
keeps-sends A message p k = record {
  holds = record {
    small = k.holds.small;
    small' = k.holds.small';
    room = k.holds.room;
    room' = k.holds.room';
    linked = λ honest clean. linked-sends message p.a p.b (k.holds.linked honest clean);
  };
  a = λ heard once y f. linked-sends message p.a y (k.a heard once y f);
  b = k.b;
}
keeps-sends B message p k = record {
  holds = record {
    small = k.holds.small;
    small' = k.holds.small';
    room = k.holds.room;
    room' = k.holds.room';
    linked = λ honest clean.
        linked-turned _ _
        (linked-sends message p.b p.a (linked-turned _ _ (k.holds.linked honest clean)));
  };
  a = k.a;
  b = λ heard once y f. linked-sends message p.b y (k.b heard once y f);
}

-- ---- whether a station knows that its timer was started makes no difference

cleared-armed : (empty : Bool) (x : EndState)
    → after_arm_here (begun_anew empty x) ≡ after_arm_here (begun_anew empty (after_arm_here x))
cleared-armed empty x = station_is (begun_anew empty x) _ _ (again x.core.station)

clear-armed : (x : EndState)
    → after_arm_here (after_clear_line_here x)
    ≡ after_arm_here (after_clear_line_here (after_arm_here x))
clear-armed x = by (is_halted x.core.station.state)
  where
    by : (h : Bool)
        → after_arm_here (if h then begun_anew (length x.core.station.inbox == 0) x else x)
        ≡ after_arm_here (if h then begun_anew (length x.core.station.inbox == 0) (after_arm_here x)
        else after_arm_here x)
    by true = cleared-armed (length x.core.station.inbox == 0) x
    by false = end_again x

entered : (s : StationState) (b : Bool)
    → after_take_arm (cond b (after_enter_maintenance s) s)
    ≡ after_take_arm (cond b (after_enter_maintenance s) (after_take_arm s))
entered s true = refl
entered s false = again s

maintained-armed : (x : EndState)
    → after_arm_here (after_maintenance_here x)
    ≡ after_arm_here (after_maintenance_here (after_arm_here x))
maintained-armed x =
    station_is (after_maintenance_here x) _ _ (entered x.core.station (may_start x.core.station))

sent-armed : (message : List ℕ) (x : EndState)
    → after_arm_here (after_send_maintenance_here message x)
    ≡ after_arm_here (after_send_maintenance_here message (after_arm_here x))
sent-armed message x =
    station_is x _ _
    (accepted x.core.station message (may_send_maintenance x.core.limits x.core.station message))

clear-noted : (end : End) (p : PairState)
    → noted (after_station_call end ClearsLine p)
    ≡ noted (after_station_call end ClearsLine (noted p))
clear-noted A p = pair_is _ _ _ _ _ _ (clear-armed p.a) (end_again p.b) refl
clear-noted B p = pair_is _ _ _ _ _ _ (end_again p.a) (clear-armed p.b) refl

maintained-noted : (end : End) (p : PairState)
    → noted (after_station_call end EntersMaintenance p)
    ≡ noted (after_station_call end EntersMaintenance (noted p))
maintained-noted A p = pair_is _ _ _ _ _ _ (maintained-armed p.a) (end_again p.b) refl
maintained-noted B p = pair_is _ _ _ _ _ _ (end_again p.a) (maintained-armed p.b) refl

sent-noted : (end : End) (message : List ℕ) (p : PairState)
    → noted (after_station_call end (SendsMaintenance message) p)
    ≡ noted (after_station_call end (SendsMaintenance message) (noted p))
sent-noted A message p = pair_is _ _ _ _ _ _ (sent-armed message p.a) (end_again p.b) refl
sent-noted B message p = pair_is _ _ _ _ _ _ (end_again p.a) (sent-armed message p.b) refl

same-by : (f : PairState → PairState) → ((p : PairState) → noted (f p) ≡ noted (f (noted p)))
    → (p q : PairState) → noted p ≡ noted q → noted (f p) ≡ noted (f q)
same-by f e p q same = e p ∙ ap (λ r. noted (f r)) same ∙ sym (e q)

-- ---- each call

-- a pair that keeps the promise, and is this one but for Arm
pub record Kept (p : PairState) : Type 0 where
  pub pair : PairState
  pub same : noted p ≡ noted pair
  pub keeps : Keeps pair

made : (end : End) (c : Call) (p : PairState) → Kept p → Kept (after_call end c p)
made end c p k = record {
  pair = run (events_of end c) k.pair;
  same = one_same end c p k.pair k.same;
  keeps = keeps-call end c k.pair k.keeps;
}

-- the calls of `Calls` are those
is-call : (end : End) (c : Call) (p : PairState)
    → after_station_call end (station_call c) p ≡ after_call end c p
is-call A Start p = refl
is-call A Halt p = refl
is-call A (Send message) p = refl
is-call A Poll p = refl
is-call A (Arrive bytes) p = refl
is-call A Expire p = refl
is-call A Take p = refl
is-call A Arm p = refl
is-call A Ask p = refl
is-call B Start p = refl
is-call B Halt p = refl
is-call B (Send message) p = refl
is-call B Poll p = refl
is-call B (Arrive bytes) p = refl
is-call B Expire p = refl
is-call B Take p = refl
is-call B Arm p = refl
is-call B Ask p = refl

made-as : (end : End) (c : Call) (p : PairState) → Kept p
    → Kept (after_station_call end (station_call c) p)
made-as end c p k = subst Kept (sym (is-call end c p)) (made end c p k)

kept-call : (end : End) (c : StationCall) (p : PairState) → Kept p
    → Kept (after_station_call end c p)
kept-call end Starts p k = made-as end Start p k
kept-call end Halts p k = made-as end Halt p k
kept-call end (Sends message) p k = made-as end (Send message) p k
kept-call end Polls p k = made-as end Poll p k
kept-call end (Feeds used) p k = made-as end (Arrive used) p k
kept-call end Expires p k = made-as end Expire p k
kept-call end Takes p k = made-as end Take p k
kept-call end TakesArm p k = made-as end Arm p k
kept-call end Asks p k = made-as end Ask p k
kept-call end ClearsLine p k = record {
  pair = after_station_call end ClearsLine k.pair;
  same = same-by (after_station_call end ClearsLine) (clear-noted end) p k.pair k.same;
  keeps = keeps-clear end k.pair k.keeps;
}
kept-call end EntersMaintenance p k = record {
  pair = after_station_call end EntersMaintenance k.pair;
  same = same-by (after_station_call end EntersMaintenance) (maintained-noted end) p k.pair k.same;
  keeps = keeps-maintenance end k.pair k.keeps;
}
kept-call end (SendsMaintenance message) p k = record {
  pair = after_station_call end (SendsMaintenance message) k.pair;
  same =
      same-by (after_station_call end (SendsMaintenance message)) (sent-noted end message) p k.pair
      k.same;
  keeps = keeps-sends end message k.pair k.keeps;
}

pub kept-run : (calls : List (End × StationCall)) (p : PairState) → Kept p
    → Kept (run_station_calls calls p)
unfolding run_station_calls
kept-run [] p k = k
kept-run (step ∷ rest) p k =
    kept-run rest (after_station_call step.0 step.1 p) (kept-call step.0 step.1 p k)

pub kept-calls : (first second : Config) (calls : List (End × StationCall))
    → first_refusal first ≡ None → first_refusal second ≡ None
    → Kept (run_station_calls calls (new_pair first second))
kept-calls first second calls f g =
    kept-run calls (new_pair first second)
    (record { pair = new_pair first second; same = refl; keeps = keeps-new first second f g })

-- ---- what follows of it

keeps-linked : (q : PairState) → Keeps q → q.honest ≡ true → is_clean q ≡ true
    → IsLink q.a q.b × IsLink q.b q.a
keeps-linked q k h c =
    let f = (k.holds.linked h c).related.fits in (
      record { sent = f.sent; forward = f.forward; back = f.back; is_reached = f.reached },
      record { sent = f.sent'; forward = f.forward'; back = f.back'; is_reached = f.reached' },
    )

keeps-in-order : (q : PairState) → Keeps q → IsInOrder q
keeps-in-order q k = record {
  where_clean = λ h c. let linked = keeps-linked q k h c in record {
    a_to_b = delivers q.a q.b linked.0;
    b_to_a = delivers q.b q.a linked.1;
  };
}

abbrev AreQuiet : End → List ℕ → PairState → Type 0
AreQuiet end bytes p = All (λ n. tells_restart n ≡ false) (notices_at bytes (at end p))

keeps-quiet : (end : End) (bytes : List ℕ) (q : PairState) → Keeps q → is_clean q ≡ true
    → (run (event.Arrive end bytes ∷ []) q).honest ≡ true → AreQuiet end bytes q
unfolding run after_event
keeps-quiet A bytes q k c h = none-at (Some A) (event.Arrive A bytes) q k.holds c h
keeps-quiet B bytes q k c h = none-at (Some B) (event.Arrive B bytes) q k.holds c h

kept-quiet : (end : End) (bytes : List ℕ) (p : PairState) → Kept p → is_clean p ≡ true
    → (after_station_call end (Feeds bytes) p).honest ≡ true → AreQuiet end bytes p
kept-quiet end bytes p k c h =
    let same = one_same end (Arrive bytes) p k.pair k.same in
    let honest : (after_call end (Arrive bytes) p).honest ≡ true =
    sym (ap (λ (r : PairState). r.honest) (is-call end (Arrive bytes) p)) ∙ h in
    subst (All (λ n. tells_restart n ≡ false)) (sym (notices_same p k.pair end bytes k.same))
    (keeps-quiet end bytes k.pair k.keeps (sym (clean_same p k.pair k.same) ∙ c)
    (sym (honest_same (after_call end (Arrive bytes) p)
    (run (events_of end (Arrive bytes)) k.pair) same) ∙ honest))

pub kept-in-order : (start : PairState) → Kept start → (calls : List (End × StationCall))
    → IsInOrder (run_station_calls calls start)
kept-in-order start kept calls =
    let k = kept-run calls start kept in order_same _ k.pair k.same (keeps-in-order k.pair k.keeps)

pub kept-acknowledged : (start : PairState) → Kept start → (calls : List (End × StationCall))
    → (run_station_calls calls start).honest ≡ true
    → is_clean (run_station_calls calls start) ≡ true
    → IsAcknowledged (run_station_calls calls start).a
    × IsAcknowledged (run_station_calls calls start).b
kept-acknowledged start kept calls h c =
    let k = kept-run calls start kept in
    let p = run_station_calls calls start in
    let q = k.pair in
    let l =
    k.keeps.holds.linked (sym (honest_same p q k.same) ∙ h) (sym (clean_same p q k.same) ∙ c) in
    let both : AllAcknowledged (noted q) =
    (linked_all q.a q.b l, linked_all q.b q.a (linked-turned q.a q.b l)) in
    subst AllAcknowledged (sym k.same) both

pub kept-taken : (start : PairState) → Kept start → (calls : List (End × StationCall))
    → (run_station_calls calls start).honest ≡ true
    → is_clean (run_station_calls calls start) ≡ true → AllTaken (run_station_calls calls start)
kept-taken start kept calls h c =
    let k = kept-run calls start kept in
    let p = run_station_calls calls start in
    let q = k.pair in
    let both : AllTaken (noted q) =
    holds-taken q k.keeps.holds (sym (honest_same p q k.same) ∙ h)
    (sym (clean_same p q k.same) ∙ c) in
    subst AllTaken (sym k.same) both

-- where a user has chosen when messages are acknowledged
pub alone-chosen : (by_user : Bool) (x : EndState) → IsAlone x
    → IsAlone (after_choice_here by_user x)
alone-chosen by_user x a = λ heard once y f. linked-choose by_user x y (a heard once y f)

pub station-calls-in-order : (first second : Config) (calls : List (End × StationCall))
    → first_refusal first ≡ None → first_refusal second ≡ None
    → IsInOrder (run_station_calls calls (new_pair first second))
station-calls-in-order first second calls f g =
    kept-in-order (new_pair first second)
    (record { pair = new_pair first second; same = refl; keeps = keeps-new first second f g }) calls

pub station-calls-linked : (first second : Config) (calls : List (End × StationCall))
    → first_refusal first ≡ None → first_refusal second ≡ None
    → (run_station_calls calls (new_pair first second)).honest ≡ true
    → is_clean (run_station_calls calls (new_pair first second)) ≡ true
    → IsLink (run_station_calls calls (new_pair first second)).a
    (run_station_calls calls (new_pair first second)).b
    × IsLink (run_station_calls calls (new_pair first second)).b
    (run_station_calls calls (new_pair first second)).a
station-calls-linked first second calls f g h c =
    let k = kept-calls first second calls f g in
    let p = run_station_calls calls (new_pair first second) in
    links_same p k.pair k.same
    (keeps-linked k.pair k.keeps (sym (honest_same p k.pair k.same) ∙ h)
    (sym (clean_same p k.pair k.same) ∙ c))

pub station-calls-quiet : (first second : Config) (calls : List (End × StationCall)) (end : End)
    (bytes : List ℕ) → first_refusal first ≡ None → first_refusal second ≡ None
    → is_clean (run_station_calls calls (new_pair first second)) ≡ true
    → (after_station_call end (Feeds bytes)
    (run_station_calls calls (new_pair first second))).honest ≡ true
    → All (λ n. tells_restart n ≡ false)
    (notices_at bytes (at end (run_station_calls calls (new_pair first second))))
station-calls-quiet first second calls end bytes f g c h =
    kept-quiet end bytes (run_station_calls calls (new_pair first second))
    (kept-calls first second calls f g) c h

-- ---- what the new calls are

pub same-calls : (calls : List (End × Call)) (p : PairState)
    → run_station_calls (station_calls calls) p ≡ run_calls calls p
unfolding run_station_calls run_calls
same-calls [] p = refl
same-calls (step ∷ rest) p =
    ap (run_station_calls (station_calls rest)) (is-call step.0 step.1 p)
    ∙ same-calls rest (after_call step.0 step.1 p)

none-heard : (x : EndState) → has_heard_none (cleared x) ≡ true
unfolding good_frames_in
none-heard x = ap (λ l. length (good_frames_in l) == 0) (items-nothing x.core.limits.longest)

clear-here : (x : EndState) → is_halted x.core.station.state ≡ true
    → (length x.core.station.inbox == 0) ≡ true → after_clear_line_here x ≡ cleared x
clear-here x h e = λ i. if h i then begun_anew (e i) x else x

pub both-clear : (p : PairState) → clear_refusal p ≡ None
    → after_station_call B ClearsLine (after_station_call A ClearsLine p)
    ≡ after_event event.Clear p
unfolding after_event
both-clear p e =
    let m = may-clear p e in
    let a = clear-here p.a m.halted m.inbox in
    pair_is _ _ _ _ _ _ a (clear-here p.b m.halted' m.inbox')
    ((λ i. if m.halted' i then has_heard_none (a i)
    else (if is_halted p.a.core.station.state then has_heard_none p.b else p.honest))
    ∙ none-heard p.a)
    ∙ sym (ap (λ o. after_clear_by o p) e)

and-false : (b : Bool) → (b && false) ≡ false
and-false true = refl
and-false false = refl

pub leaves-out : (end : End) (p : PairState) → may_start (at end p).core.station ≡ true
    → is_clean (after_station_call end EntersMaintenance p) ≡ false
leaves-out A p e =
    ap (λ b. nat_le (maintained b p.a).starts 1 && nat_le p.b.starts 1) e
leaves-out B p e =
    ap (λ b. nat_le p.a.starts 1 && nat_le (maintained b p.b).starts 1) e
    ∙ and-false (nat_le p.a.starts 1)

-- ---- calls of the code

pub new-station : (config : Config) (v : StationView) → v.core ≡ core_made config
    → v.syn ≡ config.syn → StandsFor v.line [] → IsStationAt (new_end config) v
new-station config v c s l = record { core = sym c; syn = sym s; line = l }

-- the core of a station changes by f, and an end does as well
changed : (f : CoreView → CoreView) (old new : StationView) (x y : EndState)
    → y.core ≡ f x.core → y.syn ≡ x.syn → y.arrived ≡ x.arrived
    → new ≡ record old { core = f old.core } → IsStationAt x old → IsStationAt y new
changed f old new x y c s t e at = record {
  core = c ∙ ap f at.core ∙ sym (ap (λ (v : StationView). v.core) e);
  syn = s ∙ at.syn ∙ sym (ap (λ (v : StationView). v.syn) e);
  line =
      subst (λ (z : StationView × List ℕ). StandsFor z.0.line z.1) (λ i. (sym e i, sym t i))
      at.line;
}

has-cleared : (old new : StationView) (x : EndState) → HasCleared old new → IsStationAt x old
    → IsStationAt (after_clear_line_here x) new
has-cleared old new x done at =
    subst
    (λ b. IsStationAt (if b then begun_anew (length x.core.station.inbox == 0) x else x) new)
    (sym (ap (λ (k : CoreView). is_halted k.station.state) at.core))
    (by (is_halted old.core.station.state) refl)
  where
    by : (b : Bool) → is_halted old.core.station.state ≡ b
        → IsStationAt (if b then begun_anew (length x.core.station.inbox == 0) x else x) new
    by true h = record {
      core = at.core ∙ sym done.core;
      syn = at.syn ∙ sym done.syn;
      line = done.cleared h;
    }
    by false h = subst (IsStationAt x) (sym (done.refused h)) at

-- a core in another state
abbrev in_state : (CoreView → StationState) → CoreView → CoreView
in_state f k = record k { station = f k }

pub station-call : (call : StationCall) (old new : StationView) (x : EndState)
    → HasDone call old new → IsStationAt x old
    → IsStationAt (after_station_call_here call x) new
station-call Starts old new x done at =
    changed (in_state (λ k. if may_start k.station then after_start k.station else k.station))
    old new x (after_station_call_here Starts x) refl refl refl done at
station-call Halts old new x done at =
    changed (in_state (λ k. after_halt k.station)) old new x (after_station_call_here Halts x)
    refl refl refl done at
station-call (Sends message) old new x done at =
    changed
    (in_state (λ k. if may_send k.limits k.station message then after_accept k.station message
    else k.station)) old new x (after_station_call_here (Sends message) x) refl refl refl done at
station-call Polls old new x done at =
    changed after_poll old new x (after_station_call_here Polls x) refl refl refl done at
station-call (Feeds used) old new x done at = record {
  core = ap (after_piece x.arrived used) at.core ∙ sym (done.core x.arrived at.line);
  syn = at.syn ∙ sym done.syn;
  line = done.stands x.arrived at.line;
}
station-call Expires old new x done at =
    changed
    (λ k. record k {
      station = after_expire k.station;
      counters = counters_after_expire k.station k.counters;
    }) old new x (after_station_call_here Expires x) refl refl refl done at
station-call Takes old new x done at =
    changed (in_state (λ k. after_take k.station)) old new x (after_station_call_here Takes x)
    refl refl refl done at
station-call TakesArm old new x done at =
    changed (in_state (λ k. after_take_arm k.station)) old new x
    (after_station_call_here TakesArm x) refl refl refl done at
station-call Asks old new x done at = subst (IsStationAt x) (sym done) at
station-call ClearsLine old new x done at = has-cleared old new x done at
station-call EntersMaintenance old new x done at =
    changed
    (in_state (λ k. if may_start k.station then after_enter_maintenance k.station else k.station))
    old new x (after_station_call_here EntersMaintenance x) refl refl refl done at
station-call (SendsMaintenance message) old new x done at =
    changed
    (in_state (λ k. if may_send_maintenance k.limits k.station message
    then after_accept k.station message else k.station)) old new x
    (after_station_call_here (SendsMaintenance message) x) refl refl refl done at

-- ---- histories

accepts : (b : Bool) (given : List (List ℕ)) (message : List ℕ)
    → cond b (given ++ message ∷ []) given ≡ given ++ cond b (message ∷ []) []
accepts true given message = refl
accepts false given message = sym (append-nil given)

-- what is kept if the line is cleared
kept-list : {X : Type 0} (b c : Bool) (l : List X) → b ≡ c → cond b [] l ≡ cond c [] l ++ []
kept-list b c l e = ap (λ d. cond d [] l) e ∙ sym (append-nil (cond c [] l))

kept-count : (b c : Bool) (n : ℕ) → b ≡ c → cond b 0 n ≡ cond c 0 n + 0
kept-count b c n e = ap (λ d. cond d 0 n) e ∙ plus-none (cond c 0 n)
  where
    plus-none : (m : ℕ) → m ≡ m + 0
    plus-none m = omega arith

cleared-part : {X : Type 0} (f : EndState → X) (nothing : X) (b empty : Bool) (x : EndState)
    → f (begun_anew empty x) ≡ nothing
    → f (if b then begun_anew empty x else x) ≡ cond b nothing (f x)
cleared-part f nothing true empty x e = e
cleared-part f nothing false empty x e = refl

module _ (x : EndState) (v : StationView) (at : IsStationAt x v) where
  same-state : is_halted x.core.station.state ≡ is_halted v.core.station.state
  same-state = ap (λ (k : CoreView). is_halted k.station.state) at.core

  cleared-list : {X : Type 0} (f : EndState → List X)
      → ((empty : Bool) → f (begun_anew empty x) ≡ [])
      → f (after_clear_line_here x) ≡ cond (is_halted v.core.station.state) [] (f x) ++ []
  cleared-list f e =
      cleared-part f [] (is_halted x.core.station.state) (length x.core.station.inbox == 0) x
      (e (length x.core.station.inbox == 0))
      ∙ kept-list _ _ (f x) same-state

  call-used : (call : StationCall)
      → (after_station_call_here call x).arrived ≡ kept_by call v [] x.arrived ++ used_by call
  call-used (Feeds used) = refl
  call-used ClearsLine = cleared-list (λ y. y.arrived) (λ empty. refl)
  call-used Starts = sym (append-nil x.arrived)
  call-used Halts = sym (append-nil x.arrived)
  call-used (Sends message) = sym (append-nil x.arrived)
  call-used Polls = sym (append-nil x.arrived)
  call-used Expires = sym (append-nil x.arrived)
  call-used Takes = sym (append-nil x.arrived)
  call-used TakesArm = sym (append-nil x.arrived)
  call-used Asks = sym (append-nil x.arrived)
  call-used EntersMaintenance = sym (append-nil x.arrived)
  call-used (SendsMaintenance message) = sym (append-nil x.arrived)

  call-given : (call : StationCall)
      → (after_station_call_here call x).given ≡ kept_by call v [] x.given ++ accepted_by call v
  call-given (Sends message) =
      ap (λ (k : CoreView). cond (may_send k.limits k.station message) (x.given ++ message ∷ [])
      x.given) at.core
      ∙ accepts (may_send v.core.limits v.core.station message) x.given message
  call-given ClearsLine = cleared-list (λ y. y.given) (λ empty. refl)
  call-given Starts = sym (append-nil x.given)
  call-given Halts = sym (append-nil x.given)
  call-given Polls = sym (append-nil x.given)
  call-given (Feeds used) = sym (append-nil x.given)
  call-given Expires = sym (append-nil x.given)
  call-given Takes = sym (append-nil x.given)
  call-given TakesArm = sym (append-nil x.given)
  call-given Asks = sym (append-nil x.given)
  call-given EntersMaintenance = sym (append-nil x.given)
  call-given (SendsMaintenance message) = sym (append-nil x.given)

  call-taken : (call : StationCall)
      → (after_station_call_here call x).taken ≡ kept_by call v [] x.taken ++ taken_by call v
  call-taken Takes =
      ap (λ (k : CoreView). x.taken ++ option_to_list (first_message k.station.inbox)) at.core
  call-taken ClearsLine = cleared-list (λ y. y.taken) (λ empty. refl)
  call-taken Starts = sym (append-nil x.taken)
  call-taken Halts = sym (append-nil x.taken)
  call-taken (Sends message) = sym (append-nil x.taken)
  call-taken Polls = sym (append-nil x.taken)
  call-taken (Feeds used) = sym (append-nil x.taken)
  call-taken Expires = sym (append-nil x.taken)
  call-taken TakesArm = sym (append-nil x.taken)
  call-taken Asks = sym (append-nil x.taken)
  call-taken EntersMaintenance = sym (append-nil x.taken)
  call-taken (SendsMaintenance message) = sym (append-nil x.taken)

call-acknowledged : (call : StationCall) (x : EndState) (h : StationHistory) → IsSameStation x h
    → (after_station_call_here call x).acknowledged
    ≡ kept_by call h.station 0 x.acknowledged + acknowledged_after call h
call-acknowledged (Feeds used) x h s =
    λ i. x.acknowledged + acknowledged_in (notices_of_piece (s.used i) used (s.at.core i))
call-acknowledged ClearsLine x h s =
    cleared-part (λ y. y.acknowledged) 0 (is_halted x.core.station.state)
    (length x.core.station.inbox == 0) x refl
    ∙ kept-count _ _ x.acknowledged (same-state x h.station s.at)
call-acknowledged Starts x h s = omega arith
call-acknowledged Halts x h s = omega arith
call-acknowledged (Sends message) x h s = omega arith
call-acknowledged Polls x h s = omega arith
call-acknowledged Expires x h s = omega arith
call-acknowledged Takes x h s = omega arith
call-acknowledged TakesArm x h s = omega arith
call-acknowledged Asks x h s = omega arith
call-acknowledged EntersMaintenance x h s = omega arith
call-acknowledged (SendsMaintenance message) x h s = omega arith

pub station-step : (step : StationStep) (h : StationHistory) (x : EndState)
    → HasDone step.call h.station step.station → IsSameStation x h
    → IsSameStation (after_station_call_here step.call x) (after_station_step step h)
station-step step h x done s =
    let c = step.call in let v = h.station in record {
      at = station-call c v step.station x done s.at;
      used = call-used x v s.at c ∙ ap (λ l. kept_by c v [] l ++ used_by c) s.used;
      accepted =
          call-given x v s.at c ∙ ap (λ l. kept_by c v [] l ++ accepted_by c v) s.accepted;
      taken = call-taken x v s.at c ∙ ap (λ l. kept_by c v [] l ++ taken_by c v) s.taken;
      acknowledged =
          call-acknowledged c x h s
          ∙ ap (λ n. kept_by c v 0 n + acknowledged_after c h) s.acknowledged;
    }

-- ---- both stations

pub both-stations : (steps : List (End × StationStep)) (q : Stations) (p : PairState)
    → AreStationCalls steps q → AreSameStations p q
    → AreSameStations (run_station_calls (calls_of_stations steps) p) (after_station_steps steps q)
unfolding run_station_calls after_station_steps
both-stations [] q p done s = s
both-stations ((A, step) ∷ rest) q p done s =
    both-stations rest (after_step_at A step q) (after_station_call A step.call p) done.1
    (record { a = station-step step q.a p.a done.0 s.a; b = s.b })
both-stations ((B, step) ∷ rest) q p done s =
    both-stations rest (after_step_at B step q) (after_station_call B step.call p) done.1
    (record { a = s.a; b = station-step step q.b p.b done.0 s.b })

begun-same : (config : Config) (v : StationView) → IsStationAt (new_end config) v
    → IsSameStation (new_end config) (begun_station v)
begun-same config v at =
    record { at = at; used = refl; accepted = refl; taken = refl; acknowledged = refl }

station-reaches : (x y : EndState) (h k : StationHistory) → IsSameStation x h → IsSameStation y k
    → Delivers x y → StationReaches h k
station-reaches x y h k s t d =
    let up : y.taken ++ y.core.station.inbox ≡ k.taken ++ k.station.core.station.inbox =
    ap (λ l. l ++ y.core.station.inbox) t.taken
    ∙ ap (λ (c : CoreView). k.taken ++ c.station.inbox) t.at.core in
    record {
      order = (d.order.0, ap (λ l. l ++ d.order.0) (sym up) ∙ d.order.1 ∙ s.accepted);
      acknowledged =
          let e = ap length up in let f = s.acknowledged in let g = d.acknowledged in
          omega (arith, e, f, g);
    }

module _ (first second : Config) (v w : StationView) (steps : List (End × StationStep))
    (f : first_refusal first ≡ None) (g : first_refusal second ≡ None)
    (av : IsStationAt (new_end first) v) (aw : IsStationAt (new_end second) w)
    (done : AreStationCalls steps (record { a = begun_station v; b = begun_station w }))
    (honest : (run_station_calls (calls_of_stations steps) (new_pair first second)).honest ≡ true)
    (clean : is_clean (run_station_calls (calls_of_stations steps) (new_pair first second)) ≡ true)
  where
    abbrev two : Stations
    two = record { a = begun_station v; b = begun_station w }

    both : AreSameStations (run_station_calls (calls_of_stations steps) (new_pair first second))
        (after_station_steps steps two)
    both =
        both-stations steps two (new_pair first second) done
        (record { a = begun-same first v av; b = begun-same second w aw })

    pub stations-to-b : StationReaches (after_station_steps steps two).a
        (after_station_steps steps two).b
    stations-to-b =
        station-reaches _ _ _ _ both.a both.b
        ((station-calls-in-order first second (calls_of_stations steps) f g).where_clean honest
        clean).a_to_b

    pub stations-to-a : StationReaches (after_station_steps steps two).b
        (after_station_steps steps two).a
    stations-to-a =
        station-reaches _ _ _ _ both.b both.a
        ((station-calls-in-order first second (calls_of_stations steps) f g).where_clean honest
        clean).b_to_a
