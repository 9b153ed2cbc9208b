-- A call takes two ends that are the same, but that one may know already that its timer was
-- started, to two such ends.
use Rattle.std.proofs.Common.{◌≡◌, ℕ, ◌+◌, Bool, true, false, cond, ◌&&◌, List, [], ◌∷◌, ◌++◌, refl}
use Rattle.std.proofs.Common.{sym, ◌∙◌, ap, Option}
use Rattle.std.specs.Prelude.{option_map, option_to_list}
use Rattle.ddcmp_frame.specs.Reading.{ReadItem}
use Rattle.ddcmp_core.specs.declared.counters.Counters.{Counters}
use Rattle.ddcmp_core.specs.declared.notice.Notice.{Notice}
use Rattle.ddcmp_core.specs.Table.{StationState, Frame, may_start, after_start, may_send}
use Rattle.ddcmp_core.specs.Table.{after_accept, after_take_arm}
use Rattle.ddcmp_core.specs.Core.{CoreView}
use Rattle.ddcmp_proto.specs.Bytes.{received_of, after_item, notices_of_item, after_items}
use Rattle.ddcmp_proto.specs.Bytes.{notices_of_items, items_added}
use Rattle.ddcmp_station.specs.Driving.{core_after_take_arm}
use Rattle.ddcmp_io.specs.declared.carrier.End.{End}
use Rattle.ddcmp_io.specs.declared.carrier.End.TheVariants.{A, B}
use Rattle.ddcmp_pair.specs.Place.{WholeFrame}
use Rattle.ddcmp_pair.specs.Run.{EndState, PairState, with_station, whole_frame, notices_at}
use Rattle.ddcmp_pair.specs.Run.{after_start_here, after_send_here, after_take_here}
use Rattle.ddcmp_pair.specs.Run.{acknowledged_in, restarts_in}
use Rattle.ddcmp_core.specs.Counting.{count_plus}
use Rattle.ddcmp_laws.specs.PairCalls.{Call, Start, Halt, Send, Poll, Arrive, Expire, Take, Arm}
use Rattle.ddcmp_laws.specs.PairCalls.{Ask}
use Rattle.ddcmp_laws.specs.PairCalls.{after_arm_here, after_call_here, is_call_honest, after_call}
use Rattle.ddcmp_laws.specs.PairCalls.{noted}
use Rattle.ddcmp_laws.proofs.Stations.{again, on_armed, notice_armed, counters_armed, next_armed}
use Rattle.ddcmp_laws.proofs.Stations.{frame_armed, sent_counts_armed, accept_armed, take_armed}
use Rattle.ddcmp_laws.proofs.Stations.{expire_armed, expired_counts_armed}

-- ---- a core, item by item

core_is : (k : CoreView) (s t : StationState) (c d : Counters) → s ≡ t → c ≡ d
    → record k { station = s; counters = c } ≡ record k { station = t; counters = d }
core_is k s t c d e f = λ i. record k { station = e i; counters = f i }

item_armed : (given : ReadItem) (k : CoreView)
    → core_after_take_arm (after_item given k)
    ≡ core_after_take_arm (after_item given (core_after_take_arm k))
item_armed given k =
    let h = received_of given in
    core_is k _ _ _ _ (on_armed k.limits k.station h)
    (counters_armed k.limits k.station h k.counters)

item_same : (given : ReadItem) (k m : CoreView) → core_after_take_arm k ≡ core_after_take_arm m
    → core_after_take_arm (after_item given k) ≡ core_after_take_arm (after_item given m)
item_same given k m same =
    item_armed given k ∙ ap (λ u. core_after_take_arm (after_item given u)) same
    ∙ sym (item_armed given m)

told_same : (given : ReadItem) (k m : CoreView) → core_after_take_arm k ≡ core_after_take_arm m
    → notices_of_item given k ≡ notices_of_item given m
told_same given k m same =
    ap option_to_list (notice_armed k.limits k.station (received_of given))
    ∙ ap (λ (u : CoreView). notices_of_item given u) same
    ∙ sym (ap option_to_list (notice_armed m.limits m.station (received_of given)))

items_same : (given : List ReadItem) (k m : CoreView)
    → core_after_take_arm k ≡ core_after_take_arm m
    → (core_after_take_arm (after_items given k) ≡ core_after_take_arm (after_items given m))
    × (notices_of_items given k ≡ notices_of_items given m)
unfolding after_items notices_of_items
items_same [] k m same = (same, refl)
items_same (g ∷ rest) k m same =
    let r = items_same rest (after_item g k) (after_item g m) (item_same g k m same) in (
      r.0,
      ap (λ x. x ++ notices_of_items rest (after_item g k)) (told_same g k m same)
          ∙ ap (λ x. notices_of_item g m ++ x) r.1,
    )

core_again : (k : CoreView) → core_after_take_arm k ≡ core_after_take_arm (core_after_take_arm k)
core_again k = ap (λ (s : StationState). record k { station = s }) (again k.station)

pub notices_armed : (bytes : List ℕ) (x : EndState)
    → notices_at bytes x ≡ notices_at bytes (after_arm_here x)
notices_armed bytes x =
    (items_same (items_added x.core.limits.longest x.arrived bytes) x.core
    (core_after_take_arm x.core) (core_again x.core)).1

-- ---- a call at one end

pub end_again : (x : EndState) → after_arm_here x ≡ after_arm_here (after_arm_here x)
end_again x = ap (λ (s : StationState). with_station s x) (again x.core.station)

-- an end with another station
pub station_is : (x : EndState) (s t : StationState) → s ≡ t → with_station s x ≡ with_station t x
station_is x s t e = ap (λ (u : StationState). with_station u x) e

started : (s : StationState) (b : Bool)
    → after_take_arm (cond b (after_start s) s)
    ≡ after_take_arm (cond b (after_start s) (after_take_arm s))
started s true = refl
started s false = again s

pub accepted : (s : StationState) (message : List ℕ) (b : Bool)
    → after_take_arm (cond b (after_accept s message) s)
    ≡ after_take_arm (cond b (after_accept (after_take_arm s) message) (after_take_arm s))
accepted s message true = accept_armed s message
accepted s message false = again s

abbrev polled : EndState → StationState → Counters → Option Frame → EndState
polled x s c f =
    record x {
      core = record x.core { station = s; counters = c };
      sent = x.sent ++ option_to_list (option_map whole_frame f);
    }

polled_is : (x : EndState) (s t : StationState) (c d : Counters) (f g : Option Frame) → s ≡ t
    → c ≡ d → f ≡ g → polled x s c f ≡ polled x t d g
polled_is x s t c d f g e m n = λ i. polled x (e i) (m i) (n i)

-- an end after an arrival, by its parts
abbrev came : EndState → List ℕ → CoreView → List Notice → EndState
came x bytes k notices = record x {
  core = k;
  arrived = x.arrived ++ bytes;
  acknowledged = x.acknowledged + acknowledged_in notices;
  starts = count_plus x.starts (restarts_in notices);
}

came_is : (x : EndState) (bytes : List ℕ) (k m : CoreView) (a b : List Notice) → k ≡ m → a ≡ b
    → came x bytes k a ≡ came x bytes m b
came_is x bytes k m a b e f = λ i. came x bytes (e i) (f i)

expired_is : (x : EndState) (s t : StationState) (c d : Counters) → s ≡ t → c ≡ d
    → record x { core = record x.core { station = s; counters = c } }
    ≡ record x { core = record x.core { station = t; counters = d } }
expired_is x s t c d e f = λ i. record x { core = record x.core { station = e i; counters = f i } }

call_armed : (c : Call) (x : EndState)
    → after_arm_here (after_call_here c x) ≡ after_arm_here (after_call_here c (after_arm_here x))
call_armed Start x =
    station_is (after_start_here x) _ _ (started x.core.station (may_start x.core.station))
call_armed Halt x = refl
call_armed (Send message) x =
    station_is (after_send_here message x) _ _
    (accepted x.core.station message (may_send x.core.limits x.core.station message))
call_armed Poll x =
    let s = x.core.station in
    polled_is x _ _ _ _ _ _ (next_armed s) (sent_counts_armed s x.core.counters) (frame_armed s)
call_armed (Arrive bytes) x =
    let r =
    items_same (items_added x.core.limits.longest x.arrived bytes) x.core
    (core_after_take_arm x.core) (core_again x.core) in
    came_is x bytes _ _ _ _ r.0 r.1
call_armed Expire x =
    let s = x.core.station in
    expired_is x _ _ _ _ (expire_armed s) (expired_counts_armed s x.core.counters)
call_armed Take x = station_is (after_take_here x) _ _ (take_armed x.core.station)
call_armed Arm x = end_again (after_arm_here x)
call_armed Ask x = end_again x

honest_armed : (c : Call) (x : EndState) (sent : List WholeFrame)
    → is_call_honest c x sent ≡ is_call_honest c (after_arm_here x) sent
honest_armed Start x sent = refl
honest_armed Halt x sent = refl
honest_armed (Send message) x sent = refl
honest_armed Poll x sent = refl
honest_armed (Arrive bytes) x sent = refl
honest_armed Expire x sent = refl
honest_armed Take x sent = refl
honest_armed Arm x sent = refl
honest_armed Ask x sent = refl

-- ---- a call of two ends

abbrev pair : EndState → EndState → Bool → PairState
pair a b h = record { a = a; b = b; honest = h }

pub pair_is : (a b c d : EndState) (h k : Bool) → a ≡ c → b ≡ d → h ≡ k → pair a b h ≡ pair c d k
pair_is a b c d h k e f g = λ i. pair (e i) (f i) (g i)

call_noted : (end : End) (c : Call) (p : PairState)
    → noted (after_call end c p) ≡ noted (after_call end c (noted p))
call_noted A c p =
    pair_is _ _ _ _ _ _ (call_armed c p.a) (end_again p.b)
    (ap (λ b. b && p.honest) (honest_armed c p.a p.b.sent))
call_noted B c p =
    pair_is _ _ _ _ _ _ (end_again p.a) (call_armed c p.b)
    (ap (λ b. b && p.honest) (honest_armed c p.b p.a.sent))

pub call_same : (end : End) (c : Call) (p q : PairState) → noted p ≡ noted q
    → noted (after_call end c p) ≡ noted (after_call end c q)
call_same end c p q same =
    call_noted end c p ∙ ap (λ r. noted (after_call end c r)) same ∙ sym (call_noted end c q)

pub arm_same : (end : End) (p : PairState) → noted (after_call end Arm p) ≡ noted p
arm_same A p = pair_is _ _ _ _ _ _ (sym (end_again p.a)) refl refl
arm_same B p = pair_is _ _ _ _ _ _ refl (sym (end_again p.b)) refl

pub ask_same : (end : End) (p : PairState) → noted (after_call end Ask p) ≡ noted p
ask_same A p = refl
ask_same B p = refl
