-- What calls leave of an inbox: messages are added at its end, and only taken at its front.
use Rattle.std.proofs.Common.{◌≡◌, ◌∙◌, ℕ, zero, suc, Bool, true, false, cond, List, [], ◌∷◌, ◌++◌}
use Rattle.std.proofs.Common.{ap, sym, refl, append_assoc, append-nil}
use Rattle.std.specs.Prelude.{◌==◌, ◌&&◌}
use Rattle.ddcmp_frame.specs.Reading.{ReadItem}
use Rattle.ddcmp_window.specs.Numbers.{is_within}
use Rattle.ddcmp_core.specs.declared.state.State.{State}
use Rattle.ddcmp_core.specs.declared.state.State.TheVariants.{Halted, IStart, AStart, Running}
use Rattle.ddcmp_core.specs.declared.state.State.TheVariants.{Maintenance}
use Rattle.ddcmp_core.specs.Core.{CoreView}
use Rattle.ddcmp_core.specs.Table.{Acked, BadData, BadFormat, BadHeader, Data, Good, Limits, Maint}
use Rattle.ddcmp_core.specs.Table.{Naked, Received, Rep, Stack, StationState, Strt, TooLong}
use Rattle.ddcmp_core.specs.Table.{after_halt, after_restart, after_start, after_startup, has_room}
use Rattle.ddcmp_core.specs.Table.{is_on, may_restart, may_send, after_accept, on, on_by, on_data}
use Rattle.ddcmp_core.specs.Table.{takes_data}
use Rattle.ddcmp_core.specs.Table.{may_start, next}
use Rattle.ddcmp_core.proofs.Sent.{sending}
use Rattle.ddcmp_frame.specs.Reader.{ReaderView}
use Rattle.ddcmp_proto.specs.Bytes.{after_item, after_items, after_piece, items_added, received_of}
use Rattle.ddcmp_station.specs.Driving.{core_after_expire, core_after_take_arm, deadline_at, is_due}
use Rattle.ddcmp_station.specs.Linking.{LinkView, after_frame, after_frames, after_offered}
use Rattle.ddcmp_station.specs.Linking.{after_polled, after_wake, anew, polls, total_plus}
use Rattle.ddcmp_station.specs.Linking.{with_state}
use Rattle.ddcmp_pair.proofs.Steady.{expired-inbox, inbox-sent}
use Rattle.ddcmp_laws.proofs.StationLaws.{nak_by}

-- the second has the messages of the first, and then more
abbrev pub Adds : List (List ℕ) → List (List ℕ) → Type 0
Adds old new = (more : List (List ℕ)) × (new ≡ old ++ more)

pub adds-same : (old new : List (List ℕ)) → new ≡ old → Adds old new
adds-same old new same = ([], same ∙ sym (append-nil old))

pub adds-then : (a b c : List (List ℕ)) → Adds a b → Adds b c → Adds a c
adds-then a b c first second = (
  first.0 ++ second.0,
  second.1 ∙ ap (λ xs. xs ++ second.0) first.1 ∙ append_assoc a first.0 second.0,
)

record Grown (s u : StationState) : Type 0 where
  adds : Adds s.inbox u.inbox

grown : (l : Limits) (s : StationState) (h : Received) → Grown s (on l s h)
unfolding on
grown l s h = by s.state h
  where
    same : (u : StationState) → u.inbox ≡ s.inbox → Grown s u
    same u e = record { adds = adds-same s.inbox u.inbox e }

    more-if : (message : List ℕ) (b : Bool) (u : StationState)
        → u.inbox ≡ cond b (s.inbox ++ message ∷ []) s.inbox → Grown s u
    more-if message true u e = record { adds = (message ∷ [], e) }
    more-if message false u e = same u e

    started : (b : Bool) → Grown s (cond b (after_startup s) s)
    started true = same _ refl
    started false = same _ refl

    started-data : (resp num : ℕ) (message : List ℕ) (b : Bool)
        → Grown s (cond b (on_data l (after_startup s) resp num message) s)
    started-data resp num message true = more-if message (takes_data l s num) _ refl
    started-data resp num message false = same _ refl

    strt : (b : Bool) → Grown s (cond b (after_restart s) (after_halt s))
    strt true = same _ refl
    strt false = same _ refl

    nak : (resp : ℕ) (b : Bool) → Grown s (nak_by s resp b)
    nak resp true = same _ refl
    nak resp false = same _ refl

    in-halted : (h : Received) → Grown s (on_by Halted l s h)
    in-halted (Good (Acked resp)) = same _ refl
    in-halted (Good (Naked why resp)) = same _ refl
    in-halted (Good (Data resp num message)) = same _ refl
    in-halted (Good (Rep num)) = same _ refl
    in-halted (Good Strt) = same _ refl
    in-halted (Good Stack) = same _ refl
    in-halted (Good (Maint message)) = same _ refl
    in-halted BadHeader = same _ refl
    in-halted (BadData b) = same _ refl
    in-halted (TooLong b) = same _ refl
    in-halted BadFormat = same _ refl

    in-istart : (h : Received) → Grown s (on_by IStart l s h)
    in-istart (Good (Acked resp)) = same _ refl
    in-istart (Good (Naked why resp)) = same _ refl
    in-istart (Good (Data resp num message)) = same _ refl
    in-istart (Good (Rep num)) = same _ refl
    in-istart (Good Strt) = same _ refl
    in-istart (Good Stack) = same _ refl
    in-istart (Good (Maint message)) = same _ refl
    in-istart BadHeader = same _ refl
    in-istart (BadData b) = same _ refl
    in-istart (TooLong b) = same _ refl
    in-istart BadFormat = same _ refl

    in-astart : (h : Received) → Grown s (on_by AStart l s h)
    in-astart (Good (Acked resp)) = started (resp == 0)
    in-astart (Good (Naked why resp)) = same _ refl
    in-astart (Good (Data resp num message)) = started-data resp num message (resp == 0)
    in-astart (Good (Rep num)) = same _ refl
    in-astart (Good Strt) = same _ refl
    in-astart (Good Stack) = same _ refl
    in-astart (Good (Maint message)) = same _ refl
    in-astart BadHeader = same _ refl
    in-astart (BadData b) = same _ refl
    in-astart (TooLong b) = same _ refl
    in-astart BadFormat = same _ refl

    in-running : (h : Received) → Grown s (on_by Running l s h)
    in-running (Good (Acked resp)) = same _ refl
    in-running (Good (Naked why resp)) = nak resp (is_within s.a resp s.n)
    in-running (Good (Data resp num message)) = more-if message (takes_data l s num) _ refl
    in-running (Good (Rep num)) = same _ refl
    in-running (Good Strt) = strt (may_restart l s)
    in-running (Good Stack) = same _ refl
    in-running (Good (Maint message)) = same _ refl
    in-running BadHeader = same _ refl
    in-running (BadData b) = same _ refl
    in-running (TooLong b) = same _ refl
    in-running BadFormat = same _ refl

    in-maintenance : (h : Received) → Grown s (on_by Maintenance l s h)
    in-maintenance (Good (Acked resp)) = same _ refl
    in-maintenance (Good (Naked why resp)) = same _ refl
    in-maintenance (Good (Data resp num message)) = same _ refl
    in-maintenance (Good (Rep num)) = same _ refl
    in-maintenance (Good Strt) = same _ refl
    in-maintenance (Good Stack) = same _ refl
    in-maintenance (Good (Maint message)) = more-if message (has_room l s) _ refl
    in-maintenance BadHeader = same _ refl
    in-maintenance (BadData b) = same _ refl
    in-maintenance (TooLong b) = same _ refl
    in-maintenance BadFormat = same _ refl

    by : (p : State) (h : Received) → Grown s (on_by p l s h)
    by Halted h = in-halted h
    by IStart h = in-istart h
    by AStart h = in-astart h
    by Running h = in-running h
    by Maintenance h = in-maintenance h

pub adds-on : (l : Limits) (s : StationState) (h : Received) → Adds s.inbox (on l s h).inbox
adds-on l s h = (grown l s h).adds

adds-items : (given : List ReadItem) (k : CoreView)
    → Adds k.station.inbox (after_items given k).station.inbox
unfolding after_items
adds-items [] k = adds-same k.station.inbox k.station.inbox refl
adds-items (one ∷ rest) k =
    adds-then k.station.inbox (after_item one k).station.inbox
    (after_items rest (after_item one k)).station.inbox
    (adds-on k.limits k.station (received_of one)) (adds-items rest (after_item one k))

pub adds-piece : (text used : List ℕ) (k : CoreView)
    → Adds k.station.inbox (after_piece text used k).station.inbox
adds-piece text used k = adds-items (items_added k.limits.longest text used) k

-- ---- calls of a link

abbrev pub inbox_in : LinkView → List (List ℕ)
inbox_in d = d.station.core.station.inbox

pub offered-inbox : (message : List ℕ) (d : LinkView)
    → inbox_in (after_offered message d) ≡ inbox_in d
offered-inbox message d = by (may_send d.station.core.limits d.station.core.station message)
  where
    by : (b : Bool)
        → inbox_in
        (cond b
        (record (with_state (after_accept d.station.core.station message) d)
        { totals = record d.totals { sent = total_plus d.totals.sent 1 } }) d)
        ≡ inbox_in d
    by true = refl
    by false = refl

pub woken-inbox : (now : ℕ) (d : LinkView) → inbox_in (after_wake now d) ≡ inbox_in d
woken-inbox now d =
    by (is_on k.station.timer
    && is_due now (deadline_at d.milliseconds now d.station.core.station.timer d.deadline))
  where
    k : CoreView
    k = core_after_take_arm d.station.core

    by : (b : Bool)
        → (cond b (core_after_expire (core_after_take_arm d.station.core))
        (core_after_take_arm d.station.core)).station.inbox ≡ inbox_in d
    by true = expired-inbox (core_after_take_arm d.station.core).station
    by false = refl

frame-inbox : (d : LinkView) → inbox_in (after_frame d) ≡ inbox_in d
frame-inbox d = by (polls d)
  where
    by : (b : Bool) → inbox_in (cond b (after_polled d) d) ≡ inbox_in d
    by true =
        inbox-sent d.station.core.station (next d.station.core.station)
        (sending d.station.core.station)
    by false = refl

pub frames-inbox : (n : ℕ) (d : LinkView) → inbox_in (after_frames n d) ≡ inbox_in d
unfolding after_frames
frames-inbox zero d = refl
frames-inbox (suc n) d = frame-inbox (after_frames n d) ∙ frames-inbox n d

started-inbox : (s : StationState) (b : Bool) → (cond b (after_start s) s).inbox ≡ s.inbox
started-inbox s true = refl
started-inbox s false = refl

pub anew-inbox : (line : ReaderView) (d : LinkView) → inbox_in (anew line d) ≡ inbox_in d
anew-inbox line d =
    started-inbox (after_halt d.station.core.station)
    (may_start (after_halt d.station.core.station))
