-- The numbers that are answered and sent are positions.
use Rattle.std.proofs.Common.{◌≡◌, ℕ, ◌+◌, ◌-◌, ◌%◌, ◌<◌, ◌≤◌, Bool, true, false, cond, List, []}
use Rattle.std.proofs.Common.{◌∷◌, ◌++◌, length, refl, sym, ap, ◌∙◌, arith, length-append}
use Rattle.std.proofs.Common.{length-drop, Option, Some, None}
use Rattle.std.specs.Prelude.{◌&&◌, nat_le, slice_index_or, option_map, option_to_list}
use Rattle.std.specs.Prelude.{if◌then◌else◌}
use Rattle.std.proofs.lemmas.List.{get_or-drop, get_or_append_left}
use Rattle.ddcmp_window.specs.declared.sender.SendRefusal.{SendRefusal}
use Rattle.ddcmp_window.specs.declared.sender.SendRefusal.TheVariants.{WrongState}
use Rattle.ddcmp_window.specs.Sender.{accept_refusal, number_accepted, answer_unless}
use Rattle.ddcmp_core.specs.Seq.{Seq}
use Rattle.ddcmp_core.specs.declared.state.State.{State}
use Rattle.ddcmp_core.specs.declared.state.State.TheVariants.{Halted, IStart, AStart, Running}
use Rattle.ddcmp_core.specs.declared.state.State.TheVariants.{Maintenance}
use Rattle.ddcmp_core.specs.declared.station_core.StartRefusal.{StartRefusal}
use Rattle.ddcmp_core.specs.Frames.{frame_of}
use Rattle.ddcmp_core.specs.NextFrame.{SentFor, sends_strt, sends_stack, sends_nak, sends_rep}
use Rattle.ddcmp_core.specs.NextFrame.{sends_data, sends_ack, sends_maint, halted_idles}
use Rattle.ddcmp_core.specs.NextFrame.{starting_idles, running_idles, maintenance_idles}
use Rattle.ddcmp_core.specs.Table.{resp_of}
use Rattle.ddcmp_core.specs.Table.{StationState, Limits, Frame, Data, Acked, Naked, Rep, Strt}
use Rattle.ddcmp_core.specs.Table.{Stack, Maint, Next, outgoing, before_next, message_at_next}
use Rattle.ddcmp_core.specs.Table.{is_running, send_refusal, may_send, answer_to_send, next}
use Rattle.ddcmp_core.specs.Table.{next_frame}
use Rattle.ddcmp_core.proofs.Sent.{sending}
use Rattle.ddcmp_proto.specs.Config.{first_refusal}
use Rattle.ddcmp_proto.specs.declared.config.Config.{Config}
use Rattle.ddcmp_io.specs.declared.carrier.End.{End}
use Rattle.ddcmp_io.specs.declared.carrier.End.TheVariants.{A, B}
use Rattle.ddcmp_pair.specs.declared.event.Event.{Event}
use Rattle.ddcmp_pair.specs.declared.event.Event.TheVariants as event
use Rattle.ddcmp_pair.specs.declared.event.Reply.TheVariants as reply
use Rattle.ddcmp_pair.specs.Pairs.{IsRun}
use Rattle.ddcmp_pair.specs.Link.{message_at}
use Rattle.ddcmp_pair.specs.Place.{WholeFrame}
use Rattle.ddcmp_pair.specs.Run.{EndState, PairState, at, whole_frame, frames_polled, accepted}
use Rattle.ddcmp_pair.specs.Run.{after_event_here, clear_refusal, after_clear_by, end_of}
use Rattle.ddcmp_pair.specs.Run.{after_event_at, after_event, reply_to, run, new_pair, is_clean}
use Rattle.ddcmp_pair.proofs.Relation.{face, Counts}
use Rattle.ddcmp_pair.proofs.Numbers.{before-is}
use Rattle.ddcmp_pair.proofs.Sendings.{awake, is-awake}
use Rattle.ddcmp_pair.proofs.Linked.{Linked, linked-turned, starts-grow}
use Rattle.ddcmp_pair.proofs.Ordered.{run-holds, run-new, run-of, run-event}
use Rattle.ddcmp_laws.specs.Positions.{CarriesPosition, CarryPositions}

-- ---- the number that is answered

running_by : (p : State) (r : Option SendRefusal)
    → (if is_running p then r else Some WrongState) ≡ None → p ≡ Running
running_by Running r e = refl
running_by Halted r e = absurd (cc e)
running_by IStart r e = absurd (cc e)
running_by AStart r e = absurd (cc e)
running_by Maintenance r e = absurd (cc e)

number_of : (l : Limits) (s : StationState) (message : List ℕ) (number : Seq)
    → accepted (answer_to_send l s message) ≡ reply.Accepted number
    → (s.state ≡ Running) × (number.0 ≡ (s.a + (length s.out + 1)) % 256)
number_of l s message number = by (send_refusal l s message) refl
  where
    by : (o : Option SendRefusal) → send_refusal l s message ≡ o
        → accepted (answer_unless o (number_accepted (outgoing s))) ≡ reply.Accepted number
        → (s.state ≡ Running) × (number.0 ≡ (s.a + (length s.out + 1)) % 256)
    by (Some refusal) e q = absurd (cc q)
    by None e q =
        let same : number_accepted (outgoing s) ≡ number = cc q in (
          running_by s.state (accept_refusal l.window l.longest (outgoing s) message) e,
          sym (ap (λ (n : Seq). n.0) same),
        )

answered_here : (x y : EndState) (message : List ℕ) (number : Seq) → Linked x y
    → accepted (answer_to_send x.core.limits x.core.station message) ≡ reply.Accepted number
    → number.0 ≡ (length x.given + 1) % 256
answered_here x y message number l e =
    let r = number_of x.core.limits x.core.station message number e in
    let f = l.related.fits in
    let b = awake (face x) f.sent f.next (is-awake (face x) r.0) f.stands in
    let c = b.counts in
    let out = ap length c.out_is ∙ length-drop x.acknowledged x.given in
    let a = c.a_is in
    let low = c.acked_given in
    let high = c.sent_given in
    let n = r.1 in
    omega (arith, n, out, a, low, high)

linked_at : (first second : Config) (events : List Event) → first_refusal first ≡ None
    → first_refusal second ≡ None
    → (run events (new_pair first second)).honest ≡ true
    → is_clean (run events (new_pair first second)) ≡ true
    → Linked (run events (new_pair first second)).a (run events (new_pair first second)).b
linked_at first second events f g honest clean =
    (run-holds _ (run-of first second events f g)).linked honest clean

pub position_answered : (first second : Config) (events : List Event) (end : End) (message : List ℕ)
    (number : Seq)
    → first_refusal first ≡ None → first_refusal second ≡ None
    → (run events (new_pair first second)).honest ≡ true
    → is_clean (run events (new_pair first second)) ≡ true
    → reply_to (event.Send end message) (run events (new_pair first second)) ≡ reply.Accepted number
    → number.0 ≡ (length (at end (run events (new_pair first second))).given + 1) % 256
unfolding reply_to
position_answered first second events A message number f g honest clean e =
    answered_here _ _ message number (linked_at first second events f g honest clean) e
position_answered first second events B message number f g honest clean e =
    answered_here _ _ message number
    (linked-turned _ _ (linked_at first second events f g honest clean)) e

-- ---- what is sent

carry_more : (given : List (List ℕ)) (fs gs : List WholeFrame) → CarryPositions given fs
    → CarryPositions given gs
    → CarryPositions given (fs ++ gs)
carry_more given [] gs h g = g
carry_more given (f ∷ fs) gs h g = (h.0, carry_more given fs gs h.1 g)

carries_still : (given : List (List ℕ)) (m : List ℕ) (f : Frame) → CarriesPosition given f
    → CarriesPosition (given ++ m ∷ []) f
carries_still given m (Data resp num message) (k, c) =
    let low = c.0 in
    let high = c.1 in
    let more = length-append given (m ∷ []) in
    let same : message_at k (given ++ m ∷ []) ≡ message_at k given =
    get_or_append_left given (m ∷ []) [] (k - 1) (omega (arith, low, high)) in
    (k, (low, omega (arith, high, more), c.2, c.3 ∙ sym same))
carries_still given m (Acked resp) c = tt
carries_still given m (Naked why resp) c = tt
carries_still given m (Rep num) c = tt
carries_still given m Strt c = tt
carries_still given m Stack c = tt
carries_still given m (Maint message) c = tt

carry_still : (given : List (List ℕ)) (m : List ℕ) (fs : List WholeFrame) → CarryPositions given fs
    → CarryPositions (given ++ m ∷ []) fs
carry_still given m [] h = tt
carry_still given m (f ∷ fs) h =
    (carries_still given m (frame_of f.0 f.1) h.0, carry_still given m fs h.1)

next_position : (s : StationState) (w : ℕ) (given : List (List ℕ)) (acked sent next up : ℕ)
    → before_next s < length s.out
    → Counts s w given acked sent next up
    → CarriesPosition given (Data (resp_of s) s.t (message_at_next s))
next_position s w given acked sent next up room c =
    let b = before-is s w given acked sent next up c in
    let out = ap length c.out_is ∙ length-drop acked given in
    let low = c.t_low in
    let place : acked + before_next s ≡ next - 1 = omega (arith, b, low) in
    let same : message_at_next s ≡ message_at next given =
    ap (λ l. slice_index_or l (before_next s) []) c.out_is
    ∙ get_or-drop acked given (before_next s) []
    ∙ ap (λ i. slice_index_or given i []) place in
    (next, (omega (arith, low), omega (arith, room, out, b, low), c.t_is, same))

-- what a turn sends
polled : (x y : EndState) → Linked x y → (t : Next) → SentFor x.core.station t
    → CarryPositions x.given (option_to_list (option_map whole_frame (next_frame t)))
polled x y l _ (sends_strt p d) = (tt, tt)
polled x y l _ (sends_stack p d) = (tt, tt)
polled x y l _ (sends_nak why p r) = (tt, tt)
polled x y l _ (sends_rep p r f) = (tt, tt)
polled x y l _ (sends_data p r f room) =
    let g = l.related.fits in
    let b = awake (face x) g.sent g.next (is-awake (face x) p) g.stands in (
      next_position x.core.station x.core.limits.window x.given x.acknowledged g.sent g.next _ room
          b.counts,
      tt,
    )
polled x y l _ (sends_ack p r f room) = (tt, tt)
polled x y l _ (sends_maint m ms p o) = (tt, tt)
polled x y l _ (halted_idles p) = tt
polled x y l _ (starting_idles p d) = tt
polled x y l _ (running_idles p r f room) = tt
polled x y l _ (maintenance_idles p o) = tt

carried_event : (e : Event) (x y : EndState) → Linked x y → CarryPositions x.given x.sent
    → CarryPositions (after_event_here e x).given (after_event_here e x).sent
carried_event (event.Start e) x y l h = h
carried_event (event.Halt e) x y l h = h
carried_event (event.Send e message) x y l h = by (may_send x.core.limits x.core.station message)
  where
    by : (b : Bool) → CarryPositions (cond b (x.given ++ message ∷ []) x.given) x.sent
    by true = carry_still x.given message x.sent h
    by false = h
carried_event (event.Poll e) x y l h =
    carry_more x.given x.sent (frames_polled x) h
    (polled x y l (next x.core.station) (sending x.core.station))
carried_event (event.Arrive e bytes) x y l h = h
carried_event (event.Expire e) x y l h = h
carried_event (event.Take e) x y l h = h
carried_event event.Clear x y l h = h

-- ---- a run

both : (a b : Bool) → (a && b) ≡ true → (a ≡ true) × (b ≡ true)
both true b e = (refl, e)
both false b e = absurd (cc e)

once_each : (m n : ℕ) → (nat_le m 1 && nat_le n 1) ≡ true → (m ≤ 1) × (n ≤ 1)
once_each m n c = (grind (arith, c), grind (arith, c))

clean_is : (m n : ℕ) → m ≤ 1 → n ≤ 1 → (nat_le m 1 && nat_le n 1) ≡ true
clean_is m n h g = grind (arith)

record Carried (p : PairState) : Type 0 where
  a : CarryPositions p.a.given p.a.sent
  b : CarryPositions p.b.given p.b.sent

abbrev Holds : PairState → Type 0
Holds p = p.honest ≡ true → is_clean p ≡ true → Carried p

holds_clear : (o : Option StartRefusal) (p : PairState) → Holds p → Holds (after_clear_by o p)
holds_clear (Some refusal) p h = h
holds_clear None p h = λ honest clean. record { a = tt; b = tt }

holds_at : (o : Option End) (e : Event) (p : PairState) → IsRun p → Holds p
    → Holds (after_event_at o e p)
holds_at (Some A) e p r h = λ honest clean.
    let f = both _ _ honest in
    let c = once_each _ _ clean in
    let before = clean_is p.a.starts p.b.starts (starts-grow e p.a c.0) c.1 in
    let k = h f.1 before in
    record { a = carried_event e p.a p.b ((run-holds p r).linked f.1 before) k.a; b = k.b }
holds_at (Some B) e p r h = λ honest clean.
    let f = both _ _ honest in
    let c = once_each _ _ clean in
    let before = clean_is p.a.starts p.b.starts c.0 (starts-grow e p.b c.1) in
    let k = h f.1 before in
    record {
      a = k.a;
      b =
          carried_event e p.b p.a (linked-turned p.a p.b ((run-holds p r).linked f.1 before)) k.b;
    }
holds_at None e p r h = holds_clear (clear_refusal p) p h

holds_event : (e : Event) (p : PairState) → IsRun p → Holds p → Holds (after_event e p)
unfolding after_event
holds_event e p r h = holds_at (end_of e) e p r h

holds_run : (events : List Event) (p : PairState) → IsRun p → Holds p → Holds (run events p)
unfolding run
holds_run [] p r h = h
holds_run (e ∷ rest) p r h =
    holds_run rest (after_event e p) (run-event e p (after_event e p) refl r) (holds_event e p r h)

pub positions_sent : (first second : Config) (events : List Event) (end : End)
    → first_refusal first ≡ None
    → first_refusal second ≡ None
    → (run events (new_pair first second)).honest ≡ true
    → is_clean (run events (new_pair first second)) ≡ true
    → CarryPositions (at end (run events (new_pair first second))).given
    (at end (run events (new_pair first second))).sent
positions_sent first second events end f g honest clean =
    at_end end
    (holds_run events (new_pair first second)
    (run-new first second f g (new_pair first second) refl) (λ h c. record { a = tt; b = tt })
    honest clean)
  where
    at_end : (end : End) → Carried (run events (new_pair first second))
        → CarryPositions (at end (run events (new_pair first second))).given
        (at end (run events (new_pair first second))).sent
    at_end A k = k.a
    at_end B k = k.b
