-- A line without loss stays honest and clean, and no end of it halts.
use Rattle.std.proofs.Common.{◌≡◌, ◌≢◌, inl, inr, ℕ, zero, suc, Bool, true, false, cond, List, []}
use Rattle.std.proofs.Common.{◌∷◌, ◌++◌, length, drop, refl, sym, ap, ◌∙◌, subst, arith}
use Rattle.std.proofs.Common.{append_assoc, append-nil, Option, Some, None}
use Rattle.std.specs.Prelude.{◌==◌, ◌&&◌, not, nat_le, is_some, option_map, option_to_list}
use Rattle.std.specs.List.{All}
use Rattle.std.proofs.lemmas.Bool.{eq-eqb}
use Rattle.ddcmp_frame.specs.Reading.{ReadItem, open_at_end, good_frames, good_frames_in, read}
use Rattle.ddcmp_frame.specs.Reading.{with_more, ending}
use Rattle.ddcmp_frame.proofs.ReadingLaws.{good-more}
use Rattle.ddcmp_core.specs.declared.notice.Notice.{Notice}
use Rattle.ddcmp_core.specs.declared.notice.Notice.TheVariants as notice
use Rattle.ddcmp_core.specs.declared.state.State.{State}
use Rattle.ddcmp_core.specs.declared.state.State.TheVariants.{Halted, IStart, AStart, Running}
use Rattle.ddcmp_core.specs.declared.state.State.TheVariants.{Maintenance}
use Rattle.ddcmp_core.specs.declared.state.Timer.TheVariants.{Off}
use Rattle.ddcmp_core.specs.Laws.{tells_restart}
use Rattle.ddcmp_core.specs.Core.{CoreView}
use Rattle.ddcmp_core.specs.Numbers.{next_number, is_within}
use Rattle.ddcmp_core.specs.Table.{Limits, StationState, Data, Acked, Naked, Strt, Stack, Maint}
use Rattle.ddcmp_core.specs.Table.{Received, Good, Next, Idle, Sends, next, next_frame, on_by, on}
use Rattle.ddcmp_core.specs.Table.{notice_by, notice_of, may_restart, after_restart, after_halt}
use Rattle.ddcmp_core.specs.Table.{after_ack, after_startup, on_data, is_halted, may_send}
use Rattle.ddcmp_core.specs.Table.{after_accept}
use Rattle.ddcmp_core.proofs.StartLaws.{next_state, expired_state}
use Rattle.ddcmp_proto.specs.Bytes.{received_of, after_item, after_items, notices_of_items}
use Rattle.ddcmp_proto.specs.Bytes.{items_added, frame_on_line}
use Rattle.ddcmp_proto.proofs.FeedLaws.{after_piece-limits}
use Rattle.ddcmp_io.specs.declared.carrier.End.TheVariants.{A, B}
use Rattle.ddcmp_pair.specs.declared.event.Event.{Event}
use Rattle.ddcmp_pair.specs.declared.event.Event.TheVariants as event
use Rattle.ddcmp_pair.specs.Pairs.{IsRun}
use Rattle.ddcmp_pair.specs.Place.{WholeFrame, place_of, IsSubsequence}
use Rattle.ddcmp_pair.specs.Recovery.{is_ready_here, is_ready, IsRepaired}
use Rattle.ddcmp_pair.specs.Run.{EndState, line_bytes, whole_frame, frames_polled, notices_at}
use Rattle.ddcmp_pair.specs.Run.{after_arrival_here, after_send_here, after_event, reply_to}
use Rattle.ddcmp_pair.proofs.Linked.{none-anew}
use Rattle.ddcmp_pair.proofs.Ordered.{no-restart, run-event}
use Rattle.ddcmp_pair.proofs.Ready.{run-repaired}
use Rattle.ddcmp_pair.proofs.Steady.{starts-same}
use Rattle.ddcmp_pair.proofs.Subsequences.{place-decides}
use Rattle.ddcmp_pair.proofs.WholeArrivals.{honest-arrival}
use Rattle.ddcmp_laws.specs.LossFree.{Line, bytes_or_none, after_on_line, LosesNothing}
use Rattle.ddcmp_laws.specs.LossFree.{IsLossFree, run_on_line, IsWhole}
use Rattle.ddcmp_laws.specs.Rests.{GoesOn, IsUnderWay}
use Rattle.ddcmp_laws.proofs.Settling.{Fine, Settles, steps, pair_is, begins, whole_again}
use Rattle.ddcmp_laws.proofs.Settling.{drop_front}

abbrev Quietly : List Notice → Type 0
Quietly told = All (λ n. tells_restart n ≡ false) told

-- ---- an end that hears of no restart stays awake

module _ (l : Limits) (s : StationState) where
  awake_by : (p : State) → s.state ≡ p → p ≢ Halted → (e : Received)
      → Quietly (option_to_list (notice_by p l s e)) → (on_by p l s e).state ≢ Halted
  awake_by Halted z w e q = absurd (w refl)
  awake_by IStart z w (Good Strt) q = λ i. absurd (cc i)
  awake_by IStart z w (Good Stack) q = λ i. absurd (cc i)
  awake_by IStart z w e q = λ i. absurd (cc (i, z))
  awake_by AStart z w (Good Stack) q = λ i. absurd (cc i)
  awake_by AStart z w (Good Strt) q = λ i. absurd (cc (i, z))
  awake_by AStart z w (Good (Acked resp)) q = by (resp == 0)
    where
      by : (b : Bool) → (cond b (after_startup s) s).state ≢ Halted
      by true i = absurd (cc i)
      by false i = absurd (cc (i, z))
  awake_by AStart z w (Good (Data resp num message)) q = by (resp == 0)
    where
      by : (b : Bool) → (cond b (on_data l (after_startup s) resp num message) s).state ≢ Halted
      by true i = absurd (cc i)
      by false i = absurd (cc (i, z))
  awake_by AStart z w e q = λ i. absurd (cc (i, z))
  awake_by Running z w (Good Strt) q = by (may_restart l s) (q 0 notice.Running (omega arith))
    where
      by : (b : Bool)
          → tells_restart (cond b (notice.Restarted (length s.out)) notice.PeerRestarted) ≡ false
          → (cond b (after_restart s) (after_halt s)).state ≢ Halted
      by true t = absurd (cc t)
      by false t = absurd (cc t)
  awake_by Running z w (Good (Naked why resp)) q = by (is_within s.a resp s.n)
    where
      by : (b : Bool)
          → (cond b
          (record (after_ack s resp)
          { t = next_number (after_ack s resp).a; rep = false; timer = Off }) s).state ≢ Halted
      by true i = absurd (cc (i, z))
      by false i = absurd (cc (i, z))
  awake_by Running z w e q = λ i. absurd (cc (i, z))
  awake_by Maintenance z w (Good (Maint message)) q = λ i. absurd (cc (i, z))
  awake_by Maintenance z w e q = λ i. absurd (cc (i, z))

  awake_on : s.state ≢ Halted → (e : Received) → Quietly (option_to_list (notice_of l s e))
      → (on l s e).state ≢ Halted
  unfolding on notice_of
  awake_on w e q = awake_by s.state refl w e q

quiet_parts : (o : Option Notice) (told : List Notice) → Quietly (option_to_list o ++ told)
    → Quietly (option_to_list o) × Quietly told
quiet_parts None told q = ((λ i d h. absurd (omega (arith, h))), q)
quiet_parts (Some n) told q = (first, λ i d h. q (suc i) d (omega (arith, h)))
  where
    first : Quietly (n ∷ [])
    first zero d h = q 0 d (omega arith)
    first (suc i) d h = absurd (omega (arith, h))

awake_items : (given : List ReadItem) (k : CoreView) → k.station.state ≢ Halted
    → Quietly (notices_of_items given k) → (after_items given k).station.state ≢ Halted
unfolding after_items notices_of_items
awake_items [] k w q = w
awake_items (g ∷ rest) k w q =
    let p =
    quiet_parts (notice_of k.limits k.station (received_of g))
    (notices_of_items rest (after_item g k)) q in
    awake_items rest (after_item g k) (awake_on k.limits k.station w (received_of g) p.0) p.1

-- ---- what is in flight stays among what was sent

abbrev Placed : ℕ → List ℕ → List WholeFrame → Type 0
Placed max text sent = is_some (place_of (good_frames max text) sent) ≡ true

front_of : (fs gs sent : List WholeFrame) → IsSubsequence (fs ++ gs) sent → IsSubsequence fs sent
front_of [] gs sent s = tt
front_of (f ∷ fs) gs [] s = s
front_of (f ∷ fs) gs (g ∷ sent) (inl s) = inl (s.0, front_of fs gs sent s.1)
front_of (f ∷ fs) gs (g ∷ sent) (inr s) = inr (front_of (f ∷ fs) gs sent s)

placed_front : (max : ℕ) (text rest : List ℕ) (sent : List WholeFrame)
    → Placed max (text ++ rest) sent → Placed max text sent
placed_front max text rest sent h =
    let more = good_frames_in (read max (with_more (ending max text) rest)).items in
    let all =
    subst (λ fs. IsSubsequence fs sent) (good-more max text rest)
    ((place-decides (good_frames max (text ++ rest)) sent).0 h) in
    (place-decides (good_frames max text) sent).1 (front_of (good_frames max text) more sent all)

placed_poll : (w : ℕ) (x y : EndState) (here there : List ℕ)
    → x.core.limits.longest ≡ y.core.limits.longest → Fine w x here → Fine w y there
    → Placed y.core.limits.longest (y.arrived ++ there) x.sent
    → Placed y.core.limits.longest (y.arrived ++ (there ++ bytes_or_none (line_bytes x)))
    (x.sent ++ frames_polled x)
placed_poll w x y here there same f g h = by (next x.core.station) refl
  where
    by : (z : Next) → next x.core.station ≡ z
        → Placed y.core.limits.longest (y.arrived ++ (there ++ bytes_or_none (line_bytes x)))
        (x.sent ++ frames_polled x)
    by Idle e =
        let way : there ++ bytes_or_none (line_bytes x) ≡ there =
        ap (λ z. there ++ bytes_or_none (option_map (frame_on_line x.syn) (next_frame z))) e
        ∙ append-nil there in
        let sent : x.sent ++ frames_polled x ≡ x.sent =
        ap (λ z. x.sent ++ option_to_list (option_map whole_frame (next_frame z))) e
        ∙ append-nil x.sent in
        (λ i. is_some (place_of (good_frames y.core.limits.longest (y.arrived ++ way i)) (sent i)))
        ∙ h
    by (Sends u s) e =
        let bytes = frame_on_line x.syn u in
        let way : y.arrived ++ (there ++ bytes_or_none (line_bytes x))
        ≡ (y.arrived ++ there) ++ bytes =
        ap
        (λ z. y.arrived
        ++ (there ++ bytes_or_none (option_map (frame_on_line x.syn) (next_frame z)))) e
        ∙ sym (append_assoc y.arrived there bytes) in
        let sent : x.sent ++ frames_polled x ≡ x.sent ++ whole_frame u ∷ [] =
        ap (λ z. x.sent ++ option_to_list (option_map whole_frame (next_frame z))) e in
        (λ i. is_some (place_of (good_frames y.core.limits.longest (way i)) (sent i)))
        ∙ honest-arrival x.core.limits x.core.station s u x.syn f.sound e
        (record y { arrived = y.arrived ++ there }) same g.whole.closed x.sent h

-- ---- an arrival

record Heard (x : EndState) (bytes way : List ℕ) (sent : List WholeFrame) : Type 0 where
  awake : (after_arrival_here bytes x).core.station.state ≢ Halted
  starts : (after_arrival_here bytes x).starts ≡ x.starts
  placed : Placed (after_arrival_here bytes x).core.limits.longest
      ((after_arrival_here bytes x).arrived ++ drop (length bytes) way) sent

heard : (x : EndState) (bytes rest way : List ℕ) (sent : List WholeFrame) → bytes ++ rest ≡ way
    → Quietly (notices_at bytes x) → nat_le x.starts 1 ≡ true → x.core.station.state ≢ Halted
    → Placed x.core.limits.longest (x.arrived ++ way) sent → Heard x bytes way sent
heard x bytes rest way sent e q c w h =
    let same = ap (λ (l : Limits). l.longest) (after_piece-limits x.arrived bytes x.core) in
    let left : drop (length bytes) way ≡ rest =
    ap (drop (length bytes)) (sym e) ∙ drop_front bytes rest in
    let text : (x.arrived ++ bytes) ++ drop (length bytes) way ≡ x.arrived ++ way =
    ap (λ z. (x.arrived ++ bytes) ++ z) left ∙ append_assoc x.arrived bytes rest
    ∙ ap (λ z. x.arrived ++ z) e in
    record {
      awake = awake_items (items_added x.core.limits.longest x.arrived bytes) x.core w q;
      starts = starts-same x.starts _ (none-anew (notices_at bytes x) q) c;
      placed = (λ i. is_some (place_of (good_frames (same i) (text i)) sent)) ∙ h;
    }

honest_now : (x : EndState) (bytes rest way : List ℕ) (sent : List WholeFrame) → bytes ++ rest ≡ way
    → Placed x.core.limits.longest (x.arrived ++ way) sent
    → Placed x.core.limits.longest (x.arrived ++ bytes) sent
honest_now x bytes rest way sent e h =
    placed_front x.core.limits.longest (x.arrived ++ bytes) rest sent
    (subst (λ t. Placed x.core.limits.longest t sent)
    (ap (λ z. x.arrived ++ z) (sym e) ∙ sym (append_assoc x.arrived bytes rest)) h)

both : (b d : Bool) → (b && d) ≡ true → (b ≡ true) × (d ≡ true)
both true d e = (refl, e)
both false d e = absurd (cc e)

both_true : (b d : Bool) → b ≡ true → d ≡ true → (b && d) ≡ true
both_true b d e f = λ i. e i && f i

-- a message is given, or refused
sent_state : (x : EndState) (message : List ℕ) → x.core.station.state ≢ Halted
    → (after_send_here message x).core.station.state ≢ Halted
sent_state x message w = by (may_send x.core.limits x.core.station message)
  where
    by : (b : Bool) → (cond b (after_accept x.core.station message) x.core.station).state ≢ Halted
    by true = w
    by false = w

-- ---- an event

under : (w : ℕ) (e : Event) (rest : List Event) (l : Line) → GoesOn (e ∷ rest) → LosesNothing e l
    → IsRun l.pair → Settles w l → IsUnderWay l → IsUnderWay (after_on_line e l)
unfolding after_event reply_to
under w (event.Poll A) rest l g n r s u = record {
  honest = u.honest;
  clean = u.clean;
  awake_a = λ z. u.awake_a (sym (next_state l.pair.a.core.station) ∙ z);
  awake_b = u.awake_b;
  sent_a = u.sent_a;
  sent_b = placed_poll w l.pair.a l.pair.b l.to_a l.to_b s.same s.a s.b u.sent_b;
}
under w (event.Poll B) rest l g n r s u = record {
  honest = u.honest;
  clean = u.clean;
  awake_a = u.awake_a;
  awake_b = λ z. u.awake_b (sym (next_state l.pair.b.core.station) ∙ z);
  sent_a = placed_poll w l.pair.b l.pair.a l.to_b l.to_a (sym s.same) s.b s.a u.sent_a;
  sent_b = u.sent_b;
}
under w (event.Arrive A bytes) rest l g n r s u =
    let c = both (nat_le l.pair.a.starts 1) (nat_le l.pair.b.starts 1) u.clean in
    let honest =
    both_true _ l.pair.honest (honest_now l.pair.a bytes n.0 l.to_a l.pair.b.sent n.1 u.sent_a)
    u.honest in
    let q = no-restart (event.Arrive A bytes) l.pair r u.clean honest in
    let h = heard l.pair.a bytes n.0 l.to_a l.pair.b.sent n.1 q c.0 u.awake_a u.sent_a in
    record {
      honest = honest;
      clean = both_true _ _ (ap (λ k. nat_le k 1) h.starts ∙ c.0) c.1;
      awake_a = h.awake;
      awake_b = u.awake_b;
      sent_a = h.placed;
      sent_b = u.sent_b;
    }
under w (event.Arrive B bytes) rest l g n r s u =
    let c = both (nat_le l.pair.a.starts 1) (nat_le l.pair.b.starts 1) u.clean in
    let honest =
    both_true _ l.pair.honest (honest_now l.pair.b bytes n.0 l.to_b l.pair.a.sent n.1 u.sent_b)
    u.honest in
    let q = no-restart (event.Arrive B bytes) l.pair r u.clean honest in
    let h = heard l.pair.b bytes n.0 l.to_b l.pair.a.sent n.1 q c.1 u.awake_b u.sent_b in
    record {
      honest = honest;
      clean = both_true _ _ c.0 (ap (λ k. nat_le k 1) h.starts ∙ c.1);
      awake_a = u.awake_a;
      awake_b = h.awake;
      sent_a = u.sent_a;
      sent_b = h.placed;
    }
under w (event.Expire A) rest l g n r s u = record {
  honest = u.honest;
  clean = u.clean;
  awake_a = λ z. u.awake_a (sym (expired_state l.pair.a.core.station) ∙ z);
  awake_b = u.awake_b;
  sent_a = u.sent_a;
  sent_b = u.sent_b;
}
under w (event.Expire B) rest l g n r s u = record {
  honest = u.honest;
  clean = u.clean;
  awake_a = u.awake_a;
  awake_b = λ z. u.awake_b (sym (expired_state l.pair.b.core.station) ∙ z);
  sent_a = u.sent_a;
  sent_b = u.sent_b;
}
under w (event.Take A) rest l g n r s u =
    record {
      honest = u.honest;
      clean = u.clean;
      awake_a = u.awake_a;
      awake_b = u.awake_b;
      sent_a = u.sent_a;
      sent_b = u.sent_b;
    }
under w (event.Take B) rest l g n r s u =
    record {
      honest = u.honest;
      clean = u.clean;
      awake_a = u.awake_a;
      awake_b = u.awake_b;
      sent_a = u.sent_a;
      sent_b = u.sent_b;
    }
under w (event.Send A message) rest l g n r s u =
    record {
      honest = u.honest;
      clean = u.clean;
      awake_a = sent_state l.pair.a message u.awake_a;
      awake_b = u.awake_b;
      sent_a = u.sent_a;
      sent_b = u.sent_b;
    }
under w (event.Send B message) rest l g n r s u =
    record {
      honest = u.honest;
      clean = u.clean;
      awake_a = u.awake_a;
      awake_b = sent_state l.pair.b message u.awake_b;
      sent_a = u.sent_a;
      sent_b = u.sent_b;
    }
under w (event.Start e) rest l g n r s u = absurd g
under w (event.Halt e) rest l g n r s u = absurd g
under w event.Clear rest l g n r s u = absurd n

pub goes_on : (e : Event) (rest : List Event) → GoesOn (e ∷ rest) → GoesOn rest
goes_on (event.Poll e) rest g = g
goes_on (event.Arrive e bytes) rest g = g
goes_on (event.Expire e) rest g = g
goes_on (event.Take e) rest g = g
goes_on (event.Send e message) rest g = g
goes_on (event.Start e) rest g = absurd g
goes_on (event.Halt e) rest g = absurd g
goes_on event.Clear rest g = g

pub record Gone (l : Line) : Type 0 where
  pub under_way : IsUnderWay l
  pub is_run : IsRun l.pair

pub all_under : (w : ℕ) (events : List Event) (l : Line) → GoesOn events → IsLossFree events l
    → IsRun l.pair → Settles w l → IsUnderWay l → Gone (run_on_line events l)
unfolding run_on_line
all_under w [] l g n r s u = record { under_way = u; is_run = r }
all_under w (e ∷ rest) l g n r s u =
    all_under w rest (after_on_line e l) (goes_on e rest g) n.1
    (run-event e l.pair (after_on_line e l).pair (pair_is e l) r) (steps w e l n.0 s).kept
    (under w e rest l g n.0 r s u)

-- ---- nothing is in flight

awake_is : (p : State) → p ≢ Halted → not (is_halted p) ≡ true
awake_is Halted w = absurd (w refl)
awake_is IStart w = refl
awake_is AStart w = refl
awake_is Running w = refl
awake_is Maintenance w = refl

ready_here : (w : ℕ) (x : EndState) (way : List ℕ) → Fine w x way → way ≡ []
    → x.core.station.state ≢ Halted → is_ready_here x ≡ true
ready_here w x way f none awake =
    let closed : open_at_end x.core.limits.longest x.arrived ≡ 0 =
    ap (open_at_end x.core.limits.longest)
    (sym (ap (λ z. x.arrived ++ z) none ∙ append-nil x.arrived)) ∙ f.whole.closed in
    both_true _ _ (awake_is x.core.station.state awake) (eq-eqb _ 0 closed)

ready_line : (w : ℕ) (l : Line) → Settles w l → IsUnderWay l → l.to_a ≡ [] → l.to_b ≡ []
    → is_ready l.pair ≡ true
ready_line w l s u a b =
    both_true _ _ (both_true _ _ u.honest u.clean)
    (both_true _ _
    (both_true _ _ (ready_here w l.pair.a l.to_a s.a a u.awake_a)
    (ready_here w l.pair.b l.to_b s.b b u.awake_b)) (eq-eqb _ _ s.same))

pub stays : (events : List Event) (l : Line) → IsRun l.pair → IsWhole l → IsUnderWay l
    → GoesOn events → IsLossFree events l → IsUnderWay (run_on_line events l)
stays events l r h u g n = (all_under _ events l g n r (begins l h) u).under_way

pub ready : (events : List Event) (l : Line) → IsRun l.pair → IsWhole l → IsUnderWay l
    → GoesOn events → IsLossFree events l
    → (run_on_line events l).to_a ≡ [] → (run_on_line events l).to_b ≡ []
    → is_ready (run_on_line events l).pair ≡ true
ready events l r h u g n a b =
    ready_line _ (run_on_line events l) (begins (run_on_line events l) (whole_again events l h n))
    (stays events l r h u g n) a b

pub repaired : (events : List Event) (l : Line) → IsRun l.pair → IsWhole l → IsUnderWay l
    → GoesOn events → IsLossFree events l
    → (run_on_line events l).to_a ≡ [] → (run_on_line events l).to_b ≡ []
    → IsRepaired (run_on_line events l).pair
repaired events l r h u g n a b =
    let z = whole_again events l h n in
    run-repaired (run_on_line events l).pair
    (all_under _ events l g n r (begins l h) u).is_run z.sound_a z.sound_b
    (ready events l r h u g n a b)
